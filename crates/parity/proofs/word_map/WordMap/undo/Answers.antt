use Rattle.std.proofs.Common.{rules, ℕ, ◌^◌, ◌<◌, sym, subst}
use Rattle.std.proofs.lemmas.Nat.{pow_below}
use Rattle.cyclic.specs.Maps.{Linear}
use Rattle.cyclic.specs.Theorems.{undo}
use Rattle.parity.specs.WordMaps.{Prepares}
use Rattle.parity.proofs.Evens.{undo_linear}
use Rattle.parity.proofs.word_map.WordMap.undo.Goals as goal

pub of-requires : goal.of-requires
of-requires g c t lt =
    let n : ℕ = g.C.Code.bits c.args.code.now in
    let below : t < n = subst (λ m. t < m) c.width.ensures lt in
    let word : 2 ^ t < 2 ^ n = pow_below t n below in
    search rules

pub returns : goal.returns
returns g c =
    let code = g.C.Code in
    let self = c.args.code.now in
    let n : ℕ = code.bits self in
    let f : ℕ → ℕ = undo (code.period self) (code.map self) c.args.z in
    let linear : Linear n f = undo_linear n (code.period self) (code.map self) (g.met.C.Code.lawful self).linear c.args.z in
    subst (λ m. Prepares m f c.of.result.images) c.width.ensures
    (c.of.ensures f (subst (λ m. Linear m f) (sym c.width.ensures) linear) (λ t y lt called. search rules))
