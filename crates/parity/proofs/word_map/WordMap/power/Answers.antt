use Rattle.std.proofs.Common.{rules, ◌≡◌, ℕ, ◌%◌, ◌^◌, ◌<◌, sym, ap, ◌∙◌, subst, mod-eq_of_lt}
use Rattle.std.proofs.lemmas.Nat.{pow_below}
use Rattle.cyclic.specs.Maps.{power, Linear}
use Rattle.cyclic.proofs.Powers.{power_linear}
use Rattle.parity.specs.WordMaps.{Prepares}
use Rattle.parity.proofs.word_map.WordMap.power.Goals as goal

pub returns : goal.returns
returns g c =
    let code = g.C.Code in
    let self = c.args.code.now in
    let n : ℕ = code.bits self in
    let f : ℕ → ℕ = power (code.map self) (c.args.exponent % code.period self) in
    let linear : Linear n f = power_linear n (code.map self) (g.met.C.Code.lawful self).linear (c.args.exponent % code.period self) in
    subst (λ m. Prepares m f c.of.result.images) c.width.ensures
    (c.of.ensures f (subst (λ m. Linear m f) (sym c.width.ensures) linear)
    (λ t y lt called.
    let below : t < n = subst (λ m. t < m) c.width.ensures lt in
    let of_word : y ≡ f (2 ^ t % 2 ^ n) = search rules in
    of_word ∙ ap f (mod-eq_of_lt (pow_below t n below))))
