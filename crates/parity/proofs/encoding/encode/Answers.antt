use Rattle.std.proofs.Common.{◌≡◌, ℕ, ◌+◌, ◌-◌, ◌*◌, ◌/◌, List, length, ◌∙◌, subst, arith}
use Rattle.std.specs.Simd.{first_chunks}
use Rattle.std.proofs.lemmas.List.{length_push}
use Rattle.std.proofs.lemmas.Iterator.Adapters.{YieldsList-from_rev_slice}
use Rattle.std.proofs.lemmas.Iterator.Consumers.{YieldsList-turn, YieldsList-end}
use Rattle.codes.specs.Blocks.{word}
use Rattle.parity.specs.Codeword.{Fits}
use Rattle.parity.specs.Encoding.{block_of}
use Rattle.parity.proofs.Absorbing.{Summed, summed_none}
use Rattle.parity.proofs.Encoded.{downwards, next_down, encoded}
use Rattle.parity.proofs.encoding.encode.Goals as goal

pub loop-block-init : goal.loop-block-init
loop-block-init g c =
    let code = g.C.Code in
    let self = c.args.code.now in
    summed_none (code.bits self) (code.map self) (λ j i. word (code.bits self) (block_of j c.args.«data».now) i) (c.args.k - 0) c.zero-sums.result
    c.zero-sums.ensures.p c.zero-sums.ensures.q

pub loop-block-preserved : goal.loop-block-preserved
loop-block-preserved g c =
    let code = g.C.Code in
    let self = c.args.code.now in
    let blocks : List (List ℕ) = first_chunks 512 (length c.args.«data».now / 512) c.args.«data».now in
    let turn = YieldsList-turn (YieldsList-from_rev_slice blocks cc) c.loop-block.yielded _ c.loop-block.yielded_by _ _ c.in-Some.field-0 c.in-Some.is c.next.ensures.steps in
    let size : length c.args.«data».now ≡ c.args.k * 512 = omega arith in
    next_down (code.bits self) (code.map self) (g.met.C.Code.lawful self).linear c.if-not-fits.ensures.width c.args.«data».now c.args.k size
    c.loop-block.sums c.absorb.new.self c.in-Some.field-0.now (length c.loop-block.yielded) _
    (omega (arith, turn.0, downwards c.args.«data».now c.args.k size)) (length_push c.loop-block.yielded _) turn.1 c.loop-block.invariant c.absorb.ensures

pub returns : goal.returns
returns g c =
    let code = g.C.Code in
    let self = c.args.code.now in
    let n : ℕ = code.bits self in
    let bytes : List ℕ = c.args.«data».now in
    let K : ℕ = c.args.k in
    let column : ℕ → ℕ → ℕ = λ j i. word n (block_of j bytes) i in
    let blocks : List (List ℕ) = first_chunks 512 (length bytes / 512) bytes in
    let end = YieldsList-end (YieldsList-from_rev_slice blocks cc) c.loop-block.yielded _ c.loop-block.yielded_by _ _ c.in-None.is c.next.ensures.steps in
    let size : length bytes ≡ K * 512 = omega arith in
    let count : length c.loop-block.yielded ≡ K = end.1 ∙ downwards bytes K size in
    let none : K - K ≡ 0 = omega arith in
    let drives : c.from.result ≡ K = omega arith in
    encoded n (code.period self) (code.map self) K bytes c.args.p.now c.args.q.now
    c.copy_from_slice.new.self c.copy_from_slice-2.new.self c.loop-block.sums (subst (λ k. Fits (k + 2) n (code.period self)) drives c.if-not-fits.ensures)
    record { data_size = size; p_size = c.if-p-ne-BLOCK_SIZE.false; q_size = c.if-q-ne-BLOCK_SIZE.false }
    record { long = c.copy_from_slice.ensures.len ∙ c.if-p-ne-BLOCK_SIZE.false; bytes = λ k. (c.type_inv.p k).fits }
    record { long = c.copy_from_slice-2.ensures.len ∙ c.if-q-ne-BLOCK_SIZE.false; bytes = λ k. (c.type_inv.q k).fits }
    c.copy_from_slice.ensures.after c.copy_from_slice-2.ensures.after
    (subst (λ k. Summed n (code.map self) column k K c.loop-block.sums) none
    (subst (λ m. Summed n (code.map self) column (K - m) m c.loop-block.sums) count c.loop-block.invariant))
