use Rattle.std.proofs.Common.{◌≡◌, ◌+◌, ◌*◌, ◌≢◌, get_or, set, sym, ◌∙◌, subst, arith, length-set, get_or-set_other, get_or-set_same, below_more}
use Rattle.codes.specs.Blocks.{word}
use Rattle.codes.proofs.Passes.{WordsDone, word_read, words_more}
use Rattle.codes.proofs.wordwise.map_words.Goals as goal

pub loop-i-preserved : goal.loop-i-preserved
loop-i-preserved g c =
    let i = c.loop-i.i in
    let words = c.loop-i.word-items in
    let w = c.from_le_bytes.result in (
      length-set words i w ∙ c.loop-i.invariant.0,
      below_more (λ k. get_or (set words i w) k 0 ≡ word 16 c.args.block.now k) i
          (λ k lt. let ne : k ≢ i = λ e. omega arith in get_or-set_other words i k w 0 ne ∙ c.loop-i.invariant.1 k lt)
          (get_or-set_same words i w 0 (omega (arith, c.loop-i.invariant.0, c.loop-i-test.true))
          ∙ c.from_le_bytes.ensures
          ∙ word_read i c.args.block.now c.fits-block),
    )

pub loop-i-2-preserved : goal.loop-i-2-preserved
loop-i-2-preserved g c =
    let i = c.loop-i-2.i in
    let before = c.args.block.now in
    let block = c.loop-i-2.block in
    let post = goal.F-post g c.args.image in
    subst (λ bytes. WordsDone post before (set (set block (2 * i) (get_or bytes 0 0)) (2 * i + 1) (get_or bytes 1 0)) (i + 1))
    (sym c.to_le_bytes.ensures)
    (words_more post before block i (omega (arith, c.told-block, c.loop-i-2-test.true)) c.loop-i-2.invariant c.image.result c.image.type_inv
    (subst (λ w. post w c.image.result) (c.loop-i.invariant.1 i (omega (arith, c.loop-i-2-test.true, c.loop-i-test.false))) c.image.ensures))
