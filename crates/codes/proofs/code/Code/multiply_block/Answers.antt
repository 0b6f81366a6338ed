use Rattle.std.proofs.Common.{rules, ◌≡◌, ℕ, ◌%◌, ◌^◌, ◌<◌, sym, ap, ◌∙◌, mod-eq_of_lt}
use Rattle.cyclic.specs.Maps.{power}
use Rattle.codes.specs.Blocks.{word}
use Rattle.codes.proofs.Passes.{bytes_all, words_all}
use Rattle.codes.proofs.Words.{word_below}
use Rattle.codes.proofs.code.Code.multiply_block.Goals as goal

pub returns-then-width-eq16 : goal.returns-then-width-eq16
returns-then-width-eq16 g c =
    let code = g.Self.Code in
    let self = c.args.self.now in
    words_all (code.bits self) (code.map self) c.args.block.now c.map_words.new.block (sym c.width.ensures ∙ c.if-width-eq16.true)
    (λ i lt.
    let before : ℕ = word 16 c.args.block.now i in
    let image : word 16 c.map_words.new.block i ≡ power (code.map self) (1 % code.period self) (before % 2 ^ code.bits self) = search (rules, c.map_words.ensures.words i lt) in
    once (code.bits self) (code.period self) (code.map self) (g.met.Self.Code.turns self).0 (sym c.width.ensures ∙ c.if-width-eq16.true)
    _ before (word_below 16 c.args.block.now i) image)
  where
    once : (n N : ℕ) (h : ℕ → ℕ) → 1 < N → n ≡ 16 → (w word : ℕ) → word < 2 ^ 16 → w ≡ power h (1 % N) (word % 2 ^ n) → w ≡ h word
    once n N h more wide w word small is =
        is ∙ ap (λ k. power h k (word % 2 ^ n)) (mod-eq_of_lt more) ∙ ap (λ m. h (word % 2 ^ m)) wide ∙ ap h (mod-eq_of_lt small)

pub returns-else-width-eq16 : goal.returns-else-width-eq16
returns-else-width-eq16 g c =
    let code = g.Self.Code in
    let self = c.args.self.now in
    bytes_all (code.bits self) (code.map self) c.args.block.now c.map_bytes.new.block c.told-block c.map_bytes.array_long
    (λ is_16. c.if-width-eq16.false (c.width.ensures ∙ is_16))
    (λ k lt. search (rules, c.map_bytes.ensures.images k lt))
