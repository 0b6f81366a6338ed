use Rattle.std.proofs.Common.{◌≡◌, ℕ, ◌^◌, ◌<◌, get_or, sym, refl, subst, arith, rules}
use Rattle.std.proofs.lemmas.Bool.{false≢true}
use Rattle.cyclic.specs.Maps.{Returns, DivisorTest}
use Rattle.generator.specs.Matrix.{image, FailsAt}
use Rattle.generator.specs.Judge.{not_cyclic, fixed_word}
use Rattle.generator.proofs.Verdicts.{of_rows, of_square, none_fails}
use Rattle.generator.proofs.judge.examine.Goals as goal

pub returns-then-not-returns_after : goal.returns-then-not-returns_after
returns-then-not-returns_after c =
    let N : ℕ = c.args.order in
    let s = rw c.in_ok-matrix.ensures.ok_part at c.from_rows.ensures in
    not_cyclic refl (search rules) (search rules) s.0
    (λ back. false≢true (c.if-not-returns_after.ensures.1 (of_square (λ n g. Returns n N g) _ _ c.args.rows.now _ s.1 s.2 back)))

pub returns-in-Some : goal.returns-in-Some
returns-in-Some c =
    let N : ℕ = c.args.order in
    let s = rw c.in_ok-matrix.ensures.ok_part at c.from_rows.ensures in
    let found = c.in-Some.ensures in
    let m : ℕ = c.in-Some.divisor in
    fixed_word m refl (search rules) (search rules) s.0
    (of_rows (λ n g. Returns n N g) _ _ c.args.rows.now _ s.1 s.2 (c.if-not-returns_after.ensures.0 refl))
    (of_rows (λ n g. FailsAt n N g m) _ _ c.args.rows.now _ s.1 s.2 found.0)
    (of_rows (λ n g. (k : ℕ) → k < m → FailsAt n N g k → ⊥) _ _ c.args.rows.now _ s.1 s.2 found.1)

pub invariant_of-result : goal.invariant_of-result
invariant_of-result c =
    let square = c.in_ok-matrix.matrix in
    let wide : square.width ≡ c.args.width = (rw c.in_ok-matrix.ensures.ok_part at c.from_rows.ensures).1 in
    let returns = c.if-not-returns_after.ensures.0 refl in
    let divisors = none_fails square.width c.args.order (image square.rows) c.in_default.ensures in
    record {
      sizes = search rules;
      height = λ k le. square.height k (omega (arith, wide, le));
      breadth = subst (λ n. (k : ℕ) → get_or square.rows k 0 < 2 ^ n) wide square.breadth;
      returns = subst (λ n. Returns n c.args.order (image square.rows)) wide returns;
      divisors = λ m x h. divisors m x (h.0, h.1, h.2, subst (λ n. x < 2 ^ n) (sym wide) h.3, h.4);
    }

pub returns : goal.returns
returns c =
    let N : ℕ = c.args.order in
    let s = rw c.in_ok-matrix.ensures.ok_part at c.from_rows.ensures in
    let divisors = none_fails c.in_ok-matrix.matrix.width N (image c.in_ok-matrix.matrix.rows) c.in_default.ensures in
    let test : DivisorTest c.in_ok-matrix.matrix.width N (image c.in_ok-matrix.matrix.rows) =
    record { returns = c.if-not-returns_after.ensures.0 refl; divisors = λ m pos lt divides x w fixed. divisors m x (pos, lt, divides, w, fixed) } in (
      record { width = search rules; order = search rules; shape = s.0; test = of_rows (λ n g. DivisorTest n N g) _ _ c.args.rows.now _ s.1 s.2 test },
      record { width = refl; order = refl; rows_same = s.2 },
    )
