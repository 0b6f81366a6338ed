use Rattle.std.proofs.Common.{◌≡◌, ℕ, ◌*◌, ◌%◌, ◌<◌, ◌^◌, List, eqb, map, sym, subst, rules, eqb→eq}
use Rattle.std.specs.List.{range_with_len}
use Rattle.std.proofs.lemmas.List.FromFn.{fill_by_all}
use lib.Count.{ones, ones_in}
use Rattle.cyclic.proofs.Units.{fixes_all, each_below}
use Rattle.generator.specs.Matrix.{image}
use Rattle.generator.proofs.Images.{image_linear}
use Rattle.generator.proofs.matrix.identity.Goals as goal

units : List ℕ
units = map (λ i. 1 * 2 ^ i % 65536) (range_with_len 0 16)

units_stay : (x : ℕ) → x < 2 ^ 16 → image units x ≡ x
unfolding units ones ones_in
units_stay = fixes_all 16 (image units) (image_linear units) (λ i lt. eqb→eq (image units (2 ^ i)) (2 ^ i) (each_below 16 (λ k. eqb (image units (2 ^ k)) (2 ^ k)) tt i lt))

pub returns : goal.returns
unfolding units
returns c =
    let made = c.from_fn.ensures.items in
    let rows : c.from_fn.result ≡ units =
    fill_by_all (λ i. 1 * 2 ^ i % 65536) c.from_fn.result 16 0 made.long (λ i lt. let one = made.at i 0 lt in search rules) in
    subst (λ r. (x : ℕ) → x < 2 ^ 16 → image r x ≡ x) (sym rows) units_stay
