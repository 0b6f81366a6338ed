-- The asked column, by the steps of its recovery: it was not read (a to b), the data was gathered (b to d) and solved for (d to e).
use Rattle.std.proofs.Common.{◌≡◌, ℕ, ◌+◌, ◌<◌, true, List, Some, None, sym, ◌∙◌, subst, ⊎_elim}
use Rattle.cyclic.specs.Maps.{Lawful}
use Rattle.stripes.specs.declared.columns.Recovery.{Recovery}
use Rattle.stripes.specs.declared.gather.Gathered.{Gathered}
use Rattle.stripes.specs.declared.gather.Lost.{Lost}
use Rattle.stripes.specs.declared.gather.Lost.TheVariants.{None as Nothing, One, Two}
use Rattle.stripes.specs.declared.solve.Pair.{Pair}
use Rattle.stripes.specs.Gathered.{GathersAll, LostFrom, SumsFrom}
use Rattle.stripes.specs.Marks.{marked}
use Rattle.stripes.specs.Recovering.{Continues, Gathers, SolvesOne, SolvesTwo, Rebuilds}
use Rattle.stripes.specs.Recovery.{Completed}
use Rattle.stripes.specs.Solved.{SameData}
use Rattle.stripes.specs.Touches.{Holding, columns_of}
use Rattle.stripes.proofs.Continuing.{continues_trans}
use Rattle.stripes.proofs.Knowing.{holding_known}
use Rattle.stripes.proofs.Rebuilding.{sum_is_p, sum_is_q, completed, asked_data, asked_one, is_data}

module _ {R C : Type 0} {r : _} {c : _} (a b d : Recovery R C r c) (column : ℕ) (found : Gathered)
    (asked : Continues a b) (unread : marked b.missing column ≡ true) (passed : Continues b d) (got : Gathers b d.missing (Some found)) where
  abbrev n : ℕ
  n = c.bits a.code.now

  abbrev N : ℕ
  N = c.period a.code.now

  abbrev g : ℕ → ℕ
  g = c.map a.code.now

  abbrev held : ℕ → List ℕ
  held = columns_of (r.meaning a.rack.now) a.stripe

  gone : marked d.missing column ≡ true
  gone = passed.known.grows column unread

  so_far : Continues a d
  so_far = continues_trans a b d asked passed

  all : GathersAll n g a.columns (r.meaning b.rack.now) a.stripe d.missing found
  all = let at_a = rw (asked.code, asked.stripe, asked.columns) at got in at_a.1

  sums : SumsFrom n g 0 a.columns held d.missing found.sums.p found.sums.q
  sums = all.sums held (holding_known (r.meaning a.rack.now) a.missing (r.meaning b.rack.now) b.missing a.stripe asked.known a.spans.stripe_there)

  held_still : Holding (r.meaning d.rack.now) a.stripe held
  held_still = holding_known (r.meaning a.rack.now) a.missing (r.meaning d.rack.now) d.missing a.stripe so_far.known a.spans.stripe_there

  lost_is : (l : Lost) → found.lost ≡ l → LostFrom 0 a.columns d.missing l
  lost_is l is = subst (LostFrom 0 a.columns d.missing) is all.lost

  pub parity_p : found.lost ≡ Nothing → column ≡ d.columns → Rebuilds a d.missing column (Some found.sums.p)
  parity_p is at = (got.0, sum_is_p n N a.columns g held d.missing found.sums.p found.sums.q sums (lost_is Nothing is) column (at ∙ so_far.columns) gone)

  pub parity_q : found.lost ≡ Nothing → column < a.columns + 2 → (column ≡ d.columns → ⊥) → Rebuilds a d.missing column (Some found.sums.q)
  parity_q is lt at = (got.0, sum_is_q n N a.columns g held d.missing found.sums.p found.sums.q sums (lost_is Nothing is) column lt (λ e. at (e ∙ sym so_far.columns)) gone)

  module _ (e : Recovery R C r c) (solved : Continues d e) where
    pub one_none : (j : ℕ) → found.lost ≡ One j → SolvesOne d e.missing found.sums j None → Rebuilds a e.missing column None
    one_none j is told =
        let at_a = rw (so_far.code, so_far.stripe, so_far.columns) at told in at_a held held_still sums (lost_is (One j) is) (got.0)

    pub two_none : (i j : ℕ) → found.lost ≡ Two i j → SolvesTwo d e.missing found.sums i j None → Rebuilds a e.missing column None
    two_none i j is told =
        let at_a = rw (so_far.code, so_far.stripe, so_far.columns) at told in at_a held held_still sums (lost_is (Two i j) is) (got.0)

    pub one : Lawful n N g → (j : ℕ) → found.lost ≡ One j → (column_j block : List ℕ) → SolvesOne d e.missing found.sums j (Some column_j) → SameData d.columns d.missing e.missing
        → Completed (c.bits e.code.now) (c.period e.code.now) (c.map e.code.now) e.columns column j found.sums.p found.sums.q column_j block
        → column < a.columns + 2 → Rebuilds a e.missing column (Some block)
    one law j is column_j block told same completes lt =
        let at_a = rw (so_far.code, so_far.stripe, so_far.columns) at told in
        let same_a = rw so_far.columns at same in
        let all_along = continues_trans a d e so_far solved in
        let by = rw (all_along.code, all_along.columns) at completes in
        let lost = lost_is (One j) is in
        let solution = at_a held held_still sums lost (got.0) in (
          solution.0,
          completed n N a.columns g held d.missing found.sums.p found.sums.q sums law e.missing same_a j lost column_j solution.1 a.fits.width column block lt (solved.known.grows column gone) by,
        )

    module _ (i j : ℕ) (is : found.lost ≡ Two i j) (pair : Pair) (told : SolvesTwo d e.missing found.sums i j (Some pair)) where
      pub two_low : column ≡ i → Rebuilds a e.missing column (Some pair.low)
      two_low at =
          let at_a = rw (so_far.code, so_far.stripe, so_far.columns) at told in
          let lost = lost_is (Two i j) is in
          let pair_is = at_a held held_still sums lost (got.0) in
          (pair_is.0, is_data n N a.columns g held e.missing i column pair.low (asked_data n N a.columns g held d.missing found.sums.p found.sums.q sums i j lost got.0 column gone) at pair_is.1.1)

      pub two_high : (column ≡ i → ⊥) → Rebuilds a e.missing column (Some pair.high)
      two_high not_low =
          let at_a = rw (so_far.code, so_far.stripe, so_far.columns) at told in
          let lost = lost_is (Two i j) is in
          let pair_is = at_a held held_still sums lost (got.0) in
          let at : column ≡ j = ⊎_elim (λ e. absurd (not_low e)) (λ e. e) (asked_one n N a.columns g held d.missing found.sums.p found.sums.q sums i j lost got.0 column gone) in
          (pair_is.0, is_data n N a.columns g held e.missing j column pair.high (asked_data n N a.columns g held d.missing found.sums.p found.sums.q sums i j lost got.0 column gone) at pair_is.1.2)
