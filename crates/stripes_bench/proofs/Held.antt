-- The rack that stands for the columns, and what is answered.
use Rattle.std.proofs.Common.{◌≡◌, ℕ, ◌+◌, ◌*◌, ◌%◌, ◌^◌, Bool, cond, eqb, List, length, Ok, Err, Result, is_ok, MatchBool, ap, ◌∙◌, arith}
use native.Mathlib.Nat.{zero-div}
use Rattle.refusals.specs.declared.Refusal.{Refusal}
use Rattle.racks.specs.declared.DriveState.TheVariants.{Live, Pulled}
use Rattle.racks.specs.Image.{marked}
use Rattle.racks.specs.Meaning.{Meaning}
use Rattle.racks.specs.Layout.{flat, drives_of, blocks_of, start, block_at}
use Rattle.stripes.specs.Recovery.{RecoverAnswer, Accepted}
use Rattle.stripes_bench.specs.Columns.{Held}

pub held : (D B : ℕ) (bytes columns : List ℕ) (pulled : ℕ) → drives_of D B (length bytes) ≡ drives_of 12 1 (length columns)
    → blocks_of D B (length bytes) ≡ blocks_of 12 1 (length columns) → bytes ≡ columns → pulled ≡ 0 → length columns ≡ 6144
    → Held columns (flat D B bytes (marked pulled))
held D B bytes columns pulled drives blocks same none long =
    let one : blocks_of D B (length bytes) ≡ 1 = blocks ∙ ap (blocks_of 12 1) long in
    record {
      drives = drives ∙ ap (drives_of 12 1) long;
      blocks = one;
      live = λ k. ap (λ p. marked p k) none ∙ ap (λ v. cond (eqb (v % 2) 1) Pulled Live) (zero-div (2 ^ k));
      column = λ k.
          let first : (k * 1 + 0) * 512 ≡ k * 512 = omega arith in
          ap (λ b. block_at bytes (start b k 0)) one ∙ ap (λ m. block_at m ((k * 1 + 0) * 512)) same ∙ ap (block_at columns) first;
    }

pub answered : (n N : ℕ) (g : ℕ → ℕ) (m : Meaning) (column missing : ℕ) (before : List ℕ) (r : Result (Unit {0}) Refusal) (missing' : ℕ) (m' : Meaning) (after : List ℕ)
    (done : Bool) → done ≡ is_ok r → RecoverAnswer n N g m 0 column missing before r missing' m' after
    → MatchBool done ((x : ℕ) × (y : Meaning) × Accepted n N g m 0 column missing before x y after) (after ≡ before)
answered n N g m column missing before (Ok _) missing' m' after done is answer = rw is (missing', m', answer)
answered n N g m column missing before (Err e) missing' m' after done is answer = rw is (answer.1)
