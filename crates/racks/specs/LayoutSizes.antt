-- A memory that is taken for so many drives of so many blocks holds every block whole.
use Rattle.std.specs.Prelude.{◌≡◌, ℕ, ◌+◌, ◌*◌, ◌<◌, ◌≤◌, Bool, cond, ◌&&◌, List, length, ◌==◌, nat_le}
use Rattle.std.proofs.Common.{inl, inr, arith, length-take, length-drop}
use Rattle.std.proofs.lemmas.Nat.{mul-add-lt}
use Rattle.std.proofs.lemmas.Bool.{and_parts, leb-true, eqb-true, cases_Bool}
use Rattle.racks.specs.declared.DriveState.{DriveState}
use Rattle.racks.specs.Meaning.{Sized}
use Rattle.racks.specs.Layout.{fits, drives_of, blocks_of, start, block_at, flat}

-- what the sizes of a layout keep to
pub record Room (D B bytes : ℕ) : Type 0 where
  pub drives : D ≤ 32
  pub blocks : B ≤ 65536
  pub holds : D * B * 512 ≤ bytes

room_none : (bytes : ℕ) → Room 0 0 bytes
room_none bytes = record { drives = omega arith; blocks = omega arith; holds = omega arith }

pub room : (D B bytes : ℕ) → Room (drives_of D B bytes) (blocks_of D B bytes) bytes
room D B bytes =
    let P : Bool → Type 0 = λ t. Room (cond t D 0) (cond t B 0) bytes in
    elim (cases_Bool (fits D B bytes)) [
      | inl yes_fits ↦
          let outer = and_parts (nat_le D 32) (nat_le B 65536 && bytes == D * B * 512) yes_fits in
          let inner = and_parts (nat_le B 65536) (bytes == D * B * 512) outer.1 in
          let all : Room D B bytes = record {
            drives = leb-true D 32 outer.0;
            blocks = leb-true B 65536 inner.0;
            holds = omega (arith, eqb-true bytes (D * B * 512) inner.1);
          } in
          rw yes_fits all
      | inr no_fit ↦ rw no_fit (room_none bytes)
    ]

pub start_within : (D B d b n : ℕ) → D * B * 512 ≤ n → d < D → b < B → start B d b + 512 ≤ n
start_within D B d b n holds hd hb = omega (arith, mul-add-lt d B b D hd hb)

pub length_block_at : (memory : List ℕ) (at : ℕ) → at + 512 ≤ length memory → length (block_at memory at) ≡ 512
length_block_at memory at h = simp (length-take, length-drop) (omega arith)

pub flat_sized : (D B : ℕ) (memory : List ℕ) (states : ℕ → DriveState) → Sized (flat D B memory states)
flat_sized D B memory states =
    let n = length memory in
    let r = room D B n in
    record {
      drives = r.drives;
      blocks = r.blocks;
      bytes = λ d b hd hb. length_block_at memory (start (blocks_of D B n) d b) (start_within (drives_of D B n) (blocks_of D B n) d b n r.holds hd hb);
    }
