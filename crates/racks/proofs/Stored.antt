-- What a write of a block leaves in a flat memory.
use Rattle.std.proofs.Common.{◌≡◌, ℕ, ◌+◌, ◌-◌, ◌*◌, ◌/◌, ◌%◌, ◌<◌, ◌≤◌, List, ◌++◌, length, take, drop, sym, refl, ap, subst, ◌∙◌, inl, inr, arith}
use Rattle.std.proofs.lemmas.List.{length-drop, length-append, length-take-le, take_at, drop_at, take-append-le, drop-append-le, drop-drop, take-take}
use Rattle.std.proofs.lemmas.Slice.{between_is}
use Rattle.std.proofs.lemmas.Bool.{cases_order}
use Rattle.std.proofs.lemmas.Nat.{div-mul-add, mod-mul-add}
use Rattle.racks.specs.declared.DriveState.{DriveState}
use Rattle.racks.specs.Calls.{Open, Written}
use Rattle.racks.specs.Layout.{drives_of, blocks_of, start, block_at, stored_at, flat}
use Rattle.racks.specs.LayoutSizes.{room, start_within}

-- The block that was written is what was written; one that lies before or behind it is as it was.
module _ (m buf : List ℕ) (at : ℕ) (within : at + 512 ≤ length m) (size : length buf ≡ 512) where
  front : length (take at m) ≡ at
  front = length-take-le at m (omega arith)

  pub length_stored : length (stored_at m at buf) ≡ length m
  length_stored = simp (length-append, length-drop) (omega (arith, front))

  pub block_stored : block_at (stored_at m at buf) at ≡ buf
  block_stored =
      ap (λ t. take 512 t) (drop_at (take at m) (buf ++ drop (at + 512) m) at front) ∙ take_at buf (drop (at + 512) m) 512 size

  pub block_below : (k : ℕ) → k + 512 ≤ at → block_at (stored_at m at buf) k ≡ block_at m k
  block_below k apart =
      let rest = buf ++ drop (at + 512) m in
      let long : 512 ≤ length (drop k (take at m)) = simp length-drop (omega (arith, front)) in
      ap (λ t. take 512 t) (drop-append-le k (take at m) rest (omega (arith, front)))
      ∙ take-append-le 512 (drop k (take at m)) rest long
      ∙ ap (λ t. take 512 t) (sym (between_is m k at))
      ∙ take-take 512 (at - k) (drop k m) (omega arith)

  pub block_above : (k : ℕ) → at + 512 ≤ k → block_at (stored_at m at buf) k ≡ block_at m k
  block_above k apart =
      let rest = buf ++ drop (at + 512) m in
      let far : at + (k - at) ≡ k = omega arith in
      let on : 512 + (k - at - 512) ≡ k - at = omega arith in
      let back : at + 512 + (k - at - 512) ≡ k = omega arith in
      let past : drop k (stored_at m at buf) ≡ drop k m =
      ap (λ n. drop n (stored_at m at buf)) (sym far)
      ∙ sym (drop-drop (k - at) at (stored_at m at buf))
      ∙ ap (λ t. drop (k - at) t) (drop_at (take at m) rest at front)
      ∙ ap (λ n. drop n rest) (sym on)
      ∙ sym (drop-drop (k - at - 512) 512 rest)
      ∙ ap (λ t. drop (k - at - 512) t) (drop_at buf (drop (at + 512) m) 512 size)
      ∙ drop-drop (k - at - 512) (at + 512) m
      ∙ ap (λ n. drop n m) back in
      ap (λ t. take 512 t) past

-- Two blocks of the layout are the same one, or lie apart.
place_one : (B d b k j : ℕ) → b < B → j < B → k * B + j ≡ d * B + b → (k ≡ d) × (j ≡ b)
place_one B d b k j hb hj e = (
  sym (div-mul-add k B j hj) ∙ ap (λ n. n / B) e ∙ div-mul-add d B b hb,
  sym (mod-mul-add k B j hj) ∙ ap (λ n. n % B) e ∙ mod-mul-add d B b hb,
)

pub block_other : (D B : ℕ) (m buf : List ℕ) (d b k j : ℕ) → D * B * 512 ≤ length m → length buf ≡ 512 →
    d < D → b < B → k < D → j < B → (k ≡ d → j ≡ b → ⊥) →
    block_at (stored_at m (start B d b) buf) (start B k j) ≡ block_at m (start B k j)
block_other D B m buf d b k j holds size hd hb hk hj ne =
    let within = start_within D B d b (length m) holds hd hb in
    elim (cases_order (k * B + j) (d * B + b)) [
      | inl e ↦ let one = place_one B d b k j hb hj e in absurd (ne one.0 one.1)
      | inr o ↦ elim o [
        | inl lt ↦ block_below m buf (start B d b) within size (start B k j) (omega arith)
        | inr gt ↦ block_above m buf (start B d b) within size (start B k j) (omega arith)
      ]
    ]

-- A block that is there lies within the bytes.
pub block_within : (D B C d b n : ℕ) → C ≡ blocks_of D B n → d < drives_of D B n → b < blocks_of D B n → start C d b + 512 ≤ n
block_within D B C d b n fit hd hb =
    subst (λ k. start k d b + 512 ≤ n) (sym fit) (start_within (drives_of D B n) (blocks_of D B n) d b n (room D B n).holds hd hb)

-- A write to the memory of a flat rack is the write of a rack.
pub flat_written : (D B C : ℕ) (m m' buf : List ℕ) (s : ℕ → DriveState) (d b : ℕ) → Open (flat D B m s) d b (length buf) →
    blocks_of D B (length m) ≡ C → m' ≡ stored_at m (start C d b) buf → Written (flat D B m s) d b buf (flat D B m' s)
flat_written D B C m m' buf s d b told fit em =
    let E = drives_of D B (length m) in
    let F = blocks_of D B (length m) in
    let F' = blocks_of D B (length m') in
    let ok = told.lawful in
    let holds = (room D B (length m)).holds in
    let within = start_within E F d b (length m) holds ok.drive ok.block in
    let stored : m' ≡ stored_at m (start F d b) buf = em ∙ ap (λ n. stored_at m (start n d b) buf) (sym fit) in
    let long : length m' ≡ length m = ap length stored ∙ length_stored m buf (start F d b) within ok.size in
    let eF : F' ≡ F = ap (blocks_of D B) long in
    let moved : (k j : ℕ) → block_at m' (start F' k j) ≡ block_at (stored_at m (start F d b) buf) (start F k j) =
    λ k j. ap (λ t. block_at t (start F' k j)) stored ∙ ap (λ n. block_at (stored_at m (start F d b) buf) (start n k j)) eF in
    let other = block_other E F m buf d b in
    record {
      lawful = ok;
      live = told.live;
      stays = told.live;
      stored = moved d b ∙ block_stored m buf (start F d b) within ok.size;
      kept = λ j hj ne. moved d j ∙ other d j holds ok.size ok.drive ok.block ok.drive hj (λ _ e. ne e);
      rest = record {
        drives = ap (drives_of D B) long;
        blocks = eF;
        others = λ k hk ne. record {
          state = refl;
          contents = λ _ j hj. moved k j ∙ other k j holds ok.size ok.drive ok.block hk hj (λ e _. ne e);
        };
      };
    }
