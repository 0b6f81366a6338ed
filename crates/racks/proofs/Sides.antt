-- A rack that is a part of a larger one: what a call does to the part, it does to the whole.
use Rattle.std.proofs.Common.{◌≡◌, ℕ, ◌+◌, ◌-◌, ◌<◌, ◌≤◌, min, Bool, true, false, cond, ltb, ◌⊎◌, List, length, Ok, Err, Result, sym, refl, ap, ◌∙◌, subst, inl, inr, arith}
use Rattle.std.proofs.lemmas.Bool.{cond-true, cond-false, cases_lt, lt-ltb, le-ltb}
use Rattle.refusals.specs.declared.Refusal.{Refusal}
use Rattle.refusals.specs.declared.Refusal.TheVariants.{NoDrive, NotLive, DriveLive}
use Rattle.racks.specs.declared.DriveState.{DriveState}
use Rattle.racks.specs.declared.DriveState.TheVariants.{Live}
use Rattle.racks.specs.Meaning.{Meaning, SameDrive, SameBut, Same}
use Rattle.racks.specs.Calls.{no_drive, no_block, buffer_size, Refused, unlawful, not_live, fails, StateAnswer, Read, ReadAnswer, Written, WriteAnswer, FitRefused, FitAnswer, PullAnswer}
use Rattle.racks.specs.declared.joined.Side.{Side}
use Rattle.racks.specs.declared.joined.Side.TheVariants.{First, Second}
use Rattle.racks.specs.Joined.{joined, SideAnswer, Renumbered, Renumbers}

-- The drives of m are the drives o, o + 1, .. of M, before a call and after it, and the call leaves the others alone.
pub record Part (o : ℕ) (m m' M M' : Meaning) : Type 0 where
  pub drives : M'.drives ≡ M.drives
  pub blocks : M'.blocks ≡ M.blocks
  pub fewer : M.blocks ≤ m.blocks
  pub state : (k : ℕ) → k < m.drives → M.state (o + k) ≡ m.state k
  pub state' : (k : ℕ) → k < m.drives → M'.state (o + k) ≡ m'.state k
  pub block : (k b : ℕ) → k < m.drives → M.block (o + k) b ≡ m.block k b
  pub block' : (k b : ℕ) → k < m.drives → M'.block (o + k) b ≡ m'.block k b
  pub outside : (k : ℕ) → k < M.drives → ((j : ℕ) → j < m.drives → k ≡ o + j → ⊥) → SameDrive M M' k

inside_or_out : (o n x : ℕ) → ((j : ℕ) × (j < n) × (x ≡ o + j)) ⊎ ((j : ℕ) → j < n → x ≡ o + j → ⊥)
inside_or_out o n x = elim (cases_lt x o) [
  | inl lt ↦ inr (λ j h e. omega arith)
  | inr ge ↦ elim (cases_lt x (o + n)) [
    | inl lt ↦ inl (x - o, omega arith, omega arith)
    | inr ge' ↦ inr (λ j h e. omega arith)
  ]
]

-- Where a call leaves the sizes of m as they are, m is a part of M at o.
module _ (o : ℕ) (m m' M M' : Meaning) (part : m'.drives ≡ m.drives → m'.blocks ≡ m.blocks → Part o m m' M M') where
  drive_there : Part o m m' M M' → (k : ℕ) → k < m.drives → SameDrive m m' k → SameDrive M M' (o + k)
  drive_there p k hk s = record {
    state = p.state' k hk ∙ s.state ∙ sym (p.state k hk);
    contents = λ live b hb. p.block' k b hk ∙ s.contents (sym (p.state k hk) ∙ live) b (omega (arith, p.fewer)) ∙ sym (p.block k b hk);
  }

  same_there : Same m m' → Same M M'
  same_there s =
      let p = part s.drives s.blocks in
      record {
        drives = p.drives;
        blocks = p.blocks;
        each = λ x hx. elim (inside_or_out o m.drives x) [
          | inl i ↦ subst (SameDrive M M') (sym i.2) (drive_there p i.0 i.1 (s.each i.0 i.1))
          | inr out ↦ p.outside x hx out
        ];
      }

  but_there : (d : ℕ) → d < m.drives → SameBut d m m' → SameBut (o + d) M M'
  but_there d hd s =
      let p = part s.drives s.blocks in
      record {
        drives = p.drives;
        blocks = p.blocks;
        others = λ x hx ne. elim (inside_or_out o m.drives x) [
          | inl i ↦ subst (SameDrive M M') (sym i.2)
              (drive_there p i.0 i.1 (s.others i.0 i.1 (λ e. ne (i.2 ∙ ap (λ k. o + k) e))))
          | inr out ↦ p.outside x hx out
        ];
      }

  -- Drive d of the part is drive e of the whole.
  module _ (d e : ℕ) (hd : d < m.drives) (at : e ≡ o + d) (he : e < M.drives) where
    state_there : Part o m m' M M' → M.state e ≡ m.state d
    state_there p = ap M.state at ∙ p.state d hd

    state_after : Part o m m' M M' → M'.state e ≡ m'.state d
    state_after p = ap M'.state at ∙ p.state' d hd

    block_there : Part o m m' M M' → (b : ℕ) → M.block e b ≡ m.block d b
    block_there p b = ap (λ x. M.block x b) at ∙ p.block d b hd

    block_after : Part o m m' M M' → (b : ℕ) → M'.block e b ≡ m'.block d b
    block_after p b = ap (λ x. M'.block x b) at ∙ p.block' d b hd

    rest_there : SameBut d m m' → SameBut e M M'
    rest_there s = subst (λ x. SameBut x M M') (sym at) (but_there d hd s)

    not_live_there : Part o m m' M M' → (m.state d ≡ Live → ⊥) → M.state e ≡ Live → ⊥
    not_live_there p dead live = dead (sym (state_there p) ∙ live)

    refused_there : (b n : ℕ) (x y : Refusal) → b < M.blocks → Renumbered d e x y → Refused m d b n x m' → Refused M e b n y M'
    refused_there b n x y hb r (unlawful (no_drive is beyond) s) = let z : ⊥ = omega arith in absurd z
    refused_there b n x y hb r (unlawful (no_block is h beyond) s) =
        let p = part s.drives s.blocks in let z : ⊥ = omega (arith, p.fewer) in absurd z
    refused_there b n x y hb r (unlawful (buffer_size is h h' size) s) =
        unlawful (buffer_size (r.buffer_size is) he hb size) (same_there s)
    refused_there b n x y hb r (not_live is ok dead s) =
        let p = part s.drives s.blocks in
        not_live (r.not_live b is) (record { drive = he; block = hb; size = ok.size }) (not_live_there p dead) (same_there s)
    refused_there b n x y hb r (fails is ok now) =
        let p = part now.rest.drives now.rest.blocks in
        fails (r.not_live b is) (record { drive = he; block = hb; size = ok.size })
        (record {
          live = state_there p ∙ now.live;
          failed = state_after p ∙ now.failed;
          rest = rest_there now.rest;
        })

    read_there : (b : ℕ) (buf buf' : List ℕ) → b < M.blocks → Read m d b buf m' buf' → Read M e b buf M' buf'
    read_there b buf buf' hb a =
        let p = part a.same.drives a.same.blocks in
        record {
          lawful = record { drive = he; block = hb; size = a.lawful.size };
          live = state_there p ∙ a.live;
          fills = a.fills ∙ sym (block_there p b);
          same = same_there a.same;
        }

    written_there : (b : ℕ) (buf : List ℕ) → b < M.blocks → Written m d b buf m' → Written M e b buf M'
    written_there b buf hb a =
        let p = part a.rest.drives a.rest.blocks in
        record {
          lawful = record { drive = he; block = hb; size = a.lawful.size };
          live = state_there p ∙ a.live;
          stays = state_after p ∙ a.stays;
          stored = block_after p b ∙ a.stored;
          kept = λ k hk ne. block_after p k ∙ a.kept k (omega (arith, p.fewer)) ne ∙ sym (block_there p k);
          rest = rest_there a.rest;
        }

    fit_refused_there : (x y : Refusal) → Renumbered d e x y → FitRefused m d x m' → FitRefused M e y M'
    fit_refused_there x y r (FitRefused.no_drive is beyond s) = let z : ⊥ = omega arith in absurd z
    fit_refused_there x y r (FitRefused.drive_live is h live s) =
        let p = part s.drives s.blocks in
        FitRefused.drive_live (r.drive_live is) he (state_there p ∙ live) (same_there s)
    fit_refused_there x y r (FitRefused.fails is h dead failed s) =
        let p = part s.drives s.blocks in
        FitRefused.fails (r.not_live 0 is) he (not_live_there p dead) (state_after p ∙ failed) (rest_there s)

    -- The whole hands on the answer of its part, but that a fault speaks of the drive by its number here.
    pub read_answer : (b : ℕ) (buf buf' : List ℕ) (r s : Result Unit Refusal) → b < M.blocks → Renumbers d e r s → ReadAnswer m d b buf r m' buf' → ReadAnswer M e b buf s M' buf'
    read_answer b buf buf' (Ok _) (Ok _) hb is a = read_there b buf buf' hb a
    read_answer b buf buf' (Err x) (Err y) hb is a = (a.0, refused_there b (length buf) x y hb is a.1)
    read_answer b buf buf' (Ok _) (Err y) hb is a = elim is [ ]
    read_answer b buf buf' (Err x) (Ok _) hb is a = elim is [ ]

    pub write_answer : (b : ℕ) (buf : List ℕ) (r s : Result Unit Refusal) → b < M.blocks → Renumbers d e r s → WriteAnswer m d b buf r m' → WriteAnswer M e b buf s M'
    write_answer b buf (Ok _) (Ok _) hb is a = written_there b buf hb a
    write_answer b buf (Err x) (Err y) hb is a = refused_there b (length buf) x y hb is a
    write_answer b buf (Ok _) (Err y) hb is a = elim is [ ]
    write_answer b buf (Err x) (Ok _) hb is a = elim is [ ]

    pub fit_answer : (r s : Result Unit Refusal) → Renumbers d e r s → FitAnswer m d r m' → FitAnswer M e s M'
    fit_answer (Ok _) (Ok _) is a =
        let p = part a.rest.drives a.rest.blocks in
        record {
          drive = he;
          vacant = not_live_there p a.vacant;
          live = state_after p ∙ a.live;
          rest = rest_there a.rest;
        }
    fit_answer (Err x) (Err y) is a = fit_refused_there x y is a
    fit_answer (Ok _) (Err y) is a = elim is [ ]
    fit_answer (Err x) (Ok _) is a = elim is [ ]

    -- The drive is there, so that its rack does not refuse the pull.
    pub pull_answer : (r s : Result Unit Refusal) → Renumbers d e r s → PullAnswer m d r m' → PullAnswer M e s M'
    pull_answer (Ok _) (Ok _) is a =
        let p = part a.rest.drives a.rest.blocks in
        record {
          drive = he;
          pulled = state_after p ∙ a.pulled;
          rest = rest_there a.rest;
        }
    pull_answer (Err x) (Err y) is a = let z : ⊥ = omega (arith, a.beyond) in absurd z
    pull_answer (Ok _) (Err y) is a = elim is [ ]
    pull_answer (Err x) (Ok _) is a = elim is [ ]

-- A fault of the first rack has the number that its drive has here.
pub same_number : (k d : ℕ) (r : Result Unit Refusal) → d ≡ k → Renumbers k d r r
same_number k d (Ok _) is = refl
same_number k d (Err x) is = record {
  no_drive = λ q. q ∙ ap NoDrive (sym is);
  no_block = λ b q. q;
  buffer_size = λ q. q;
  not_live = λ b q. q ∙ ap (λ j. NotLive j b) (sym is);
  drive_live = λ q. q ∙ ap DriveLive (sym is);
}

-- The two racks of a joined one are parts of it.
module _ (agreed : Bool) (m n : Meaning) where
  low_state : (k : ℕ) → k < m.drives → (joined agreed m n).state k ≡ m.state k
  low_state k h = cond-true (ltb k m.drives) (m.state k) (n.state (k - m.drives)) (lt-ltb k m.drives h)

  low_block : (k b : ℕ) → k < m.drives → (joined agreed m n).block k b ≡ m.block k b
  low_block k b h = ap (λ t. t b) (cond-true (ltb k m.drives) (m.block k) (n.block (k - m.drives)) (lt-ltb k m.drives h))

  high_state : (k : ℕ) → m.drives ≤ k → (joined agreed m n).state k ≡ n.state (k - m.drives)
  high_state k h = cond-false (ltb k m.drives) (m.state k) (n.state (k - m.drives)) (le-ltb k m.drives h)

  high_block : (k b : ℕ) → m.drives ≤ k → (joined agreed m n).block k b ≡ n.block (k - m.drives) b
  high_block k b h = ap (λ t. t b) (cond-false (ltb k m.drives) (m.block k) (n.block (k - m.drives)) (le-ltb k m.drives h))

blocks_first : (agreed : Bool) (m n : Meaning) → (joined agreed m n).blocks ≤ m.blocks
blocks_first true m n = omega arith
blocks_first false m n = omega arith

blocks_second : (agreed : Bool) (m n : Meaning) → (joined agreed m n).blocks ≤ n.blocks
blocks_second true m n = omega arith
blocks_second false m n = omega arith

drives_both : (agreed : Bool) (m n : Meaning) → (joined agreed m n).drives ≤ m.drives + n.drives
drives_both true m n = omega arith
drives_both false m n = omega arith

first_part : (agreed : Bool) (m m' n : Meaning) → m'.drives ≡ m.drives → m'.blocks ≡ m.blocks → Part 0 m m' (joined agreed m n) (joined agreed m' n)
first_part agreed m m' n eD eB =
    let zero_more : (k : ℕ) → 0 + k ≡ k = λ k. omega arith in
    record {
      drives = ap (λ x. cond agreed (min 32 (x + n.drives)) 0) eD;
      blocks = ap (λ x. cond agreed (min x n.blocks) 0) eB;
      fewer = blocks_first agreed m n;
      state = λ k h. ap (joined agreed m n).state (zero_more k) ∙ low_state agreed m n k h;
      state' = λ k h. ap (joined agreed m' n).state (zero_more k) ∙ low_state agreed m' n k (omega arith);
      block = λ k b h. ap (λ x. (joined agreed m n).block x b) (zero_more k) ∙ low_block agreed m n k b h;
      block' = λ k b h. ap (λ x. (joined agreed m' n).block x b) (zero_more k) ∙ low_block agreed m' n k b (omega arith);
      outside = λ k hk out.
          let high : m.drives ≤ k = elim (cases_lt k m.drives) [ inl lt ↦ absurd (out k lt (omega arith)) | inr ge ↦ ge ] in
          let shift : k - m'.drives ≡ k - m.drives = ap (λ x. k - x) eD in
          record {
            state = high_state agreed m' n k (omega arith) ∙ ap n.state shift ∙ sym (high_state agreed m n k high);
            contents = λ _ b _. high_block agreed m' n k b (omega arith) ∙ ap (λ x. n.block x b) shift ∙ sym (high_block agreed m n k b high);
          };
    }

second_part : (agreed : Bool) (m n n' : Meaning) → n'.drives ≡ n.drives → n'.blocks ≡ n.blocks → Part m.drives n n' (joined agreed m n) (joined agreed m n')
second_part agreed m n n' eD eB =
    let back : (k : ℕ) → m.drives + k - m.drives ≡ k = λ k. omega arith in
    record {
      drives = ap (λ x. cond agreed (min 32 (m.drives + x)) 0) eD;
      blocks = ap (λ x. cond agreed (min m.blocks x) 0) eB;
      fewer = blocks_second agreed m n;
      state = λ k h. high_state agreed m n (m.drives + k) (omega arith) ∙ ap n.state (back k);
      state' = λ k h. high_state agreed m n' (m.drives + k) (omega arith) ∙ ap n'.state (back k);
      block = λ k b h. high_block agreed m n (m.drives + k) b (omega arith) ∙ ap (λ x. n.block x b) (back k);
      block' = λ k b h. high_block agreed m n' (m.drives + k) b (omega arith) ∙ ap (λ x. n'.block x b) (back k);
      outside = λ k hk out.
          let low : k < m.drives = elim (cases_lt k m.drives) [
            | inl lt ↦ lt
            | inr ge ↦ absurd (out (k - m.drives) (omega (arith, drives_both agreed m n)) (omega arith))
          ] in
          record {
            state = low_state agreed m n' k low ∙ sym (low_state agreed m n k low);
            contents = λ _ b _. low_block agreed m n' k b low ∙ sym (low_block agreed m n k b low);
          };
    }

-- What a call of one of the two makes of the joined rack, from what `side` has told of the drive.
first_side : (agreed : Bool) (m n : Meaning) (d k : ℕ) (s : Side) → SideAnswer agreed m n d (Ok s) → s ≡ First k → SideAnswer agreed m n d (Ok (First k))
first_side agreed m n d k s told is = subst (λ t. SideAnswer agreed m n d (Ok t)) is told

second_side : (agreed : Bool) (m n : Meaning) (d k : ℕ) (s : Side) → SideAnswer agreed m n d (Ok s) → s ≡ Second k → SideAnswer agreed m n d (Ok (Second k))
second_side agreed m n d k s told is = subst (λ t. SideAnswer agreed m n d (Ok t)) is told

pub state_second : (agreed : Bool) (m n : Meaning) (d k : ℕ) (s : Side) → SideAnswer agreed m n d (Ok s) → s ≡ Second k → (r t : Result DriveState Refusal) →
    StateAnswer n k r → Renumbers k d r t → StateAnswer (joined agreed m n) d t
state_second agreed m n d k s told is (Ok x) (Ok y) a same =
    let h = second_side agreed m n d k s told is in
    let back : d - m.drives ≡ k = omega (arith, h.1) in
    (h.2, same ∙ a.1 ∙ sym (high_state agreed m n d (omega (arith, h.1)) ∙ ap n.state back))
state_second agreed m n d k s told is (Err x) (Err y) a same =
    let h = second_side agreed m n d k s told is in let z : ⊥ = omega (arith, h.0, a.0) in absurd z
state_second agreed m n d k s told is (Ok x) (Err y) a same = elim same [ ]
state_second agreed m n d k s told is (Err x) (Ok y) a same = elim same [ ]

module _ (agreed : Bool) (m m' n : Meaning) (d k : ℕ) (s : Side) (told : SideAnswer agreed m n d (Ok s)) (is : s ≡ First k) where
  pub read_first : (b : ℕ) (buf buf' : List ℕ) (r : Result Unit Refusal) → b < (joined agreed m n).blocks → ReadAnswer m k b buf r m' buf' → ReadAnswer (joined agreed m n) d b buf r (joined agreed m' n) buf'
  read_first b buf buf' r hb =
      let h = first_side agreed m n d k s told is in
      read_answer 0 m m' (joined agreed m n) (joined agreed m' n) (first_part agreed m m' n) k d h.0 (omega (arith, h.1)) h.2 b buf buf' r r hb
      (same_number k d r h.1)

  pub write_first : (b : ℕ) (buf : List ℕ) (r : Result Unit Refusal) → b < (joined agreed m n).blocks → WriteAnswer m k b buf r m' → WriteAnswer (joined agreed m n) d b buf r (joined agreed m' n)
  write_first b buf r hb =
      let h = first_side agreed m n d k s told is in
      write_answer 0 m m' (joined agreed m n) (joined agreed m' n) (first_part agreed m m' n) k d h.0 (omega (arith, h.1)) h.2 b buf r r hb
      (same_number k d r h.1)

  pub fit_first : (r : Result Unit Refusal) → FitAnswer m k r m' → FitAnswer (joined agreed m n) d r (joined agreed m' n)
  fit_first r =
      let h = first_side agreed m n d k s told is in
      fit_answer 0 m m' (joined agreed m n) (joined agreed m' n) (first_part agreed m m' n) k d h.0 (omega (arith, h.1)) h.2 r r
      (same_number k d r h.1)

  pub pull_first : (r : Result Unit Refusal) → PullAnswer m k r m' → PullAnswer (joined agreed m n) d r (joined agreed m' n)
  pull_first r =
      let h = first_side agreed m n d k s told is in
      pull_answer 0 m m' (joined agreed m n) (joined agreed m' n) (first_part agreed m m' n) k d h.0 (omega (arith, h.1)) h.2 r r
      (same_number k d r h.1)

module _ (agreed : Bool) (m n n' : Meaning) (d k : ℕ) (s : Side) (told : SideAnswer agreed m n d (Ok s)) (is : s ≡ Second k) where
  pub read_second : (b : ℕ) (buf buf' : List ℕ) (r t : Result Unit Refusal) → b < (joined agreed m n).blocks → ReadAnswer n k b buf r n' buf' → Renumbers k d r t → ReadAnswer (joined agreed m n) d b buf t (joined agreed m n') buf'
  read_second b buf buf' r t hb a same =
      let h = second_side agreed m n d k s told is in
      read_answer m.drives n n' (joined agreed m n) (joined agreed m n') (second_part agreed m n n') k d h.0 h.1 h.2 b buf buf' r t hb same a

  pub write_second : (b : ℕ) (buf : List ℕ) (r t : Result Unit Refusal) → b < (joined agreed m n).blocks → WriteAnswer n k b buf r n' → Renumbers k d r t → WriteAnswer (joined agreed m n) d b buf t (joined agreed m n')
  write_second b buf r t hb a same =
      let h = second_side agreed m n d k s told is in
      write_answer m.drives n n' (joined agreed m n) (joined agreed m n') (second_part agreed m n n') k d h.0 h.1 h.2 b buf r t hb same a

  pub fit_second : (r t : Result Unit Refusal) → FitAnswer n k r n' → Renumbers k d r t → FitAnswer (joined agreed m n) d t (joined agreed m n')
  fit_second r t a same =
      let h = second_side agreed m n d k s told is in
      fit_answer m.drives n n' (joined agreed m n) (joined agreed m n') (second_part agreed m n n') k d h.0 h.1 h.2 r t same a

  pub pull_second : (r t : Result Unit Refusal) → PullAnswer n k r n' → Renumbers k d r t → PullAnswer (joined agreed m n) d t (joined agreed m n')
  pull_second r t a same =
      let h = second_side agreed m n d k s told is in
      pull_answer m.drives n n' (joined agreed m n) (joined agreed m n') (second_part agreed m n n') k d h.0 h.1 h.2 r t same a
