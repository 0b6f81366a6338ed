-- What is known of a rack after reads: nothing at first, and one read after another.
use Rattle.std.proofs.Common.{◌≡◌, ℕ, ◌<◌, true, List, sym, refl, ap, ◌∙◌, subst, inl, inr, ⊎_elim, arith}
use Rattle.std.proofs.lemmas.Bool.{cases_eq, cases_Bool, false≢true}
use Rattle.racks.specs.declared.DriveState.{DriveState}
use Rattle.racks.specs.declared.DriveState.TheVariants.{Live, Failed}
use Rattle.racks.specs.Meaning.{Meaning, SameDrive, Same}
use Rattle.refusals.specs.declared.Refusal.{Refusal}
use Rattle.racks.specs.Calls.{Unlawful, no_drive, no_block, buffer_size, Fails, Refused, unlawful, not_live, fails}
use Rattle.stripes.specs.Marks.{marked}
use Rattle.stripes.specs.Touches.{Known, Holding, columns_of}

failed_live : (s : DriveState) → s ≡ Failed → s ≡ Live → ⊥
failed_live s f l = let z : ◌≡◌ {A = ℕ} 0 1 = cc in omega arith

same_refl : (m : Meaning) (k : ℕ) → SameDrive m m k
same_refl m k = record { state = refl; contents = λ l b lt. refl }

pub known_none : (m : Meaning) (missing : ℕ) → Known m missing m missing
known_none m missing =
    record {
      drives = refl;
      blocks = refl;
      each = λ k lt. inl (same_refl m k);
      grows = λ k e. e;
      joined = λ k f t. absurd (false≢true (sym f ∙ t));
    }

same_drive_trans : (m n o : Meaning) (k : ℕ) → n.blocks ≡ m.blocks → SameDrive m n k → SameDrive n o k → SameDrive m o k
same_drive_trans m n o k e p q =
    record {
      state = q.state ∙ p.state;
      contents = λ live b lt. q.contents (p.state ∙ live) b (subst (λ v. b < v) (sym e) lt) ∙ p.contents live b lt;
    }

pub known_trans : (m : Meaning) (s : ℕ) (m' : Meaning) (s' : ℕ) (m'' : Meaning) (s'' : ℕ) → Known m s m' s' → Known m' s' m'' s'' → Known m s m'' s''
known_trans m s m' s' m'' s'' p q =
    record {
      drives = q.drives ∙ p.drives;
      blocks = q.blocks ∙ p.blocks;
      each = λ k lt.
          let lt' : k < m'.drives = subst (λ v. k < v) (sym p.drives) lt in
          ⊎_elim
          (λ a. ⊎_elim (λ b. inl (same_drive_trans m m' m'' k p.blocks a b))
          (λ b. inr (record { live = sym a.state ∙ b.live; failed = b.failed; joins = b.joins })) (q.each k lt'))
          (λ a. ⊎_elim (λ b. inr (record { live = a.live; failed = b.state ∙ a.failed; joins = q.grows k a.joins }))
          (λ b. absurd (failed_live (m'.state k) a.failed b.live)) (q.each k lt'))
          (p.each k lt);
      grows = λ k e. q.grows k (p.grows k e);
      joined = λ k f t.
          ⊎_elim
          (λ before.
          let there = p.joined k f before in
          let lt' : k < m'.drives = subst (λ v. k < v) (sym p.drives) there.0 in
          (there.0, λ live. ⊎_elim (λ b. there.1 (sym b.state ∙ live)) (λ b. there.1 b.live) (q.each k lt')))
          (λ not_yet. let there = q.joined k not_yet t in (subst (λ v. k < v) p.drives there.0, there.1))
          (cases_Bool (marked s' k));
    }

-- a drive that is live after reads has held its blocks all along
pub still_live : (m : Meaning) (s : ℕ) (m' : Meaning) (s' : ℕ) → Known m s m' s' → (k b : ℕ) → k < m.drives → b < m.blocks → m'.state k ≡ Live → m'.block k b ≡ m.block k b
still_live m s m' s' p k b lt lb live =
    ⊎_elim (λ a. a.contents (sym a.state ∙ live) b lb) (λ a. absurd (failed_live (m'.state k) a.failed live)) (p.each k lt)

-- and it was live all along
pub was_live : (m : Meaning) (s : ℕ) (m' : Meaning) (s' : ℕ) → Known m s m' s' → (k : ℕ) → k < m.drives → m'.state k ≡ Live → m.state k ≡ Live
was_live m s m' s' p k lt live = ⊎_elim (λ a. sym a.state ∙ live) (λ a. a.live) (p.each k lt)

-- what the rack held at first, the live drives hold after reads
pub holding_known : (m : Meaning) (s : ℕ) (m' : Meaning) (s' stripe : ℕ) → Known m s m' s' → stripe < m.blocks → Holding m' stripe (columns_of m stripe)
holding_known m s m' s' stripe known lb k lt live = still_live m s m' s' known k stripe (subst (λ v. k < v) known.drives lt) lb live

pub holding_next : (m : Meaning) (s : ℕ) (m' : Meaning) (s' stripe : ℕ) (held : ℕ → List ℕ) → Known m s m' s' → stripe < m.blocks → Holding m stripe held → Holding m' stripe held
holding_next m s m' s' stripe held known lb holds k lt live =
    let below : k < m.drives = subst (λ v. k < v) known.drives lt in
    still_live m s m' s' known k stripe below lb live ∙ holds k below (was_live m s m' s' known k below live)

-- a read of an existing block with a block's buffer is lawful
lawless : (D B d b n : ℕ) (e : Refusal) → d < D → b < B → n ≡ 512 → Unlawful D B d b n e → ⊥
lawless D B d b n e hd hb size (no_drive is beyond) = omega arith
lawless D B d b n e hd hb size (no_block is there beyond) = omega arith
lawless D B d b n e hd hb size (buffer_size is there here not) = not size

-- a drive that does not answer joins the missing
module _ (m : Meaning) (s d b n : ℕ) (m' : Meaning) (s' : ℕ) (lt : d < m.drives) (joins : marked s' d ≡ true)
    (others : (k : ℕ) → (k ≡ d → ⊥) → marked s' k ≡ marked s k) where
  grown : (k : ℕ) → marked s k ≡ true → marked s' k ≡ true
  grown k e = ⊎_elim (λ is. ap (marked s') is ∙ joins) (λ ne. others k ne ∙ e) (cases_eq k d)

  known_dead : (m.state d ≡ Live → ⊥) → Same m m' → Known m s m' s'
  known_dead dead same =
      record {
        drives = same.drives;
        blocks = same.blocks;
        each = λ k lk. inl (same.each k lk);
        grows = grown;
        joined = λ k f t. ⊎_elim
            (λ is. (subst (λ v. v < m.drives) (sym is) lt, λ live. dead (ap m.state (sym is) ∙ sym (same.each k (subst (λ v. v < m.drives) (sym is) lt)).state ∙ live)))
            (λ ne. absurd (false≢true (sym f ∙ sym (others k ne) ∙ t))) (cases_eq k d);
      }

  known_fails : Fails m d m' → Known m s m' s'
  known_fails f =
      record {
        drives = f.rest.drives;
        blocks = f.rest.blocks;
        each = λ k lk. ⊎_elim
            (λ is. inr (record { live = ap m.state is ∙ f.live; failed = ap m'.state is ∙ f.failed; joins = ap (marked s') is ∙ joins }))
            (λ ne. inl (f.rest.others k lk ne)) (cases_eq k d);
        grows = grown;
        joined = λ k e t. ⊎_elim
            (λ is. (subst (λ v. v < m.drives) (sym is) lt, λ live. failed_live (m'.state d) f.failed (ap m'.state (sym is) ∙ live)))
            (λ ne. absurd (false≢true (sym e ∙ sym (others k ne) ∙ t))) (cases_eq k d);
      }

  pub known_refused : (e : Refusal) → b < m.blocks → n ≡ 512 → Refused m d b n e m' → Known m s m' s'
  known_refused e lb size (unlawful u same) = absurd (lawless m.drives m.blocks d b n e lt lb size u)
  known_refused e lb size (not_live is law dead same) = known_dead dead same
  known_refused e lb size (fails is law f) = known_fails f
