-- Fillings of covered columns, from words to blocks.
use Rattle.std.proofs.Common.{◌≡◌, ℕ, ◌-◌, ◌*◌, ◌<◌, Bool, true, false, cond, eqb, List, sym, refl, ap, ◌∙◌, subst, ⊎_elim, arith}
use Rattle.std.proofs.lemmas.Bool.{cases_eq, cases_order}
use Rattle.cyclic.specs.Maps.{Lawful}
use Rattle.cyclic.specs.Columns.{Codeword}
use Rattle.cyclic.specs.Columns as words
use Rattle.cyclic.proofs.Filling.{filling_theorem}
use Rattle.codes.specs.Blocks.{word}
use Rattle.codes.proofs.Words.{word_below, same_block}
use Rattle.parity.specs.Codeword.{Codewords, Fits}
use Rattle.stripes.specs.Filling.{Blocks, filled, SameOutside, OneFilling, Fillings}
use Rattle.stripes.proofs.Packing.{pack, pack_block, pack_word}

word_cond : (n i : ℕ) (t : Bool) (x y : List ℕ) → word n (cond t x y) i ≡ cond t (word n x i) (word n y i)
word_cond n i true x y = refl
word_cond n i false x y = refl

module _ (n N : ℕ) (g : ℕ → ℕ) (wide : 0 < n) (more : 1 < N) (law : Lawful n N g) where
  module _ (D : ℕ) (fits : Fits D n N) where
    at : (columns : ℕ → List ℕ) (a b : ℕ) → a < b → b < D → (i : ℕ) → words.OneFilling n (D - 2) g (λ k. word n (columns k) i) a b
    at columns a b up lt i =
        filling_theorem n N (D - 2) g wide more (omega (arith, fits.order)) law (λ k. word n (columns k) i) (λ k below. word_below n (columns k) i) a b up (omega (arith, fits.fewest))

    module _ (columns : ℕ → List ℕ) (a b : ℕ) (up : a < b) (lt : b < D) where
      X : List ℕ
      X = pack n (λ i. (at columns a b up lt i).x)

      Y : List ℕ
      Y = pack n (λ i. (at columns a b up lt i).y)

      word_x : (i : ℕ) → n * i < 4096 → word n X i ≡ (at columns a b up lt i).x
      unfolding X
      word_x i l = pack_word n (λ t. (at columns a b up lt t).x) i fits.width l (at columns a b up lt i).x_word

      word_y : (i : ℕ) → n * i < 4096 → word n Y i ≡ (at columns a b up lt i).y
      unfolding Y
      word_y i l = pack_word n (λ t. (at columns a b up lt t).y) i fits.width l (at columns a b up lt i).y_word

      word_filled : (i : ℕ) → n * i < 4096 → (k : ℕ)
          → words.filled (λ j. word n (columns j) i) a b (at columns a b up lt i).x (at columns a b up lt i).y k ≡ word n (filled columns a b X Y k) i
      word_filled i l k =
          sym (word_cond n i (eqb k a) X (cond (eqb k b) Y (columns k))
          ∙ ap (λ v. cond (eqb k a) v (word n (cond (eqb k b) Y (columns k)) i)) (word_x i l)
          ∙ ap (λ v. cond (eqb k a) (at columns a b up lt i).x v) (word_cond n i (eqb k b) Y (columns k) ∙ ap (λ v. cond (eqb k b) v (word n (columns k) i)) (word_y i l)))

      one : OneFilling n g D columns a b
      unfolding X Y
      one = record {
        x = X;
        y = Y;
        x_block = pack_block n (λ i. (at columns a b up lt i).x);
        y_block = pack_block n (λ i. (at columns a b up lt i).y);
        codeword = λ i l. subst (Codeword (D - 2) g) (λ t k. word_filled i l k t) (at columns a b up lt i).codeword;
        unique = λ u blocks code agree.
            let each = λ (i : ℕ) (l : n * i < 4096). (at columns a b up lt i).unique (λ k. word n (u k) i) (code i l) (λ k below. word_below n (u k) i)
            (λ k below na nb. ap (λ v. word n v i) (agree k (omega (arith, fits.fewest)) na nb)) in
            let ba = blocks a (omega arith) in
            let bb = blocks b lt in
            let bx = pack_block n (λ i. (at columns a b up lt i).x) in
            let by = pack_block n (λ i. (at columns a b up lt i).y) in (
              same_block n (u a) X fits.width ba.long bx.long (λ k l. ba.bytes k) (λ k l. bx.bytes k) (λ i l. (each i l).0 ∙ sym (word_x i l)),
              same_block n (u b) Y fits.width bb.long by.long (λ k l. bb.bytes k) (λ k l. by.bytes k) (λ i l. (each i l).1 ∙ sym (word_y i l)),
            );
      }

    -- two codewords that agree outside a and b, with a below b
    apart : (u w : ℕ → List ℕ) → Blocks D u → Blocks D w → Codewords n (D - 2) g u → Codewords n (D - 2) g w → (a b : ℕ) → a < b → b < D → SameOutside D a b u w
        → (k : ℕ) → k < D → u k ≡ w k
    apart u w bu bw cu cw a b up lt agree k below =
        let f = one w a b up lt in
        let fu = f.unique u bu cu agree in
        let fw = f.unique w bw cw (λ j l na nb. refl) in
        ⊎_elim (λ e. ap u e ∙ fu.0 ∙ sym fw.0 ∙ ap w (sym e))
        (λ na. ⊎_elim (λ e. ap u e ∙ fu.1 ∙ sym fw.1 ∙ ap w (sym e)) (λ nb. agree k below na nb) (cases_eq k b)) (cases_eq k a)

    -- one column alone: cover another one too
    alone : (u w : ℕ → List ℕ) → Blocks D u → Blocks D w → Codewords n (D - 2) g u → Codewords n (D - 2) g w → (a : ℕ) → a < D → SameOutside D a a u w
        → (k : ℕ) → k < D → u k ≡ w k
    alone u w bu bw cu cw a la agree k below =
        ⊎_elim
        (λ first. apart u w bu bw cu cw a (D - 1) (omega (arith, fits.fewest)) (omega (arith, fits.fewest)) (λ j l na nb. agree j l na na) k below)
        (λ other. apart u w bu bw cu cw 0 a (omega arith) la (λ j l na nb. agree j l nb nb) k below)
        (cases_eq a 0)

    same : (u w : ℕ → List ℕ) → Blocks D u → Blocks D w → Codewords n (D - 2) g u → Codewords n (D - 2) g w → (a b : ℕ) → a < D → b < D → SameOutside D a b u w
        → (k : ℕ) → k < D → u k ≡ w k
    same u w bu bw cu cw a b la lb agree =
        ⊎_elim (λ e. alone u w bu bw cu cw a la (λ j l na nb. agree j l na (λ x. na (x ∙ sym e))))
        (⊎_elim (λ up. apart u w bu bw cu cw a b up lb agree) (λ down. apart u w bu bw cu cw b a down la (λ j l nb na. agree j l na nb)))
        (cases_order a b)

  pub fillings : Fillings n N g
  fillings = record { one = one; same = same }
