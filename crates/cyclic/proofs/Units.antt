-- A linear map is known by its images of the unit words 2 ^ i.
use Rattle.std.proofs.Common.{◌≡◌, ℕ, zero, suc, ◌+◌, ◌-◌, ◌*◌, ◌^◌, ◌<◌, ◌≤◌, Bool, true, false, T, sym, refl, ap, ◌∙◌, subst, ⊎_elim, one-mul, arith}
use native.Mathlib.Nat.{two-pow-succ}
use lib.Bits.{xor_shifted}
use lib.Pow.{pow-lt}
use Rattle.std.proofs.lemmas.Bool.{cases_lt, cases_eq}
use Rattle.cyclic.specs.Maps.{◌⊕◌, Linear}
use Rattle.cyclic.proofs.Powers.{zero_to_zero}

-- a word with bit m set and none above is the unit word 2 ^ m plus a word of m bits
top_bit : (m x : ℕ) → 2 ^ m ≤ x → x < 2 ^ suc m → (x - 2 ^ m < 2 ^ m) × (2 ^ m ⊕ (x - 2 ^ m) ≡ x)
top_bit m x low high =
    let double : 2 ^ suc m ≡ 2 ^ m + 2 ^ m = two-pow-succ m in
    let rest : x - 2 ^ m < 2 ^ m = omega arith in
    let unit : 1 * 2 ^ m ≡ 2 ^ m = one-mul (2 ^ m) in
    (rest, ap (λ w. w ⊕ (x - 2 ^ m)) (sym unit) ∙ xor_shifted 1 m (x - 2 ^ m) rest ∙ omega arith)

-- two linear maps that agree on the unit words of n bits agree on every word of n bits
pub agree : (n : ℕ) (f h : ℕ → ℕ) → Linear n f → Linear n h → ((i : ℕ) → i < n → f (2 ^ i) ≡ h (2 ^ i)) → (x : ℕ) → x < 2 ^ n → f x ≡ h x
agree n f h lf lh units x w = up_to n (omega arith) x w
  where
    up_to : (m : ℕ) → m ≤ n → (y : ℕ) → y < 2 ^ m → f y ≡ h y
    up_to zero le y lt =
        let none : y ≡ 0 = omega arith in
        ap f none ∙ zero_to_zero n f lf ∙ sym (zero_to_zero n h lh) ∙ ap h (sym none)
    up_to (suc m) le y lt =
        ⊎_elim (λ below. up_to m (omega arith) y below)
        (λ above.
        let parts = top_bit m y above lt in
        let one : 2 ^ m < 2 ^ n = pow-lt {i = m} {j = n} (omega arith) in
        let rest : y - 2 ^ m < 2 ^ n = omega (arith, parts.0) in
        ap f (sym parts.1) ∙ lf.sums (2 ^ m) (y - 2 ^ m) one rest
        ∙ ap (λ v. v ⊕ f (y - 2 ^ m)) (units m (omega arith)) ∙ ap (λ v. h (2 ^ m) ⊕ v) (up_to m (omega arith) (y - 2 ^ m) parts.0)
        ∙ sym (lh.sums (2 ^ m) (y - 2 ^ m) one rest) ∙ ap h parts.1)
        (cases_lt y (2 ^ m))

-- a linear map that leaves each unit word unchanged leaves every word unchanged
pub fixes_all : (n : ℕ) (f : ℕ → ℕ) → Linear n f → ((i : ℕ) → i < n → f (2 ^ i) ≡ 2 ^ i) → (x : ℕ) → x < 2 ^ n → f x ≡ x
fixes_all n f lf units = agree n f (λ x. x) lf (record { words = λ x w. w; sums = λ x y wx wy. refl }) units

abbrev pub both : Bool → Bool → Bool
both true b = b
both false b = false

-- the test passes at each number below k: what a proof lets the checker compute
abbrev pub all_below : ℕ → (ℕ → Bool) → Bool
all_below zero test = true
all_below (suc k) test = both (test k) (all_below k test)

pub each_below : (k : ℕ) (test : ℕ → Bool) → T (all_below k test) → (i : ℕ) → i < k → T (test i)
each_below zero test t i lt = absurd (omega arith)
each_below (suc k) test t i lt =
    ⊎_elim (λ e. subst (λ m. T (test m)) (sym e) (both_left (test k) (all_below k test) t))
    (λ ne. each_below k test (both_right (test k) (all_below k test) t) i (omega arith))
    (cases_eq i k)
  where
    both_left : (a b : Bool) → T (both a b) → T a
    both_left true b t = tt
    both_left false b t = t

    both_right : (a b : Bool) → T (both a b) → T b
    both_right true b t = t
    both_right false b t = absurd t
