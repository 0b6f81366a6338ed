-- Maps of numbers that take sums to sums: shifts, remainders, a bit's multiple, and what is made of them.
use Rattle.std.specs.Prelude.{◌≡◌, ℕ, zero, suc, ◌+◌, ◌-◌, ◌*◌, ◌/◌, ◌%◌, ◌^◌, ◌<◌, ◌⊎◌, refl}
use Rattle.std.proofs.Common.{sym, ap, ◌∙◌, ⊎_elim, inl, inr, add-zero, mul_comm, zero-mul, one-mul, arith, pow_pos}
use Rattle.std.specs.Int.Bits.{xor_self, xor_zero_r}
use Rattle.std.proofs.lemmas.Nat.{mod_below, xor_block, xor_shr, xor_mod, xor_lt}
use Rattle.cyclic.specs.Maps.{◌⊕◌, Linear}
use Rattle.cyclic.proofs.Sums.{swap}
use Rattle.codes.specs.Doubling.{doubled}

abbrev pub Additive : (ℕ → ℕ) → Type 0
Additive f = (x y : ℕ) → f (x ⊕ y) ≡ f x ⊕ f y

pub up : (k : ℕ) → Additive (λ x. x * 2 ^ k)
up k x y =
    sym (add-zero ((x ⊕ y) * 2 ^ k))
    ∙ sym (xor_block k x y 0 0 (pow_pos k) (pow_pos k))
    ∙ ap (λ a. a ⊕ (y * 2 ^ k + 0)) (add-zero (x * 2 ^ k))
    ∙ ap (λ b. x * 2 ^ k ⊕ b) (add-zero (y * 2 ^ k))

pub down : (k : ℕ) → Additive (λ x. x / 2 ^ k)
down k x y = xor_shr x y k

pub low : (k : ℕ) → Additive (λ x. x % 2 ^ k)
low k x y = xor_mod x y k

pub after : (f h : ℕ → ℕ) → Additive f → Additive h → Additive (λ x. f (h x))
after f h af ah x y = ap f (ah x y) ∙ af (h x) (h y)

pub plus : (f h : ℕ → ℕ) → Additive f → Additive h → Additive (λ x. f x ⊕ h x)
plus f h af ah x y = ap (λ a. a ⊕ h (x ⊕ y)) (af x y) ∙ ap (λ b. (f x ⊕ f y) ⊕ b) (ah x y) ∙ swap (f x) (f y) (h x) (h y)

-- a number below two is zero or one
two : (a : ℕ) → a < 2 → (a ≡ 0) ⊎ (a ≡ 1)
two zero lt = inl refl
two (suc zero) lt = inr refl
two (suc (suc a)) lt = absurd (omega arith)

bits_times : (c a b : ℕ) → a < 2 → b < 2 → (a ⊕ b) * c ≡ a * c ⊕ b * c
bits_times c a b la lb =
    ⊎_elim
    (λ ea. ap (λ v. (v ⊕ b) * c) ea ∙ sym (ap (λ v. v * c ⊕ b * c) ea ∙ ap (λ v. v ⊕ b * c) (zero-mul c)))
    (λ ea.
    ap (λ v. (v ⊕ b) * c) ea
    ∙ ⊎_elim
    (λ eb. ap (λ v. (1 ⊕ v) * c) eb ∙ sym (ap (λ v. 1 * c ⊕ v * c) eb ∙ ap (λ v. 1 * c ⊕ v) (zero-mul c) ∙ xor_zero_r (1 * c)))
    (λ eb. ap (λ v. (1 ⊕ v) * c) eb ∙ zero-mul c ∙ sym (ap (λ v. 1 * c ⊕ v * c) eb ∙ xor_self (1 * c)))
    (two b lb)
    ∙ ap (λ v. v * c ⊕ b * c) (sym ea))
    (two a la)

-- c if the number is odd
pub times : (c : ℕ) → Additive (λ x. x % 2 * c)
times c x y = ap (λ v. v * c) (xor_mod x y 1) ∙ bits_times c (x % 2) (y % 2) (mod_below x 2 (omega arith)) (mod_below y 2 (omega arith))

pub times_below : (c m x : ℕ) → c < m → x % 2 * c < m
times_below c m x lt =
    ⊎_elim (λ e. let v : x % 2 * c ≡ 0 = ap (λ b. b * c) e ∙ zero-mul c in omega arith)
    (λ e. let v : x % 2 * c ≡ c = ap (λ b. b * c) e ∙ one-mul c in omega arith)
    (two (x % 2) (mod_below x 2 (omega arith)))

pub linear : (n : ℕ) (f : ℕ → ℕ) → Additive f → ((x : ℕ) → f x < 2 ^ n) → Linear n f
linear n f add words = record { words = λ x w. words x; sums = λ x y wx wy. add x y }

twice : Additive (λ x. 2 * x)
twice x y = mul_comm 2 (x ⊕ y) ∙ up 1 x y ∙ ap (λ a. a ⊕ y * 2) (mul_comm x 2) ∙ ap (λ b. 2 * x ⊕ b) (mul_comm y 2)

-- the doubling maps are linear, at every width and with every added word
pub doubled_linear : (n c : ℕ) → c < 2 ^ n → Linear n (doubled n c)
doubled_linear n c lt =
    linear n (doubled n c)
    (plus (λ x. 2 * x % 2 ^ n) (λ x. x / 2 ^ (n - 1) % 2 * c)
    (after (λ x. x % 2 ^ n) (λ x. 2 * x) (low n) twice)
    (after (λ x. x % 2 * c) (λ x. x / 2 ^ (n - 1)) (times c) (down (n - 1))))
    (λ x. xor_lt n (2 * x % 2 ^ n) (x / 2 ^ (n - 1) % 2 * c) (mod_below (2 * x) (2 ^ n) (pow_pos n)) (times_below c (2 ^ n) (x / 2 ^ (n - 1)) lt))

-- a word whose top bit is clear only doubles
pub doubled_low : (n c x : ℕ) → x / 2 ^ (n - 1) % 2 ≡ 0 → x * 2 % 2 ^ n ≡ doubled n c x
doubled_low n c x clear =
    ap (λ y. y % 2 ^ n) (mul_comm x 2)
    ∙ sym (ap (λ b. (2 * x % 2 ^ n) ⊕ (b * c)) clear ∙ ap (λ v. (2 * x % 2 ^ n) ⊕ v) (zero-mul c) ∙ xor_zero_r (2 * x % 2 ^ n))
