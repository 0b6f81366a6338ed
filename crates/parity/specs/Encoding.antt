-- What encoding answers.
use Rattle.std.specs.Prelude.{◌≡◌, ℕ, ◌+◌, ◌*◌, cond, List, length, take, drop, Ok, Err, Result, ◌==◌, nat_lt}
use Rattle.refusals.specs.declared.Refusal.{Refusal}
use Rattle.refusals.specs.declared.Refusal.TheVariants.{DoesNotFit, BufferSize}
use Rattle.parity.specs.Blocks.{IsBlock}
use Rattle.parity.specs.Codeword.{Codewords, Fits}

-- block k of the bytes
abbrev pub block_of : ℕ → List ℕ → List ℕ
block_of k bytes = take 512 (drop (k * 512) bytes)

-- the columns of a stripe: K blocks of data, then P, then Q
abbrev pub stripe : ℕ → List ℕ → List ℕ → List ℕ → ℕ → List ℕ
stripe K bytes p q j = cond (nat_lt j K) (block_of j bytes) (cond (j == K) p q)

-- K blocks of data, and one block each for P and Q
pub record Sized (K : ℕ) (bytes p q : List ℕ) : Type 0 where
  pub data_size : length bytes ≡ K * 512
  pub p_size : length p ≡ 512
  pub q_size : length q ≡ 512

-- With P and Q as filled in, the stripe is a codeword, and with no other P and Q it is.
pub record Encoded (n N : ℕ) (g : ℕ → ℕ) (K : ℕ) (bytes p q p' q' : List ℕ) : Type 0 where
  pub fits : Fits (K + 2) n N
  pub sized : Sized K bytes p q
  pub p_block : IsBlock p'
  pub q_block : IsBlock q'
  pub codeword : Codewords n K g (stripe K bytes p' q')
  pub only : (a b : List ℕ) → IsBlock a → IsBlock b → Codewords n K g (stripe K bytes a b) → (a ≡ p') × (b ≡ q')

-- The first reason, in this order.
pub data EncodeRefused (n N K : ℕ) (bytes p q : List ℕ) (e : Refusal) : Type 0 where
  unfit : e ≡ DoesNotFit → (Fits (K + 2) n N → ⊥) → EncodeRefused n N K bytes p q e
  unsized : e ≡ BufferSize → Fits (K + 2) n N → (Sized K bytes p q → ⊥) → EncodeRefused n N K bytes p q e

-- A refusal leaves both buffers as they were.
abbrev pub EncodeAnswer : ℕ → ℕ → (ℕ → ℕ) → ℕ → List ℕ → List ℕ → List ℕ → Result Unit Refusal → List ℕ → List ℕ → Type 0
EncodeAnswer n N g K bytes p q (Ok _) p' q' = Encoded n N g K bytes p q p' q'
EncodeAnswer n N g K bytes p q (Err e) p' q' = EncodeRefused n N K bytes p q e × (p' ≡ p) × (q' ≡ q)
