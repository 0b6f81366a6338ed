-- What encoding ten columns tells C.
use Rattle.std.specs.Prelude.{◌≡◌, ℕ, Bool, List, MatchBool}
use Rattle.parity.specs.Encoding.{Encoded}

-- True says that P and Q were filled in; else both are as they were.
abbrev pub Encodes : (n N : ℕ) → (ℕ → ℕ) → (bytes p q : List ℕ) → Bool → (p' q' : List ℕ) → Type 0
Encodes n N g bytes p q r p' q' = MatchBool r (Encoded n N g 10 bytes p q p' q') ((p' ≡ p) × (q' ≡ q))
