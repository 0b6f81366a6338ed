-- The maps of the shift code and of the byte code.
use Rattle.std.specs.Prelude.{ℕ, ◌-◌, ◌*◌, ◌/◌, ◌%◌, ◌^◌}
use Rattle.cyclic.specs.Maps.{◌⊕◌}

-- doubles a word of n bits, modulo 2 ^ n, and adds c if the word's top bit was set
abbrev pub doubled : ℕ → ℕ → ℕ → ℕ
doubled n c x = (2 * x % 2 ^ n) ⊕ (x / 2 ^ (n - 1) % 2 * c)

-- the shift code doubles modulo 65,536, and flips all 16 bits if bit 15 was set
abbrev pub shift : ℕ → ℕ
shift x = doubled 16 0xffff x

-- the byte code doubles modulo 256, and adds 0x1d if bit 7 was set
abbrev pub double : ℕ → ℕ
double x = doubled 8 0x1d x
