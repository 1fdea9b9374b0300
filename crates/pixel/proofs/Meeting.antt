-- What a colour leaves of a cell, bit by bit.
use Rattle.std.proofs.Common.{◌≡◌, ℕ, ◌/◌, ◌%◌, ◌^◌, ◌<◌, cond, eqb, ap, ◌∙◌, arith}
use lib.Bits.{bit_and, bit_or, bit_xor}
use Rattle.std.proofs.lemmas.Nat.{and_le_l, and_le_r, and_mod, and_shr, or_lt, or_mod, or_shr, xor_lt, xor_mod, xor_shr}
use Rattle.std.proofs.lemmas.Nat.Bits.{bit_at_and, bit_at_ones, bit_at_or, bit_at_xor}
use Rattle.pixel.specs.Colours.{bit, met}

-- a bit of two numbers' `and`, `or` and `xor` is that of their bits
pub bit-bit_and : (k a b : ℕ) → bit k (bit_and a b) ≡ bit_and (bit k a) (bit k b)
bit-bit_and k a b = ap (λ n. n % 2) (and_shr a b k) ∙ and_mod (a / 2 ^ k) (b / 2 ^ k) 1

pub bit-bit_or : (k a b : ℕ) → bit k (bit_or a b) ≡ bit_or (bit k a) (bit k b)
bit-bit_or k a b = ap (λ n. n % 2) (or_shr a b k) ∙ or_mod (a / 2 ^ k) (b / 2 ^ k) 1

pub bit-bit_xor : (k a b : ℕ) → bit k (bit_xor a b) ≡ bit_xor (bit k a) (bit k b)
bit-bit_xor k a b = ap (λ n. n % 2) (xor_shr a b k) ∙ xor_mod (a / 2 ^ k) (b / 2 ^ k) 1

-- the bits whose mask bit is 1 stay, the others are the colour's
pub met_bits : (mask old new k : ℕ) → k < 18 → bit k (met mask old new) ≡ cond (eqb (bit k mask) 1) (bit k old) (bit k new)
met_bits mask old new k h = simp (bit_at_or, bit_at_and, bit_at_xor, bit_at_ones 18 k h) (grind arith)

-- a cell of 18 bits met under a mask of 18 bits has 18 bits, whatever the colour
pub met_fits : (mask old new : ℕ) → mask < 262144 → old < 262144 → met mask old new < 262144
met_fits mask old new a b = grind (arith, or_lt 18, and_le_l, and_le_r, xor_lt 18)
