-- Colours and masks: 18 bits, red in 17 to 12, green in 11 to 6, blue in 5 to 0.
use Rattle.std.specs.Prelude.{ℕ, ◌+◌, ◌*◌, ◌/◌, ◌%◌, ◌^◌, bit_and, bit_or, bit_xor}

-- bit k of a number, 0 or 1
abbrev pub bit : ℕ → ℕ → ℕ
bit k n = n / 2 ^ k % 2

-- the six bits of each part
abbrev pub red_of : ℕ → ℕ
red_of c = c / 4096 % 64

abbrev pub green_of : ℕ → ℕ
green_of c = c / 64 % 64

abbrev pub blue_of : ℕ → ℕ
blue_of c = c % 64

-- the colour of three parts, each by its lower six bits
abbrev pub colour_of : ℕ → ℕ → ℕ → ℕ
colour_of r g b = r % 64 * 4096 + g % 64 * 64 + b % 64

-- red and blue exchanged
abbrev pub exchanged : ℕ → ℕ
exchanged c = colour_of (blue_of c) (green_of c) (red_of c)

-- what a colour leaves of a cell: the bits whose mask bit is 1 stay, the others are the colour's
abbrev pub met : ℕ → ℕ → ℕ → ℕ
met mask old new = bit_or (bit_and old mask) (bit_and new (bit_xor mask 262143))

-- the short colour: red's upper five bits, all of green, blue's upper five bits
abbrev pub shortened : ℕ → ℕ
shortened c = red_of c / 2 * 2048 + green_of c * 32 + blue_of c / 2

-- back at full length: the missing lowest bits of red and blue are 0
abbrev pub lengthened : ℕ → ℕ
lengthened s = colour_of (s / 2048 * 2) (s / 32) (s * 2)
