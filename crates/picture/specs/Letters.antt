-- Colours as letters, and pictures as lines of them.
use Rattle.std.specs.Prelude.{ℕ, ◌+◌, ◌-◌, ◌*◌, ◌/◌, if◌then◌else◌, List, [], ◌∷◌, ◌++◌, codes, ◌==◌, slice_index}
use Rattle.pixel.specs.Colours.{blue_of, green_of, red_of}

-- 4 × red's top bit + 2 × green's + blue's, among K B G C R M Y W
abbrev pub letter_of : ℕ → ℕ
letter_of c = slice_index (codes "KBGCRMYW") (red_of c / 32 * 4 + green_of c / 32 * 2 + blue_of c / 32)

-- a line end once no cell is left of a row
abbrev pub line_end : ℕ → List ℕ
line_end left = if left == 0 then 10 ∷ [] else []

abbrev pub next_left : ℕ → ℕ → ℕ
next_left width left = if left == 0 then width else left

-- the cells' letters, with `left` cells to come in the row that has begun
abbrev pub lettered : ℕ → ℕ → List ℕ → List ℕ
lettered width left [] = []
lettered width left (c ∷ cs) = (letter_of c ∷ line_end (left - 1)) ++ lettered width (next_left width (left - 1)) cs
