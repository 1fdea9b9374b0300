-- The test card: what is sent, and the picture that it leaves.
use Rattle.std.specs.Prelude.{ℕ, ◌/◌, ◌%◌, List, [], ◌∷◌, ◌++◌, map, replicate}
use Rattle.std.specs.Option.{unwrap_or}
use Rattle.link.specs.declared.Item.{Item}
use Rattle.link.specs.declared.Item.TheVariants.{Index, Word, Colour}
use Rattle.link.specs.Formats.{Format}
use Rattle.pixel.specs.Rects.{place_at, size_of}
use Rattle.registers.specs.Registers.{power_on}
use Rattle.registers.specs.Chip.{Chip, cell_at, chip_of}
use Rattle.host.specs.Sent.{all_obeyed}

-- colours that every link carries unchanged
abbrev pub black : ℕ
black = 0

abbrev pub blue : ℕ
blue = 0x0003e

abbrev pub green : ℕ
green = 0x00fc0

abbrev pub cyan : ℕ
cyan = 0x00ffe

abbrev pub red : ℕ
red = 0x3e000

abbrev pub magenta : ℕ
magenta = 0x3e03e

abbrev pub yellow : ℕ
yellow = 0x3efc0

abbrev pub white : ℕ
white = 0x3effe

-- mode and window, then colours
abbrev pub part : ℕ → ℕ → ℕ → List ℕ → List Item
part entry columns rows colours =
    (Index 0x03 ∷ Word entry ∷ Index 0x44 ∷ Word columns ∷ Index 0x45 ∷ Word rows ∷ Index 0x22 ∷ []) ++ map Colour colours

unfoldable pub card_items : List Item
card_items =
    -- the eight colours along the top row: mode 6
    part 0x0030 0x0700 0x0300 (black ∷ blue ∷ green ∷ cyan ∷ red ∷ magenta ∷ yellow ∷ white ∷ [])
    -- mode 7, column first: the ninth colour wraps to the first cell
    ++ part 0x0038 0x0300 0x0201 (red ∷ green ∷ red ∷ green ∷ red ∷ green ∷ red ∷ green ∷ blue ∷ [])
    -- mode 0, left and up: from the bottom right corner
    ++ part 0x0000 0x0704 0x0201 (yellow ∷ cyan ∷ magenta ∷ white ∷ blue ∷ green ∷ red ∷ black ∷ [])
    -- the bottom row yellow, then from column 4 on cyan under a mask that keeps red
    ++ part 0x0030 0x0700 0x0303 (replicate 8 yellow)
    ++ (Index 0x21 ∷ Word 0x0304 ∷ Index 0x24 ∷ Word 0x003f ∷ Index 0x22 ∷ [])
    ++ map Colour (replicate 4 cyan)

-- the cells of an 8 × 4 controller, row by row, once all that has arrived
unfoldable pub card_cells : {B : Type 0} → Format B → List ℕ
card_cells f = (all_obeyed f card_items (chip_of (replicate 32 0) (power_on (size_of 8 4)))).memory

-- the picture that every link must leave
abbrev pub card_picture : List ℕ
card_picture =
    (black ∷ blue ∷ green ∷ cyan ∷ red ∷ magenta ∷ yellow ∷ white ∷ [])
    ++ (blue ∷ red ∷ red ∷ red ∷ black ∷ red ∷ green ∷ blue ∷ [])
    ++ (green ∷ green ∷ green ∷ green ∷ white ∷ magenta ∷ cyan ∷ yellow ∷ [])
    ++ (yellow ∷ yellow ∷ yellow ∷ yellow ∷ white ∷ white ∷ white ∷ white ∷ [])

-- cell k of 8 columns, row by row; 0 for one that is not there
abbrev pub shown_at : Chip → ℕ → ℕ
shown_at s k = unwrap_or (cell_at s (place_at (k % 8) (k / 8))) 0
