-- What is sent for each call of a glass, item by item.
use Rattle.std.specs.Prelude.{ℕ, ◌+◌, ◌*◌, ◌%◌, Bool, if◌then◌else◌, List, [], ◌∷◌}
use Rattle.link.specs.declared.Item.{Item}
use Rattle.link.specs.declared.Item.TheVariants.{Index, Word, Colour}
use Rattle.pixel.specs.declared.mode.Mode.{Mode}
use Rattle.pixel.specs.declared.rect.Place.{Place}
use Rattle.pixel.specs.declared.rect.Rect.{Rect}
use Rattle.pixel.specs.Colours.{blue_of, green_of, red_of}
use Rattle.pixel.specs.Modes.{mode_number}

-- a window word: the high edge in bits 15 to 8, the low one in 7 to 0
abbrev pub edges : ℕ → ℕ → ℕ
edges low high = high % 256 * 256 + low % 256

-- frame: the mode in bits 5 to 3 of R03h, columns in R44h, rows in R45h, the mask's green and blue in R23h, its red in R24h;
-- bits that are not named are 0; then index 22h
abbrev pub frame_items : Rect → Mode → ℕ → List Item
frame_items r m k =
    Index 0x03 ∷ Word (mode_number m * 8)
    ∷ Index 0x44 ∷ Word (edges r.left r.right)
    ∷ Index 0x45 ∷ Word (edges r.top r.bottom)
    ∷ Index 0x23 ∷ Word (green_of k * 256 + blue_of k)
    ∷ Index 0x24 ∷ Word (red_of k)
    ∷ Index 0x22 ∷ []

-- one register's index and its word; then index 22h
abbrev pub setting_items : ℕ → ℕ → List Item
setting_items i v = Index i ∷ Word v ∷ Index 0x22 ∷ []

-- go: the address, row × 256 + column, in R21h; then index 22h
abbrev pub go_items : Place → List Item
go_items at = setting_items 0x21 (at.y * 256 + at.x)

-- ink: the colour alone
abbrev pub ink_items : ℕ → List Item
ink_items c = Colour c ∷ []

-- sleep and wake: bit 1 of R10h; then index 22h
abbrev pub sleep_items : Bool → List Item
sleep_items asleep = setting_items 0x10 (if asleep then 2 else 0)
