-- The registers, and what a word makes of them.
use Rattle.std.specs.Prelude.{ℕ, ◌-◌, ◌/◌, ◌%◌, Bool, false, if◌then◌else◌, not, ◌&&◌, Some, None, Option, ◌==◌, nat_le, nat_lt}
use Rattle.pixel.specs.declared.mode.Mode.{Mode}
use Rattle.pixel.specs.declared.rect.Place.{Place}
use Rattle.pixel.specs.declared.rect.Rect.{Rect}
use Rattle.pixel.specs.declared.rect.Size.{Size}
use Rattle.pixel.specs.Colours.{blue_of, colour_of, exchanged, green_of, red_of}
use Rattle.pixel.specs.Rects.{holds_place, place_at}
use Rattle.pixel.specs.Modes.{mode_of, start_corner}
use Rattle.pixel.specs.Addresses.{address_at, place_of}
use Rattle.link.specs.Items.{lower, upper}
use Rattle.registers.specs.declared.Registers.{Registers}

-- the registers with one thing set, all else as it was
abbrev pub with_entry : Mode → Bool → Registers → Registers
with_entry m b r = record r { mode = m; bgr = b }

abbrev pub with_place : Place → Registers → Registers
with_place p r = record r { place = p }

abbrev pub with_mask : ℕ → Registers → Registers
with_mask k r = record r { mask = k }

abbrev pub with_sleep : Bool → Registers → Registers
with_sleep b r = record r { asleep = b }

abbrev pub with_index : ℕ → Registers → Registers
with_index i r = record r { index = i }

-- a new window moves the place to the start corner of the mode
abbrev pub with_window : Rect → Registers → Registers
with_window q r = record r { window = Some q; place = start_corner q r.mode }

-- a window word counts where low ≤ high < limit
abbrev pub spans : ℕ → ℕ → Bool
spans v limit = nat_le (lower v) (upper v) && nat_lt (upper v) limit

-- its two edges, low and high, where it counts
abbrev pub edges_of : ℕ → ℕ → Option (ℕ × ℕ)
edges_of v limit = if spans v limit then Some (lower v, upper v) else None

-- R44h: the right column in bits 15 to 8, the left in 7 to 0; R45h: bottom and top likewise
abbrev pub columns : ℕ → Rect → Rect
columns v q = record q { left = lower v; right = upper v }

abbrev pub rows : ℕ → Rect → Rect
rows v q = record q { top = lower v; bottom = upper v }

abbrev pub set_columns : Option Rect → ℕ → Registers → Registers
set_columns None v r = r
set_columns (Some q) v r = if spans v r.size.width then with_window (columns v q) r else r

abbrev pub set_rows : Option Rect → ℕ → Registers → Registers
set_rows None v r = r
set_rows (Some q) v r = if spans v r.size.height then with_window (rows v q) r else r

-- R21h: an address outside the window is dropped
abbrev pub set_place : Option Rect → ℕ → Registers → Registers
set_place None v r = r
set_place (Some q) v r = if holds_place q (place_of (address_at v)) then with_place (place_of (address_at v)) r else r

-- R23h masks green by bits 13 to 8 and blue by 5 to 0; R24h masks red by bits 5 to 0
abbrev pub green_blue : ℕ → ℕ → ℕ
green_blue v k = colour_of (red_of k) (v / 256) v

abbrev pub red : ℕ → ℕ → ℕ
red v k = colour_of v (green_of k) (blue_of k)

-- R03h: the mode in bits 5 to 3, BGR in bit 12; R10h: sleep in bit 1; words to other indexes are dropped
abbrev pub set_register : ℕ → ℕ → Registers → Registers
set_register i v r =
    if i == 0x03 then with_entry (mode_of (v / 8 % 8)) (v / 4096 % 2 == 1) r
    else if i == 0x10 then with_sleep (v / 2 % 2 == 1) r
    else if i == 0x21 then set_place r.window v r
    else if i == 0x23 then with_mask (green_blue v r.mask) r
    else if i == 0x24 then with_mask (red v r.mask) r
    else if i == 0x44 then set_columns r.window v r
    else if i == 0x45 then set_rows r.window v r else r

-- asleep, every word but R10h's is dropped
abbrev pub written : ℕ → Registers → Registers
written v r = if r.asleep && not (r.index == 0x10) then r else set_register r.index v r

-- the whole screen; a size with a side of 0 has no window
abbrev pub whole_screen : Size → Option Rect
whole_screen s =
    if nat_le 1 s.width && nat_le 1 s.height then Some (record { left = 0; top = 0; right = s.width - 1; bottom = s.height - 1 }) else None

-- power-on: place (0, 0), mode 6, mask 0, BGR 0, index 0, awake
abbrev pub power_on : Size → Registers
power_on s = record { size = s; window = whole_screen s; place = place_at 0 0; mode = mode_of 6; bgr = false; mask = 0; index = 0; asleep = false }

-- a colour as it goes to memory: BGR exchanges red and blue
abbrev pub by_bgr : Bool → ℕ → ℕ
by_bgr bgr c = if bgr then exchanged c else c
