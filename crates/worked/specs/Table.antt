-- Cases worked by hand, as one table.
use Rattle.std.specs.Prelude.{◌≡◌, [], ◌∷◌, map}
use Rattle.pixel.specs.declared.rect.Rect.{Rect}
use Rattle.pixel.specs.Colours.{met}
use Rattle.pixel.specs.Rects.{place_at}
use Rattle.pixel.specs.Modes.{mode_of, stepped}
use Rattle.link.specs.declared.Item.TheVariants.{Index, Word, Colour}
use Rattle.full_links.specs.FullFormats.{format_18, format_9}
use Rattle.short_links.specs.ShortFormats.{format_8, format_serial}
use Rattle.short_links.specs.declared.serial.SerialId.TheVariants.{Zero, One}
use Rattle.glass.specs.declared.GlassFault.TheVariants.{Asleep, Window, Outside, Unseen, UnknownMode}
use Rattle.glass.specs.declared.GlassFault.TheVariants as fault
use Rattle.glass.specs.Faults.{fault_number}

-- the window from (1, 0) to (2, 1)
abbrev pub small_window : Rect
small_window = record { left = 1; top = 0; right = 2; bottom = 1 }

pub record Table : Type 0 where
  -- serial, ID 0, index 22h
  pub serial_index : (format_serial Zero).beats (Index 0x22) ≡ 0x70 ∷ 0x00 ∷ 0x22 ∷ []
  -- serial, ID 1, word DB00h
  pub serial_word : (format_serial One).beats (Word 0xdb00) ≡ 0x76 ∷ 0xdb ∷ 0x00 ∷ []
  -- 18-bit, word AF00h
  pub eighteen_word : format_18.beats (Word 0xaf00) ≡ 0x2bc00 ∷ []
  -- 9-bit, word AF01h
  pub nine_word : format_9.beats (Word 0xaf01) ≡ 0x15e ∷ 0x002 ∷ []
  -- 8-bit, colour 3FFFFh, and what it arrives as
  pub eight_colour : format_8.beats (Colour 0x3ffff) ≡ 0xff ∷ 0xff ∷ []
  pub eight_arrives : format_8.carried 0x3ffff ≡ 0x3effe
  -- a step in mode 6 from the last cell, and in mode 7 from the foot of a column
  pub step_six : stepped small_window (mode_of 6) (place_at 2 1) ≡ place_at 1 0
  pub step_seven : stepped small_window (mode_of 7) (place_at 1 1) ≡ place_at 2 0
  -- mask 3F000h, cell 3F000h, colour 0003Fh
  pub masked_red : met 0x3f000 0x3f000 0x0003f ≡ 0x3f03f
  -- a glass's refusals by their numbers: asleep, window, place outside, colour, look outside, mode
  pub refusals : map fault_number (Asleep ∷ Window ∷ Outside ∷ fault.Colour ∷ Unseen ∷ UnknownMode ∷ []) ≡ 2 ∷ 3 ∷ 4 ∷ 5 ∷ 6 ∷ 15 ∷ []
