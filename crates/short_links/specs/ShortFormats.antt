-- The formats of the 16-bit, the 8-bit and the serial link.
use Rattle.std.specs.Prelude.{ℕ, ◌+◌, ◌%◌, Bool, true, false, if◌then◌else◌, ◌||◌, List, [], ◌∷◌, Some, None, Option, ◌==◌}
use Rattle.pixel.specs.Colours.{lengthened, shortened}
use Rattle.link.specs.declared.Item.{Item}
use Rattle.link.specs.declared.Item.TheVariants.{Index, Word, Colour}
use Rattle.link.specs.Items.{index_word, item_of, lower, select_level, upper, word_of}
use Rattle.link.specs.declared.Taken.{Taken}
use Rattle.link.specs.Formats.{Format, holds_half, taken}
use Rattle.short_links.specs.declared.serial.Heard.{Heard}
use Rattle.short_links.specs.declared.serial.Heard.TheVariants.{Nothing, Start, Half}
use Rattle.short_links.specs.declared.serial.SerialId.{SerialId}
use Rattle.short_links.specs.declared.serial.SerialId.TheVariants.{Zero, One}

-- a colour arrives as its short colour, brought back to full length
abbrev pub carried_short : ℕ → ℕ
carried_short c = lengthened (shortened c)

-- the word that an item travels as
abbrev pub short_word : Item → ℕ
short_word (Index i) = index_word i
short_word (Word v) = v % 65536
short_word (Colour c) = shortened c

-- what a word arrives as
abbrev pub short_item : Bool → Bool → ℕ → Item
short_item high is_22h v = item_of high is_22h v (lengthened v)

-- 16 bits: one beat is an item, and nothing is ever held
abbrev pub format_16 : Format ℕ
format_16 = record {
  beats = λ i. short_word i ∷ [];
  wide = λ b. false;
  holds = λ held t. [];
  gives = λ is_22h held t. Some (short_item t.rs is_22h t.beat);
  carried = carried_short;
}

-- 8 bits: upper byte first
abbrev pub bytes_of : ℕ → List ℕ
bytes_of v = upper v ∷ lower v ∷ []

-- the first beat's register select decides
abbrev pub gives_8 : Bool → List (Taken ℕ) → Taken ℕ → Option Item
gives_8 is_22h [] t = None
gives_8 is_22h (u ∷ _) t = Some (short_item u.rs is_22h (word_of u.beat t.beat))

abbrev pub format_8 : Format ℕ
format_8 = record {
  beats = λ i. bytes_of (short_word i);
  wide = λ b. false;
  holds = holds_half;
  gives = gives_8;
  carried = carried_short;
}

-- serial: a start byte is 70h + 4 × ID + 2 × register select
abbrev pub id_number : SerialId → ℕ
id_number Zero = 0
id_number One = 4

abbrev pub start_byte : SerialId → Bool → ℕ
start_byte id high = 0x70 + id_number id + (if high then 2 else 0)

-- a start byte of this link
abbrev pub starts : SerialId → ℕ → Bool
starts id b = b == start_byte id false || b == start_byte id true

-- a byte held: the wire of register select is not heeded, and counts as low
abbrev pub byte : ℕ → Taken ℕ
byte b = taken false b

abbrev pub held_serial : Heard → List (Taken ℕ)
held_serial Nothing = []
held_serial (Start s) = byte s ∷ []
held_serial (Half s u) = byte s ∷ byte u ∷ []

-- the start byte stays held; after one that is not this link's nothing is taken
abbrev pub holds_serial : SerialId → List (Taken ℕ) → Taken ℕ → List (Taken ℕ)
holds_serial id [] t = byte t.beat ∷ []
holds_serial id (s ∷ []) t = if starts id s.beat then s ∷ byte t.beat ∷ [] else s ∷ []
holds_serial id (s ∷ u ∷ _) t = s ∷ []

-- the start byte's register select decides, for every pair of bytes after it
abbrev pub gives_serial : SerialId → Bool → List (Taken ℕ) → Taken ℕ → Option Item
gives_serial id is_22h [] t = None
gives_serial id is_22h (s ∷ []) t = None
gives_serial id is_22h (s ∷ u ∷ _) t = Some (short_item (s.beat == start_byte id true) is_22h (word_of u.beat t.beat))

abbrev pub format_serial : SerialId → Format ℕ
format_serial id = record {
  beats = λ i. start_byte id (select_level i) ∷ bytes_of (short_word i);
  wide = λ b. false;
  holds = holds_serial id;
  gives = gives_serial id;
  carried = carried_short;
}
