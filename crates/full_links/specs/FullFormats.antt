-- The formats of the 18-bit and the 9-bit link.
use Rattle.std.specs.Prelude.{ℕ, ◌+◌, ◌*◌, ◌/◌, ◌%◌, Bool, List, [], ◌∷◌, Some, None, Option, nat_le}
use Rattle.link.specs.declared.Item.{Item}
use Rattle.link.specs.declared.Item.TheVariants.{Index, Word, Colour}
use Rattle.link.specs.Items.{index_word, item_of, lower, upper, word_of}
use Rattle.link.specs.declared.Taken.{Taken}
use Rattle.link.specs.Formats.{Format, holds_half}

-- a colour arrives as it was sent, by its lower 18 bits
abbrev pub whole : ℕ → ℕ
whole c = c % 262144

-- 18 bits: a word's bits 15 to 8 in beat bits 17 to 10, its bits 7 to 0 in 8 to 1; bits 9 and 0 are 0
abbrev pub spread : ℕ → ℕ
spread v = upper v * 1024 + lower v * 2

-- back again: bits 9 and 0 are ignored
abbrev pub gathered : ℕ → ℕ
gathered b = word_of (b / 1024 % 256) (b / 2 % 256)

-- the 18 bits that an item travels as, and what they arrive as
abbrev pub full_beat : Item → ℕ
full_beat (Index i) = spread (index_word i)
full_beat (Word v) = spread v
full_beat (Colour c) = whole c

abbrev pub full_item : Bool → Bool → ℕ → Item
full_item high is_22h b = item_of high is_22h (gathered b) b

-- one beat is an item, and nothing is ever held
abbrev pub format_18 : Format ℕ
format_18 = record {
  beats = λ i. full_beat i ∷ [];
  wide = λ b. nat_le 262144 b;
  holds = λ held t. [];
  gives = λ is_22h held t. Some (full_item t.rs is_22h t.beat);
  carried = whole;
}

-- 9 bits: a byte in bits 8 to 1, bit 0 is 0
abbrev pub beats_9 : Item → List ℕ
beats_9 (Index i) = (upper (index_word i) * 2) ∷ (lower (index_word i) * 2) ∷ []
beats_9 (Word v) = (upper v * 2) ∷ (lower v * 2) ∷ []
beats_9 (Colour c) = (c / 512 % 512) ∷ (c % 512) ∷ []

-- back again: bit 0 is ignored
abbrev pub byte_9 : ℕ → ℕ
byte_9 b = b / 2 % 256

-- the first beat's register select decides
abbrev pub gives_9 : Bool → List (Taken ℕ) → Taken ℕ → Option Item
gives_9 is_22h [] t = None
gives_9 is_22h (u ∷ _) t = Some (item_of u.rs is_22h (word_of (byte_9 u.beat) (byte_9 t.beat)) (u.beat % 512 * 512 + t.beat % 512))

abbrev pub format_9 : Format ℕ
format_9 = record {
  beats = beats_9;
  wide = λ b. nat_le 512 b;
  holds = holds_half;
  gives = gives_9;
  carried = whole;
}
