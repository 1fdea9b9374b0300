-- Items, and what is common to every link's way with them.
use Rattle.std.specs.Prelude.{ℕ, ◌+◌, ◌*◌, ◌/◌, ◌%◌, Bool, true, false, if◌then◌else◌}
use Rattle.link.specs.declared.Item.{Item}
use Rattle.link.specs.declared.Item.TheVariants.{Index, Word, Colour}

-- register select is low for an index, else high
abbrev pub select_level : Item → Bool
select_level (Index _) = false
select_level (Word _) = true
select_level (Colour _) = true

-- the beats of an item, where a word takes w and a colour c: an index travels as a word
abbrev pub counted : ℕ → ℕ → Item → ℕ
counted w c (Index _) = w
counted w c (Word _) = w
counted w c (Colour _) = c

-- what arrives: select low, an index, of which the word's upper nine bits are ignored;
-- select high, a colour where the controller's index is 22h, else a word
abbrev pub item_of : Bool → Bool → ℕ → ℕ → Item
item_of high is_22h word colour = if high then (if is_22h then Colour colour else Word word) else Index (word % 128)

-- an index is sent as a word whose upper nine bits are 0
abbrev pub index_word : ℕ → ℕ
index_word i = i % 128

-- the two bytes of a word
abbrev pub upper : ℕ → ℕ
upper v = v / 256 % 256

abbrev pub lower : ℕ → ℕ
lower v = v % 256

abbrev pub word_of : ℕ → ℕ → ℕ
word_of u l = u * 256 + l
