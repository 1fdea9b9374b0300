-- Items as signals over a link, and what they come to.
use Rattle.std.specs.Prelude.{◌≡◌, ℕ, ◌+◌, Bool, true, not, ◌&&◌, List, [], ◌∷◌, ◌++◌, length, ◌==◌, nat_lt}
use Rattle.link.specs.declared.Item.{Item}
use Rattle.link.specs.declared.Item.TheVariants.{Index, Word, Colour}
use Rattle.link.specs.Items.{select_level}
use Rattle.link.specs.Formats.{Format}
use Rattle.registers.specs.Chip.{Chip, obeyed}
use Rattle.lgdp4522.specs.Wired.{Signal, Wired, after_all, beat, select}

-- beats under one level of register select
abbrev pub beat_signals : {B : Type 0} → Bool → List B → List (Signal B)
beat_signals high [] = []
beat_signals high (b ∷ bs) = beat high b ∷ beat_signals high bs

-- an item goes as a chip select and its beats
abbrev pub item_signals : {B : Type 0} → Format B → Item → List (Signal B)
item_signals f i = select ∷ beat_signals (select_level i) (f.beats i)

abbrev pub signals : {B : Type 0} → Format B → List Item → List (Signal B)
signals f [] = []
signals f (i ∷ is) = item_signals f i ++ signals f is

-- how many beats items take
abbrev pub beats_of : {B : Type 0} → Format B → List Item → ℕ
beats_of f [] = 0
beats_of f (i ∷ is) = length (f.beats i) + beats_of f is

-- an item as it arrives: index and word unchanged, a colour as the link carries it
abbrev pub as_carried : {B : Type 0} → Format B → Item → Item
as_carried f (Index n) = Index n
as_carried f (Word n) = Word n
as_carried f (Colour n) = Colour (f.carried n)

-- what items leave in the controller
abbrev pub all_obeyed : {B : Type 0} → Format B → List Item → Chip → Chip
all_obeyed f [] s = s
all_obeyed f (i ∷ is) s = all_obeyed f is (obeyed (as_carried f i) s)

-- items that a controller with index k takes for what they are: each in range, words while the index is not 22h, colours while it is
abbrev pub expected : ℕ → List Item → Bool
expected k [] = true
expected k (Index n ∷ is) = nat_lt n 128 && expected n is
expected k (Word n ∷ is) = nat_lt n 65536 && not (k == 0x22) && expected k is
expected k (Colour n ∷ is) = nat_lt n 262144 && k == 0x22 && expected k is

-- what sending items leaves: their signals, one after another
abbrev pub sent : {B : Type 0} → List Item → Wired B → Wired B
sent is s = after_all (signals s.link.format is) s

-- items went over a link, from s to t; those that the controller expects it obeys
pub record Went {B : Type 0} (is : List Item) (s t : Wired B) : Type 0 where
  pub same_format : t.link.format ≡ s.link.format
  pub beats : t ≡ sent is s
  pub arrived : expected s.chip.registers.index is ≡ true → t.chip ≡ all_obeyed s.link.format is s.chip
