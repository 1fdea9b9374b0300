-- The page that the test card's program prints.
use Rattle.std.specs.Prelude.{◌≡◌, ℕ, ◌-◌, ◌^◌, min, Bool, true, false, List, [], ◌∷◌, ◌++◌, All, codes, decimal}
use Rattle.link.specs.Formats.{Format}
use Rattle.picture.specs.Letters.{lettered}
use Rattle.host.specs.Sent.{beats_of}
use Rattle.card.specs.declared.Card.{Card}
use Rattle.card.specs.Cards.{card_cells, card_items}

abbrev pub line : List ℕ → List ℕ
line text = text ++ (10 ∷ [])

-- the text of one link: its name and the beats sent, then four rows of eight letters
abbrev pub card_text : {B : Type 0} → List ℕ → Format B → List ℕ
card_text name f = (name ++ (codes " link, " ++ (decimal (min (beats_of f card_items) (2 ^ 64 - 1)) ++ line (codes " beats")))) ++ lettered 8 8 (card_cells f)

-- whether the others have the picture of the first
abbrev pub AllSame : Card → List Card → Type 0
AllSame first others = All (λ c. c.cells ≡ first.cells) others

-- the last line
abbrev pub verdict : Bool → List ℕ
verdict true = line (codes "the five pictures agree")
verdict false = line (codes "the pictures do not agree")

-- its rows as letters
abbrev pub card_rows : List ℕ
card_rows = line (codes "KBGCRMYW") ++ line (codes "BRRRKRGB") ++ line (codes "GGGGWMCY") ++ line (codes "YYYYWWWW")

-- the page, byte by byte
abbrev pub card_page : List ℕ
card_page =
    line (codes "18-bit link, 70 beats") ++ card_rows
    ++ line (codes "16-bit link, 70 beats") ++ card_rows
    ++ line (codes "9-bit link, 140 beats") ++ card_rows
    ++ line (codes "8-bit link, 140 beats") ++ card_rows
    ++ line (codes "serial link, 210 beats") ++ card_rows
    ++ verdict true
