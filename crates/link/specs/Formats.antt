-- What a link is: how an item goes as beats, and how beats arrive as an item.
use Rattle.std.specs.Prelude.{◌≡◌, ℕ, ◌<◌, Bool, true, false, if◌then◌else◌, List, [], ◌∷◌, length, Some, None, Ok, Err, Option, Result}
use Rattle.std.specs.List.{AllByRecursion}
use Rattle.link.specs.declared.Item.{Item}
use Rattle.link.specs.declared.Item.TheVariants.{Index, Word, Colour}
use Rattle.link.specs.declared.Taken.{Taken}
use Rattle.link.specs.declared.LinkFault.{LinkFault}
use Rattle.link.specs.declared.LinkFault.TheVariants.{Wide}
use Rattle.link.specs.Items.{counted}

-- a beat as it arrives, under a level of register select
abbrev pub taken : {B : Type 0} → Bool → B → Taken B
taken high b = record { rs = high; beat = b }

-- the first of two beats, as beats held
abbrev pub held_half : {B : Type 0} → Option (Taken B) → List (Taken B)
held_half None = []
held_half (Some t) = t ∷ []

-- of two beats the first is held until the second arrives
abbrev pub holds_half : {B : Type 0} → List (Taken B) → Taken B → List (Taken B)
holds_half [] t = t ∷ []
holds_half (u ∷ _) t = []

pub record Format (B : Type 0) : Type 0 where
  -- the host's beats of an item, in order
  pub beats : Item → List B
  -- a beat wider than the link
  pub wide : B → Bool
  -- the beats held of an unfinished item once another has arrived
  pub holds : List (Taken B) → Taken B → List (Taken B)
  -- the item that a beat completes, where the controller's index is 22h or is not
  pub gives : Bool → List (Taken B) → Taken B → Option Item
  -- the colour that a colour arrives as
  pub carried : ℕ → ℕ

-- what is held after a beat: one that is too wide changes nothing
abbrev pub held_after : {B : Type 0} → Format B → List (Taken B) → Taken B → List (Taken B)
held_after f held t = if f.wide t.beat then held else f.holds held t

-- what a beat is answered
abbrev pub answer_to : {B : Type 0} → Format B → Bool → List (Taken B) → Taken B → Result (Option Item) LinkFault
answer_to f is_22h held t = if f.wide t.beat then Err Wide else Ok (f.gives is_22h held t)

-- a link as it stands: its format, and the beats held of an unfinished item
pub record State (B : Type 0) : Type 0 where
  pub format : Format B
  pub held : List (Taken B)

abbrev pub state_of : {B : Type 0} → Format B → List (Taken B) → State B
state_of f h = record { format = f; held = h }

-- a falling chip select drops a half item; the format stays
abbrev pub dropped : {B : Type 0} → State B → State B
dropped s = state_of s.format []

-- what a beat is answered, and what it leaves: no beat changes the format
abbrev pub answered : {B : Type 0} → Bool → Taken B → State B → Result (Option Item) LinkFault
answered is_22h t s = answer_to s.format is_22h s.held t

abbrev pub took : {B : Type 0} → Taken B → State B → State B
took t s = state_of s.format (held_after s.format s.held t)

-- beats that, taken in order, give nothing until the last, and then the item
abbrev pub Arrives : {B : Type 0} → Format B → Bool → Bool → List (Taken B) → List B → Item → Type 0
Arrives f is_22h high held [] i = ⊥
Arrives f is_22h high held (b ∷ []) i = answer_to f is_22h held (taken high b) ≡ Ok (Some i)
Arrives f is_22h high held (b ∷ c ∷ bs) i =
    (answer_to f is_22h held (taken high b) ≡ Ok None) × Arrives f is_22h high (held_after f held (taken high b)) (c ∷ bs) i

-- what every link shows of its format, where a word takes w beats and a colour c: after a select (nothing held) index and word arrive unchanged and a colour as it is carried;
-- a carried colour has 18 bits; the counts are fixed; no host's beat is too wide
pub record Lawful {B : Type 0} (w c : ℕ) (f : Format B) : Type 0 where
  pub index : (is_22h : Bool) (n : ℕ) → n < 128 → Arrives f is_22h false [] (f.beats (Index n)) (Index n)
  pub word : (n : ℕ) → n < 65536 → Arrives f false true [] (f.beats (Word n)) (Word n)
  pub colour : (n : ℕ) → n < 262144 → Arrives f true true [] (f.beats (Colour n)) (Colour (f.carried n))
  pub carried_fits : (n : ℕ) → f.carried n < 262144
  pub count : (i : Item) → length (f.beats i) ≡ counted w c i
  pub narrow : (i : Item) → AllByRecursion (λ b. f.wide b ≡ false) (f.beats i)
