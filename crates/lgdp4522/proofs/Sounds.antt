-- A fitted controller is sound, and every signal keeps it so.
use Rattle.std.proofs.Common.{◌≡◌, ℕ, List, [], ◌∷◌, length, Some, None, Ok, Err, Option, Result, refl, inl, inr}
use Rattle.std.proofs.lemmas.Bool.{cases_Bool}
use Rattle.pixel.specs.declared.rect.Size.{Size}
use Rattle.cells.specs.Sizes.{fits_memory}
use Rattle.link.specs.declared.Item.{Item}
use Rattle.link.specs.declared.LinkFault.{LinkFault}
use Rattle.link.specs.Formats.{answered, taken}
use Rattle.registers.specs.Chip.{Chip, Sound, at_22h}
use Rattle.registers.proofs.Keeps.{obeyed_sound, unfitted_sound}
use Rattle.registers.proofs.Keeps as keeps
use Rattle.lgdp4522.specs.Wired.{Signal, Wired, after_all, after_one, beat, fitted_chip, obeyed_if, select}

pub fitted_sound : (s : Size) (cells : List ℕ) → Sound (fitted_chip s cells)
fitted_sound s cells =
    elim (cases_Bool (fits_memory s (length cells))) [
      | inl e ↦ rw e (keeps.fitted_sound (length cells) s e)
      | inr e ↦ rw e (unfitted_sound cells)
    ]

obeyed_if_sound : (r : Result (Option Item) LinkFault) (s : Chip) → Sound s → Sound (obeyed_if r s)
obeyed_if_sound (Err _) s z = z
obeyed_if_sound (Ok None) s z = z
obeyed_if_sound (Ok (Some i)) s z = obeyed_sound i s z

-- no signal makes a controller unsound, and none changes the format of its link
pub all_sound : {B : Type 0} (xs : List (Signal B)) (s : Wired B) → Sound s.chip → Sound (after_all xs s).chip
all_sound [] s z = z
all_sound (select ∷ xs) s z = all_sound xs (after_one select s) z
all_sound (beat high b ∷ xs) s z = all_sound xs (after_one (beat high b) s) (obeyed_if_sound (answered (at_22h s.chip) (taken high b) s.link) s.chip z)

pub format_kept : {B : Type 0} (xs : List (Signal B)) (s : Wired B) → (after_all xs s).link.format ≡ s.link.format
format_kept [] s = refl
format_kept (select ∷ xs) s = format_kept xs (after_one select s)
format_kept (beat high b ∷ xs) s = format_kept xs (after_one (beat high b) s)
