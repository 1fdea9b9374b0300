-- What every chain of signals keeps.
use Rattle.std.specs.Prelude.{◌≡◌, ℕ, List}
use Rattle.pixel.specs.declared.rect.Size.{Size}
use Rattle.link.specs.declared.Item.{Item}
use Rattle.registers.specs.Chip.{Chip, Sound, obeyed}
use Rattle.lgdp4522.specs.Wired.{Signal, Wired, after_all, fitted_chip}

pub record Laws : Type 0 where
  -- fitting gives a sound controller, whatever size and memory it is handed
  pub fitted_sound : (s : Size) (cells : List ℕ) → Sound (fitted_chip s cells)
  -- every item keeps it so
  pub items_keep : (i : Item) (s : Chip) → Sound s → Sound (obeyed i s)
  -- and so does every list of signals, over any link whose beats are numbers, also one that no host would send
  pub signals_keep : (xs : List (Signal ℕ)) (s : Wired ℕ) → Sound s.chip → Sound (after_all xs s).chip
  -- no signal changes the format of the link
  pub format_stays : (xs : List (Signal ℕ)) (s : Wired ℕ) → (after_all xs s).link.format ≡ s.link.format
