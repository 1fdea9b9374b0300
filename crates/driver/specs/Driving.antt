-- The controller on a link, as a glass: what it means, and what goes over the link.
use Rattle.std.specs.Prelude.{◌≡◌, ℕ, List, Ok, Err, Result}
use Rattle.link.specs.declared.Item.{Item}
use Rattle.link.specs.Formats.{State}
use Rattle.registers.specs.Chip.{chip_of}
use Rattle.lgdp4522.specs.Wired.{Wired, wired}
use Rattle.host.specs.Sent.{sent}
use Rattle.glass.specs.declared.GlassFault.{GlassFault}
use Rattle.glass.specs.Panels.{Panel, Same}
use Rattle.commands.specs.Shown.{ChipReached, chip_panel}
use Rattle.driver.specs.declared.Driver.{Driver}

-- the panel of a driver, by its link's state and what its memory holds: it carries as its link does
abbrev pub driver_panel : {B L M : Type 0} → (L → State B) → (M → List ℕ) → Driver L M B → Panel
driver_panel state cells s = chip_panel s.window (state s.chip.link).format.carried (chip_of (cells s.chip.memory) s.chip.registers)

-- the states that fitting and the calls reach
abbrev pub DriverReached : {B L M : Type 0} → (M → List ℕ) → Driver L M B → Type 0
DriverReached cells s = ChipReached s.window (chip_of (cells s.chip.memory) s.chip.registers)

-- a refused call sends nothing
abbrev pub sent_by : {A B : Type 0} → Result A GlassFault → List Item → Wired B → Wired B
sent_by (Ok _) items s = sent items s
sent_by (Err _) items s = s

-- an accepted call, from s to t: it left a state that is reached, the panel that it makes, the link's format as it was, and
-- the controller as its items do
pub record Drove {B L M : Type 0} (state : L → State B) (cells : M → List ℕ) (items : List Item) (done : Panel → Panel) (s t : Driver L M B) : Type 0 where
  pub stays : DriverReached cells t
  pub after : Same (driver_panel state cells t) (done (driver_panel state cells s))
  pub same_format : (state t.chip.link).format ≡ (state s.chip.link).format
  pub beats : wired state cells t.chip ≡ sent items (wired state cells s.chip)
