-- What goes to the controller of a driver leaves of the driver what it leaves of the controller.
use Rattle.std.proofs.Common.{ℕ, List, ap}
use Rattle.link.specs.declared.Item.{Item}
use Rattle.link.specs.Formats.{State}
use Rattle.registers.specs.Chip.{chip_of}
use Rattle.lgdp4522.specs.Wired.{wired}
use Rattle.host.specs.Sent.{Went}
use Rattle.glass.specs.Panels.{Panel}
use Rattle.commands.proofs.Done.{Done}
use Rattle.driver.specs.declared.Driver.{Driver}
use Rattle.driver.specs.Driving.{Drove, driver_panel}

pub drove : {B L M : Type 0} {state : L → State B} {cells : M → List ℕ} {items : List Item} {done : Panel → Panel} {s t : Driver L M B} → Went items (wired state cells s.chip) (wired state cells t.chip) → Done (state s.chip.link).format items (chip_of (cells s.chip.memory) s.chip.registers) t.window (done (driver_panel state cells s)) → Drove state cells items done s t
drove w d =
    let left = w.arrived d.taken in
    let memory = ap (λ c. c.memory) left in
    let registers = ap (λ c. c.registers) left in
    let carried = ap (λ f. f.carried) w.same_format in
    record { stays = rw (memory, registers) d.stays; after = rw (memory, registers, carried) d.after; same_format = w.same_format; beats = w.beats }
