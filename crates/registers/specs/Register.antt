-- The numbers of the registers.
use Rattle.std.specs.Prelude.{◌≡◌, ◌↔◌, ℕ, List, [], ◌∷◌, find, ◌==◌, Ok, Result}
use Rattle.std.specs.Option.{ok_or}
use Rattle.registers.specs.declared.register.Register.{Register}
use Rattle.registers.specs.declared.register.Register.TheVariants.{EntryMode, Power, Address, Colours, GreenBlueMask, RedMask, Columns, Rows}
use Rattle.registers.specs.declared.register.UnknownRegister.{UnknownRegister}

abbrev pub register_number : Register → ℕ
register_number EntryMode = 0x03
register_number Power = 0x10
register_number Address = 0x21
register_number Colours = 0x22
register_number GreenBlueMask = 0x23
register_number RedMask = 0x24
register_number Columns = 0x44
register_number Rows = 0x45

abbrev pub all_registers : List Register
all_registers = EntryMode ∷ Power ∷ Address ∷ Colours ∷ GreenBlueMask ∷ RedMask ∷ Columns ∷ Rows ∷ []

-- the register that has an index for its number, or, where none has, the index as an error
abbrev pub register_at : ℕ → Result Register UnknownRegister
register_at i = ok_or (find (λ g. register_number g == i) all_registers) (record { 0 = i })

-- the register of an index, and none is left out: a register is what an index leads to exactly if the index is its number
pub record Decodes (i : ℕ) (r : Result Register UnknownRegister) : Type 0 where
  pub found : r ≡ register_at i
  pub back : (g : Register) → (r ≡ Ok g) ↔ (register_number g ≡ i)
