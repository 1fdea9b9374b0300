-- The sizes that a screen can have, and the memory that it takes.
use Rattle.std.specs.Prelude.{◌≡◌, ℕ, ◌*◌, Bool, true, false, if◌then◌else◌, ◌&&◌, List, length, replicate, Ok, Err, Result, ◌==◌, nat_le}
use Rattle.pixel.specs.declared.rect.Size.{Size}
use Rattle.pixel.specs.Rects.{size_of}
use Rattle.cells.specs.declared.SizeFault.{SizeFault}
use Rattle.cells.specs.declared.SizeFault.TheVariants.{Unfit}

abbrev pub size_number : SizeFault → ℕ
size_number Unfit = 7

-- width 1 to 176, height 1 to 220, and n numbers of memory are width × height
abbrev pub fits_memory : Size → ℕ → Bool
fits_memory s n = nat_le 1 s.width && nat_le s.width 176 && nat_le 1 s.height && nat_le s.height 220 && n == s.width * s.height

abbrev pub size_answer : Bool → Result (Unit {0}) SizeFault
size_answer true = Ok tt
size_answer false = Err Unfit

-- the size that is fitted: 0 × 0 where size and memory do not fit
abbrev pub fitted_size : Size → ℕ → Size
fitted_size s n = if fits_memory s n then s else size_of 0 0

-- and the memory then: every cell 0, or as it was
abbrev pub fitted_cells : Size → List ℕ → List ℕ
fitted_cells s cells = if fits_memory s (length cells) then replicate (length cells) 0 else cells

-- memory that the check refuses for a size stays the very value that it was
abbrev pub SparedUnfit : {M : Type 0} → (M → List ℕ) → Size → M → M → Type 0
SparedUnfit cells s old new = fits_memory s (length (cells old)) ≡ false → new ≡ old
