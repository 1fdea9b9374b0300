-- Items sent to a controller at power-on, and the cells that it then shows.
use Rattle.std.proofs.Common.{◌≡◌, ℕ, ◌-◌, ◌/◌, ◌%◌, ◌^◌, ◌<◌, min, true, List, length, get_or, replicate, unwrap_or, sym, ap, ◌∙◌, arith}
use Rattle.std.proofs.lemmas.List.{ext_get_or}
use Rattle.pixel.specs.declared.rect.Size.{Size}
use Rattle.pixel.specs.Rects.{place_at, size_of}
use Rattle.pixel.specs.Addresses.{cell_index, offset_at}
use Rattle.pixel.proofs.Places.{offset_on}
use Rattle.cells.specs.Memory.{cell_in}
use Rattle.link.specs.declared.Item.{Item}
use Rattle.link.specs.Formats.{Format}
use Rattle.registers.specs.Registers.{power_on}
use Rattle.registers.specs.Chip.{Chip, chip_of}
use Rattle.lgdp4522.specs.Wired.{Wired, fitted}
use Rattle.host.specs.Sent.{Went, all_obeyed, beats_of, expected}
use Rattle.card.specs.Cards.{shown_at}

-- on 8 × 4 the cells row by row are the memory
shown_is : (s : Chip) (k : ℕ) → s.registers.size ≡ size_of 8 4 → k < 32 → shown_at s k ≡ get_or s.memory k 0
shown_is s k e h =
    let p = place_at (k % 8) (k / 8) in
    let i : cell_index (size_of 8 4) p ≡ k = omega arith in
    ap (λ z. unwrap_or (cell_in s.memory (offset_at z p)) 0) e
    ∙ ap (λ o. unwrap_or (cell_in s.memory o) 0) (offset_on (size_of 8 4) p (omega arith) (omega arith) (omega arith) (omega arith))
    ∙ ap (λ n. get_or s.memory n 0) i

all_shown : (s : Chip) (r : List ℕ) → s.registers.size ≡ size_of 8 4 → length s.memory ≡ 32 → length r ≡ 32 → ((k : ℕ) → k < 32 → get_or r k 0 ≡ shown_at s k) → r ≡ s.memory
all_shown s r es em er each = ext_get_or 0 r s.memory (er ∙ sym em) (λ k h. let l : k < 32 = omega arith in each k l ∙ shown_is s k es l)

-- what items leave at power-on
abbrev pub left_by : {B : Type 0} → Format B → List Item → Size → ℕ → Chip
left_by f items size n = all_obeyed f items (chip_of (replicate n 0) (power_on size))

pub record Drawn {B : Type 0} (f : Format B) (items : List Item) (count : ℕ) (r : List ℕ) : Type 0 where
  pub beats : count ≡ min (beats_of f items) (2 ^ 64 - 1)
  pub cells : r ≡ (left_by f items (size_of 8 4) 32).memory

pub drawn : {B : Type 0} (f : Format B) (items : List Item) (mem r : List ℕ) (count : ℕ) (s t : Wired B) → mem ≡ replicate 32 0 → s ≡ fitted f (size_of 8 4) mem → expected 0 items ≡ true → (left_by f items (size_of 8 4) 32).registers.size ≡ size_of 8 4 → length (left_by f items (size_of 8 4) 32).memory ≡ 32 → count ≡ min (beats_of s.link.format items) (2 ^ 64 - 1) → Went items s t → length r ≡ 32 → ((k : ℕ) → k < 32 → get_or r k 0 ≡ shown_at t.chip k) → Drawn f items count r
drawn f items mem r count s t em made ok es el ec went er each =
    let start : s ≡ fitted f (size_of 8 4) (replicate 32 0) = made ∙ ap (fitted f (size_of 8 4)) em in
    let k : expected s.chip.registers.index items ≡ true = ap (λ w. expected w.chip.registers.index items) start ∙ ok in
    let done : t.chip ≡ left_by f items (size_of 8 4) 32 = went.arrived k ∙ ap (λ w. all_obeyed w.link.format items w.chip) start in
    record {
      beats = ec ∙ ap (λ w. min (beats_of w.link.format items) (2 ^ 64 - 1)) start;
      cells = all_shown (left_by f items (size_of 8 4) 32) r es el er (λ n h. each n h ∙ ap (λ c. shown_at c n) done);
    }
