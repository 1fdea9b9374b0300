-- What a frame's items leave in the controller, register by register.
use Rattle.std.proofs.Common.{◌≡◌, ℕ, ◌+◌, ◌*◌, ◌<◌, ◌≤◌, true, false, List, [], ◌∷◌, Some, refl, ◌∙◌, arith}
use Rattle.std.proofs.lemmas.Bool.Decides.{nat_tests}
use Rattle.pixel.specs.declared.mode.Mode.{Mode}
use Rattle.pixel.specs.declared.rect.Rect.{Rect}
use Rattle.pixel.specs.Colours.{blue_of, green_of, red_of}
use Rattle.pixel.specs.Modes.{mode_number, start_corner}
use Rattle.pixel.specs.Rects.{fits_in}
use Rattle.link.specs.declared.Item.{Item}
use Rattle.link.specs.declared.Item.TheVariants.{Index, Word}
use Rattle.link.specs.Formats.{Format}
use Rattle.registers.specs.declared.Registers.{Registers}
use Rattle.registers.specs.Registers.{with_entry, with_index, with_mask, with_window, spans}
use Rattle.link.specs.Items.{lower, upper}
use Rattle.registers.specs.Chip.{Chip, Sound, WindowSound, chip_of}
use Rattle.host.specs.Sent.{all_obeyed}
use Rattle.commands.specs.Commands.{edges, frame_items}

-- a window word that counts leads back to its edges
edges_back : (low high limit : ℕ) → low ≤ high → high < limit → limit ≤ 256 → (spans (edges low high) limit ≡ true) × (lower (edges low high) ≡ low) × (upper (edges low high) ≡ high)
edges_back low high limit a b c = (grind (arith, nat_tests), grind (arith, nat_tests), grind (arith, nat_tests))

-- R03h, then R44h with R45h, then R23h with R24h: what words leave in their registers, and the items that follow
module _ {B : Type 0} (f : Format B) (cells : List ℕ) (rest : List Item) (r : Registers) (a : r.asleep ≡ false) where
  entry_step : (m : Mode) → r.index ≡ 3 → all_obeyed f (Word (mode_number m * 8) ∷ rest) (chip_of cells r) ≡ all_obeyed f rest (chip_of cells (with_entry m false r))
  entry_step m i = grind (arith, nat_tests)

  window_step : (q : Rect) → r.index ≡ 68 → WindowSound r.size cells r.window r.place → fits_in r.size q ≡ true → all_obeyed f (Word (edges q.left q.right) ∷ Index 69 ∷ Word (edges q.top q.bottom) ∷ rest) (chip_of cells r) ≡ all_obeyed f rest (chip_of cells (with_index 69 (with_window q r)))
  window_step q i z fit = rw (a, i) (grind (arith, nat_tests, z, edges_back))

  mask_step : (k : ℕ) → r.index ≡ 35 → k < 262144 → all_obeyed f (Word (green_of k * 256 + blue_of k) ∷ Index 36 ∷ Word (red_of k) ∷ rest) (chip_of cells r) ≡ all_obeyed f rest (chip_of cells (with_index 36 (with_mask k r)))
  mask_step k i l = grind (arith, nat_tests)

-- the registers after a frame
abbrev pub aimed : Rect → Mode → ℕ → Registers → Registers
aimed q m k r = record r { window = Some q; place = start_corner q m; mode = m; bgr = false; mask = k; index = 34 }

pub frame_leaves : {B : Type 0} (f : Format B) (s : Chip) (q : Rect) (m : Mode) (k : ℕ) → Sound s → s.registers.asleep ≡ false → fits_in s.registers.size q ≡ true → k < 262144 → all_obeyed f (frame_items q m k) s ≡ chip_of s.memory (aimed q m k s.registers)
frame_leaves f s q m k z a fit l =
    let masks : List Item = Index 35 ∷ Word (green_of k * 256 + blue_of k) ∷ Index 36 ∷ Word (red_of k) ∷ Index 34 ∷ [] in
    let windows : List Item = Index 68 ∷ Word (edges q.left q.right) ∷ Index 69 ∷ Word (edges q.top q.bottom) ∷ masks in
    entry_step f s.memory windows _ a m refl
    ∙ window_step f s.memory masks _ a q refl z.window fit
    ∙ mask_step f s.memory (Index 34 ∷ []) _ a k refl l
