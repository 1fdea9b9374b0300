-- Every item keeps the controller sound.
use Rattle.std.proofs.Common.{◌≡◌, ℕ, ◌-◌, ◌<◌, true, cond, List, replicate, Some, sym, refl, subst, arith}
use Rattle.std.proofs.lemmas.Bool.Decides.{nat_tests}
use Rattle.std.proofs.lemmas.List.{get_or-replicate, length-replicate}
use Rattle.pixel.specs.declared.rect.Place.{Place}
use Rattle.pixel.specs.declared.rect.Rect.{Rect}
use Rattle.pixel.specs.declared.rect.Size.{Size}
use Rattle.pixel.specs.Rects.{fits_in, holds_place}
use Rattle.pixel.specs.Modes.{stepped}
use Rattle.pixel.specs.Addresses.{offset_at}
use Rattle.pixel.proofs.Windows.{start_holds, step_holds}
use Rattle.cells.specs.Memory.{memory_met}
use Rattle.cells.specs.Sizes.{fits_memory}
use Rattle.cells.proofs.Mets.{met_colours, met_length}
use Rattle.link.specs.declared.Item.{Item}
use Rattle.link.specs.declared.Item.TheVariants.{Index, Word, Colour}
use Rattle.registers.specs.declared.Registers.{Registers}
use Rattle.registers.specs.Registers.{by_bgr, power_on, set_columns, set_place, set_rows, with_place, with_window, written}
use Rattle.registers.specs.Chip.{Chip, Screen, Sound, WindowSound, chip_of, coloured, obeyed}

-- a controller with a window is sound by its screen and its mask
windowed : (cells : List ℕ) (r : Registers) (q : Rect) → r.window ≡ Some q → Screen r.size cells q r.place → r.mask < 262144 → Sound (chip_of cells r)
windowed cells r q e d m = record { window = subst (λ o. WindowSound r.size cells o r.place) (sym e) d; mask = m }

module _ (mem : List ℕ) (r : Registers) (z : Sound (chip_of mem r)) where
  screen : (q : Rect) → r.window ≡ Some q → Screen r.size mem q r.place
  screen q e = subst (λ o. WindowSound r.size mem o r.place) e z.window

  inside : (q : Rect) → r.window ≡ Some q → fits_in r.size q ≡ true
  inside q e = (screen q e).inside

  -- registers with the window and the place as they were
  kept : (t : Registers) → t.size ≡ r.size → t.window ≡ r.window → t.place ≡ r.place → t.mask < 262144 → Sound (chip_of mem t)
  kept t a b c m = record { window = rw (a, b, c) z.window; mask = m }

  window_sound : (old q : Rect) → r.window ≡ Some old → fits_in r.size q ≡ true → Sound (chip_of mem (with_window q r))
  window_sound old q e f =
      let d = screen old e in
      windowed mem (with_window q r) q refl (record { full = d.full; inside = f; holds = start_holds r.size q r.mode f; colours = d.colours }) z.mask

  place_sound : (q : Rect) (p : Place) → r.window ≡ Some q → holds_place q p ≡ true → Sound (chip_of mem (with_place p r))
  place_sound q p e h =
      let d = screen q e in
      windowed mem (with_place p r) q e (record { full = d.full; inside = d.inside; holds = h; colours = d.colours }) z.mask

  columns_sound : (v : ℕ) → Sound (chip_of mem (set_columns r.window v r))
  columns_sound v = grind (arith, nat_tests, window_sound, inside, z)

  rows_sound : (v : ℕ) → Sound (chip_of mem (set_rows r.window v r))
  rows_sound v = grind (arith, nat_tests, window_sound, inside, z)

  address_sound : (v : ℕ) → Sound (chip_of mem (set_place r.window v r))
  address_sound v = grind (arith, nat_tests, place_sound, z)

  word_sound : (v : ℕ) → Sound (chip_of mem (written v r))
  word_sound v = grind (arith, nat_tests, address_sound v, columns_sound v, rows_sound v, kept, z)

  met_sound : (c : ℕ) (q : Rect) → r.window ≡ Some q → Sound (coloured (Some q) c (chip_of mem r))
  met_sound c q e =
      let d = screen q e in
      let o = offset_at r.size r.place in
      let a = by_bgr r.bgr c in
      windowed (memory_met r.mask a o mem) (with_place (stepped q r.mode r.place) r) q e
      (record {
        full = rw (met_length r.mask a o mem) d.full;
        inside = d.inside;
        holds = step_holds q r.mode r.place d.holds;
        colours = met_colours r.mask a o mem z.mask d.colours;
      })
      z.mask

  colour_sound : (c : ℕ) → Sound (cond r.asleep (chip_of mem r) (coloured r.window c (chip_of mem r)))
  colour_sound c = grind (arith, nat_tests, met_sound c, z)

pub obeyed_sound : (i : Item) (s : Chip) → Sound s → Sound (obeyed i s)
obeyed_sound (Index i) s z = record { window = z.window; mask = z.mask }
obeyed_sound (Word v) s z = word_sound s.memory s.registers z v
obeyed_sound (Colour c) s z = colour_sound s.memory s.registers z c

-- only an index changes the index
pub word_index : (v : ℕ) (s : Chip) → (obeyed (Word v) s).registers.index ≡ s.registers.index
word_index v s = grind (arith, nat_tests)

pub colour_index : (c : ℕ) (s : Chip) → (obeyed (Colour c) s).registers.index ≡ s.registers.index
colour_index c s = grind (arith, nat_tests)

-- at power-on, with every cell 0
pub fitted_sound : (n : ℕ) (s : Size) → fits_memory s n ≡ true → Sound (chip_of (replicate n 0) (power_on s))
fitted_sound n s e =
    windowed (replicate n 0) (power_on s) (record { left = 0; top = 0; right = s.width - 1; bottom = s.height - 1 }) (grind (arith, nat_tests))
    (record {
      full = rw (length-replicate {A = ℕ} n 0) e;
      inside = grind (arith, nat_tests);
      holds = grind (arith, nat_tests);
      colours = λ k l. grind (arith, get_or-replicate, length-replicate {A = ℕ} n 0);
    })
    (omega arith)

-- a screen of 0 × 0, whatever its memory
pub unfitted_sound : (mem : List ℕ) → Sound (chip_of mem (power_on (record { width = 0; height = 0 })))
unfitted_sound mem = record { window = (refl, refl); mask = omega arith }
