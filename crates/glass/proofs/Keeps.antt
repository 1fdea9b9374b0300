-- An accepted call leaves a glass that can be.
use Rattle.std.proofs.Common.{◌≡◌, ℕ, ◌<◌, Bool, false, cond, eqb, None, Option, refl, arith}
use Rattle.std.proofs.lemmas.Bool.Decides.{nat_tests}
use Rattle.pixel.specs.declared.mode.Mode.{Mode}
use Rattle.pixel.specs.declared.rect.Place.{Place}
use Rattle.pixel.specs.declared.rect.Rect.{Rect}
use Rattle.pixel.specs.declared.rect.Size.{Size}
use Rattle.pixel.specs.Colours.{bit}
use Rattle.pixel.specs.Modes.{mode_number, mode_of}
use Rattle.pixel.proofs.Meeting.{met_bits, met_fits}
use Rattle.pixel.proofs.Windows.{start_holds, step_holds}
use Rattle.glass.specs.Panels.{Panel, Possible, WindowRule}
use Rattle.glass.specs.Calls.{FrameTaken, frame_number, frame_refusal, framed, go_number, gone, ink_number, inked, same_place, slept}

-- a mode of three flags has a number below 8
pub mode_below : (m : Mode) → mode_number m < 8
mode_below m = grind (arith, nat_tests)

-- what an accepted frame has shown of its arguments
pub frame_taken : (asleep : Bool) (s : Size) (r : Rect) (m k : ℕ) → frame_refusal asleep s r m k ≡ 0 → FrameTaken asleep s r m k
frame_taken asleep s r m k e = record { awake = grind (arith, nat_tests); inside = grind (arith, nat_tests); mode_fits = grind (arith, nat_tests); mask_fits = grind (arith, nat_tests) }

pub frame_keeps : (r : Rect) (m k : ℕ) (p : Panel) → frame_number r m k p ≡ 0 → Possible p → Possible (framed r m k p)
frame_keeps r m k p e z =
    record {
      size = z.size;
      window = grind (arith, nat_tests, start_holds);
      mode = mode_below (mode_of m);
      cells = z.cells;
      carried = z.carried;
    }

pub go_keeps : (at : Place) (p : Panel) → go_number at p ≡ 0 → Possible p → Possible (gone at p)
go_keeps at p e z =
    record {
      size = z.size;
      window = grind (arith, nat_tests, z.window);
      mode = z.mode;
      cells = z.cells;
      carried = z.carried;
    }

-- with a window or without, the mask has 18 bits
pub mask_below : (s : Size) (o : Option Rect) (a : Place) (m : Mode) (k : ℕ) → WindowRule s o a m k → k < 262144
mask_below s o a m k w = grind (arith, nat_tests)

pub ink_kept : (c : ℕ) (p : Panel) → Possible p → Possible (inked c p)
ink_kept c p z =
    let k = mask_below p.size p.window p.place p.mode p.mask z.window in
    record {
      size = z.size;
      window = grind (arith, nat_tests, z.window, step_holds);
      mode = z.mode;
      cells = λ at a b. grind (arith, nat_tests, met_fits, k, z.cells at a b);
      carried = z.carried;
    }

pub ink_keeps : (c : ℕ) (p : Panel) → ink_number c p ≡ 0 → Possible p → Possible (inked c p)
ink_keeps c p e z = ink_kept c p z

pub sleep_keeps : (sleeps : Bool) (p : Panel) → Possible p → Possible (slept sleeps p)
sleep_keeps sleeps p z = record { size = z.size; window = z.window; mode = z.mode; cells = z.cells; carried = z.carried }

pub ink_elsewhere : (c : ℕ) (p : Panel) (at : Place) → same_place p.place at ≡ false → (inked c p).cell at ≡ p.cell at
ink_elsewhere c p at e = rw e refl

pub ink_there : (c k : ℕ) (p : Panel) → k < 18 → bit k ((inked c p).cell p.place) ≡ cond (eqb (bit k p.mask) 1) (bit k (p.cell p.place)) (bit k (p.carried c))
ink_there c k p h = grind (arith, nat_tests, met_bits)

pub nowhere : (at : Place) (p : Panel) → p.asleep ≡ false → p.window ≡ None → go_number at p ≡ 4
nowhere at p a w = rw (a, w) refl

pub no_ink : (c : ℕ) (p : Panel) → p.asleep ≡ false → p.window ≡ None → ink_number c p ≡ 3
no_ink c p a w = rw (a, w) refl
