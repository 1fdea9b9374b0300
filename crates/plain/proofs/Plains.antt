-- A fitted plain glass is one that can be, and ink keeps it so.
use Rattle.std.specs.Prelude.{◌≡◌, ℕ, ◌<◌, Bool, cond, List, length, replicate, Some, refl}
use Rattle.std.proofs.Common.{arith}
use Rattle.std.proofs.lemmas.Bool.Decides.{nat_tests}
use Rattle.std.proofs.lemmas.List.{length-replicate}
use Rattle.pixel.specs.declared.rect.Place.{Place}
use Rattle.pixel.specs.declared.rect.Rect.{Rect}
use Rattle.pixel.specs.declared.rect.Size.{Size}
use Rattle.pixel.specs.Rects.{size_of}
use Rattle.cells.specs.Sizes.{fits_memory, fitted_cells, fitted_size}
use Rattle.cells.proofs.Mets.{met_length}
use Rattle.glass.specs.Calls.{inked}
use Rattle.glass.specs.Memories.{Served, held_cell}
use Rattle.glass.specs.Panels.{Possible, Same, SizeRule, new_panel}
use Rattle.glass.proofs.Keeps.{ink_kept, mode_below}
use Rattle.glass.proofs.Pictures.{cleared_held, met_held}
use Rattle.glass.proofs.Sames.{possible_stands}
use Rattle.plain.specs.declared.PlainGlass.{PlainGlass}
use Rattle.plain.specs.Plain.{Fitted, Landed, PlainReached, plain_panel}

module _ {M : Type 0} (cells : M → List ℕ) where
  pub possible_of : (s : PlainGlass M) → PlainReached cells s → Possible (plain_panel cells s)
  possible_of s z = record { size = z.size; window = z.window; mode = mode_below s.mode; cells = z.colours; carried = λ c h. h }

  -- a colour that landed through a window
  pub ink_same : (r : Rect) (c : ℕ) (s t : PlainGlass M) → s.window ≡ Some r → Landed cells r c s t → PlainReached cells s → Same (plain_panel cells t) (inked c (plain_panel cells s))
  ink_same r c s t w d z =
      let px : s.place.x < s.size.width = grind (arith, nat_tests, z.window) in
      let py : s.place.y < s.size.height = grind (arith, nat_tests, z.window) in
      record {
        size = d.size;
        cells = λ at a b. rw (d.size, d.memory) (met_held s.size (cells s.memory) s.mask c s.place at z.served px py (rw (← d.size) a));
        window = d.window;
        place = rw (d.place, w) refl;
        mode = d.mode;
        mask = d.mask;
        asleep = d.asleep;
        carried = refl;
      }

  pub ink_stays : (r : Rect) (c : ℕ) (s t : PlainGlass M) → s.window ≡ Some r → Landed cells r c s t → PlainReached cells s → PlainReached cells t
  ink_stays r c s t w d z =
      let p = possible_stands (plain_panel cells t) (inked c (plain_panel cells s)) (ink_same r c s t w d z) (ink_kept c (plain_panel cells s) (possible_of s z)) in
      record {
        size = p.size;
        served = rw (d.size, d.memory, met_length) z.served;
        window = p.window;
        colours = p.cells;
      }

  -- a fitted glass
  pub record Made (z : Size) (n : ℕ) (s : PlainGlass M) : Type 0 where
    pub reached : PlainReached cells s
    pub new : Same (plain_panel cells s) (new_panel (fitted_size z n) (λ c. c))

  fit_cells : (b : Bool) (z : Size) (old : List ℕ) (at : Place) → fits_memory z (length old) ≡ b → at.x < (cond b z (size_of 0 0)).width → at.y < (cond b z (size_of 0 0)).height → held_cell (cond b z (size_of 0 0)) (cond b (replicate (length old) 0) old) at ≡ 0
  fit_cells b z old at e x y = grind (arith, nat_tests, cleared_held)

  fit_size : (b : Bool) (z : Size) (n : ℕ) → fits_memory z n ≡ b → SizeRule (cond b z (size_of 0 0))
  fit_size b z n e = grind (arith, nat_tests)

  fit_served : (b : Bool) (z : Size) (old : List ℕ) → fits_memory z (length old) ≡ b → Served (cond b z (size_of 0 0)) (cond b (replicate (length old) 0) old)
  fit_served b z old e = grind (arith, nat_tests, length-replicate)

  pub fit_done : (z : Size) (old : List ℕ) (s : PlainGlass M) → Fitted (fitted_size z (length old)) s → cells s.memory ≡ fitted_cells z old → Made z (length old) s
  fit_done z old s d m =
      let b = fits_memory z (length old) in
      let shown : (at : Place) → at.x < s.size.width → at.y < s.size.height → held_cell s.size (cells s.memory) at ≡ 0 =
      λ at x y. rw (d.size, m) (fit_cells b z old at refl (rw (← d.size) x) (rw (← d.size) y)) in
      record {
        reached = record {
          size = rw d.size (fit_size b z (length old) refl);
          served = rw (d.size, m) (fit_served b z old refl);
          window = rw d.window (d.place, d.mode, d.mask);
          colours = λ at x y. rw (shown at x y) (omega arith);
        };
        new = record { size = d.size; cells = shown; window = d.window; place = d.place; mode = d.mode; mask = d.mask; asleep = d.asleep; carried = refl };
      }
