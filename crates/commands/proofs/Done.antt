-- What each call's items leave in the controller is what the call leaves of a glass.
use Rattle.std.proofs.Common.{◌≡◌, ℕ, ◌+◌, ◌*◌, ◌<◌, Bool, true, false, List, [], ◌∷◌, length, Some, None, Option, refl, arith}
use Rattle.std.proofs.lemmas.Bool.Decides.{nat_tests}
use Rattle.std.proofs.lemmas.List.{get_or-replicate, length-replicate}
use Rattle.pixel.specs.declared.rect.Place.{Place}
use Rattle.pixel.specs.declared.rect.Rect.{Rect}
use Rattle.pixel.specs.declared.rect.Size.{Size}
use Rattle.pixel.specs.Addresses.{address_of, offset_at}
use Rattle.pixel.specs.Modes.{mode_of, stepped}
use Rattle.pixel.specs.Rects.{holds_place}
use Rattle.pixel.proofs.Places.{index_below}
use Rattle.cells.specs.Memory.{memory_met}
use Rattle.cells.specs.Sizes.{fitted_size}
use Rattle.cells.proofs.Mets.{met_length}
use Rattle.link.specs.declared.Item.{Item}
use Rattle.link.specs.Formats.{Format}
use Rattle.registers.specs.declared.Registers.{Registers}
use Rattle.registers.specs.Registers.{with_index, with_place, with_sleep}
use Rattle.registers.specs.Chip.{Chip, Screen, Sound, chip_of, obeyed}
use Rattle.registers.proofs.Keeps.{obeyed_sound}
use Rattle.lgdp4522.specs.Wired.{fitted_chip}
use Rattle.lgdp4522.proofs.Sounds.{fitted_sound}
use Rattle.host.specs.Sent.{all_obeyed, as_carried, expected}
use Rattle.glass.specs.Calls.{FrameTaken, GoTaken, InkTaken, framed, gone, inked, slept}
use Rattle.glass.specs.Panels.{Panel, Possible, Same, new_panel}
use Rattle.glass.proofs.Keeps.{mode_below}
use Rattle.glass.proofs.Pictures.{met_held}
use Rattle.glass.proofs.Sames.{same_itself}
use Rattle.commands.specs.Commands.{frame_items, go_items, ink_items, sleep_items}
use Rattle.commands.specs.Shown.{Aimed, ChipReached, chip_panel}
use Rattle.commands.proofs.Leaves.{frame_leaves}

module _ (o : Option Rect) (s : Chip) (z : ChipReached o s) where
  -- the screen of a controller with a window
  framing : (q : Rect) → o ≡ Some q → Screen s.registers.size s.memory q s.registers.place
  framing q e = let a = rw e at z.aimed in rw a.0 at z.sound.window

  -- a place in the window lies in the first 256 columns and rows
  pub narrow : (q : Rect) (at : Place) → o ≡ Some q → holds_place q at ≡ true → (at.x < 256) × (at.y < 256)
  narrow q at e within = let d = framing q e in (grind (arith, nat_tests), grind (arith, nat_tests))

pub possible_of : (o : Option Rect) (f : ℕ → ℕ) (s : Chip) → ((c : ℕ) → f c < 262144) → ChipReached o s → Possible (chip_panel o f s)
possible_of o f s fit z =
    record {
      size = z.size;
      window = grind (arith, nat_tests, framing o s z);
      mode = mode_below (chip_panel o f s).mode;
      cells = λ at a b. grind (arith, nat_tests, index_below);
      carried = λ c h. fit c;
    }

module _ {B : Type 0} (v : Format B) where
  -- items keep a controller sound
  all_sound : (is : List Item) (s : Chip) → Sound s → Sound (all_obeyed v is s)
  all_sound [] s z = z
  all_sound (i ∷ is) s z = all_sound is (obeyed (as_carried v i) s) (obeyed_sound (as_carried v i) s z)

  -- what a call's items do: each is taken for what it is, and they leave a state that is reached, and the panel p
  pub record Done (is : List Item) (s : Chip) (o : Option Rect) (p : Panel) : Type 0 where
    pub taken : expected s.registers.index is ≡ true
    pub stays : ChipReached o (all_obeyed v is s)
    pub after : Same (chip_panel o v.carried (all_obeyed v is s)) p

  module _ (o : Option Rect) (s : Chip) (z : ChipReached o s) where
    abbrev r : Registers
    r = s.registers

    abbrev panel : Panel
    panel = chip_panel o v.carried s

    -- from the controller t that the items leave
    done_by : {is : List Item} {t : Chip} {u : Option Rect} {p : Panel} → expected r.index is ≡ true → all_obeyed v is s ≡ t → t.registers.size ≡ r.size → length t.memory ≡ length s.memory → t.registers.bgr ≡ false → Aimed u t.registers → Same (chip_panel u v.carried t) p → Done is s u p
    done_by {is = is} x e a l b c same = record {
      taken = x;
      stays = rw e (record { sound = rw e at (all_sound is s z.sound); size = rw a z.size; served = rw (a, l) z.served; bgr = b; aimed = c });
      after = rw e same;
    }

    pub frame_done : (q : Rect) (m k : ℕ) → FrameTaken r.asleep r.size q m k → Done (frame_items q (mode_of m) k) s (Some q) (framed q m k panel)
    frame_done q m k d = done_by (grind (arith, nat_tests)) (frame_leaves v s q (mode_of m) k z.sound d.awake d.inside d.mask_fits) refl refl refl (refl, refl) (same_itself _)

    pub go_done : (q : Rect) (at : Place) → GoTaken r.asleep o at q → Done (go_items at) s o (gone at panel)
    go_done q at d =
        let a = rw d.window at z.aimed in
        let h = narrow o s z q at d.window d.within in
        rw d.window (done_by {t = chip_of s.memory (with_index 34 (with_place at r))} (grind (arith, nat_tests)) (grind (arith, nat_tests)) refl refl z.bgr (a.0, refl) (same_itself _))

    pub ink_done : (q : Rect) (c : ℕ) → InkTaken r.asleep o c q → Done (ink_items c) s o (inked c panel)
    ink_done q c d =
        let a = rw d.window at z.aimed in
        let g = framing o s z q d.window in
        rw d.window
        (done_by {t = chip_of (memory_met r.mask (v.carried c) (offset_at r.size r.place) s.memory) (with_place (stepped q r.mode r.place) r)} (grind (arith, nat_tests)) (rw (d.awake, a.0, z.bgr) refl) refl (grind (arith, met_length)) z.bgr a
        (record { size = refl; cells = λ at x y. grind (arith, nat_tests, met_held); window = refl; place = refl; mode = refl; mask = refl; asleep = refl; carried = refl }))

    pub rest_done : (b : Bool) → Done (sleep_items b) s o (slept b panel)
    rest_done b = done_by {t = chip_of s.memory (with_index 34 (with_sleep b r))} (grind (arith, nat_tests)) (grind (arith, nat_tests)) refl refl z.bgr (grind (arith, nat_tests)) (same_itself _)

-- a place in the window has an address
pub address_there : (q : Rect) (at : Place) (s : Chip) → holds_place q at ≡ true → ChipReached (Some q) s → address_of at ≡ Some (record { number = at.y * 256 + at.x })
address_there q at s within z = let n = narrow (Some q) s z q at refl within in grind (arith, nat_tests)

-- a fitted controller, on which no frame was set, is a new glass
pub fit_done : (s : Size) (cells : List ℕ) (f f0 : ℕ → ℕ) (t : Chip) → f ≡ f0 → t ≡ fitted_chip s cells → record { stays : ChipReached None t; after : Same (chip_panel None f t) (new_panel (fitted_size s (length cells)) f0) }
fit_done s cells f f0 t same e =
    rw (e, same)
    (record {
      stays = record { sound = fitted_sound s cells; size = grind (arith, nat_tests); served = grind (arith, nat_tests, length-replicate); bgr = grind (arith, nat_tests); aimed = tt };
      after = record { size = grind (arith, nat_tests); cells = λ at a b. grind (arith, nat_tests, index_below, get_or-replicate); window = refl; place = refl; mode = refl; mask = refl; asleep = grind (arith, nat_tests); carried = refl };
    })
