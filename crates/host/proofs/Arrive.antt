-- Signals taken in order, and the items that they come to.
use Rattle.std.proofs.Common.{◌≡◌, ℕ, ◌+◌, ◌-◌, ◌^◌, ◌<◌, ◌≤◌, zero, suc, min, Bool, true, false, List, [], ◌∷◌, ◌++◌, length, get_or, drop, is_some, is_ok, Some, Option, Result, sym, refl, ap, ◌∙◌, subst, append-nil, arith}
use Rattle.std.specs.List.{slice_get, AllByRecursion}
use Rattle.std.proofs.lemmas.List.{at_drop_more, at_drop_all}
use Rattle.std.proofs.lemmas.Option.{get_or_from_slice_get, slice_get_cases}
use Rattle.std.proofs.lemmas.Bool.Decides.{nat_tests}
use Rattle.link.specs.declared.Item.{Item}
use Rattle.link.specs.declared.Item.TheVariants.{Index, Word, Colour}
use Rattle.link.specs.declared.LinkFault.{LinkFault}
use Rattle.link.specs.Items.{select_level}
use Rattle.link.specs.Formats.{Arrives, Format, Lawful, taken, took}
use Rattle.registers.specs.Chip.{Chip, at_22h, obeyed}
use Rattle.registers.proofs.Keeps.{colour_index, word_index}
use Rattle.lgdp4522.specs.Wired.{Signal, Wired, after_all, after_beat, after_one, beat_answer, obeyed_if, selected, wired_of}
use Rattle.lgdp4522.proofs.Sounds.{format_kept}
use Rattle.host.specs.Sent.{Went, all_obeyed, as_carried, beat_signals, beats_of, expected, item_signals, signals}

pub after_append : {B : Type 0} (xs ys : List (Signal B)) (s : Wired B) → after_all (xs ++ ys) s ≡ after_all ys (after_all xs s)
after_append [] ys s = refl
after_append (x ∷ xs) ys s = after_append xs ys (after_one x s)

-- the beats of an item leave what the item leaves
beats_arrive : {B : Type 0} (high : Bool) (bs : List B) (i : Item) (s : Wired B) → Arrives s.link.format (at_22h s.chip) high s.link.held bs i → (after_all (beat_signals high bs) s).chip ≡ obeyed i s.chip
beats_arrive high [] i s a = absurd a
beats_arrive high (b ∷ []) i s a = ap (λ r. obeyed_if r s.chip) a
beats_arrive high (b ∷ c ∷ bs) i s a =
    ap (λ x. (after_all (beat_signals high (c ∷ bs)) (wired_of (took (taken high b) s.link) x)).chip) (ap (λ r. obeyed_if r s.chip) a.0)
    ∙ beats_arrive high (c ∷ bs) i (wired_of (took (taken high b) s.link) s.chip) a.1

-- one item in range, where the index is 22h or is not
abbrev Fits : Item → Bool → Type 0
Fits (Index n) is_22h = n < 128
Fits (Word n) is_22h = (n < 65536) × (is_22h ≡ false)
Fits (Colour n) is_22h = (n < 262144) × (is_22h ≡ true)

item_arrives : {B : Type 0} (w c : ℕ) (i : Item) (t : Wired B) → Lawful w c t.link.format → Fits i (at_22h t.chip) → (after_all (item_signals t.link.format i) t).chip ≡ obeyed (as_carried t.link.format i) t.chip
item_arrives w c (Index n) t law e = beats_arrive false (t.link.format.beats (Index n)) (Index n) (selected t) (law.index (at_22h t.chip) n e)
item_arrives w c (Word n) t law e = beats_arrive true (t.link.format.beats (Word n)) (Word n) (selected t) (rw e.1 (law.word n e.0))
item_arrives w c (Colour n) t law e = beats_arrive true (t.link.format.beats (Colour n)) (Colour (t.link.format.carried n)) (selected t) (rw e.1 (law.colour n e.0))

-- the first of expected items is one, and so are the others once it is obeyed
first_fits : {B : Type 0} (f : Format B) (i : Item) (is : List Item) (s : Chip) → expected s.registers.index (i ∷ is) ≡ true → Fits i (at_22h s) × (expected (obeyed (as_carried f i) s).registers.index is ≡ true)
first_fits f (Index n) is s e = (grind (arith, nat_tests), grind (arith, nat_tests))
first_fits f (Word n) is s e = ((grind (arith, nat_tests), grind (arith, nat_tests)), grind (arith, nat_tests, word_index n s))
first_fits f (Colour n) is s e = ((grind (arith, nat_tests), grind (arith, nat_tests)), grind (arith, nat_tests, colour_index (f.carried n) s))

pub items_arrive : {B : Type 0} (w c : ℕ) (f : Format B) (is : List Item) (t : Wired B) → Lawful w c f → t.link.format ≡ f → expected t.chip.registers.index is ≡ true → (after_all (signals f is) t).chip ≡ all_obeyed f is t.chip
items_arrive w c f [] t law same e = refl
items_arrive w c f (i ∷ is) t law same e =
    let q = after_all (item_signals f i) t in
    let p = first_fits f i is t.chip e in
    let kept : q.link.format ≡ f = format_kept (item_signals f i) t ∙ same in
    let one : q.chip ≡ obeyed (as_carried f i) t.chip =
    subst (λ g. (after_all (item_signals g i) t).chip ≡ obeyed (as_carried g i) t.chip) same (item_arrives w c i t (subst (Lawful w c) (sym same) law) p.0) in
    ap (λ x. x.chip) (after_append (item_signals f i) (signals f is) t)
    ∙ items_arrive w c f is q law kept (ap (λ c. expected c.registers.index is) one ∙ p.1)
    ∙ ap (λ c. all_obeyed f is c) one

-- what was sent, went
pub went : {B : Type 0} (w c : ℕ) (is : List Item) (s t : Wired B) → Lawful w c s.link.format → t ≡ after_all (signals s.link.format is) s → Went is s t
went w c is s t law e = record { same_format = ap (λ v. v.link.format) e ∙ format_kept (signals s.link.format is) s; beats = e; arrived = λ x. ap (λ v. v.chip) e ∙ items_arrive w c s.link.format is s law refl x }

-- within a list there is an element, and what holds of each holds of it
pub beat_there : {B : Type 0} (f v : Format B) (i : Item) (n k : ℕ) (o : Option B) → v ≡ f → n < k → k ≡ length (f.beats i) → o ≡ slice_get (v.beats i) n → is_some o ≡ true
beat_there f v i n k o same h ek e = rw (e, same) (grind (arith, slice_get_cases (f.beats i) n))

pub all_at : {X : Type 0} (P : X → Type 0) (xs : List X) (n : ℕ) (x : X) → AllByRecursion P xs → slice_get xs n ≡ Some x → P x
all_at P [] n x a e = cc
all_at P (y ∷ ys) zero x a e = let same : y ≡ x = cc in subst P same a.0
all_at P (y ∷ ys) (suc n) x a e = all_at P ys n x a.1 e

-- a host's beat is never refused
pub accepted : {B : Type 0} {w c : ℕ} (f v : Format B) (i : Item) (n : ℕ) (b : B) (r : Result (Unit {0}) LinkFault) → Lawful w c f → v ≡ f → Some b ≡ slice_get (v.beats i) n → r ≡ beat_answer v b → is_ok r ≡ true
accepted f v i n b r law same e a =
    let w : f.wide b ≡ false = all_at (λ x. f.wide x ≡ false) (f.beats i) n b (law.narrow i) (sym (e ∙ ap (λ g. slice_get (g.beats i) n) same)) in
    rw (a, same, w) refl

-- what two equal links answer
pub counted_by : {L B : Type 0} (format : L → Format B) (l l2 : L) (i : Item) (k : ℕ) → k ≡ length ((format l).beats i) → l ≡ l2 → k ≡ length ((format l2).beats i)
counted_by format l l2 i k e same = e ∙ ap (λ m. length ((format m).beats i)) same

pub beat_by : {L B : Type 0} (format : L → Format B) (l l2 : L) (i : Item) (n : ℕ) (o : Option B) (b : B) → o ≡ Some b → o ≡ slice_get ((format l).beats i) n → l ≡ l2 → Some b ≡ slice_get ((format l2).beats i) n
beat_by format l l2 i n o b is e same = sym is ∙ e ∙ ap (λ m. slice_get ((format m).beats i) n) same

-- one turn of the loop over beats
pub beat_again : {B : Type 0} (bs : List B) (high : Bool) (n : ℕ) (b : B) (s s2 e : Wired B) → n < length bs → Some b ≡ slice_get bs n → s2 ≡ after_beat (taken high b) s → after_all (beat_signals high (drop n bs)) s ≡ e → after_all (beat_signals high (drop (n + 1) bs)) s2 ≡ e
beat_again bs high n b s s2 e h eb es inv =
    let is : get_or bs n b ≡ b = get_or_from_slice_get bs n b b (sym eb) in
    ap (λ t. after_all (beat_signals high (drop (n + 1) bs)) t) (es ∙ ap (λ x. after_beat (taken high x) s) (sym is))
    ∙ sym (at_drop_more (λ l. after_all (beat_signals high l) s) bs n b h)
    ∙ inv

-- and its end
pub item_sent : {B : Type 0} (f : Format B) (i : Item) (high : Bool) (n : ℕ) (s s1 s0 : Wired B) → high ≡ select_level i → length (f.beats i) ≤ n → s1 ≡ selected s0 → after_all (beat_signals high (drop n (f.beats i))) s ≡ after_all (beat_signals high (f.beats i)) s1 → s ≡ after_all (signals f (i ∷ [])) s0
item_sent f i high n s s1 s0 eh past es inv =
    sym (at_drop_all (λ l. after_all (beat_signals high l) s) (f.beats i) n past)
    ∙ inv
    ∙ ap (λ k. after_all (beat_signals k (f.beats i)) s1) eh
    ∙ ap (λ t. after_all (beat_signals (select_level i) (f.beats i)) t) es
    ∙ ap (λ xs. after_all xs s0) (sym (append-nil (item_signals f i)))

-- one turn of the loop over items
pub item_again : {B : Type 0} (f v : Format B) (is : List Item) (n : ℕ) (d : Item) (s s2 e : Wired B) → v ≡ f → n < length is → s2 ≡ after_all (signals v (get_or is n d ∷ [])) s → after_all (signals f (drop n is)) s ≡ e → after_all (signals f (drop (n + 1) is)) s2 ≡ e
item_again f v is n d s s2 e same h es inv =
    let i = get_or is n d in
    ap (λ t. after_all (signals f (drop (n + 1) is)) t) (es ∙ ap (λ g. after_all (signals g (i ∷ [])) s) same ∙ ap (λ xs. after_all xs s) (append-nil (item_signals f i)))
    ∙ sym (after_append (item_signals f i) (signals f (drop (n + 1) is)) s)
    ∙ sym (at_drop_more (λ l. after_all (signals f l) s) is n d h)
    ∙ inv

pub count_again : {B : Type 0} (f v : Format B) (is : List Item) (n : ℕ) (d : Item) (m l k e : ℕ) → v ≡ f → n < length is → l ≡ length (v.beats (get_or is n d)) → k ≡ min (m + l) (2 ^ 64 - 1) → min (m + beats_of f (drop n is)) (2 ^ 64 - 1) ≡ e → min (k + beats_of f (drop (n + 1) is)) (2 ^ 64 - 1) ≡ e
count_again f v is n d m l k e same h el ek inv =
    let more : min (m + beats_of f (drop n is)) (2 ^ 64 - 1) ≡ min (m + (length (f.beats (get_or is n d)) + beats_of f (drop (n + 1) is))) (2 ^ 64 - 1) = at_drop_more (λ l. min (m + beats_of f l) (2 ^ 64 - 1)) is n d h in
    let here : l ≡ length (f.beats (get_or is n d)) = el ∙ ap (λ g. length (g.beats (get_or is n d))) same in
    omega arith

-- and its end
pub items_sent : {B : Type 0} (w c : ℕ) (is : List Item) (n : ℕ) (s0 s : Wired B) → Lawful w c s0.link.format → length is ≤ n → after_all (signals s0.link.format (drop n is)) s ≡ after_all (signals s0.link.format is) s0 → Went is s0 s
items_sent w c is n s0 s law h inv = went w c is s0 s law (sym (at_drop_all (λ l. after_all (signals s0.link.format l) s) is n h) ∙ inv)
