-- The page, piece by piece.
use Rattle.std.proofs.Common.{◌≡◌, ◌↔◌, IsTrue, Bool, true, List, ℕ, [], ◌∷◌, ◌++◌, codes, refl, ap, sym, ◌∙◌}
use Rattle.std.specs.Fmt.{digits}
use Rattle.std.proofs.lemmas.List.Elements.{All-cons, All-nil}
use Rattle.full_links.specs.FullFormats.{format_18, format_9}
use Rattle.short_links.specs.ShortFormats.{format_16, format_8, format_serial}
use Rattle.short_links.specs.declared.serial.SerialId.{SerialId}
use Rattle.short_links.specs.declared.serial.SerialId.TheVariants.{Zero}
use Rattle.card.specs.declared.Card.{Card}
use Rattle.card.specs.Cards.{card_cells, card_items, card_picture}
use Rattle.card.specs.Pages.{AllSame, card_page, card_text, verdict}

-- each link leaves the one picture
pictures : (card_cells format_18 ≡ card_picture) × (card_cells format_16 ≡ card_picture) × (card_cells format_9 ≡ card_picture) × (card_cells format_8 ≡ card_picture) × (card_cells (format_serial Zero) ≡ card_picture)
unfolding card_cells card_items
pictures = (refl, refl, refl, refl, refl)

same_pictures : (a b c d e : Card) → a.cells ≡ card_cells format_18 → b.cells ≡ card_cells format_16 → c.cells ≡ card_cells format_9 → d.cells ≡ card_cells format_8 → e.cells ≡ card_cells (format_serial Zero) → AllSame a (b ∷ c ∷ d ∷ e ∷ [])
same_pictures a b c d e ea eb ec ed ee =
    let P = λ (k : Card). k.cells ≡ a.cells in
    let one = sym (ea ∙ pictures.0) in
    All-cons P b (c ∷ d ∷ e ∷ []) (eb ∙ pictures.1 ∙ one)
    (All-cons P c (d ∷ e ∷ []) (ec ∙ pictures.2 ∙ one) (All-cons P d (e ∷ []) (ed ∙ pictures.3 ∙ one) (All-cons P e [] (ee ∙ pictures.4 ∙ one) (All-nil P))))

-- what is written is the page, byte by byte
page_is : card_text (codes "18-bit") format_18 ++ card_text (codes "16-bit") format_16 ++ card_text (codes "9-bit") format_9 ++ card_text (codes "8-bit") format_8 ++ card_text (codes "serial") (format_serial Zero) ++ verdict true ≡ card_page
unfolding card_cells card_items digits
page_is = refl

-- from what each step adds to the whole page
pub page_done : (i : SerialId) (t0 t1 t2 t3 t4 t5 t6 last : List ℕ) (a b c d e : Card) (same : Bool) → i ≡ Zero → t0 ≡ []
    → (t1 ≡ t0 ++ card_text (codes "18-bit") format_18) × (a.cells ≡ card_cells format_18)
    → (t2 ≡ t1 ++ card_text (codes "16-bit") format_16) × (b.cells ≡ card_cells format_16)
    → (t3 ≡ t2 ++ card_text (codes "9-bit") format_9) × (c.cells ≡ card_cells format_9)
    → (t4 ≡ t3 ++ card_text (codes "8-bit") format_8) × (d.cells ≡ card_cells format_8)
    → (t5 ≡ t4 ++ card_text (codes "serial") (format_serial i)) × (e.cells ≡ card_cells (format_serial i))
    → (IsTrue same ↔ AllSame a (b ∷ c ∷ d ∷ e ∷ [])) → last ≡ verdict same → t6 ≡ t5 ++ last → t6 ≡ card_page
page_done i t0 t1 t2 t3 t4 t5 t6 last a b c d e same zero e0 e1 e2 e3 e4 e5 es el e6 =
    let yes : same ≡ true = es.1 (same_pictures a b c d e e1.1 e2.1 e3.1 e4.1 (e5.1 ∙ ap (λ n. card_cells (format_serial n)) zero)) in
    rw (e6, el, yes, e5.0, zero, e4.0, e3.0, e2.0, e1.0, e0) page_is
