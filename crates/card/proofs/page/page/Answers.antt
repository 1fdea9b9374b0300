use Rattle.card.proofs.Written.{page_done}
use Rattle.card.proofs.page.page.Goals as goal

pub returns : goal.returns
returns c =
    page_done c.new-3.result.id _ _ _ _ _ _ _ _ c.in_ok-add_card.field-0 c.in_ok-add_card-2.field-0 c.in_ok-add_card-3.field-0 c.in_ok-add_card-4.field-0 c.in_ok-add_card-5.field-0 _
    c.new-3.ensures.id c.new-text.ensures.bytes
    c.in_ok-add_card.ensures c.in_ok-add_card-2.ensures c.in_ok-add_card-3.ensures c.in_ok-add_card-4.ensures c.in_ok-add_card-5.ensures
    c.agree.ensures c.closing.ensures c.in_ok-push_str.ensures.bytes
