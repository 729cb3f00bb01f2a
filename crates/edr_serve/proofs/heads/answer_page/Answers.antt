use Rattle.std.proofs.Common.{rules, ◌≡◌}
use Rattle.std.specs.Arc.{arc_value}
use Rattle.edr_serve.proofs.OneReply.{on_err, page_answered, page_fault, page_untaken}
use Rattle.edr_serve.proofs.heads.answer_page.Goals as goal

pub returns-clause-done : goal.returns-clause-done
returns-clause-done g c =
    let same : arc_value c.in_ok-edition.edition ≡ c.deref.result.now = search rules in
    page_answered c.reply_from.result c.args.is_head c.args.page c.args.end c.deref.result.now (arc_value c.in_ok-edition.edition) _ _ _ _ _ _ same
    c.in_ok-edition.ensures.grows c.in_ok-edition.ensures.last c.in_ok-edition.ensures.ascending c.in_ok-edition.ensures.taken c.reply_from.ensures.bytes c.reply_from.ensures.report

pub returns-clause-broke : goal.returns-clause-broke
returns-clause-broke g c =
    let same : arc_value c.in_ok-edition.edition ≡ c.deref.result.now = search rules in
    page_fault c.reply_from.result c.args.is_head c.args.page c.args.end c.deref.result.now (arc_value c.in_ok-edition.edition) _ _ _ _ _ _ same
    c.in_ok-edition.ensures.grows c.in_ok-edition.ensures.last c.in_ok-edition.ensures.ascending c.in_ok-edition.ensures.taken c.reply_from.ensures.bytes

pub returns-in_err-edition-clause-broke : goal.returns-in_err-edition-clause-broke
returns-in_err-edition-clause-broke g c =
    on_err c.from_residual.result _ (page_untaken _ _ _ _ _ _ c.in_err-edition.ensures.grows c.in_err-edition.ensures.ascending c.in_err-edition.ensures.taken)
