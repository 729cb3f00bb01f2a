use Rattle.std.proofs.Common.{rules, ◌≡◌}
use Rattle.edr_query.specs.declared.pages.Page.TheVariants.{Ask}
use Rattle.edr_serve.proofs.ReplyTexts.{renamed}
use Rattle.edr_serve.proofs.replying.reply_page.Goals as goal

pub returns-in-Ask-clause-bytes : goal.returns-in-Ask-clause-bytes
returns-in-Ask-clause-bytes g c =
    let number : c.number.result ≡ c.args.edition.now.number = search rules in
    let page : Ask c.in-Ask.query ≡ c.args.page = search rules in
    renamed c.reply_query.result _ _ c.args.edition.now (Ask c.in-Ask.query) c.args.page c.number.result c.args.edition.now.number c.args.is_head c.args.close page number c.reply_query.ensures.bytes
