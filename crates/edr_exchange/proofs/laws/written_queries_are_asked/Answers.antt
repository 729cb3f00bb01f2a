use Rattle.std.proofs.Common.{Ok}
use Rattle.edr_query.specs.Spelling.{spell}
use Rattle.edr_query.specs.declared.pages.Page.TheVariants.{Ask}
use Rattle.edr_exchange.proofs.laws.written_queries_are_asked.Goals as goal

pub returns : goal.returns
returns c query asked is target =
    c.target_is_one.ensures (spell query) asked (Ok (Ask query)) target (c.written_queries_read_back.ensures query is)
