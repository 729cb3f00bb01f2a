use Rattle.std.proofs.Common.{sym, ◌∙◌}
use Rattle.edr_query.proofs.QueryLemmas.{shape_there, bare_query}
use Rattle.edr_query.proofs.reading.query_page.Goals as goal

pub unreachable-requires : goal.unreachable-requires
unreachable-requires c = shape_there c.args.kind c.args.parameters.now c.args.said c.requires.said (sym c.shape_of-found.ensures ∙ c.in_default.is)

pub ask-requires : goal.ask-requires
ask-requires c =
    bare_query c.args.kind c.args.collection c.args.instance c.args.parameters.now c.args.said c.in-Some.shape c.requires.parts c.requires.said
    (sym c.shape_of-found.ensures ∙ c.in-Some.is)
