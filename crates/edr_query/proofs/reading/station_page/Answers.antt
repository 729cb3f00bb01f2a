use Rattle.edr_query.proofs.QueryLemmas.{bare_location}
use Rattle.edr_query.proofs.reading.station_page.Goals as goal

pub ask-requires : goal.ask-requires
ask-requires c = bare_location c.args.collection c.args.station c.args.parameters.now c.args.said c.requires.parts c.requires.said
