use Rattle.std.proofs.Common.{rules}
use Rattle.edr_base.specs.LentParts.{held_name}
use Rattle.edr_http.proofs.chunked_sink.send_gathered.Goals as goal

pub returns-clause-bytes : goal.returns-clause-bytes
returns-clause-bytes g c =
    let wrote = c.end_after.ensures.bytes c.args.text.now (g.K.Sink.written c.args.sink.now) _ (search rules) (search rules) (search rules) c.send_whole-outcome.ensures.bytes in
    search (rules, held_name)
