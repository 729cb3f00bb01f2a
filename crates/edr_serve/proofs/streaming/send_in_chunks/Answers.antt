use Rattle.std.proofs.Common.{rules}
use Rattle.covjson_value.specs.Trees.{document_text}
use Rattle.edr_base.specs.LentParts.{held_name}
use Rattle.edr_select.specs.Documents.{document}
use Rattle.edr_serve.proofs.streaming.send_in_chunks.Goals as goal

pub returns-clause-text : goal.returns-clause-text
returns-clause-text g c =
    let wrote = c.end_after.ensures.bytes (document_text (document c.args.store.now.subject c.args.plan.now.query)) (g.K.Sink.written c.args.sink.now) _ (search rules) (search rules) (search rules) c.send-outcome.ensures.text in
    search (rules, held_name)
