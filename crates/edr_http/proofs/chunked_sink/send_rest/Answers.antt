use Rattle.std.proofs.Common.{rules}
use Rattle.edr_http.proofs.ChunkSteps.{rest_on}
use Rattle.edr_http.proofs.chunked_sink.send_rest.Goals as goal

pub loop-sent-preserved : goal.loop-sent-preserved
loop-sent-preserved g c =
    let i = c.loop-sent.invariant in
    record {
      within = search rules;
      bytes = rest_on _ _ _ c.args.text.now c.args.sent.now c.loop-sent.sent c.in_ok-sent.field-0 i.within.0 i.bytes c.in_ok-sent.ensures.bytes;
      flushed = search rules;
      lent = search rules;
    }
