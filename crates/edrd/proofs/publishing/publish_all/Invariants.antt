use Rattle.std.proofs.Common.{◌≡◌, ◌≤◌, ◌+◌, ◌++◌, [], None, false, length, take, drop, map}
use Rattle.std.specs.Prelude.{option_to_list}
use Rattle.std.specs.Vec.Iter.{into_iter_items, into_iter_len}
use Rattle.edr_base.specs.Calls.{SinkLent}
use Rattle.edrd.specs.Serving.{Continues}
use Rattle.edr_console.specs.Saying.{edition_line, output_state, SaysAll}
use Rattle.edrd.proofs.publishing.publish_all.Given as goal

abbrev pub invariant-editions : goal.invariant-editions
invariant-editions g l =
    record {
      few : l.published ≤ length (into_iter_items l.fn.job.rest);
      left : option_to_list l.next ++ into_iter_items l.job.rest ≡ drop l.published (into_iter_items l.fn.job.rest);
      counted : into_iter_len l.job.rest ≡ length (into_iter_items l.job.rest);
      ended : l.next ≡ None → into_iter_items l.job.rest ≡ [];
      numbers : Continues l.job.publisher.log (option_to_list l.next ++ into_iter_items l.job.rest);
      log : l.job.publisher.log ≡ l.fn.job.publisher.log ++ take l.published (into_iter_items l.fn.job.rest);
      granted : g.G.Gate.granted l.job.gate ≡ g.G.Gate.granted l.fn.job.gate + l.published;
      open_ : g.G.Gate.shut l.job.gate ≡ false;
      seconds : g.G.Gate.seconds l.job.gate ≡ g.G.Gate.seconds l.fn.job.gate;
      going : l.wanting ≡ false;
      said : SaysAll (map edition_line (take l.published (into_iter_items l.fn.job.rest)))
          (output_state g.O.Sink.written g.O.Sink.flushed g.O.Faults.faults l.fn.output)
          (output_state g.O.Sink.written g.O.Sink.flushed g.O.Faults.faults l.output);
      lent : SinkLent (g.O.Sink.beside l.fn.output) (g.O.Sink.beside l.output) (g.O.Faults.faults l.fn.output) (g.O.Faults.faults l.output);
    }

abbrev pub decreases-editions : goal.decreases-editions
decreases-editions g l = length (option_to_list l.next ++ into_iter_items l.job.rest)
