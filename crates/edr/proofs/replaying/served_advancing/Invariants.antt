use Rattle.std.proofs.Common.{◌≡◌, ◌≤◌, ◌-◌, ◌⊎◌, None, length}
use Rattle.std.specs.Io.KnownBytes.{prepend_known}
use Rattle.std.specs.Vec.Iter.{into_iter_items, into_iter_len}
use Rattle.edr_base.specs.Calls.{SinkLent, SourceLent, IsFlushed}
use Rattle.edr_http.specs.Heads.{IsBehind}
use Rattle.edr_serve.specs.Sessions.{most_behind}
use Rattle.edr.proofs.AdvanceLemmas.{Stands, Going}
use Rattle.edr.proofs.replaying.served_advancing.Given as goal

abbrev pub invariant-requests : goal.invariant-requests
invariant-requests g l =
    record {
      turn_in : (1 ≤ l.turn) × (l.turn ≤ 1001);
      stands : Stands l.fn.editions.items l.shelf (into_iter_items l.behind) l.turn;
      counted : into_iter_len l.behind ≡ length (into_iter_items l.behind);
      going : Going l.fn.editions.items l.turn (g.S.Source.left l.fn.input) (prepend_known l.inbox (g.S.Source.left l.input)) (g.K.Sink.written l.fn.output) (g.K.Sink.written l.output);
      behind : IsBehind (g.S.Source.left l.fn.input) (prepend_known l.inbox (g.S.Source.left l.input));
      few : length l.inbox ≤ most_behind None;
      flushed : (l.output ≡ l.fn.output) ⊎ IsFlushed (g.K.Sink.written l.output) (g.K.Sink.flushed l.output);
      source : SourceLent (g.S.Source.aside l.fn.input) (g.S.Source.aside l.input) (g.S.Faults.faults l.fn.input) (g.S.Faults.faults l.input);
      sink : SinkLent (g.K.Sink.beside l.fn.output) (g.K.Sink.beside l.output) (g.K.Faults.faults l.fn.output) (g.K.Faults.faults l.output);
    }

abbrev pub decreases-requests : goal.decreases-requests
decreases-requests g l = 1001 - l.turn
