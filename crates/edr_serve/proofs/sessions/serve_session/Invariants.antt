use Rattle.std.proofs.Common.{◌≡◌, ◌≤◌, ◌⊎◌, None, length}
use Rattle.std.specs.Io.KnownBytes.{prepend_known}
use Rattle.edr_base.specs.Calls.{SinkLent, SourceLent, IsFlushed}
use Rattle.edr_http.specs.Heads.{IsBehind}
use Rattle.edr_serve.specs.Sessions.{state, most_behind}
use Rattle.edr_serve.proofs.Going.{Going}
use Rattle.edr_serve.proofs.sessions.serve_session.Given as goal

abbrev pub invariant-requests : goal.invariant-requests
invariant-requests g l =
    record {
      turns_in : l.turns ≤ l.fn.requests;
      going : Going l.fn.requests l.turns (g.S.Source.left l.fn.source) (prepend_known l.inbox (g.S.Source.left l.source))
          (state (g.K.Sink.written l.fn.sink) (g.E.Editions.seen l.fn.shelf) (g.E.Editions.taken l.fn.shelf))
          (state (g.K.Sink.written l.sink) (g.E.Editions.seen l.shelf) (g.E.Editions.taken l.shelf))
          l.editions.items l.reads.items;
      stock : g.E.Editions.stock l.shelf ≡ g.E.Editions.stock l.fn.shelf;
      behind : IsBehind (g.S.Source.left l.fn.source) (prepend_known l.inbox (g.S.Source.left l.source));
      few : length l.inbox ≤ most_behind None;
      flushed : (l.sink ≡ l.fn.sink) ⊎ IsFlushed (g.K.Sink.written l.sink) (g.K.Sink.flushed l.sink);
      source : SourceLent (g.S.Source.aside l.fn.source) (g.S.Source.aside l.source) (g.S.Faults.faults l.fn.source) (g.S.Faults.faults l.source);
      sink : SinkLent (g.K.Sink.beside l.fn.sink) (g.K.Sink.beside l.sink) (g.K.Faults.faults l.fn.sink) (g.K.Faults.faults l.sink);
    }

abbrev pub decreases-requests : goal.decreases-requests
decreases-requests g l = l.turns
