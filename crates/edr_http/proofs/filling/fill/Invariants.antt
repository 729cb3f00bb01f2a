use Rattle.std.proofs.Common.{◌≡◌, ◌≤◌, ◌⊎◌, length}
use Rattle.std.specs.Io.KnownBytes.{prepend_known}
use Rattle.edr_base.specs.Calls.{SourceLent}
use Rattle.edr_http.specs.Heads.{most_held}
use Rattle.edr_http.specs.Finding.{HasNoTree, LastBlock}
use Rattle.edr_http.proofs.filling.fill.Given as goal

abbrev pub invariant-loop : goal.invariant-loop
invariant-loop g l =
    record {
      turns : (l.counter ≤ length l.held) × (l.counter ≤ 16384);
      rest : prepend_known l.held (g.S.Source.left l.source) ≡ prepend_known l.fn.held (g.S.Source.left l.fn.source);
      bounded : length l.held ≤ most_held (length l.fn.held);
      lent : SourceLent (g.S.Source.aside l.fn.source) (g.S.Source.aside l.source) (g.S.Faults.faults l.fn.source) (g.S.Faults.faults l.source);
      fresh : ((l.source ≡ l.fn.source) × (l.held ≡ l.fn.held)) ⊎ (HasNoTree l.fn.held × LastBlock l.held);
    }
