use Rattle.std.proofs.Common.{refl, sym, ◌∙◌}
use Rattle.std.proofs.lemmas.Bool.{false≢true}
use Rattle.edr_base.proofs.PlanLemmas.{no_room, reads_untold}
use Rattle.edr_base.proofs.real_link.RealLinkSource.read.Goals as goal

pub returns : goal.returns
returns g c =
    let e = c.read_from.ensures in
    rw c.in-Some.is (record {
      bound = e.bound;
      empty = λ none. absurd (no_room _ c.if-is_empty.ensures (sym c.read_from.auto.buf ∙ none));
      bytes = reads_untold c.read_from.result c.read_from.new.buf;
      lent = record { same = refl; later = e.later };
      cause = e.cause;
      idle = λ idle. absurd (false≢true idle);
      passes = e.passes;
      counts = e.counts;
    })
