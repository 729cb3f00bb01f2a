use Rattle.std.proofs.Common.{refl}
use Rattle.std.proofs.lemmas.Bool.{false≢true}
use Rattle.edr_base.proofs.PlanLemmas.{flushed_untold}
use Rattle.edr_base.proofs.real_link.RealLinkSink.flush.Goals as goal

pub returns : goal.returns
returns g c =
    let e = c.flush_of.ensures in
    rw c.in-Some.is (record {
      bytes = refl;
      flushed = flushed_untold c.flush_of.result;
      lent = record { same = refl; later = e.later };
      cause = e.cause;
      idle = λ idle. absurd (false≢true idle);
      passes = e.passes;
      counts = e.counts;
    })
