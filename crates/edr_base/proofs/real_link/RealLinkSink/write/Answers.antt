use Rattle.std.proofs.Common.{refl}
use Rattle.std.proofs.lemmas.Bool.{false≢true}
use Rattle.edr_base.proofs.PlanLemmas.{no_room, appended_untold}
use Rattle.edr_base.proofs.real_link.RealLinkSink.write.Goals as goal

pub returns : goal.returns
returns g c =
    let e = c.write_to.ensures in
    rw c.in-Some.is (record {
      bound = e.bound;
      empty = λ none. absurd (no_room _ c.if-is_empty.ensures none);
      bytes = appended_untold c.write_to.result c.args.piece.now;
      flushed = refl;
      lent = record { same = refl; later = e.later };
      cause = e.cause;
      idle = λ idle. absurd (false≢true idle);
      passes = e.passes;
      counts = e.failed;
    })
