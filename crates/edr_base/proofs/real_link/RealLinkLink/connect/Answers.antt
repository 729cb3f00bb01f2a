use Rattle.std.proofs.Common.{◌≡◌, ◌+◌, min, refl, ap}
use Rattle.std.proofs.lemmas.Bool.{false≢true, both_ways}
use Rattle.edr_base.specs.declared.outside.Stop.TheVariants.{Failed, OutOfMemory}
use Rattle.edr_base.specs.Limits.{count_limit}
use Rattle.edr_base.proofs.PlanLemmas.{rose_by, later_same, later_by, is_failed}
use Rattle.edr_base.proofs.real_link.RealLinkLink.connect.Goals as goal
use goal.{in-Failed, in_default}

pub returns-in-Ok : goal.returns-in-Ok
returns-in-Ok g c =
    record {
      ready = refl;
      left = tt;
      incoming = refl;
      asked = refl;
      written = (refl, refl);
      kept = (refl, refl, refl);
      cause = record { later = later_same _ _ refl; failed = λ e. absurd (false≢true (ap is_failed e)) };
      counts = record { fault = λ e. absurd (false≢true (ap is_failed e)); none = λ _. refl };
    }

pub returns-then-matches : goal.returns-then-matches
returns-then-matches g c =
    let counted : c.saturating_add-self.result ≡ min (c.args.self.now.faults + 1) count_limit = c.saturating_add-self.ensures in
    let failed : c.in-Err.stop ≡ Failed = elim c.match-matches.branch [ in-Failed w ↦ w.in-Failed.is | in_default w ↦ absurd (both_ways _ w.matches-is c.if-matches.true) ] in
    rw failed (record {
      ready = refl;
      left = tt;
      incoming = refl;
      asked = refl;
      written = (refl, refl);
      kept = (refl, refl, refl);
      cause = record { later = later_by _ _ _ c.args.self.now.fits refl counted; failed = λ _. rose_by _ _ _ refl counted };
      counts = record { fault = λ _. counted; none = λ no. absurd (no refl) };
    })

pub returns-else-matches : goal.returns-else-matches
returns-else-matches g c =
    let wanting : c.in-Err.stop ≡ OutOfMemory = elim c.match-matches.branch [ in-Failed w ↦ absurd (both_ways _ c.if-matches.false w.matches-is) | in_default w ↦ w.in_default.is ] in
    rw wanting (record {
      ready = refl;
      left = tt;
      incoming = refl;
      asked = refl;
      written = (refl, refl);
      kept = (refl, refl, refl);
      cause = record { later = later_same _ _ refl; failed = λ e. absurd (false≢true (ap is_failed e)) };
      counts = record { fault = λ e. absurd (false≢true (ap is_failed e)); none = λ _. refl };
    })
