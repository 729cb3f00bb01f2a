use Rattle.std.proofs.Common.{◌≡◌, ◌+◌, min, refl}
use Rattle.std.proofs.lemmas.Bool.{both_ways}
use Rattle.edr_base.specs.declared.outside.Stop.TheVariants.{Failed}
use Rattle.edr_base.specs.Limits.{count_limit}
use Rattle.edr_base.proofs.PlanLemmas.{rose_by, later_by}
use Rattle.edr_base.proofs.real_files.RealFilesFiles.open.Goals as goal
use goal.{in-Failed, in_default}

pub returns-then-matches-clause-cause : goal.returns-then-matches-clause-cause
returns-then-matches-clause-cause g c =
    let counted : c.saturating_add-self.result ≡ min (c.args.self.now.faults + 1) count_limit = c.saturating_add-self.ensures in
    record { later = later_by _ _ _ c.args.self.now.fits refl counted; failed = λ _. rose_by _ _ _ refl counted }

pub returns-then-matches-clause-counts : goal.returns-then-matches-clause-counts
returns-then-matches-clause-counts g c =
    let counted : c.saturating_add-self.result ≡ min (c.args.self.now.faults + 1) count_limit = c.saturating_add-self.ensures in
    let failed : c.in-Err.stop ≡ Failed = elim c.match-matches.branch [ in-Failed w ↦ w.in-Failed.is | in_default w ↦ absurd (both_ways _ w.matches-is c.if-matches.true) ] in
    rw failed (record { fault = λ _. counted; none = λ no. absurd (no refl) })
