use Rattle.std.proofs.Common.{refl, List, ℕ, Ok, subst}
use Rattle.edr_feed.specs.Steps.{LineRows}
use Rattle.edr_feed.specs.Readings.{progress_of}
use Rattle.edr_feed.proofs.StepLemmas.{line_named}
use Rattle.edr_feed.proofs.reading.take_line.Goals as goal

pub returns-in-Ok-clause-takes : goal.returns-in-Ok-clause-takes
returns-in-Ok-clause-takes c =
    let now = c.args.now.now in
    (subst (λ (line : List ℕ). LineRows now.number line (progress_of now.made) (Ok (progress_of c.do_line.new.now))) c.deref.ensures.value (c.in-Ok.ensures now.number), refl)

pub returns-in-Err-clause-on : goal.returns-in-Err-clause-on
returns-in-Err-clause-on c = line_named c.args.now.now.number c.in-Err.fault c.at.result c.at.ensures
