use Rattle.edr_draft.proofs.StepLaws.{same_others}
use Rattle.edr_draft.proofs.steps.with_grid.Goals as goal

pub of-requires-clause-grid : goal.of-requires-clause-grid
of-requires-clause-grid c =
    let f = c.requires.fits in
    record { valid = c.requires.coverage; grid = f.domain; times = f.times; few = f.few }

pub with_instance-requires-clause-kind : goal.with_instance-requires-clause-kind
with_instance-requires-clause-kind c = c.requires.fits.kind

pub with_instance-requires-clause-same : goal.with_instance-requires-clause-same
with_instance-requires-clause-same c = same_others c.args.collection.now c.args.id c.args.coverage c.in_ok-instance.instance c.requires.fits.same c.in_ok-instance.ensures
