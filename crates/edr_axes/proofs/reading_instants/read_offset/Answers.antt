use Rattle.edr_axes.proofs.InstantTexts.{no_offset}
use Rattle.edr_axes.proofs.reading_instants.read_offset.Goals as goal

pub returns-in_default-clause-value : goal.returns-in_default-clause-value
returns-in_default-clause-value c = no_offset c.args.text.now c.in_default.ensures.value
