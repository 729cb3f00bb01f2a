use Rattle.edr_chunk.proofs.SampleLists.{whole_back}
use Rattle.edr_chunk.proofs.widths.I64Width.of.Goals as goal

pub returns : goal.returns
returns c = whole_back c.args._floor c.args.value c.unwrap_or.result c.requires.value c.unwrap_or.ensures
