use Rattle.edr_base.specs.NameLaws.{same_test}
use Rattle.covjson_read.proofs.parameters.is_named.Goals as goal

pub returns : goal.returns
returns c = rw (← c.as_bytes.ensures.value) (same_test c.is_name.result c.as_bytes.result.now c.is_name.ensures)
