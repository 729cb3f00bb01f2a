use Rattle.edr_reply.proofs.FieldLemmas.{field_tells}
use Rattle.edr_reply.proofs.fields.number_in.Goals as goal

pub returns-in-Some : goal.returns-in-Some
returns-in-Some c = field_tells c.args.name.now _ c.in-Some.value.now c.number_of.result c.in-Some.ensures c.number_of.ensures
