use Rattle.covjson_write.proofs.PlaceLemmas.{one_placed}
use Rattle.covjson_write.proofs.value_texts.place_one.Goals as goal

pub returns-clause-text : goal.returns-clause-text
returns-clause-text c = one_placed c.args.number c.args.sample c.place_comma-next.ensures c.place_value.ensures.text
