use Rattle.covjson_write.proofs.value_texts.place_value.Goals as goal

pub returns-in-None-clause-text : goal.returns-in-None-clause-text
returns-in-None-clause-text c = rw c.in-None.is c.place_slice.ensures
