use Rattle.covjson_value.proofs.trees.put_members.Goals as goal

pub parameters_tree-requires-clause-each : goal.parameters_tree-requires-clause-each
parameters_tree-requires-clause-each c = rw c.items-parameters.ensures c.requires.parameters

pub put_ranges-requires-clause-each : goal.put_ranges-requires-clause-each
put_ranges-requires-clause-each c = rw c.items-parameters.ensures c.requires.parameters

pub put_ranges-requires-clause-ascending : goal.put_ranges-requires-clause-ascending
put_ranges-requires-clause-ascending c = rw c.items-parameters.ensures c.requires.ascending

pub put_ranges-requires-clause-as_many : goal.put_ranges-requires-clause-as_many
put_ranges-requires-clause-as_many c = rw (c.items-parameters.ensures, c.items.ensures) c.requires.as_many
