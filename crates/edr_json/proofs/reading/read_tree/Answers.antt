use Rattle.edr_json.proofs.reading.read_tree.Goals as goal

pub returns-clause-none : goal.returns-clause-none
returns-clause-none c = λ is tree json. let none = c.read_tree.ensures.none is json.utf8 in let some = json.tree_is in cc
