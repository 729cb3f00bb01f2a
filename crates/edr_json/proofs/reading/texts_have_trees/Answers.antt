use Rattle.edr_json.proofs.TreesOfTexts as trees
use Rattle.edr_json.proofs.reading.texts_have_trees.Goals as goal

pub returns : goal.returns
returns c = trees.texts_have_trees
