use Rattle.covjson_read.proofs.ReadValidity.{documents_valid}
use Rattle.covjson_read.proofs.laws.read_documents_are_valid.Goals as goal

pub returns : goal.returns
returns c = documents_valid c.texts_have_trees.ensures c.read_coverages_are_valid.ensures
