use Rattle.std.proofs.Common.{ap, ◌∙◌}
use Rattle.std.proofs.lemmas.Result.{IfOk-weaker}
use Rattle.serde_json.specs.Written.{has_float}
use Rattle.covjson_value.specs.NoFloatLaws.{collection-NoFloat}
use Rattle.covjson_value.proofs.trees.document_tree.Goals as goal

pub returns-in-Many-clause-no_float : goal.returns-in-Many-clause-no_float
returns-in-Many-clause-no_float c =
    IfOk-weaker c.collection_tree.result _ _
    (λ v is. ap has_float is ∙ collection-NoFloat c.items.result.now) c.collection_tree.ensures
