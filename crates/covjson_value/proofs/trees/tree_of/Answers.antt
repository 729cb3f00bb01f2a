use Rattle.std.proofs.Common.{◌≡◌, Option, Some, None, codes, refl, ap, ◌∙◌}
use Rattle.std.proofs.lemmas.Result.{IfOk-weaker}
use Rattle.serde_json.specs.Data.{Data, string, object, Members, no_members, put}
use Rattle.serde_json.specs.View.{members_view}
use Rattle.serde_json.specs.Written.{has_float}
use Rattle.covjson_value.specs.NoFloatLaws.{coverage-NoFloat}
use Rattle.covjson_value.specs.Puts.{put_coverage}
use Rattle.covjson_value.specs.Trees.{coverage_object}
use Rattle.covjson_value.proofs.trees.tree_of.Goals as goal

-- with its type it is the coverage's object
typed : (id : Option Data) (domain parameters ranges : Data)
    → object (put (codes "type") (string (codes "Coverage")) (put_coverage domain id parameters ranges no_members)) ≡ coverage_object domain id parameters ranges
typed None domain parameters ranges = refl
typed (Some id) domain parameters ranges = refl

made : (none all : Members) (id : Option Data) (domain parameters ranges : Data) → none ≡ no_members → all ≡ put_coverage domain id parameters ranges none
    → object (put (codes "type") (string (codes "Coverage")) all) ≡ coverage_object domain id parameters ranges
made none all id domain parameters ranges empty put_all =
    ap (λ ms. object (put (codes "type") (string (codes "Coverage")) ms)) (put_all ∙ ap (put_coverage domain id parameters ranges) empty) ∙ typed id domain parameters ranges

pub returns-clause-tree : goal.returns-clause-tree
returns-clause-tree c =
    IfOk-weaker c.typed_object.result _ _ (λ v is. is ∙ made _ _ _ _ _ _ (ap members_view c.new-members.ensures.empty) c.in_ok-put_members.ensures) c.typed_object.ensures

pub returns-clause-no_float : goal.returns-clause-no_float
returns-clause-no_float c =
    IfOk-weaker c.typed_object.result _ _
    (λ v is. ap has_float (is ∙ made _ _ _ _ _ _ (ap members_view c.new-members.ensures.empty) c.in_ok-put_members.ensures) ∙ coverage-NoFloat c.args.coverage.now) c.typed_object.ensures
