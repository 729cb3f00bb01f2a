use Rattle.std.proofs.Common.{ℕ, List, ◌++◌, ◌∷◌, codes, ap, ◌∙◌}
use Rattle.std.proofs.lemmas.Result.{IfOk-weaker}
use Rattle.percent_encoding.specs.Percent.{percent_encode as escaped}
use Rattle.edr_query.specs.declared.addresses.TheConstants.{ID_SET as IDS}
use Rattle.edr_describe.specs.Describing.{linked}
use Rattle.edr_describe.proofs.Parts.{locations_path_is}
use Rattle.edr_describe.proofs.queries.locations_link.Goals as goal

pub returns : goal.returns
returns c =
    let path = ap (λ (l : List ℕ). l ++ 47 ∷ escaped IDS (codes "locations")) (c.as_str.ensures.value ∙ c.in_ok-path.ensures) in
    IfOk-weaker c.linked_tree.result _ _ (λ v is. is ∙ ap linked (path ∙ locations_path_is c.args.collection.now)) c.linked_tree.ensures
