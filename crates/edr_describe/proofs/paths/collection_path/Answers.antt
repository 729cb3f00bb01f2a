use Rattle.std.proofs.Common.{ℕ, List, ◌++◌, ◌∷◌, codes, ap, ◌∙◌}
use Rattle.percent_encoding.specs.Percent.{percent_encode as escaped}
use Rattle.edr_query.specs.declared.addresses.TheConstants.{ID_SET as IDS}
use Rattle.edr_describe.proofs.Parts.{collection_path_is}
use Rattle.edr_describe.proofs.paths.collection_path.Goals as goal

pub returns : goal.returns
returns c =
    let id = c.args.collection.now in
    c.in_ok-push_parts.ensures
    ∙ (ap (λ (l : List ℕ). (l ++ 47 ∷ escaped IDS (codes "collections")) ++ 47 ∷ escaped IDS id) c.new-path.ensures.bytes
    ∙ collection_path_is id)
