use Rattle.std.proofs.Common.{◌≡◌, ◌∷◌, Some, None, sym, ap, ◌∙◌, rules}
use Rattle.json.specs.Token as token
use Rattle.json.specs.Json.{value}
use Rattle.serde_json.specs.Data.{null}
use Rattle.serde_json.specs.Read.{of_json, converted}
use Rattle.edr_samples.specs.Trees.{tree_view}
use Rattle.edr_samples.specs.declared.trees.Tree.{Null, the_lemmas}
use Rattle.edr_samples.proofs.Lists.{sample_read}
use Rattle.edr_samples.proofs.plain_reading.null_tree.Goals as goal

pub returns-then-take_null-clause-tree : goal.returns-then-take_null-clause-tree
returns-then-take_null-clause-tree c depth =
    let rest = c.take_null.new.self in
    let is : c.args.plain.now ≡ token.null ∷ rest = c.take_null.ensures c.if-take_null.true in
    let seen : tree_view Null ≡ null = search (rules, the_lemmas) in
    ap (λ ts. converted of_json (value depth ts)) is ∙ sample_read depth token.null None rest tt ∙ ap (λ d. Some (d, rest)) (sym seen)
