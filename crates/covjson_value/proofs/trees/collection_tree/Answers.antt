use Rattle.std.proofs.Common.{◌≡◌, codes, map, ap, ◌∙◌, sym, subst, arith}
use Rattle.std.proofs.lemmas.List.{take_all}
use Rattle.std.proofs.lemmas.Result.{IfOk-weaker}
use Rattle.serde_json.specs.Data.{Data, array, string, object, Members, no_members, put}
use Rattle.serde_json.specs.View.{items_of, members_view}
use Rattle.serde_json.proofs.Views.{view-Array}
use Rattle.covjson_value.specs.Coverages.{IsValid}
use Rattle.covjson_value.specs.Trees.{array_of, coverage_data, collection_data}
use Rattle.covjson_value.proofs.Gathered.{views_more}
use Rattle.covjson_value.proofs.trees.collection_tree.Goals as goal

-- its coverages and its type are the collection's object
made : (none all : Members) (tree coverages : Data) → none ≡ no_members → all ≡ put (codes "coverages") tree none → tree ≡ coverages
    → object (put (codes "type") (string (codes "CoverageCollection")) all) ≡ collection_data coverages
made none all tree coverages empty put_all is =
    ap (λ ms. object (put (codes "type") (string (codes "CoverageCollection")) ms)) (put_all ∙ ap (put (codes "coverages") tree) empty) ∙ ap collection_data is

pub returns : goal.returns
returns c =
    let gathered =
    view-Array c.loop-coverage.items
    ∙ ap (λ ds. array (items_of ds)) (c.loop-coverage.invariant ∙ ap (map coverage_data) (take_all _ _ (omega arith))) in
    IfOk-weaker c.typed_object.result _ _
    (λ v is. is ∙ made _ _ _ (array_of coverage_data c.args.coverages.now) (ap members_view c.new-members.ensures.empty) c.in_ok-put_tree.ensures gathered) c.typed_object.ensures

pub tree_of-requires : goal.tree_of-requires
tree_of-requires c =
    subst IsValid (sym c.coverage-item.is) (c.requires c.loop-coverage.coverage-index c.coverage-item.result c.loop-coverage-test.true)

pub loop-coverage-preserved : goal.loop-coverage-preserved
loop-coverage-preserved c =
    views_more coverage_data c.args.coverages.now c.loop-coverage.coverage-index c.coverage-item.result c.loop-coverage.items.items c.push_tree.new.trees.items _ c.loop-coverage-test.true c.loop-coverage.invariant
    (c.in_ok-tree_of.ensures.tree ∙ ap coverage_data c.coverage-item.is) c.in_ok-push_tree.ensures
