use Rattle.std.proofs.Common.{arith, ◌≤◌, unsigned_abs, sym}
use Rattle.std.proofs.lemmas.Int.{ints}
use Rattle.edr_samples.specs.Trees.{tree_view, items_view}
use Rattle.edr_base.specs.Limits.{coordinate_limit}
use Rattle.covjson_domains.proofs.TupleLists.{number_within, number_found}
use Rattle.covjson_domains.proofs.tuples.number_of.Goals as goal

pub overflow_cast-result : goal.overflow_cast-result
overflow_cast-result c =
    let ds = items_view c.args.items.now.items in
    let number = c.in-Some-whole_of.number in
    let small : unsigned_abs number ≤ coordinate_limit =
    number_within c.args.name c.args.names.now ds (tree_view c.in-Some.value.now) number c.requires.number c.requires.within (sym c.in-Some.ensures) (sym c.in-Some-whole_of.ensures) in
    omega (arith, ints)

pub returns-in-Some-whole_of : goal.returns-in-Some-whole_of
returns-in-Some-whole_of c =
    let ds = items_view c.args.items.now.items in
    let d = tree_view c.in-Some.value.now in
    let number = c.in-Some-whole_of.number in
    let found = sym c.in-Some.ensures in
    let whole = sym c.in-Some-whole_of.ensures in
    let small : unsigned_abs number ≤ coordinate_limit = number_within c.args.name c.args.names.now ds d number c.requires.number c.requires.within found whole in
    let is = number_found c.args.name c.args.names.now ds d number found whole in
    omega (arith, ints, is)
