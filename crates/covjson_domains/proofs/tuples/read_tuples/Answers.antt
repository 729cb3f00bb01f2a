use Rattle.std.proofs.Common.{arith, ◌≡◌, ◌<◌, ◌++◌, [], ◌∷◌, length, get_or, inl, sym, ap, ◌∙◌}
use Rattle.std.proofs.lemmas.Result.{err_from_is_err_and}
use Rattle.edr_samples.specs.Trees.{items_view}
use Rattle.covjson_domains.specs.TupleAnswers.{tuples_from}
use Rattle.covjson_domains.proofs.TupleLists.{pass_first, pass_rest, read_more, read_stops, read_end}
use Rattle.covjson_domains.proofs.tuples.read_tuples.Goals as goal

pub tuple_at-requires : goal.tuple_at-requires
tuple_at-requires c =
    let names = c.args.names.now in
    let xs = c.args.items.now.items in
    let i = c.loop-place.place in
    let x = c.item-item.result in
    let inside : i < length xs = omega arith in
    let is : x ≡ get_or xs i x = c.item-item.is ∙ ap (λ ys. get_or ys i x) c.deref-item-items.ensures.value in
    pass_first names xs i x inside is c.loop-place.invariant.pass

pub returns-in_err-tuple : goal.returns-in_err-tuple
returns-in_err-tuple c =
    let names = c.args.names.now in
    let xs = c.args.items.now.items in
    let i = c.loop-place.place in
    let x = c.item-item.result in
    let p = err_from_is_err_and c.from_residual-in_err-tuple.result c.from_residual-in_err-tuple.ensures.1 in
    let inside : i < length xs = omega arith in
    let is : x ≡ get_or xs i x = c.item-item.is ∙ ap (λ ys. get_or ys i x) c.deref-item-items.ensures.value in
    rw (p.1, p.2) (inl (read_stops names xs i x c.loop-place.found.items c.in_err-tuple.field-0.0 (tuples_from names 0 (items_view xs)) inside is c.in_err-tuple.ensures c.loop-place.invariant.rest))

pub loop-place-preserved : goal.loop-place-preserved
loop-place-preserved c =
    let names = c.args.names.now in
    let xs = c.args.items.now.items in
    let i = c.loop-place.place in
    let x = c.item-item.result in
    let tuple = c.in_ok-tuple.tuple in
    let found = c.loop-place.found.items in
    let pushed : c.push.new.self.items ≡ found ++ tuple ∷ [] = c.in_ok-push.ensures.items in
    let inside : i < length xs = omega arith in
    let is : x ≡ get_or xs i x = c.item-item.is ∙ ap (λ ys. get_or ys i x) c.deref-item-items.ensures.value in
    record {
      pass = pass_rest names xs i x inside c.loop-place.invariant.pass;
      rest = sym (read_more names xs i x found c.push.new.self.items tuple inside is (sym c.in_ok-tuple.ensures) pushed) ∙ c.loop-place.invariant.rest;
    }

pub returns : goal.returns
returns c =
    let names = c.args.names.now in
    let xs = c.args.items.now.items in
    read_end names xs c.loop-place.place c.loop-place.found.items (tuples_from names 0 (items_view xs)) (omega arith) c.loop-place.invariant.rest
