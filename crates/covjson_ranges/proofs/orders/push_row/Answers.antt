use Rattle.std.proofs.Common.{◌++◌, ◌∷◌, [], List, Option, ℤ, ℕ, None, map, get_or, sym, ap, ◌∙◌, append_assoc, arith}
use Rattle.covjson_ranges.specs.Orders.{below, in_row}
use Rattle.covjson_ranges.proofs.RowLemmas.{value_more}
use Rattle.covjson_ranges.proofs.orders.push_row.Goals as goal

pub number_in_row-requires : goal.number_in_row-requires
number_in_row-requires c = record {
  back = c.requires.back c.loop-place.place c.loop-place-test.true;
  fits = omega (arith, c.requires.inside c.loop-place.place c.loop-place-test.true);
}

pub loop-place-preserved : goal.loop-place-preserved
loop-place-preserved c =
    let place = c.loop-place.place in
    let old = c.args.found.now.items in
    let value = λ (k : ℕ). get_or c.args.values.now (in_row c.args.row c.args.first k) None in
    c.in_ok-push.ensures.items
    ∙ ap (λ (vs : List (Option ℤ)). vs ++ get_or c.args.values.now c.number_in_row.result None ∷ []) c.loop-place.invariant
    ∙ append_assoc old (map value (below place)) (get_or c.args.values.now c.number_in_row.result None ∷ [])
    ∙ ap (λ n. old ++ (map value (below place) ++ get_or c.args.values.now n None ∷ [])) c.number_in_row.ensures
    ∙ ap (λ (vs : List (Option ℤ)). old ++ vs) (sym (value_more value place))
