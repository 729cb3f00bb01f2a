use Rattle.std.proofs.Common.{◌≡◌, ◌∙◌, ◌<◌, ◌++◌, [], ◌∷◌, length, get_or, inl, ap, arith, rules}
use Rattle.std.proofs.lemmas.Result.{err_from_is_err_and}
use Rattle.edr_samples.specs.Trees.{items_view}
use Rattle.covjson_checks.specs.Answers.{each_from}
use Rattle.covjson_checks.specs.Members.{whole_within}
use Rattle.covjson_checks.specs.CheckLaws.{from_more, from_stops}
use Rattle.covjson_checks.proofs.EachLemmas.{from_done}
use Rattle.covjson_checks.proofs.members.wholes_of.Goals as goal

pub returns-in_err-whole : goal.returns-in_err-whole
returns-in_err-whole c =
    let xs = c.args.items.now.items in
    let i = c.loop-place.place in
    let x = c.item-item.result in
    let answer_at = whole_within c.args.member c.args.limit in
    let p = err_from_is_err_and c.from_residual-in_err-whole.result c.from_residual-in_err-whole.ensures.1 in
    let inside : i < length xs = omega arith in
    let is : x ≡ get_or xs i x = c.item-item.is ∙ ap (λ ys. get_or ys i x) c.deref-item-items.ensures.value in
    rw (p.1, p.2) (inl (from_stops answer_at xs i x c.loop-place.found.items c.in_err-whole.field-0.0 (each_from answer_at 0 (items_view xs)) inside is c.in_err-whole.ensures c.loop-place.invariant))

pub loop-place-preserved : goal.loop-place-preserved
loop-place-preserved c =
    let xs = c.args.items.now.items in
    let i = c.loop-place.place in
    let x = c.item-item.result in
    let found = c.loop-place.found.items in
    let answer_at = whole_within c.args.member c.args.limit in
    let inside : i < length xs = omega arith in
    let is : x ≡ get_or xs i x = c.item-item.is ∙ ap (λ ys. get_or ys i x) c.deref-item-items.ensures.value in
    let pushed : c.push.new.self.items ≡ found ++ c.in_ok-whole.whole ∷ [] = search rules in
    from_more answer_at xs i x found c.push.new.self.items c.in_ok-whole.whole (each_from answer_at 0 (items_view xs)) inside is c.in_ok-whole.ensures pushed c.loop-place.invariant

pub returns : goal.returns
returns c =
    let xs = c.args.items.now.items in
    let answer_at = whole_within c.args.member c.args.limit in
    from_done answer_at xs c.loop-place.place c.loop-place.found.items (each_from answer_at 0 (items_view xs)) (omega arith) c.loop-place.invariant
