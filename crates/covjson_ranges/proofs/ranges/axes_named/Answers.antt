use Rattle.std.proofs.Common.{arith, ◌≡◌, ◌<◌, ◌++◌, [], ◌∷◌, length, get_or, inl, ap, ◌∙◌}
use Rattle.std.proofs.lemmas.Result.{err_from_is_err_and}
use Rattle.edr_samples.specs.Trees.{items_view}
use Rattle.covjson_checks.specs.Answers.{each}
use Rattle.covjson_checks.specs.CheckLaws.{each_more, each_stops}
use Rattle.covjson_ranges.specs.RangeAnswers.{axis_named}
use Rattle.covjson_ranges.proofs.ranges.axes_named.Goals as goal

pub returns-in_err-name : goal.returns-in_err-name
returns-in_err-name c =
    let xs = c.args.items.now.items in
    let i = c.loop-item.item-index in
    let x = c.item-item.result in
    let p = err_from_is_err_and c.from_residual.result c.from_residual.ensures.1 in
    let inside : i < length xs = omega arith in
    let is : x ≡ get_or xs i x = c.item-item.is ∙ ap (λ ys. get_or ys i x) c.deref-item-items.ensures.value in
    rw (p.1, p.2) (inl (each_stops axis_named xs i x c.loop-item.names.items c.in_err-name.field-0.0 (each axis_named (items_view xs)) inside is c.in_err-name.ensures c.loop-item.invariant))

pub loop-item-preserved : goal.loop-item-preserved
loop-item-preserved c =
    let xs = c.args.items.now.items in
    let i = c.loop-item.item-index in
    let x = c.item-item.result in
    let names = c.loop-item.names.items in
    let name = c.in_ok-name.name in
    let pushed : c.push.new.self.items ≡ names ++ name ∷ [] = c.in_ok-push.ensures.items in
    let inside : i < length xs = omega arith in
    let is : x ≡ get_or xs i x = c.item-item.is ∙ ap (λ ys. get_or ys i x) c.deref-item-items.ensures.value in
    each_more axis_named xs i x names c.push.new.self.items name (each axis_named (items_view xs)) inside is c.in_ok-name.ensures pushed c.loop-item.invariant
