use Rattle.std.proofs.Common.{◌∙◌, Bool, List, false, length, get_or, ap, sym, subst}
use Rattle.std.specs.List.{filter, range_with_len}
use Rattle.edr_select.specs.Stacks.{SidesValue}
use Rattle.edr_lines.specs.Taken.{counts_of}
use Rattle.edr_lines.specs.Boxes.{IsExtentOf, MatchPlane, SpreadValue, some_at}
use Rattle.edr_lines.proofs.Sides.{none_taken, sides_of}
use Rattle.edr_lines.proofs.stacks_taken.sides_spread.Goals as goal

pub returns-in_default : goal.returns-in_default
returns-in_default c =
    let n = counts_of c.args.axes.now in
    λ takes s. none_taken n takes c.args.spread.now s
    (subst (MatchPlane n (some_at n takes)) (sym (ap (λ (v : SpreadValue). v.extent) c.spread.view_is) ∙ c.in_default.is) s.extent)

pub returns : goal.returns
returns c =
    let n = counts_of c.args.axes.now in
    let of = c.sides_over.ensures in
    let set = λ (list : List Bool). filter (λ k. get_or list k false) (range_with_len 0 (length list)) in
    λ takes s.
    (let extent : IsExtentOf n (some_at n takes) c.in-Some.extent =
    subst (MatchPlane n (some_at n takes)) (sym (ap (λ (v : SpreadValue). v.extent) c.spread.view_is) ∙ c.in-Some.is) s.extent in
    sides_of n takes c.args.spread.now s c.in-Some.extent extent c.sides_over.result
    (ap (λ (v : SidesValue). v.times) of ∙ (c.in_ok-times.ensures ∙ ap set (c.deref.ensures.value ∙ ap (λ (v : SpreadValue). v.times) c.spread.view_is)))
    (ap (λ (v : SidesValue). v.levels) of ∙ (c.in_ok-levels.ensures ∙ ap set (c.deref-2.ensures.value ∙ ap (λ (v : SpreadValue). v.levels) c.spread.view_is)))
    (ap (λ (v : SidesValue). v.row) of) (ap (λ (v : SidesValue). v.rows) of) (ap (λ (v : SidesValue). v.column) of) (ap (λ (v : SidesValue). v.columns) of))
