use Rattle.std.proofs.Common.{◌≡◌, ◌∙◌, ◌<◌, ℕ, false, get_or, ap, ap₂, sym}
use Rattle.std.specs.Prelude.{◌||◌}
use Rattle.std.specs.List.{filter, range_with_len}
use Rattle.std.proofs.lemmas.Result.{IfOk-weaker}
use Rattle.edr_corridor.specs.Boxes.{GridAxes, level_at}
use Rattle.edr_axes.specs.Axes.{axis_length}
use Rattle.edr_select.specs.Choices.{level_places}
use Rattle.edr_select.specs.Wanted.{takes_level}
use Rattle.edr_lines.proofs.AskedAxes.{is_among, told, all_low, same_count, corridor_levels}
use Rattle.edr_lines.proofs.corridors.levels_asked.Goals as goal

pub are_among-requires : goal.are_among-requires
are_among-requires c =
    let q = c.args.query.now in let zs = c.args.axes.now.zs in
    let is : c.deref.result.now ≡ filter (λ z. takes_level q.levels (level_at zs z)) (range_with_len 0 (axis_length zs)) =
    c.deref.ensures.value ∙ c.in_ok-places.ensures ∙ ap₂ level_places (corridor_levels q c.requires.corridor) (ap (λ (a : GridAxes). a.zs) c.axes.view_is)
    ∙ ap (λ n. filter (λ z. takes_level q.levels (level_at zs z)) (range_with_len 0 n)) (sym (same_count zs)) in
    all_low (λ z. takes_level q.levels (level_at zs z)) (axis_length zs) c.level_count-2.result c.deref.result.now c.level_count-2.ensures is

pub returns-clause-asked : goal.returns-clause-asked
returns-clause-asked c =
    let q = c.args.query.now in let zs = c.args.axes.now.zs in
    let is : c.deref.result.now ≡ filter (λ z. takes_level q.levels (level_at zs z)) (range_with_len 0 (axis_length zs)) =
    c.deref.ensures.value ∙ c.in_ok-places.ensures ∙ ap₂ level_places (corridor_levels q c.requires.corridor) (ap (λ (a : GridAxes). a.zs) c.axes.view_is)
    ∙ ap (λ n. filter (λ z. takes_level q.levels (level_at zs z)) (range_with_len 0 n)) (sym (same_count zs)) in
    IfOk-weaker c.are_among.result (λ among. (k : ℕ) → k < c.level_count-2.result → get_or among.items k false ≡ is_among c.deref.result.now k)
    (λ asked. (z : ℕ) → z < axis_length zs → get_or asked.items z false ≡ (c.args.has_each || takes_level q.levels (level_at zs z)))
    (λ asked h z low. told (λ z. takes_level q.levels (level_at zs z)) (axis_length zs) c.level_count-2.result c.deref.result.now asked.items c.level_count-2.ensures is h z low
    ∙ ap (λ b. b || takes_level q.levels (level_at zs z)) (sym c.if-has_each.false)) c.are_among.ensures.among
