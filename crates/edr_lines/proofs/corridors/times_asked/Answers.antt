use Rattle.std.proofs.Common.{◌≡◌, ◌∙◌, ◌<◌, ℕ, Some, false, length, get_or, ap, ap₂, sym}
use Rattle.std.specs.Prelude.{◌||◌}
use Rattle.std.proofs.lemmas.Result.{IfOk-weaker}
use Rattle.edr_axes.specs.Axes.{value_at}
use Rattle.edr_corridor.specs.Boxes.{GridAxes}
use Rattle.edr_query.specs.Values.{QueryValue}
use Rattle.edr_select.specs.Choices.{time_places}
use Rattle.edr_select.specs.Wanted.{takes_time}
use Rattle.edr_lines.proofs.AskedAxes.{is_among, told, all_low}
use Rattle.edr_lines.proofs.corridors.times_asked.Goals as goal

pub are_among-requires : goal.are_among-requires
are_among-requires c =
    let q = c.args.query.now in let ts = c.args.axes.now.ts in
    let many : c.len-2.result ≡ length ts = c.len-2.ensures.0 ∙ ap (λ (a : GridAxes). length a.ts) c.axes.view_is in
    let is : c.deref.result.now ≡ time_places q.times ts =
    c.deref.ensures.value ∙ c.in_ok-places.ensures ∙ ap₂ time_places (ap (λ (v : QueryValue). v.times) c.query.view_is) (ap (λ (a : GridAxes). a.ts) c.axes.view_is) in
    all_low (λ t. takes_time q.times (Some (value_at ts t))) (length ts) c.len-2.result c.deref.result.now many is

pub returns-clause-asked : goal.returns-clause-asked
returns-clause-asked c =
    let q = c.args.query.now in let ts = c.args.axes.now.ts in
    let many : c.len-2.result ≡ length ts = c.len-2.ensures.0 ∙ ap (λ (a : GridAxes). length a.ts) c.axes.view_is in
    let is : c.deref.result.now ≡ time_places q.times ts =
    c.deref.ensures.value ∙ c.in_ok-places.ensures ∙ ap₂ time_places (ap (λ (v : QueryValue). v.times) c.query.view_is) (ap (λ (a : GridAxes). a.ts) c.axes.view_is) in
    IfOk-weaker c.are_among.result (λ among. (k : ℕ) → k < c.len-2.result → get_or among.items k false ≡ is_among c.deref.result.now k)
    (λ asked. (t : ℕ) → t < length ts → get_or asked.items t false ≡ (c.args.has_m || takes_time q.times (Some (value_at ts t))))
    (λ asked h t low. told (λ t. takes_time q.times (Some (value_at ts t))) (length ts) c.len-2.result c.deref.result.now asked.items many is h t low
    ∙ ap (λ b. b || takes_time q.times (Some (value_at ts t))) (sym c.if-has_m.false)) c.are_among.ensures.among
