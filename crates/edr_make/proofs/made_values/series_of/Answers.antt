use Rattle.std.proofs.Common.{◌≡◌, ℤ, List, [], ◌∷◌, ◌++◌, sym, ap, ◌∙◌}
use Rattle.std.specs.declared.option.Option.{Option}
use Rattle.edr_make.specs.Made.{series_values}
use Rattle.edr_make.proofs.MadeLists.{series_more}
use Rattle.edr_make.proofs.made_values.series_of.Goals as goal

pub loop-time-preserved : goal.loop-time-preserved
loop-time-preserved c =
    let number = c.args.number in
    let station = c.args.station in
    let time = c.loop-time.time in
    c.in_ok-push.ensures.items
    ∙ (ap (λ (values : List (Option ℤ)). values ++ c.station_value.result ∷ []) c.loop-time.invariant
    ∙ (ap (λ (value : Option ℤ). series_values number time station ++ value ∷ []) c.station_value.ensures ∙ sym (series_more number station time)))
