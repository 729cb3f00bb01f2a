use Rattle.std.proofs.Common.{◌≡◌, ℤ, List, [], ◌∷◌, ◌++◌, sym, ap, ◌∙◌}
use Rattle.std.specs.declared.option.Option.{Option}
use Rattle.edr_make.specs.Made.{row_values}
use Rattle.edr_make.proofs.MadeLists.{row_more}
use Rattle.edr_make.proofs.made_values.fill_row.Goals as goal

pub loop-column-preserved : goal.loop-column-preserved
loop-column-preserved c =
    let number = c.args.number in
    let row = c.args.row in
    let column = c.loop-column.column in
    c.in_ok-push.ensures.items
    ∙ (ap (λ (values : List (Option ℤ)). values ++ c.node_value.result ∷ []) c.loop-column.invariant
    ∙ (ap (λ (value : Option ℤ). row_values number column row ++ value ∷ []) c.node_value.ensures ∙ sym (row_more number row column)))
