use Rattle.std.proofs.Common.{◌≡◌, ◌∙◌, ◌+◌, ◌-◌, ◌≤◌, ◌++◌, ℕ, ap, sym, subst, arith, rules, Bool, List, length, take, drop, ℤ, to_z, of_z, w64}
use Rattle.edr_base.specs.Limits.{node_limit}
use Rattle.edr_axes.specs.Axes.{value_at}
use Rattle.edr_geometry.specs.Masks.{row_of}
use Rattle.edr_edition.specs.Values.{InstanceValue}
use Rattle.edr_query.specs.declared.shapes.Shape.{Shape}
use Rattle.edr_select.specs.Masks.{takes_spot, ColumnsValue, LiesInColumns, bits_at}
use Rattle.edr_select.proofs.MaskBits.{as_long, behind_is, row_is, no_row}
use Rattle.edr_select.proofs.MaskSizes.{columns_few}
use Rattle.edr_select.proofs.mask_rows.add_row.Goals as goal

pub returns-in_default-clause-found : goal.returns-in_default-clause-found
returns-in_default-clause-found c =
    let i = c.args.instance.now in let shape = c.args.shape.now in let y = c.args.y in let columns = c.args.columns.now in
    let stood : c.len-start.result ≡ length c.args.bits.now.items = search rules in
    let told : c.deref.result.now ≡ c.args.bits.now.items ++ bits_at i shape columns y = c.deref.ensures.value ∙ c.in_ok-add_taken.ensures in
    let is = behind_is c.deref.result.now c.args.bits.now.items (bits_at i shape columns y) c.len-start.result stood told in
    no_row i shape c.requires.area columns c.requires.columns y (take (length c.deref.result.now - c.len-start.result) (drop c.len-start.result c.deref.result.now)) is c.in_default.ensures

pub overflow_add-result : goal.overflow_add-result
overflow_add-result c =
    let i = c.args.instance.now in let shape = c.args.shape.now in let y = c.args.y in
    let columns : ColumnsValue = record { left = c.columns.inside.left; xs = c.columns.inside.xs } in
    let lies : LiesInColumns i shape columns = subst (LiesInColumns i shape) (sym c.columns.view_is) c.requires.columns in
    let stood : c.len-start.result ≡ length c.args.bits.now.items = search rules in
    let told : c.deref.result.now ≡ c.args.bits.now.items ++ bits_at i shape columns y = c.deref.ensures.value ∙ c.in_ok-add_taken.ensures ∙ ap (λ (k : ColumnsValue). c.args.bits.now.items ++ bits_at i shape k y) (sym c.columns.view_is) in
    let is = behind_is c.deref.result.now c.args.bits.now.items (bits_at i shape columns y) c.len-start.result stood told in
    let below : c.columns.inside.left + c.in-Some.first ≤ node_limit =
    omega (arith, c.in-Some.ensures.0.0, ap (λ (l : List Bool). length l) is, as_long i shape c.requires.area columns lies y, lies.inside, columns_few i c.requires.instance) in
    search rules

pub overflow_add-result-2 : goal.overflow_add-result-2
overflow_add-result-2 c =
    let i = c.args.instance.now in let shape = c.args.shape.now in let y = c.args.y in
    let columns : ColumnsValue = record { left = c.columns.inside.left; xs = c.columns.inside.xs } in
    let lies : LiesInColumns i shape columns = subst (LiesInColumns i shape) (sym c.columns.view_is) c.requires.columns in
    let stood : c.len-start.result ≡ length c.args.bits.now.items = search rules in
    let told : c.deref.result.now ≡ c.args.bits.now.items ++ bits_at i shape columns y = c.deref.ensures.value ∙ c.in_ok-add_taken.ensures ∙ ap (λ (k : ColumnsValue). c.args.bits.now.items ++ bits_at i shape k y) (sym c.columns.view_is) in
    let is = behind_is c.deref.result.now c.args.bits.now.items (bits_at i shape columns y) c.len-start.result stood told in
    let below : c.columns.inside.left + c.in-Some-last_taken.last ≤ node_limit =
    omega (arith, c.in-Some-last_taken.ensures.0.0, ap (λ (l : List Bool). length l) is, as_long i shape c.requires.area columns lies y, lies.inside, columns_few i c.requires.instance) in
    search rules

pub returns-clause-found : goal.returns-clause-found
returns-clause-found c =
    let i = c.args.instance.now in let shape = c.args.shape.now in let y = c.args.y in
    let columns : ColumnsValue = record { left = c.columns.inside.left; xs = c.columns.inside.xs } in
    let lies : LiesInColumns i shape columns = subst (LiesInColumns i shape) (sym c.columns.view_is) c.requires.columns in
    let stood : c.len-start.result ≡ length c.args.bits.now.items = search rules in
    let told : c.deref.result.now ≡ c.args.bits.now.items ++ bits_at i shape columns y = c.deref.ensures.value ∙ c.in_ok-add_taken.ensures ∙ ap (λ (k : ColumnsValue). c.args.bits.now.items ++ bits_at i shape k y) (sym c.columns.view_is) in
    let is = behind_is c.deref.result.now c.args.bits.now.items (bits_at i shape columns y) c.len-start.result stood told in
    row_is i shape c.requires.area columns lies y (take (length c.deref.result.now - c.len-start.result) (drop c.len-start.result c.deref.result.now)) is c.in-Some.first c.in-Some-last_taken.last c.in-Some.ensures c.in-Some-last_taken.ensures
