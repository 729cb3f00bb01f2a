use Rattle.std.proofs.Common.{rules, ◌≡◌, ◌+◌, ◌-◌, ◌*◌, ℕ, ℤ, List, [], Option, Ok, refl, sym, subst, ap, ◌∙◌, arith}
use Rattle.std.specs.List.{flat_map, range_with_len}
use Rattle.std.specs.Io.KnownBytes.{append_known}
use Rattle.edr_base.specs.Calls.{Front, Writes}
use Rattle.edr_base.specs.declared.sending.SendFault.{SendFault}
use Rattle.edr_base.specs.KnownBytes.{append_nothing, front_none, writes_on}
use Rattle.covjson_write.specs.Pieces.{values_from}
use Rattle.covjson_write.specs.Writers.{WriterValue, with_values}
use Rattle.edr_make.specs.Made.{row_values}
use Rattle.edr_make.proofs.MadeLists.{no_list}
use Rattle.edr_make.proofs.MadeTexts.{none_written, row_written, row_room, next_row, all_rows, stops}
use Rattle.edr_make.proofs.made_values.write_rows.Goals as goal

pub loop-row-init : goal.loop-row-init
loop-row-init g c = record {
  writer = none_written c.args.writer.now c.args.columns;
  text = λ result new wrote.
      subst (λ (l : List ℕ). Writes result l (g.K.Sink.written c.args.sink.now) new) (all_rows c.args.number c.args.rows c.args.columns) wrote;
  lent = search rules;
}

pub write_row-requires-clause-room : goal.write_row-requires-clause-room
write_row-requires-clause-room g c =
    let values : c.loop-row.writer.values ≡ c.args.writer.now.values + c.loop-row.row * c.args.columns = ap (λ (w : WriterValue). w.values) c.loop-row.invariant.writer in
    let head : c.loop-row.writer.head.count ≡ c.args.writer.now.head.count = ap (λ (w : WriterValue). w.head.count) c.loop-row.invariant.writer in
    omega (arith, values, head, c.requires.none, row_room c.loop-row.row c.args.rows c.args.columns c.args.writer.now.head.count c.loop-row-test.true c.requires.room)

pub returns-in_err-write_row-clause-bytes : goal.returns-in_err-write_row-clause-bytes
returns-in_err-write_row-clause-bytes g c =
    let number : ℕ = c.args.number in
    let columns : ℕ = c.args.columns in
    let row : ℕ = c.loop-row.row in
    let before = g.K.Sink.written c.loop-row.sink in
    let after = g.K.Sink.written c.write_row.new.sink in
    let piece : List ℕ = values_from (row * columns) (row_values number columns row) in
    let rest : List ℕ = values_from ((row + 1) * columns) (flat_map (row_values number columns) (range_with_len (row + 1) (c.args.rows - (row + 1)))) in
    let place : c.loop-row.writer.values ≡ row * columns = ap (λ (w : WriterValue). w.values) c.loop-row.invariant.writer ∙ omega (arith, c.requires.none) in
    let front : Front piece before after = subst (λ (n : ℕ). Front (values_from n (row_values number columns row)) before after) place c.write_row.ensures.bytes.front in
    c.loop-row.invariant.text c.from_residual.result after
    (subst (λ (l : List ℕ). Writes c.from_residual.result l before after) (sym (next_row number c.args.rows columns row c.loop-row-test.true))
    (stops c.from_residual.result before after piece rest c.from_residual.ensures.0 front))

pub loop-row-preserved : goal.loop-row-preserved
loop-row-preserved g c =
    let number : ℕ = c.args.number in
    let columns : ℕ = c.args.columns in
    let row : ℕ = c.loop-row.row in
    let before = g.K.Sink.written c.loop-row.sink in
    let after = g.K.Sink.written c.write_row.new.sink in
    let piece : List ℕ = values_from (row * columns) (row_values number columns row) in
    let rest : List ℕ = values_from ((row + 1) * columns) (flat_map (row_values number columns) (range_with_len (row + 1) (c.args.rows - (row + 1)))) in
    let place : c.loop-row.writer.values ≡ row * columns = ap (λ (w : WriterValue). w.values) c.loop-row.invariant.writer ∙ omega (arith, c.requires.none) in
    let grew : after ≡ append_known before piece = subst (λ (n : ℕ). after ≡ append_known before (values_from n (row_values number columns row))) place c.in_ok-write_row.ensures.bytes.whole in
    record {
      writer = c.in_ok-write_row.ensures.writer ∙ ap (λ (w : WriterValue). with_values w columns) c.loop-row.invariant.writer ∙ row_written c.args.writer.now row columns;
      text = λ result new wrote.
          c.loop-row.invariant.text result new
          (subst (λ (l : List ℕ). Writes result l before new) (sym (next_row number c.args.rows columns row c.loop-row-test.true))
          (writes_on result before after new piece rest grew wrote));
      lent = search rules;
    }

pub returns-clause-bytes : goal.returns-clause-bytes
returns-clause-bytes g c =
    let now = g.K.Sink.written c.loop-row.sink in
    let none = no_list (row_values c.args.number c.args.columns) c.loop-row.row c.args.rows c.loop-row-test.false in
    c.loop-row.invariant.text (Ok tt) now
    (subst (λ (values : List (Option ℤ)). Writes {T = Unit {0}} {E = SendFault} (Ok tt) (values_from (c.loop-row.row * c.args.columns) values) now now) (sym none)
    (record { whole = append_nothing now; front = front_none now now [] refl }))
