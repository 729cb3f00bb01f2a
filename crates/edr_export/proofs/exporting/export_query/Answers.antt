use Rattle.std.proofs.Common.{rules}
use Rattle.std.proofs.lemmas.Result.{err_from_is_err_and}
use Rattle.edr_export.proofs.ExportLemmas.{table_is, sent_in_part}
use Rattle.edr_export.proofs.exporting.export_query.Goals as goal

pub returns-clause-written : goal.returns-clause-written
returns-clause-written g c = (_, table_is c.written_values_are_read.ensures c.args.edition.now c.args.query.now _ c.in_ok-document.ensures, c.in_ok-write_rows.ensures.table.whole)

pub returns-in_err-write_rows-clause-written : goal.returns-in_err-write_rows-clause-written
returns-in_err-write_rows-clause-written g c =
    let p = err_from_is_err_and c.from_residual-in_err-write_rows.result c.from_residual-in_err-write_rows.ensures.1 in
    rw (p.1, p.2) (sent_in_part (Unit {0}) _ _ _ _ _ (table_is c.written_values_are_read.ensures c.args.edition.now c.args.query.now _ c.in_ok-document.ensures) c.in_err-write_rows.ensures.table.front)
