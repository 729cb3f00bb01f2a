use Rattle.std.proofs.Common.{rules, ◌++◌, ℕ, List, [], subst}
use Rattle.std.proofs.lemmas.Result.{err_from_is_err_and}
use Rattle.edr_base.specs.Calls.{Front, Writes, Gathered}
use Rattle.edr_csv.specs.Tables.{table_text}
use Rattle.edr_csv.specs.Rows.{document_records}
use Rattle.edr_csv.specs.Turns.{values_text}
use Rattle.edr_csv.proofs.GatherLemmas.{gathered_end}
use Rattle.edr_csv.proofs.RecordLemmas.{document_is}
use Rattle.edr_csv.proofs.writing.write_rows.Goals as goal

pub returns-in_err-put_document-clause-table : goal.returns-in_err-put_document-clause-table
returns-in_err-put_document-clause-table g c =
    let fault = err_from_is_err_and c.from_residual-in_err-put_document.result c.from_residual-in_err-put_document.ensures.1 in
    let old = g.K.Sink.written c.args.sink.now in
    let mid = g.K.Sink.written c.put_document.new.sink in
    let front : Front (table_text (document_records c.args.document.now)) old mid =
    subst (λ (t : List ℕ). Front t old mid) (document_is c.args.document.now)
    (subst (λ (p : List ℕ). Front (p ++ values_text c.args.document.now) old mid) c.in_ok-records.ensures c.in_err-put_document.ensures.records.stopped) in
    rw fault.1 (record { whole = tt; front = front })

pub returns-clause-table : goal.returns-clause-table
returns-clause-table g c =
    let old = g.K.Sink.written c.args.sink.now in
    let mid = g.K.Sink.written c.put_document.new.sink in
    let q : List ℕ = c.put_document.new.records.gathered.items in
    let written : Writes c.send.result q mid (g.K.Sink.written c.send.new.sink) = search rules in
    let gathered : Gathered old mid q ([] ++ table_text (document_records c.args.document.now)) =
    subst (λ (t : List ℕ). Gathered old mid q t) (document_is c.args.document.now)
    (subst (λ (p : List ℕ). Gathered old mid q (p ++ values_text c.args.document.now)) c.in_ok-records.ensures c.in_ok-put_document.ensures.records.gathered) in
    gathered_end c.send.result old mid (g.K.Sink.written c.send.new.sink) q (table_text (document_records c.args.document.now)) gathered written
