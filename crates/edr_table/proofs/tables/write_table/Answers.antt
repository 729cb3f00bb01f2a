use Rattle.std.proofs.Common.{rules, ◌++◌, ℕ, List, [], subst}
use Rattle.edr_base.specs.Calls.{Writes, Gathered}
use Rattle.edr_table.specs.Tables.{table_of}
use Rattle.edr_table.proofs.GatherLemmas.{gathered_end}
use Rattle.edr_table.proofs.tables.write_table.Goals as goal

pub returns-clause-table : goal.returns-clause-table
returns-clause-table g c =
    let old = g.K.Sink.written c.args.sink.now in
    let mid = g.K.Sink.written c.put_document.new.sink in
    let q : List ℕ = c.put_document.new.lines.gathered.items in
    let written : Writes c.send.result q mid (g.K.Sink.written c.send.new.sink) = search rules in
    let gathered : Gathered old mid q ([] ++ table_of c.args.document.now) =
    subst (λ (p : List ℕ). Gathered old mid q (p ++ table_of c.args.document.now)) c.new-lines.ensures c.in_ok-put_document.ensures.lines.gathered in
    gathered_end c.send.result old mid (g.K.Sink.written c.send.new.sink) q (table_of c.args.document.now) gathered written
