use Rattle.std.proofs.Common.{rules, [], ℕ, ℤ, List, Option, FitsSigned, w64, to_z, of_z, subst}
use Rattle.covjson_value.specs.declared.domains.CoordinateName.TheVariants.{T, Z}
use Rattle.covjson_value.specs.Domains.{coordinates_of}
use Rattle.covjson_value.specs.Samples.{node, tuple_value, tuple_node}
use Rattle.edr_csv.specs.Gathering.{Gathers}
use Rattle.edr_csv.specs.Turns.{sample_text, sample_at}
use Rattle.edr_csv.proofs.RecordLemmas.{line_is}
use Rattle.edr_csv.proofs.TurnLemmas.{passed}
use Rattle.edr_csv.proofs.rows.put_tuple.Goals as goal

pub returns-clause-line : goal.returns-clause-line
returns-clause-line g c =
    let old = g.K.Sink.written c.args.sink.now in
    let now = g.K.Sink.written c.put_value.new.sink in
    let own : Option (List ℕ) = c.args.id.now in
    let id : List ℕ = c.args.parameter.now in
    let tuple = c.args.tuple.now in
    let names = coordinates_of c.args.domain.now in
    let t : Option ℤ = tuple_value names T c.args.turn.t tuple in
    let z : Option ℤ = tuple_value names Z c.args.turn.z tuple in
    let p : List ℕ = c.args.records.now.gathered.items in
    let q : List ℕ = c.put_value.new.records.gathered.items in
    let fx : FitsSigned w64 tuple.x = search rules in
    let fy : FitsSigned w64 tuple.y = search rules in
    let set : Gathers c.put_value.result (sample_text own (sample_at id (node c.time_of-t.result c.level_of-z.result tuple.y tuple.x) c.args.value)) old now p q =
    passed (λ (m : ℤ). Gathers c.put_value.result (sample_text own (sample_at id (node c.time_of-t.result c.level_of-z.result m tuple.x) c.args.value)) old now p q) tuple.y fy
    (passed (λ (n : ℤ). Gathers c.put_value.result (sample_text own (sample_at id (node c.time_of-t.result c.level_of-z.result (to_z w64 (of_z w64 tuple.y)) n) c.args.value)) old now p q) tuple.x fx c.put_value.ensures.record) in
    let line : Gathers c.put_value.result (sample_text own (sample_at id (node t z tuple.y tuple.x) c.args.value)) old now p q =
    rw (c.time_of-t.ensures.same, c.level_of-z.ensures) at set in
    subst (λ (s : List ℕ). Gathers c.put_value.result s old now p q) (line_is own id (tuple_node names c.args.turn.t c.args.turn.z tuple) c.args.value []) line
