use Rattle.std.proofs.Common.{rules, ◌≡◌, ◌++◌, [], ℕ, ℤ, List, Option, FitsSigned, w64, subst, ap}
use Rattle.covjson_value.specs.declared.domains.CoordinateName.TheVariants.{T, Z}
use Rattle.covjson_value.specs.Domains.{coordinates_of}
use Rattle.covjson_value.specs.Samples.{tuple_value, tuple_node}
use Rattle.edr_table.specs.Gathering.{Gathers}
use Rattle.edr_table.specs.Turns.{line_front, line_back}
use Rattle.edr_table.proofs.LineLemmas.{line_is}
use Rattle.edr_table.proofs.TurnLemmas.{passed}
use Rattle.edr_table.proofs.rows.put_tuple.Goals as goal

pub returns-clause-line : goal.returns-clause-line
returns-clause-line g c =
    let old = g.K.Sink.written c.args.sink.now in
    let now = g.K.Sink.written c.put_line.new.sink in
    let id : List ℕ = c.args.parameter.now in
    let tuple = c.args.tuple.now in
    let names = coordinates_of c.args.domain.now in
    let t : Option ℤ = tuple_value names T c.args.turn.t tuple in
    let z : Option ℤ = tuple_value names Z c.args.turn.z tuple in
    let p : List ℕ = c.args.lines.now.gathered.items in
    let fx : FitsSigned w64 tuple.x = search rules in
    let fy : FitsSigned w64 tuple.y = search rules in
    let set : c.set_front.new.self.front.items ≡ line_front id c.time_of-t.result c.level_of-z.result tuple.y = search rules in
    let front : c.set_front.new.self.front.items ≡ line_front id t z tuple.y = rw (c.time_of-t.ensures.same, c.level_of-z.ensures) at set in
    let line : Gathers c.put_line.result (c.set_front.new.self.front.items ++ line_back tuple.x c.args.value) old now p c.put_line.new.lines.gathered.items =
    rw (← c.set_front.ensures.gathered)
    (passed (λ (n : ℤ). Gathers c.put_line.result (c.set_front.new.self.front.items ++ line_back n c.args.value) old now c.set_front.new.self.gathered.items c.put_line.new.lines.gathered.items) tuple.x fx c.put_line.ensures.line) in
    let same : c.set_front.new.self.front.items ++ line_back tuple.x c.args.value ≡ line_front id t z tuple.y ++ line_back tuple.x c.args.value = ap (λ (s : List ℕ). s ++ line_back tuple.x c.args.value) front in
    subst (λ (s : List ℕ). Gathers c.put_line.result s old now p c.put_line.new.lines.gathered.items) (line_is id (tuple_node names c.args.turn.t c.args.turn.z tuple) c.args.value []) (rw same at line)
