use Rattle.std.proofs.Common.{◌≡◌, ◌≤◌, ◌∙◌, ◌+ℤ◌, ◌-ℤ◌, ◌*ℤ◌, sym, subst, rules, to_z, of_z, w64}
use Rattle.std.specs.Int.RustNames.{unsigned_abs}
use Rattle.edr_geometry.proofs.StripNumbers.{coordinate_back, away_back, away_fits, line_small}
use Rattle.edr_geometry.proofs.strips.Measures.line_on.Goals as goal

pub overflow_sub-y : goal.overflow_sub-y
overflow_sub-y c =
    let m = c.args.self.now in let a = m.segment.a in let y = c.args.y in let are = c.requires.are in let y_in = c.requires.y_in in
    let y_back : to_z w64 (of_z w64 y) ≡ y = coordinate_back y y_in in
    let a_back : to_z w64 (of_z w64 a.y) ≡ a.y = coordinate_back a.y are.segment.a_in.y in
    let x_back : to_z w64 (of_z w64 a.x) ≡ a.x = coordinate_back a.x are.segment.a_in.x in
    rw (a_back, y_back) (away_fits y a.y y_in are.segment.a_in.y)

pub returns-clause-small : goal.returns-clause-small
returns-clause-small c =
    let m = c.args.self.now in let a = m.segment.a in let y = c.args.y in let are = c.requires.are in let y_in = c.requires.y_in in
    let y_back : to_z w64 (of_z w64 y) ≡ y = coordinate_back y y_in in
    let a_back : to_z w64 (of_z w64 a.y) ≡ a.y = coordinate_back a.y are.segment.a_in.y in
    let x_back : to_z w64 (of_z w64 a.x) ≡ a.x = coordinate_back a.x are.segment.a_in.x in
    let away : to_z w64 (of_z w64 (y -ℤ a.y)) ≡ y -ℤ a.y = away_back y a.y y_in are.segment.a_in.y in
    let result : to_z w64 (of_z w64 c.along.result) ≡ c.along.result = search rules in
    let is : c.along.result ≡ m.way.x *ℤ (y -ℤ a.y) +ℤ m.way.y *ℤ a.x = (let told = c.along.ensures in rw (x_back, a_back, y_back, away) at told) in
    subst (λ z. unsigned_abs z ≤ 60_000_000_000_000_000) (sym (result ∙ is)) (line_small m are y y_in)

pub returns-clause-is : goal.returns-clause-is
returns-clause-is c =
    let m = c.args.self.now in let a = m.segment.a in let y = c.args.y in let are = c.requires.are in let y_in = c.requires.y_in in
    let y_back : to_z w64 (of_z w64 y) ≡ y = coordinate_back y y_in in
    let a_back : to_z w64 (of_z w64 a.y) ≡ a.y = coordinate_back a.y are.segment.a_in.y in
    let x_back : to_z w64 (of_z w64 a.x) ≡ a.x = coordinate_back a.x are.segment.a_in.x in
    let away : to_z w64 (of_z w64 (y -ℤ a.y)) ≡ y -ℤ a.y = away_back y a.y y_in are.segment.a_in.y in
    let result : to_z w64 (of_z w64 c.along.result) ≡ c.along.result = search rules in
    let is : c.along.result ≡ m.way.x *ℤ (y -ℤ a.y) +ℤ m.way.y *ℤ a.x = (let told = c.along.ensures in rw (x_back, a_back, y_back, away) at told) in
    result ∙ is
