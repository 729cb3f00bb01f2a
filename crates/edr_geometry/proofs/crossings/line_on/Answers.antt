use Rattle.std.proofs.Common.{◌≡◌, ◌≤◌, ◌∙◌, ◌+ℤ◌, ◌-ℤ◌, ◌*ℤ◌, ap₂, sym, subst, rules, to_z, of_z, w64}
use Rattle.std.specs.Int.RustNames.{unsigned_abs}
use Rattle.edr_geometry.proofs.StripNumbers.{coordinate_back, away_back}
use Rattle.edr_geometry.proofs.EdgeLemmas.{line_of_small}
use Rattle.edr_geometry.proofs.crossings.line_on.Goals as goal

pub returns-clause-is : goal.returns-clause-is
returns-clause-is c =
    let a = c.args.a.now in let b = c.args.b.now in let y = c.args.y in
    let y_back : to_z w64 (of_z w64 y) ≡ y = coordinate_back y c.requires.y_in in
    let a_back : to_z w64 (of_z w64 a.y) ≡ a.y = coordinate_back a.y c.requires.a_in.y in
    let x_back : to_z w64 (of_z w64 a.x) ≡ a.x = coordinate_back a.x c.requires.a_in.x in
    let away : to_z w64 (of_z w64 (y -ℤ a.y)) ≡ y -ℤ a.y = away_back y a.y c.requires.y_in c.requires.a_in.y in
    let result : to_z w64 (of_z w64 c.along.result) ≡ c.along.result = search rules in
    let is : c.along.result ≡ c.of.result.x *ℤ (y -ℤ a.y) +ℤ c.of.result.y *ℤ a.x = (let told = c.along.ensures in rw (x_back, a_back, y_back, away) at told) in
    result ∙ is ∙ ap₂ (λ m n. m *ℤ (y -ℤ a.y) +ℤ n *ℤ a.x) c.of.ensures.x c.of.ensures.y

pub returns-clause-small : goal.returns-clause-small
returns-clause-small c =
    let a = c.args.a.now in let b = c.args.b.now in let y = c.args.y in
    let y_back : to_z w64 (of_z w64 y) ≡ y = coordinate_back y c.requires.y_in in
    let a_back : to_z w64 (of_z w64 a.y) ≡ a.y = coordinate_back a.y c.requires.a_in.y in
    let x_back : to_z w64 (of_z w64 a.x) ≡ a.x = coordinate_back a.x c.requires.a_in.x in
    let away : to_z w64 (of_z w64 (y -ℤ a.y)) ≡ y -ℤ a.y = away_back y a.y c.requires.y_in c.requires.a_in.y in
    let result : to_z w64 (of_z w64 c.along.result) ≡ c.along.result = search rules in
    let is : c.along.result ≡ c.of.result.x *ℤ (y -ℤ a.y) +ℤ c.of.result.y *ℤ a.x = (let told = c.along.ensures in rw (x_back, a_back, y_back, away) at told) in
    subst (λ z. unsigned_abs z ≤ 60_000_000_000_000_000) (sym (result ∙ is ∙ ap₂ (λ m n. m *ℤ (y -ℤ a.y) +ℤ n *ℤ a.x) c.of.ensures.x c.of.ensures.y)) (line_of_small y a b c.requires.y_in c.requires.a_in c.requires.b_in)
