use Rattle.std.proofs.Common.{◌≡◌, ◌∙◌, ◌-ℤ◌, ◌*ℤ◌, arith, refl, int_le, to_z, of_z, w64, ℤ}
use Rattle.edr_geometry.specs.Spans.{has}
use Rattle.edr_geometry.proofs.SpanLemmas.{back}
use Rattle.edr_geometry.proofs.StripLemmas.{disc_of}
use Rattle.edr_geometry.proofs.StripNumbers.{coordinate_back, away_back, away_fits, square_back, square_fits, rest_back, rest_fits, rest_small}
use Rattle.edr_geometry.proofs.strips.Measures.about_end.Goals as goal

pub overflow_sub-away : goal.overflow_sub-away
overflow_sub-away c =
    let m = c.args.self.now in let e = c.args.end.now in let y = c.args.y in
    let y_in = c.requires.y_in in let e_in = c.requires.end_in.y in let r_in = c.requires.are.radius_in in
    let y_back : to_z w64 (of_z w64 y) ≡ y = coordinate_back y y_in in
    let e_back : to_z w64 (of_z w64 e.y) ≡ e.y = coordinate_back e.y e_in in
    let x_back : to_z w64 (of_z w64 e.x) ≡ e.x = coordinate_back e.x c.requires.end_in.x in
    let away : to_z w64 (of_z w64 (y -ℤ e.y)) ≡ y -ℤ e.y = away_back y e.y y_in e_in in
    let square : to_z w64 (of_z w64 ((y -ℤ e.y) *ℤ (y -ℤ e.y))) ≡ (y -ℤ e.y) *ℤ (y -ℤ e.y) = square_back y e.y y_in e_in in
    let radius : to_z w64 (of_z w64 m.radius) ≡ m.radius = back m.radius (omega (arith, r_in)) in
    let rest : to_z w64 (of_z w64 (m.radius -ℤ (y -ℤ e.y) *ℤ (y -ℤ e.y))) ≡ m.radius -ℤ (y -ℤ e.y) *ℤ (y -ℤ e.y) = rest_back y e.y y_in e_in m.radius r_in in
    rw (y_back, e_back) (away_fits y e.y y_in e_in)

pub overflow_mul-away : goal.overflow_mul-away
overflow_mul-away c =
    let m = c.args.self.now in let e = c.args.end.now in let y = c.args.y in
    let y_in = c.requires.y_in in let e_in = c.requires.end_in.y in let r_in = c.requires.are.radius_in in
    let y_back : to_z w64 (of_z w64 y) ≡ y = coordinate_back y y_in in
    let e_back : to_z w64 (of_z w64 e.y) ≡ e.y = coordinate_back e.y e_in in
    let x_back : to_z w64 (of_z w64 e.x) ≡ e.x = coordinate_back e.x c.requires.end_in.x in
    let away : to_z w64 (of_z w64 (y -ℤ e.y)) ≡ y -ℤ e.y = away_back y e.y y_in e_in in
    let square : to_z w64 (of_z w64 ((y -ℤ e.y) *ℤ (y -ℤ e.y))) ≡ (y -ℤ e.y) *ℤ (y -ℤ e.y) = square_back y e.y y_in e_in in
    let radius : to_z w64 (of_z w64 m.radius) ≡ m.radius = back m.radius (omega (arith, r_in)) in
    let rest : to_z w64 (of_z w64 (m.radius -ℤ (y -ℤ e.y) *ℤ (y -ℤ e.y))) ≡ m.radius -ℤ (y -ℤ e.y) *ℤ (y -ℤ e.y) = rest_back y e.y y_in e_in m.radius r_in in
    rw (y_back, e_back, away) (square_fits y e.y y_in e_in)

pub overflow_sub-self : goal.overflow_sub-self
overflow_sub-self c =
    let m = c.args.self.now in let e = c.args.end.now in let y = c.args.y in
    let y_in = c.requires.y_in in let e_in = c.requires.end_in.y in let r_in = c.requires.are.radius_in in
    let y_back : to_z w64 (of_z w64 y) ≡ y = coordinate_back y y_in in
    let e_back : to_z w64 (of_z w64 e.y) ≡ e.y = coordinate_back e.y e_in in
    let x_back : to_z w64 (of_z w64 e.x) ≡ e.x = coordinate_back e.x c.requires.end_in.x in
    let away : to_z w64 (of_z w64 (y -ℤ e.y)) ≡ y -ℤ e.y = away_back y e.y y_in e_in in
    let square : to_z w64 (of_z w64 ((y -ℤ e.y) *ℤ (y -ℤ e.y))) ≡ (y -ℤ e.y) *ℤ (y -ℤ e.y) = square_back y e.y y_in e_in in
    let radius : to_z w64 (of_z w64 m.radius) ≡ m.radius = back m.radius (omega (arith, r_in)) in
    let rest : to_z w64 (of_z w64 (m.radius -ℤ (y -ℤ e.y) *ℤ (y -ℤ e.y))) ≡ m.radius -ℤ (y -ℤ e.y) *ℤ (y -ℤ e.y) = rest_back y e.y y_in e_in m.radius r_in in
    rw (radius, y_back, e_back, away, square) (rest_fits y e.y y_in e_in m.radius r_in)

pub about-requires-clause-square_in : goal.about-requires-clause-square_in
about-requires-clause-square_in c =
    let m = c.args.self.now in let e = c.args.end.now in let y = c.args.y in
    let y_in = c.requires.y_in in let e_in = c.requires.end_in.y in let r_in = c.requires.are.radius_in in
    let y_back : to_z w64 (of_z w64 y) ≡ y = coordinate_back y y_in in
    let e_back : to_z w64 (of_z w64 e.y) ≡ e.y = coordinate_back e.y e_in in
    let x_back : to_z w64 (of_z w64 e.x) ≡ e.x = coordinate_back e.x c.requires.end_in.x in
    let away : to_z w64 (of_z w64 (y -ℤ e.y)) ≡ y -ℤ e.y = away_back y e.y y_in e_in in
    let square : to_z w64 (of_z w64 ((y -ℤ e.y) *ℤ (y -ℤ e.y))) ≡ (y -ℤ e.y) *ℤ (y -ℤ e.y) = square_back y e.y y_in e_in in
    let radius : to_z w64 (of_z w64 m.radius) ≡ m.radius = back m.radius (omega (arith, r_in)) in
    let rest : to_z w64 (of_z w64 (m.radius -ℤ (y -ℤ e.y) *ℤ (y -ℤ e.y))) ≡ m.radius -ℤ (y -ℤ e.y) *ℤ (y -ℤ e.y) = rest_back y e.y y_in e_in m.radius r_in in
    let small = rest_small y e.y y_in e_in m.radius r_in in
    rw (radius, y_back, e_back, away, square, rest) (omega (arith, small))

pub returns : goal.returns
returns c =
    let m = c.args.self.now in let e = c.args.end.now in let y = c.args.y in
    let y_in = c.requires.y_in in let e_in = c.requires.end_in.y in let r_in = c.requires.are.radius_in in
    let y_back : to_z w64 (of_z w64 y) ≡ y = coordinate_back y y_in in
    let e_back : to_z w64 (of_z w64 e.y) ≡ e.y = coordinate_back e.y e_in in
    let x_back : to_z w64 (of_z w64 e.x) ≡ e.x = coordinate_back e.x c.requires.end_in.x in
    let away : to_z w64 (of_z w64 (y -ℤ e.y)) ≡ y -ℤ e.y = away_back y e.y y_in e_in in
    let square : to_z w64 (of_z w64 ((y -ℤ e.y) *ℤ (y -ℤ e.y))) ≡ (y -ℤ e.y) *ℤ (y -ℤ e.y) = square_back y e.y y_in e_in in
    let radius : to_z w64 (of_z w64 m.radius) ≡ m.radius = back m.radius (omega (arith, r_in)) in
    let rest : to_z w64 (of_z w64 (m.radius -ℤ (y -ℤ e.y) *ℤ (y -ℤ e.y))) ≡ m.radius -ℤ (y -ℤ e.y) *ℤ (y -ℤ e.y) = rest_back y e.y y_in e_in m.radius r_in in
    let told : (x : ℤ) → has c.about.result x ≡ int_le ((x -ℤ e.x) *ℤ (x -ℤ e.x)) (m.radius -ℤ (y -ℤ e.y) *ℤ (y -ℤ e.y)) = (let is = c.about.ensures in rw (radius, y_back, e_back, x_back, away, square, rest) at is) in
    λ x. told x ∙ disc_of m c.requires.are y x e (m.radius -ℤ (y -ℤ e.y) *ℤ (y -ℤ e.y)) refl
