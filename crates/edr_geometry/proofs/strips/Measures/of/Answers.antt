use Rattle.std.proofs.Common.{◌≡◌, ◌≤◌, ◌∙◌, ◌-ℤ◌, ◌+ℤ◌, ◌*ℤ◌, pos, ap, ap₂, sym, subst, arith, rules, int_le, to_z, of_z, w64}
use Rattle.std.specs.Int.RustNames.{unsigned_abs}
use Rattle.jiff_core.proofs.SignedLemmas.{signed_arith}
use Rattle.edr_base.specs.Boxes.{is_between}
use Rattle.edr_geometry.proofs.Products.{opposite_square}
use Rattle.edr_geometry.proofs.SpanLemmas.{back}
use Rattle.edr_geometry.proofs.strips.Measures.of.Goals as goal

pub returns-clause-are : goal.returns-clause-are
returns-clause-are c =
    let g = c.args.segment in let way = c.of-way.result in let r = c.radius_of.result in let k = c.breadth_of.result in
    let length : to_z w64 (of_z w64 c.along.result) ≡ c.along.result = search rules in
    let radius : to_z w64 (of_z w64 r) ≡ r = (let small = c.radius_of.ensures.small in back r (omega (arith, small))) in
    let breadth : to_z w64 (of_z w64 k) ≡ k = (let small = c.breadth_of.ensures.small in back k (omega (arith, small))) in
    let columns : way.x *ℤ way.x ≡ (g.a.x -ℤ g.b.x) *ℤ (g.a.x -ℤ g.b.x) = ap (λ z. z *ℤ z) c.of-way.ensures.x ∙ opposite_square (g.b.x -ℤ g.a.x) (g.a.x -ℤ g.b.x) (omega (arith, signed_arith)) in
    let rows : way.y *ℤ way.y ≡ (g.a.y -ℤ g.b.y) *ℤ (g.a.y -ℤ g.b.y) = ap (λ z. z *ℤ z) c.of-way.ensures.y ∙ opposite_square (g.b.y -ℤ g.a.y) (g.a.y -ℤ g.b.y) (omega (arith, signed_arith)) in
    record {
      segment = c.requires;
      x = c.of-way.ensures.x;
      y = c.of-way.ensures.y;
      length = length ∙ c.along.ensures ∙ ap₂ (λ m n. m +ℤ n) columns rows;
      radius_in = subst (λ z. unsigned_abs z ≤ 40_000_000_000_000_000) (sym radius) c.radius_of.ensures.small;
      radius = λ d. ap (λ z. int_le d z) radius ∙ c.radius_of.ensures.near d;
      breadth_in = subst (λ z. unsigned_abs z ≤ 60_000_000_000_000_000) (sym breadth) c.breadth_of.ensures.small;
      breadth = λ s. ap (λ z. is_between (pos 0 -ℤ z) z s) breadth ∙ c.breadth_of.ensures.near s;
    }
