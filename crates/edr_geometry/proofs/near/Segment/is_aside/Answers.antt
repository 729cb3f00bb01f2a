use Rattle.std.proofs.Common.{◌≡◌, ◌∙◌, ◌*◌, ◌≤◌, ◌-ℤ◌, ap, sym, subst, arith, rules}
use Rattle.std.specs.Int.RustNames.{unsigned_abs}
use Rattle.jiff_core.proofs.SignedLemmas.{signed_arith, one_part}
use Rattle.edr_geometry.specs.Planar.{cross}
use Rattle.edr_geometry.proofs.Whole.{back, cross_small}
use Rattle.edr_geometry.proofs.Aside.{aside_told}
use Rattle.edr_geometry.proofs.near.Segment.is_aside.Goals as goal

pub overflow_mul-result-2 : goal.overflow_mul-result-2
overflow_mul-result-2 c =
    let g = c.args.self.now in
    let small : unsigned_abs c.cross.result ≤ 80000000000000000 =
    subst (λ s. unsigned_abs s ≤ 80000000000000000) (sym c.cross.ensures) (cross_small c.args.p.now g.a g.b c.requires.p_in c.requires.segment.a_in c.requires.segment.b_in) in
    let is : c.unsigned_abs-4.result ≡ unsigned_abs c.cross.result = c.unsigned_abs-4.ensures.value ∙ ap unsigned_abs (back c.cross.result (omega (arith, small))) in
    let below : 2 * c.unsigned_abs-4.result ≤ 160000000000000000 = omega (arith, is, small) in
    search rules

pub returns : goal.returns
returns c = λ told.
    (let g = c.args.self.now in let p = c.args.p.now in let w = g.width in let way = c.of-way.result in
    let width_in = c.requires.segment.width_in in
    let small : unsigned_abs c.cross.result ≤ 80000000000000000 =
    subst (λ s. unsigned_abs s ≤ 80000000000000000) (sym c.cross.ensures) (cross_small p g.a g.b c.requires.p_in c.requires.segment.a_in c.requires.segment.b_in) in
    let m : c.unsigned_abs-3.result ≡ unsigned_abs w =
    c.unsigned_abs-3.ensures.value ∙ ap unsigned_abs (back w (omega (arith, signed_arith, width_in.least, width_in.greatest, one_part w))) in
    let x : c.unsigned_abs.result ≡ unsigned_abs (g.b.x -ℤ g.a.x) =
    c.unsigned_abs.ensures.value ∙ ap unsigned_abs (back way.x (omega (arith, c.of-way.ensures.small.x)) ∙ c.of-way.ensures.x) in
    let y : c.unsigned_abs-2.result ≡ unsigned_abs (g.b.y -ℤ g.a.y) =
    c.unsigned_abs-2.ensures.value ∙ ap unsigned_abs (back way.y (omega (arith, c.of-way.ensures.small.y)) ∙ c.of-way.ensures.y) in
    let s : c.unsigned_abs-4.result ≡ unsigned_abs (cross p g.a g.b) =
    c.unsigned_abs-4.ensures.value ∙ ap unsigned_abs (back c.cross.result (omega (arith, small)) ∙ c.cross.ensures) in
    aside_told p g.a g.b w c.unsigned_abs-3.result c.unsigned_abs.result c.unsigned_abs-2.result c.unsigned_abs-4.result width_in.least m x y s told)
