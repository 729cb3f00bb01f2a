use Rattle.std.proofs.Common.{◌≡◌, ◌∙◌, ◌+◌, ◌≤◌, ℕ, true, false, Some, length, arith, below_more, rules, sym, to_z, of_z, w64}
use Rattle.edr_geometry.specs.Masks.{spot_at}
use Rattle.edr_corridor.specs.Segments.{segment_takes, at_segment, any_segment}
use Rattle.edr_corridor.proofs.Lines.{some_passes, none_passes, taken_at}
use Rattle.edr_corridor.proofs.segments.Segments.wants.Goals as goal

pub returns-then-takes : goal.returns-then-takes
returns-then-takes c =
    let s = c.args.self.now in let k = c.loop-number.number in
    let t : to_z w64 (of_z w64 c.args.t) ≡ c.args.t = search rules in
    let y : to_z w64 (of_z w64 c.args.y) ≡ c.args.y = search rules in
    let x : to_z w64 (of_z w64 c.args.x) ≡ c.args.x = search rules in
    let test = segment_takes s true true (Some (to_z w64 (of_z w64 c.args.t))) c.args.z (spot_at (to_z w64 (of_z w64 c.args.y)) (to_z w64 (of_z w64 c.args.x))) in
    let passes : at_segment test s.line k ≡ true =
    taken_at s k c.segment.result (Some (to_z w64 (of_z w64 c.args.t))) c.args.z (spot_at (to_z w64 (of_z w64 c.args.y)) (to_z w64 (of_z w64 c.args.x))) c.segment.ensures.at ∙ sym c.takes.ensures ∙ c.if-takes.true in
    let some : any_segment test s.line ≡ true = some_passes test s.line k passes in
    sym (rw (t, y, x) at some)

pub loop-number-preserved : goal.loop-number-preserved
loop-number-preserved c =
    let s = c.args.self.now in let k = c.loop-number.number in
    let test = segment_takes s true true (Some (to_z w64 (of_z w64 c.args.t))) c.args.z (spot_at (to_z w64 (of_z w64 c.args.y)) (to_z w64 (of_z w64 c.args.x))) in
    below_more (λ n. at_segment test s.line n ≡ false) k c.loop-number.invariant
    (taken_at s k c.segment.result (Some (to_z w64 (of_z w64 c.args.t))) c.args.z (spot_at (to_z w64 (of_z w64 c.args.y)) (to_z w64 (of_z w64 c.args.x))) c.segment.ensures.at ∙ sym c.takes.ensures ∙ c.if-takes.false)

pub returns : goal.returns
returns c =
    let s = c.args.self.now in let k : ℕ = c.loop-number.number in
    let t : to_z w64 (of_z w64 c.args.t) ≡ c.args.t = search rules in
    let y : to_z w64 (of_z w64 c.args.y) ≡ c.args.y = search rules in
    let x : to_z w64 (of_z w64 c.args.x) ≡ c.args.x = search rules in
    let test = segment_takes s true true (Some (to_z w64 (of_z w64 c.args.t))) c.args.z (spot_at (to_z w64 (of_z w64 c.args.y)) (to_z w64 (of_z w64 c.args.x))) in
    let many : length s.line ≤ k + 1 = omega (arith, c.loop-number-test.false, c.len-number-end.ensures) in
    let none : any_segment test s.line ≡ false = none_passes test s.line k many c.loop-number.invariant in
    sym (rw (t, y, x) at none)
