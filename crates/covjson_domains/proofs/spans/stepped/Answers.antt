use Rattle.std.proofs.Common.{rules, to_z, of_z, ◌≡◌, ◌∙◌, arith, pos, ◌+ℤ◌, ◌*ℤ◌, [], ◌∷◌, ◌++◌, Ok, sym, ap, add-one}
use Rattle.std.proofs.lemmas.Int.{to_z-of_z, to_z_pos, fits_signed_from_abs}
use mir.Syntax.{w64}
use Rattle.covjson_domains.specs.AxisAnswers.{stepped}
use Rattle.covjson_domains.proofs.SpanLemmas.{between_ends, step_size, stepped_more}
use Rattle.covjson_domains.proofs.spans.stepped.Goals as goal

pub overflow_mul-place : goal.overflow_mul-place
overflow_mul-place c =
    let place = c.loop-place.place in
    let a = c.args in
    let place_is = to_z_pos w64 place (omega arith) in
    let step_is = to_z-of_z w64 a.step c.ranges.step in
    rw (place_is, step_is)
    (fits_signed_from_abs w64 (pos place *ℤ a.step) (omega (arith, step_size a.first a.step place a.count (omega arith) c.requires.first c.requires.last)))

pub overflow_add-first : goal.overflow_add-first
overflow_add-first c =
    let place = c.loop-place.place in
    let a = c.args in
    let far = pos place *ℤ a.step in
    let place_is = to_z_pos w64 place (omega arith) in
    let step_is = to_z-of_z w64 a.step c.ranges.step in
    let first_is = to_z-of_z w64 a.first c.ranges.first in
    let far_is = to_z-of_z w64 far (fits_signed_from_abs w64 far (omega (arith, step_size a.first a.step place a.count (omega arith) c.requires.first c.requires.last))) in
    rw (place_is, step_is, first_is, far_is)
    (fits_signed_from_abs w64 (a.first +ℤ far) (omega (arith, between_ends a.first a.step place a.count (omega arith) c.requires.first c.requires.last)))

pub loop-place-preserved : goal.loop-place-preserved
loop-place-preserved c =
    let place = c.loop-place.place in
    let a = c.args in
    let far = pos place *ℤ a.step in
    let value = a.first +ℤ far in
    let inside = between_ends a.first a.step place a.count (omega arith) c.requires.first c.requires.last in
    let place_is = to_z_pos w64 place (omega arith) in
    let step_is = to_z-of_z w64 a.step c.ranges.step in
    let first_is = to_z-of_z w64 a.first c.ranges.first in
    let far_is = to_z-of_z w64 far (fits_signed_from_abs w64 far (omega (arith, step_size a.first a.step place a.count (omega arith) c.requires.first c.requires.last))) in
    let value_is = to_z-of_z w64 value (fits_signed_from_abs w64 value (omega (arith, inside))) in
    let old = c.loop-place.values.items in
    let given : c.push.new.self.items ≡ old ++ to_z w64 (of_z w64 (to_z w64 (of_z w64 a.first) +ℤ to_z w64 (of_z w64 (to_z w64 place *ℤ to_z w64 (of_z w64 a.step))))) ∷ [] = search rules in
    let pushed : c.push.new.self.items ≡ old ++ value ∷ [] = rw (place_is, step_is, first_is, far_is, value_is) at given in
    let before : old ≡ stepped a.first a.step place = rw (step_is, first_is) at c.loop-place.invariant in
    rw (step_is, first_is, pushed, add-one) (ap (λ vs. vs ++ value ∷ []) before ∙ sym (stepped_more a.first a.step place))

pub returns : goal.returns
returns c =
    let a = c.args in
    let step_is = to_z-of_z w64 a.step c.ranges.step in
    let first_is = to_z-of_z w64 a.first c.ranges.first in
    let all : c.loop-place.values.items ≡ stepped a.first a.step c.loop-place.place = rw (step_is, first_is) at c.loop-place.invariant in
    let ended : c.loop-place.place ≡ a.count = omega arith in
    sym (ap Ok (all ∙ ap (λ n. stepped a.first a.step n) ended))
