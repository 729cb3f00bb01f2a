use Rattle.std.proofs.Common.{arith, rules, IsTrue, Bool, subst}
use Rattle.std.proofs.lemmas.Bool.{false≢true}
use Rattle.covjson_value.proofs.Order.{AscendById-from_next, read_next, next_more, Below-read}
use Rattle.covjson_value.proofs.validity.ascend_by_id.Goals as goal

pub returns-then-not-is_below : goal.returns-then-not-is_below
returns-then-not-is_below c = (
  (λ no. absurd (false≢true no)),
  (λ ascend. let P : Bool → Type 0 = IsTrue in
      subst P c.if-not-is_below.true (c.is_below.ensures.1 (Below-read c.args.parameters.now c.loop-place.place _ _ c.loop-place.auto.place c.loop-place-test.true c.index-parameters-place.is c.index-parameters-place-in-loop-place.is ascend))),
)

pub loop-place-preserved : goal.loop-place-preserved
loop-place-preserved c =
    next_more c.args.parameters.now c.loop-place.place c.loop-place.auto.place c.loop-place.invariant
    (read_next c.args.parameters.now c.loop-place.place _ _ c.loop-place.auto.place c.loop-place-test.true c.index-parameters-place.is c.index-parameters-place-in-loop-place.is (search rules))

pub returns : goal.returns
returns c = ((λ _. AscendById-from_next c.args.parameters.now (λ k inside. c.loop-place.invariant k (omega arith))), (λ _. search rules))
