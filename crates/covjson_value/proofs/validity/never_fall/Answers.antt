use Rattle.std.proofs.Common.{arith, rules}
use Rattle.std.proofs.lemmas.Bool.{false≢true}
use Rattle.std.proofs.lemmas.Int.{ints}
use Rattle.std.proofs.lemmas.List.{length-map}
use Rattle.covjson_value.specs.declared.domains.CoordinateName.TheVariants.{T}
use Rattle.covjson_value.specs.Domains.{coordinate}
use Rattle.covjson_value.proofs.InTime.{origin, before_more, never_above}
use Rattle.covjson_value.proofs.validity.never_fall.Goals as goal

pub returns-then-tuples-place : goal.returns-then-tuples-place
returns-then-tuples-place c = (
  (λ no. absurd (false≢true no)),
  (λ never. absurd (omega (arith, ints, never_above c.args.tuples.now c.loop-place.place origin c.loop-place.auto.place c.loop-place-test.true never, c.if-tuples-place.true))),
)

pub loop-place-preserved : goal.loop-place-preserved
loop-place-preserved c =
    before_more c.args.tuples.now c.loop-place.place origin c.loop-place.auto.place c.loop-place-test.true c.loop-place.invariant
    (search rules)

pub returns : goal.returns
returns c = ((λ _ k inside. c.loop-place.invariant k (omega (arith, length-map c.args.tuples.now (coordinate T)))), (λ _. search rules))
