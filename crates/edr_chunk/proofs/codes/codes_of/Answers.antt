use Rattle.std.proofs.Common.{◌≡◌, ℤ, subst, ◌∙◌, w64}
use Rattle.std.specs.Prelude.{map}
use Rattle.std.proofs.lemmas.Int.{to_z-of_z}
use Rattle.std.proofs.lemmas.List.{take_all}
use Rattle.edr_chunk.proofs.Lists.{given_back_more}
use Rattle.edr_chunk.proofs.codes.codes_of.Goals as goal

pub loop-value-preserved : goal.loop-value-preserved
loop-value-preserved g c =
    given_back_more _ c.args.values.now c.loop-value.value-index _ c.loop-value.codes.items c.push.new.self.items c.of.result c.loop-value-test.true
    c.in_ok-push.ensures.items c.loop-value.invariant c.of.ensures

pub returns : goal.returns
returns g c =
    let values = c.args.values.now in
    let P : ℤ → Type 0 = λ floor. map (g.W.Width.sample floor) c.loop-value.codes.items ≡ values in
    subst P (to_z-of_z w64 c.args.floor c.ranges.floor) (c.loop-value.invariant ∙ take_all c.loop-value.value-index values c.loop-value-test.false)
