use Rattle.std.proofs.Common.{◌≡◌, ℤ, ap, subst, ◌∙◌, to_z, of_z, w64}
use Rattle.std.specs.Prelude.{map}
use Rattle.std.proofs.lemmas.Int.{to_z-of_z}
use Rattle.std.proofs.lemmas.List.{take_all}
use Rattle.edr_chunk.proofs.Lists.{given_more}
use Rattle.edr_chunk.proofs.codes.samples_of.Goals as goal

pub loop-code-preserved : goal.loop-code-preserved
loop-code-preserved g c =
    let codes = c.args.codes.now in
    let f = g.W.Width.sample (to_z w64 (of_z w64 c.args.floor)) in
    given_more f codes c.loop-code.code-index c.code-item.result c.loop-code.values.items c.push.new.self.items c.sample.result c.loop-code-test.true
    c.in_ok-push.ensures.items c.loop-code.invariant (c.sample.ensures ∙ ap f c.code-item.is)

pub returns : goal.returns
returns g c =
    let codes = c.args.codes.now in
    let f = g.W.Width.sample (to_z w64 (of_z w64 c.args.floor)) in
    let P : ℤ → Type 0 = λ floor. c.loop-code.values.items ≡ map (g.W.Width.sample floor) codes in
    subst P (to_z-of_z w64 c.args.floor c.ranges.floor) (c.loop-code.invariant ∙ ap (map f) (take_all c.loop-code.code-index codes c.loop-code-test.false))
