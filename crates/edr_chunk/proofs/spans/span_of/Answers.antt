use Rattle.std.proofs.Common.{rules, ◌≤◌, length, None, subst}
use Rattle.std.proofs.lemmas.List.{take_all}
use Rattle.edr_chunk.specs.Codes.{AreBetween}
use Rattle.edr_chunk.proofs.SampleLists.{between_more}
use Rattle.edr_chunk.proofs.spans.span_of.Goals as goal

pub loop-value-preserved : goal.loop-value-preserved
loop-value-preserved c =
    let before = c.loop-value.span in
    let after = c.with-span.result in
    let same = between_more before.least before.greatest after.least after.greatest c.args.values.now c.loop-value.value-index None (search rules)
    c.with-span.ensures.low c.with-span.ensures.high c.loop-value.invariant.0 (search rules) in
    (same, c.with-span.ensures.least, c.with-span.ensures.greatest)

pub returns-clause-between : goal.returns-clause-between
returns-clause-between c =
    let all : length c.args.values.now ≤ c.loop-value.value-index = search rules in
    subst (AreBetween c.loop-value.span.least c.loop-value.span.greatest) (take_all c.loop-value.value-index c.args.values.now all) c.loop-value.invariant.0
