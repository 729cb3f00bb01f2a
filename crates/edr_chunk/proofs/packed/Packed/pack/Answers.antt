use Rattle.std.proofs.Common.{sym}
use Rattle.edr_chunk.proofs.SampleLists.{floor_under, replicated}
use Rattle.edr_chunk.proofs.packed.Packed.pack.Goals as goal

pub returns-in-Some : goal.returns-in-Some
returns-in-Some c = sym (replicated c.args.values.now c.in-Some.first.now (c.are_all.ensures.0 c.if-are_all.true))

pub codes_from-requires-clause-above : goal.codes_from-requires-clause-above
codes_from-requires-clause-above c =
    let span = c.span_of-span.result in
    let is = c.span_of-span.ensures in
    floor_under span.least span.greatest c.args.values.now is.least is.greatest is.between
