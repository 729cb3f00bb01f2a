use Rattle.edr_base.specs.Limits.{IsSample}
use Rattle.edr_chunk.proofs.SampleLists.{lower_sample, higher_sample, lower_bounds, higher_bound}
use Rattle.edr_chunk.proofs.spans.Span.with.Goals as goal

pub returns-in-Some-clause-least : goal.returns-in-Some-clause-least
returns-in-Some-clause-least c =
    let sample : IsSample c.in-Some.sample = rw c.in-Some.is at c.requires.sample in
    lower_sample c.args.self.least c.in-Some.sample c.min.result c.requires.least sample c.min.ensures.value

pub returns-in-Some-clause-greatest : goal.returns-in-Some-clause-greatest
returns-in-Some-clause-greatest c =
    let sample : IsSample c.in-Some.sample = rw c.in-Some.is at c.requires.sample in
    higher_sample c.args.self.greatest c.in-Some.sample c.max.result c.requires.greatest sample c.max.ensures.value

pub returns-in-Some-clause-low : goal.returns-in-Some-clause-low
returns-in-Some-clause-low c =
    let sample : IsSample c.in-Some.sample = rw c.in-Some.is at c.requires.sample in
    rw c.min.ensures.value (lower_bounds c.args.self.least c.in-Some.sample c.requires.least sample).0

pub returns-in-Some-clause-between : goal.returns-in-Some-clause-between
returns-in-Some-clause-between c =
    let sample : IsSample c.in-Some.sample = rw c.in-Some.is at c.requires.sample in
    rw (c.in-Some.is, c.min.ensures.value, c.max.ensures.value)
    ((lower_bounds c.args.self.least c.in-Some.sample c.requires.least sample).1, higher_bound c.args.self.greatest c.in-Some.sample c.requires.greatest sample)
