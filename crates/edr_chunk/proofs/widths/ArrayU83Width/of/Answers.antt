use Rattle.edr_chunk.proofs.SampleLists.{apart}
use Rattle.edr_base.specs.Limits.{IsSample}
use Rattle.std.proofs.lemmas.Int.{ints}
use Rattle.std.proofs.Common.{arith}
use Rattle.edr_chunk.proofs.widths.ArrayU83Width.of.Goals as goal

pub overflow_cast-value : goal.overflow_cast-value
overflow_cast-value c =
    let sample : IsSample c.in-Some.value = rw c.in-Some.is at c.requires.value in
    let code = rw c.in-Some.is at c.requires.fits in
    rw (apart c.in-Some.value c.args.floor sample c.requires.floor) (omega (arith, ints, code), omega (arith, ints, code))
