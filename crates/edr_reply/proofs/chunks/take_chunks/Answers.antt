use Rattle.std.proofs.Common.{Err, ap, rules}
use Rattle.edr_reply.specs.Taking.{most_of_chunk}
use Rattle.edr_reply.proofs.ChunkSteps.{going_more, going_last, going_breaks, going_cut, going_early, going_bounded, last_bounded}
use Rattle.edr_reply.proofs.RestLemmas.{handed_on}
use Rattle.edr_reply.proofs.chunks.take_chunks.Goals as goal

pub take_chunk-requires-clause-early : goal.take_chunk-requires-clause-early
take_chunk-requires-clause-early g c = going_early c.args.place c.loop-next.next_place _ _ _ c.requires.early c.loop-next.invariant.going

pub loop-next-preserved : goal.loop-next-preserved
loop-next-preserved g c =
    let taken = rw c.in-Some.is at c.in_ok-next.ensures.next in
    record { going = going_more _ _ _ _ _ _ _ _ c.loop-next.invariant.going taken; lent = search rules }

pub returns-in-None-clause-taken : goal.returns-in-None-clause-taken
returns-in-None-clause-taken g c =
    let taken = rw c.in-None.is at c.in_ok-next.ensures.next in
    going_last _ _ _ _ _ _ _ c.loop-next.invariant.going taken

pub returns-in_err-next-clause-broken : goal.returns-in_err-next-clause-broken
returns-in_err-next-clause-broken g c at e = going_breaks _ _ at _ _ _ _ c.loop-next.invariant.going (c.in_err-next.ensures.broken at (ap Err (handed_on c.from_residual.result _ _ c.from_residual.ensures.1 e)))

pub returns-in_err-next-clause-bounded : goal.returns-in_err-next-clause-bounded
returns-in_err-next-clause-bounded g c = going_bounded _ _ most_of_chunk _ _ _ _ c.loop-next.invariant.going c.in_err-next.ensures.bounded

pub returns-in-None-clause-bounded : goal.returns-in-None-clause-bounded
returns-in-None-clause-bounded g c =
    let taken = rw c.in-None.is at c.in_ok-next.ensures.next in
    going_bounded _ _ most_of_chunk _ _ _ _ c.loop-next.invariant.going (last_bounded _ _ _ _ taken)

pub returns-in_err-next-clause-unfinished : goal.returns-in_err-next-clause-unfinished
returns-in_err-next-clause-unfinished g c e = going_cut _ _ _ _ _ _ c.loop-next.invariant.going (c.in_err-next.ensures.unfinished (ap Err (handed_on c.from_residual.result _ _ c.from_residual.ensures.1 e)))
