use Rattle.std.proofs.Common.{◌≡◌, ◌++◌, length, map}
use Rattle.std.specs.Vec.Iter.{into_iter_items, into_iter_len}
use Rattle.edrd.specs.Jobs.{acceptor_of}
use Rattle.edrd.proofs.serving.jobs_of.Given as goal

abbrev pub invariant-acceptors : goal.invariant-acceptors
invariant-acceptors g l =
    record {
      jobs : map acceptor_of l.jobs.items ++ into_iter_items l.acceptors ≡ l.fn.acceptors.items;
      counted : into_iter_len l.acceptors ≡ length (into_iter_items l.acceptors);
    }

abbrev pub decreases-acceptors : goal.decreases-acceptors
decreases-acceptors g l = into_iter_len l.acceptors
