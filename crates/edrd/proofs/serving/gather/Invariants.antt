use Rattle.std.proofs.Common.{◌≡◌, ◌≤◌, ◌+◌, ◌++◌, length, map}
use Rattle.std.specs.Prelude.{sum_by, count_by}
use Rattle.std.specs.Vec.Iter.{into_iter_items, into_iter_len}
use Rattle.edr_console.specs.Limits.{worker_limit}
use Rattle.edrd.specs.Jobs.{acceptor_of, sessions_of, faults_of, has_failed}
use Rattle.edrd.proofs.serving.gather.Given as goal

abbrev pub invariant-jobs : goal.invariant-jobs
invariant-jobs g l =
    record {
      acceptors : l.acceptors.items ++ map acceptor_of (into_iter_items l.jobs) ≡ map acceptor_of l.fn.jobs.items;
      sessions : l.sessions + sum_by sessions_of (into_iter_items l.jobs) ≡ sum_by sessions_of l.fn.jobs.items;
      faults : l.session_faults + sum_by faults_of (into_iter_items l.jobs) ≡ sum_by faults_of l.fn.jobs.items;
      failed : l.accept_faults + count_by has_failed (into_iter_items l.jobs) ≡ count_by has_failed l.fn.jobs.items;
      few : l.accept_faults + length (into_iter_items l.jobs) ≤ worker_limit;
      counted : into_iter_len l.jobs ≡ length (into_iter_items l.jobs);
    }

abbrev pub decreases-jobs : goal.decreases-jobs
decreases-jobs g l = into_iter_len l.jobs
