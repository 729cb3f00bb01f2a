use Rattle.std.proofs.Common.{◌≡◌, ◌≤◌, ◌+◌, false}
use Rattle.edr_console.specs.Limits.{accept_limit}
use Rattle.edrd.proofs.working.work.Given as goal

abbrev pub invariant-connections : goal.invariant-connections
invariant-connections g l =
    record {
      given_is : g.A.Accept.given l.job.acceptor ≡ g.A.Accept.given l.fn.job.acceptor + l.sessions;
      finished_is : g.A.Accept.finished l.job.acceptor ≡ g.A.Accept.finished l.fn.job.acceptor + l.sessions;
      faulted_is : g.A.Accept.faulted l.job.acceptor ≡ g.A.Accept.faulted l.fn.job.acceptor + l.session_faults;
      few : l.session_faults ≤ l.sessions;
      going : l.failed ≡ false;
      later : g.A.Faults.faults l.fn.job.acceptor ≤ g.A.Faults.faults l.job.acceptor;
      within : g.A.Accept.given l.job.acceptor ≤ accept_limit;
      order : g.A.Accept.finished l.fn.job.acceptor ≤ g.A.Accept.given l.fn.job.acceptor;
    }
