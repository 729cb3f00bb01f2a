-- What the jobs do that serve, and what they count; for private clauses.
use Rattle.std.specs.Prelude.{◌≡◌, ℕ, ◌+◌, ◌≤◌, Bool, true, not}
use Rattle.edr_base.specs.Outside.{Rose}
use Rattle.edr_console.specs.Limits.{accept_limit}
use Rattle.edrd.specs.declared.jobs.Serving.{Serving}

-- a job served until no more connections came, or an accept failed, and counted what it did
module _ {A : Type 0} (given finished faulted faults : A → ℕ) (over : A → Bool) where
  pub record HasServed (before after : Serving A) : Type 0 where
    pub given_is : given after.acceptor ≡ given before.acceptor + after.sessions
    pub finished_is : finished after.acceptor ≡ finished before.acceptor + after.sessions
    pub faulted_is : faulted after.acceptor ≡ faulted before.acceptor + after.session_faults
    pub over_is : over after.acceptor ≡ not after.failed
    pub broke : after.failed ≡ true → Rose (faults before.acceptor) (faults after.acceptor)
    pub few : after.session_faults ≤ after.sessions
    pub within : given after.acceptor ≤ accept_limit

abbrev pub acceptor_of : {A : Type 0} → Serving A → A
acceptor_of job = job.acceptor

abbrev pub sessions_of : {A : Type 0} → Serving A → ℕ
sessions_of job = job.sessions

abbrev pub faults_of : {A : Type 0} → Serving A → ℕ
faults_of job = job.session_faults

abbrev pub has_failed : {A : Type 0} → Serving A → Bool
has_failed job = job.failed
