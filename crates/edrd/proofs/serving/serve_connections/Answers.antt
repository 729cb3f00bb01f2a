use Rattle.std.proofs.Common.{◌≤◌, ◌<◌, length, rules}
use Rattle.edr_console.specs.Limits.{worker_limit}
use Rattle.edrd.specs.Jobs.{sessions_of, faults_of}
use Rattle.edrd.proofs.JobLemmas.{few_jobs, few_sessions, few_faults, ended_all, sums_all, left_all}
use Rattle.edrd.proofs.serving.serve_connections.Goals as goal

pub gather-requires-clause-sessions : goal.gather-requires-clause-sessions
gather-requires-clause-sessions g c κs within =
    let few : length c.args.acceptors.items ≤ worker_limit = search rules in
    few_sessions g.A.Accept.given g.A.Accept.finished g.A.Accept.faulted g.A.Faults.faults g.A.Accept.over c.in-Ok.jobs.items c.served-jobs.result.items
    c.served-jobs.ensures.count.1
    (few_jobs g.A.Accept.given g.A.Accept.finished g.A.Accept.faulted g.A.Faults.faults g.A.Accept.over c.in-Ok.jobs.items _ c.in-Ok.ensures few)
    c.served-jobs.ensures.served

pub gather-requires-clause-faults : goal.gather-requires-clause-faults
gather-requires-clause-faults g c κs within =
    let few : length c.args.acceptors.items ≤ worker_limit = search rules in
    few_faults g.A.Accept.given g.A.Accept.finished g.A.Accept.faulted g.A.Faults.faults g.A.Accept.over c.in-Ok.jobs.items c.served-jobs.result.items
    c.served-jobs.ensures.count.1
    (few_jobs g.A.Accept.given g.A.Accept.finished g.A.Accept.faulted g.A.Faults.faults g.A.Accept.over c.in-Ok.jobs.items _ c.in-Ok.ensures few)
    c.served-jobs.ensures.served

pub returns-in-Ok-gather-clause-acceptors : goal.returns-in-Ok-gather-clause-acceptors
returns-in-Ok-gather-clause-acceptors g c i d within =
    let below : i < length c.args.acceptors.items = search rules in
    ended_all g.A.Accept.given g.A.Accept.finished g.A.Accept.faulted g.A.Faults.faults g.A.Accept.over c.in-Ok.jobs.items c.served-jobs.result.items
    c.args.acceptors.items c.in-Ok-gather.all.acceptors.items c.in-Ok.ensures c.in-Ok-gather.ensures.acceptors c.served-jobs.ensures.count.1
    c.served-jobs.ensures.served i d below

pub returns-in-Ok-gather-clause-sessions : goal.returns-in-Ok-gather-clause-sessions
returns-in-Ok-gather-clause-sessions g c =
    sums_all g.A.Accept.given g.A.Accept.finished g.A.Accept.faulted g.A.Faults.faults g.A.Accept.over g.A.Accept.given sessions_of c.in-Ok.jobs.items
    c.served-jobs.result.items c.args.acceptors.items c.in-Ok-gather.all.acceptors.items c.in-Ok-gather.all.sessions c.in-Ok.ensures
    c.in-Ok-gather.ensures.acceptors c.in-Ok-gather.ensures.sessions c.served-jobs.ensures.count.1
    (λ i d l. (c.served-jobs.ensures.served i d l).given_is)

pub returns-in-Ok-gather-clause-session_faults : goal.returns-in-Ok-gather-clause-session_faults
returns-in-Ok-gather-clause-session_faults g c =
    sums_all g.A.Accept.given g.A.Accept.finished g.A.Accept.faulted g.A.Faults.faults g.A.Accept.over g.A.Accept.faulted faults_of c.in-Ok.jobs.items
    c.served-jobs.result.items c.args.acceptors.items c.in-Ok-gather.all.acceptors.items c.in-Ok-gather.all.session_faults c.in-Ok.ensures
    c.in-Ok-gather.ensures.acceptors c.in-Ok-gather.ensures.faults c.served-jobs.ensures.count.1
    (λ i d l. (c.served-jobs.ensures.served i d l).faulted_is)

pub returns-in-Ok-gather-clause-accept_faults : goal.returns-in-Ok-gather-clause-accept_faults
returns-in-Ok-gather-clause-accept_faults g c =
    left_all g.A.Accept.given g.A.Accept.finished g.A.Accept.faulted g.A.Faults.faults g.A.Accept.over c.in-Ok.jobs.items c.served-jobs.result.items
    c.in-Ok-gather.all.acceptors.items c.in-Ok-gather.all.accept_faults c.in-Ok-gather.ensures.acceptors c.in-Ok-gather.ensures.failed
    c.served-jobs.ensures.count.1 c.served-jobs.ensures.served
