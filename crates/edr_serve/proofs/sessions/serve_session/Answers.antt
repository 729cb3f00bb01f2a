use Rattle.std.proofs.Common.{◌≡◌, ◌≤◌, ◌+◌, ◌-◌, ◌++◌, length, refl, rules, arith, option_to_list}
use Rattle.edr_serve.specs.Sessions.{chunks_in}
use Rattle.edr_serve.specs.AheadLaws.{few_held}
use Rattle.edr_serve.proofs.Going.{kept_broken, fault_broken, limit_broken, session_ends, session_goes, read_waits, state_same, behind_on, left_behind, left_now}
use Rattle.edr_serve.proofs.OneReply.{on_err}
use Rattle.edr_serve.proofs.sessions.serve_session.Goals as goal

pub returns-in_err-keep-clause-fault : goal.returns-in_err-keep-clause-fault
returns-in_err-keep-clause-fault g c =
    on_err c.from_residual-in_err-keep.result _ (kept_broken c.args.requests c.requests.turns (length c.requests.inbox) c.serve_one.new.inbox _ _ _ _ _ _ _ _ c.in_ok-report.report c.requests.invariant.few c.in_ok-report.ensures.bounded c.in_ok-report.ensures.ahead
    c.requests.invariant.going c.in_ok-report.ensures.done)

pub returns-in_err-keep-clause-behind : goal.returns-in_err-keep-clause-behind
returns-in_err-keep-clause-behind g c = left_behind _ _ _ _ c.requests.invariant.behind c.in_ok-report.ensures.behind

pub returns-in-Some-clause-done : goal.returns-in-Some-clause-done
returns-in-Some-clause-done g c =
    let numbers : c.of.result ≡ c.requests.editions.items ++ option_to_list c.in_ok-report.report.edition = search rules in
    let chunks : c.of-in-Some.result ≡ c.requests.reads.items ++ chunks_in c.in_ok-report.report = search rules in
    let sum : c.args.requests - c.requests.turns + c.requests.turns ≡ c.args.requests = omega (arith, c.requests.invariant.turns_in) in
    session_ends c.args.requests c.requests.turns (c.args.requests - c.requests.turns) (length c.requests.inbox) c.serve_one.new.inbox _ _ _ _ _ _ _ _ c.in_ok-report.report c.in-Some.end _ c.in-Some.is sum
    c.replies.ensures.at_end c.replies.ensures.closed numbers chunks refl c.requests.invariant.few c.in_ok-report.ensures.short
    c.requests.invariant.going c.in_ok-report.ensures.done

pub returns-in-Some-clause-behind : goal.returns-in-Some-clause-behind
returns-in-Some-clause-behind g c = left_behind _ _ _ _ c.requests.invariant.behind c.in_ok-report.ensures.behind

pub returns-in_err-report-clause-fault : goal.returns-in_err-report-clause-fault
returns-in_err-report-clause-fault g c =
    on_err c.from_residual.result _ (fault_broken c.args.requests c.requests.turns (length c.requests.inbox) _ _ _ _ _ _ _ _ c.requests.invariant.few c.in_err-report.ensures.ahead c.requests.invariant.going c.in_err-report.ensures.fault)

pub returns-in_err-report-clause-behind : goal.returns-in_err-report-clause-behind
returns-in_err-report-clause-behind g c = left_behind _ _ _ _ c.requests.invariant.behind c.in_err-report.ensures.behind

pub returns-in_err-report-clause-waits : goal.returns-in_err-report-clause-waits
returns-in_err-report-clause-waits g c read =
    let same = c.in_err-report.ensures.unwritten (search rules) in
    read_waits c.args.requests c.requests.turns (length c.requests.inbox) c.requests.inbox c.serve_one.new.inbox _ (g.S.Source.left c.requests.source) (g.S.Source.left c.serve_one.new.source) _ _ _ _ _
    c.requests.invariant.few c.in_err-report.ensures.bounded (c.in_err-report.ensures.none (search rules)) (c.in_err-report.ensures.again (search rules))
    (state_same g.K.Sink.written g.E.Editions.seen g.E.Editions.taken _ _ _ _ same.0 same.1) c.requests.invariant.going

pub returns-clause-fault : goal.returns-clause-fault
returns-clause-fault g c = limit_broken c.args.requests c.requests.turns c.requests.inbox _ _ _ _ _ _ c.requests.invariant.few c.requests.invariant.going

pub returns-clause-behind : goal.returns-clause-behind
returns-clause-behind g c = left_now _ _ _ c.requests.invariant.behind

pub requests-preserved : goal.requests-preserved
requests-preserved g c =
    let numbers : c.keep.new.editions.items ≡ c.requests.editions.items ++ option_to_list c.in_ok-report.report.edition = search rules in
    let chunks : c.keep.new.reads.items ≡ c.requests.reads.items ++ chunks_in c.in_ok-report.report = search rules in
    let some : 1 ≤ c.requests.turns = search rules in
    record {
      turns_in = search rules;
      going = session_goes _ _ _ _ _ _ _ _ _ _ _ _ _ c.in_ok-report.report c.in-None.is some refl numbers chunks c.requests.invariant.going c.in_ok-report.ensures.done;
      stock = search rules;
      behind = behind_on _ _ _ c.requests.invariant.behind c.in_ok-report.ensures.behind;
      few = few_held _ _ _ c.requests.invariant.few c.in-None.is c.in_ok-report.ensures.short;
      flushed = search rules;
      source = search rules;
      sink = search rules;
    }
