use Rattle.std.proofs.Common.{◌≡◌, ◌∙◌, [], refl, inl, ap, arith, rules}
use Rattle.edrd.proofs.RunLemmas.{sum_given}
use Rattle.edrd.proofs.SayLemmas.{are_begun, are_served}
use Rattle.edrd.proofs.running.serve_through.Goals as goal

pub returns-in-Err-OutOfMemory-clause-cause : goal.returns-in-Err-OutOfMemory-clause-cause
returns-in-Err-OutOfMemory-clause-cause g c places = ([], refl, inl refl)

pub finish-requires-clause-counts : goal.finish-requires-clause-counts
finish-requires-clause-counts g c κs within =
    let done = c.in-Ok-serve_connections in
    let given = sum_given g.B.Door.Accept.given c.in-Ok.acceptors.items done.report.acceptors.items done.report.sessions
    (λ i d l. (c.in-Ok.ensures.doors.1 i d l).given_is) done.ensures.sessions in
    let faulted = sum_given g.B.Door.Accept.faulted c.in-Ok.acceptors.items done.report.acceptors.items done.report.session_faults
    (λ i d l. (c.in-Ok.ensures.doors.1 i d l).faulted_is) done.ensures.session_faults in
    (omega (arith, given, c.in-Ok.ensures.counts.0), omega (arith, faulted, c.in-Ok.ensures.counts.1))

pub returns-in-Ok-serve_connections-clause-cause : goal.returns-in-Ok-serve_connections-clause-cause
returns-in-Ok-serve_connections-clause-cause g c places =
    let done = c.in-Ok-serve_connections.ensures in
    let port : c.from.result ≡ g.B.Doors.port c.finish.new.doors = search rules in
    are_served _ _ _ _ _ _ _ _ _ c.args.behind c.in-Ok-serve_connections.report.published _ _ _ _ _ _ c.requires.log port
    (c.finish.ensures.kept.0 ∙ c.in-Ok.ensures.last.0) (c.finish.ensures.kept.1 ∙ c.in-Ok.ensures.last.1)
    (omega (arith, c.finish.ensures.closed, c.in-Ok.ensures.last.2, done.count, c.in-Ok.ensures.doors.0))
    (ap g.G.Gate.seconds c.finish.ensures.gate ∙ done.seconds ∙ c.requires.gate.1)
    (ap g.G.Gate.granted c.finish.ensures.gate ∙ done.published)
    (rw c.finish.ensures.gate done.ends)
    c.say_number.ensures.line c.say_behind.ensures.lines c.say_number-2.ensures.line done.said c.finish.ensures.line

pub returns-in-Err-clause-cause : goal.returns-in-Err-clause-cause
returns-in-Err-clause-cause g c places =
    let port : c.from.result ≡ g.B.Doors.port c.open.new.self = search rules in
    are_begun _ _ _ _ _ c.args.behind c.in-Err.ensures.said.0 _ _ _ _ _ c.requires.log port c.say_number.ensures.line c.say_behind.ensures.lines c.say_number-2.ensures.line c.in-Err.ensures.said.1
