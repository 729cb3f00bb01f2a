use Rattle.std.proofs.Common.{rules, ◌≡◌, Some}
use Rattle.edr.specs.Commands.{asked_by}
use Rattle.edr.specs.declared.commands.Command.TheVariants.{Replay, Work}
use Rattle.edr.proofs.running.carry_out.Goals as goal

pub returns-in-Some-Replay-default-clause-read : goal.returns-in-Some-Replay-default-clause-read
returns-in-Some-Replay-default-clause-read g c =
    let asked : asked_by c.args.words.now ≡ Some (record { command = Replay c.in-Some-Replay-default.advances; argument = c.in-Some-Replay-default.feed.now }) = search rules in
    rw asked c.replay.ensures.read

pub returns-in-Some-Replay-default-clause-output : goal.returns-in-Some-Replay-default-clause-output
returns-in-Some-Replay-default-clause-output g c =
    let asked : asked_by c.args.words.now ≡ Some (record { command = Replay c.in-Some-Replay-default.advances; argument = c.in-Some-Replay-default.feed.now }) = search rules in
    rw asked c.replay.ensures.output

pub returns-in-Some-Replay-default-clause-file : goal.returns-in-Some-Replay-default-clause-file
returns-in-Some-Replay-default-clause-file g c =
    let asked : asked_by c.args.words.now ≡ Some (record { command = Replay c.in-Some-Replay-default.advances; argument = c.in-Some-Replay-default.feed.now }) = search rules in
    rw asked c.replay.ensures.file

pub returns-in-Some-Work-default-clause-output : goal.returns-in-Some-Work-default-clause-output
returns-in-Some-Work-default-clause-output g c =
    let asked : asked_by c.args.words.now ≡ Some (record { command = Work c.in-Some-Work-default.number; argument = c.in-Some-Work-default.field-0-1.now }) = search rules in
    rw asked c.work.ensures.output

pub returns-in-Some-Replay-default-clause-ended : goal.returns-in-Some-Replay-default-clause-ended
returns-in-Some-Replay-default-clause-ended g c =
    let asked : asked_by c.args.words.now ≡ Some (record { command = Replay c.in-Some-Replay-default.advances; argument = c.in-Some-Replay-default.feed.now }) = search rules in
    rw asked c.replay.ensures.ended
