use Rattle.std.proofs.lemmas.Result.{IfOk-weaker}
use Rattle.edr_console.proofs.WordLemmas.{simple, free, taken, refused_in}
use Rattle.edr_console.proofs.words.parsed.Goals as goal
use Rattle.edr_console.proofs.words.parsed.Goals.{in-Some-3, in-None-3}

pub returns-in-Ok-clause-is : goal.returns-in-Ok-clause-is
returns-in-Ok-clause-is c =
    let same = c.in_ok-command.ensures in
    let none = c.in-Ok.ensures.kinds (free _ same) in
    let found = c.in-Ok.ensures.matches (simple _ same) in
    IfOk-weaker c.settings_in.result _ _ (λ settings h. taken _ _ _ settings same none found.0 h) c.settings_in.ensures.is

pub returns-clause-is : goal.returns-clause-is
returns-clause-is c = elim c.match-error-2.branch [
  | in-Some-3 w ↦ refused_in _ _ c.in-Err.error c.in_ok-command.ensures c.kind.ensures c.in_default.not-OutOfMemory (c.in-Err.ensures.kinds (free _ c.in_ok-command.ensures))
  | in-None-3 w ↦ refused_in _ _ c.in-Err.error c.in_ok-command.ensures c.kind.ensures c.in_default.not-OutOfMemory (c.in-Err.ensures.kinds (free _ c.in_ok-command.ensures))
]
