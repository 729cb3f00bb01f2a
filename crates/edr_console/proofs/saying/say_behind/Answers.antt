use Rattle.std.proofs.Common.{rules, refl}
use Rattle.edr_console.specs.SayingLaws.{says_alone}
use Rattle.edr_console.proofs.SayLemmas.{behind_some, behind_none}
use Rattle.edr_console.proofs.saying.say_behind.Goals as goal

pub returns-then-behind-eq0-clause-lines : goal.returns-then-behind-eq0-clause-lines
returns-then-behind-eq0-clause-lines g c = rw (behind_none c.args.behind (search rules)) refl

pub returns-clause-lines : goal.returns-clause-lines
returns-clause-lines g c = says_alone _ _ _ _ (behind_some c.args.behind (search rules)) (search rules)
