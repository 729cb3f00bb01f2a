use Rattle.std.proofs.Common.{rules, ◌≡◌, Some, None, Err}
use Rattle.edr_query.specs.Targets.{IsTarget}
use Rattle.edr_http.specs.Checks.{Refuses, is_head, says_close}
use Rattle.edr_serve.specs.Requests.{end_of}
use Rattle.edr_serve.proofs.OneReply.{head_refused_fault, target_refused_fault}
use Rattle.edr_serve.proofs.heads.answer_head.Goals as goal

pub returns-in-Some-clause-broke : goal.returns-in-Some-clause-broke
returns-in-Some-clause-broke g c =
    let refuses : Refuses c.args.head.now (Some c.in-Some.refusal) = search rules in
    let flag : c.check_head-ask.result.is_head ≡ is_head c.args.head.now = search rules in
    let end_is : c.end_refused-end.result ≡ end_of c.args.turns (says_close c.args.head.now) (Err c.in-Some.refusal) = search rules in
    head_refused_fault c.refuse.result c.args.turns c.args.head.now c.check_head-ask.result.is_head c.in-Some.refusal c.end_refused-end.result _ _ _ _ refuses flag end_is c.refuse.ensures.bytes

pub returns-in-Err-Refused-clause-broke : goal.returns-in-Err-Refused-clause-broke
returns-in-Err-Refused-clause-broke g c =
    let none : Refuses c.args.head.now None = search rules in
    let asked : IsTarget c.args.head.now.target (Err c.in-Err-Refused.refusal) = search rules in
    let flag : c.check_head-ask.result.is_head ≡ is_head c.args.head.now = search rules in
    let end_is : c.end_refused-end-in-Err-Refused.result ≡ end_of c.args.turns (says_close c.args.head.now) (Err c.in-Err-Refused.refusal) = search rules in
    target_refused_fault c.refuse-in-Err-Refused.result c.args.turns c.args.head.now c.check_head-ask.result.is_head c.in-Err-Refused.refusal c.end_refused-end-in-Err-Refused.result _ _ _ _
    none asked flag end_is c.refuse-in-Err-Refused.ensures.bytes
