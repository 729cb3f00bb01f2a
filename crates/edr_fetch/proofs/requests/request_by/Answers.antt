use Rattle.std.proofs.Common.{rules, ◌≡◌, Some, IfSome, sym, subst}
use Rattle.std.specs.declared.option.Option.{Option}
use Rattle.edr_fetch.specs.declared.requests.Request.{Request}
use Rattle.edr_fetch.specs.Requests.{request_by}
use Rattle.edr_fetch.specs.Heads.{IsServed}
use Rattle.edr_fetch.proofs.HeadLemmas.{served_by}
use Rattle.edr_fetch.proofs.requests.request_by.Goals as goal

pub returns-clause-served : goal.returns-clause-served
returns-clause-served c =
    let is : Some (record { host = c.in_ok-of.field-0; port = c.unwrap_or.result; target = c.in_ok-target_of.field-0 }) ≡ request_by c.args.url.now = search rules in
    subst (λ (found : Option Request). IfSome found IsServed) (sym is) (served_by c.args.url.now c.port.ensures.valid)
