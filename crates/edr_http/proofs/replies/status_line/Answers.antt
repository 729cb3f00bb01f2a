use Rattle.std.proofs.Common.{rules, refl, ◌≡◌}
use Rattle.std.specs.Fmt.{digits}
use Rattle.edr_http.proofs.ReplyLemmas.{last_status}
use Rattle.edr_http.proofs.replies.status_line.Goals as goal

pub returns-in-200-clause-text : goal.returns-in-200-clause-text
unfolding digits
returns-in-200-clause-text c = rw c.in-200.is refl

pub returns-in-400-clause-text : goal.returns-in-400-clause-text
unfolding digits
returns-in-400-clause-text c = rw c.in-400.is refl

pub returns-in-404-clause-text : goal.returns-in-404-clause-text
unfolding digits
returns-in-404-clause-text c = rw c.in-404.is refl

pub returns-in-405-clause-text : goal.returns-in-405-clause-text
unfolding digits
returns-in-405-clause-text c = rw c.in-405.is refl

pub returns-in-413-clause-text : goal.returns-in-413-clause-text
unfolding digits
returns-in-413-clause-text c = rw c.in-413.is refl

pub returns-in_default-clause-text : goal.returns-in_default-clause-text
unfolding digits
returns-in_default-clause-text c =
    let e : c.args.status ≡ 505 = last_status c.args.status c.requires (search rules) (search rules) (search rules) (search rules) (search rules) in
    rw e refl
