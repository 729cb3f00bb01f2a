use Rattle.std.proofs.Common.{Ok, List, sym, subst}
use Rattle.std.proofs.lemmas.Result.{err_from_is_err_and}
use Rattle.edr_edition.specs.Values.{EditionValue}
use Rattle.edr_edition.specs.Shelves.{IsLog}
use Rattle.edr_feed.specs.Feeds.{FeedStandsIn}
use Rattle.edr_feed.proofs.FeedBounds.{stops_at_end}
use Rattle.edr_feed.proofs.FeedLaws.{stands_log}
use Rattle.edr_feed.proofs.FeedAnswers.{whole_stands, whole_leaves, whole_fault, not_read}
use Rattle.edr_feed.proofs.feeds.read_feed.Goals as goal

pub returns-in_err-made-clause-fault : goal.returns-in_err-made-clause-fault
returns-in_err-made-clause-fault g c =
    let p = err_from_is_err_and c.from_residual-in_err-made.result c.from_residual-in_err-made.ensures.1 in
    let r = c.in_ok-now.ensures.read in
    rw (p.1, p.2) (whole_fault _ _ r.bytes _ r.told r.ended (c.in_err-made.ensures.stands r.bytes r.read)).refused

pub returns-in_err-made-clause-inner : goal.returns-in_err-made-clause-inner
returns-in_err-made-clause-inner g c =
    let p = err_from_is_err_and c.from_residual-in_err-made.result c.from_residual-in_err-made.ensures.1 in
    let r = c.in_ok-now.ensures.read in
    rw (p.1, p.2) (whole_fault _ _ r.bytes _ r.told r.ended (c.in_err-made.ensures.stands r.bytes r.read)).inner

pub returns-in_err-made-clause-cause : goal.returns-in_err-made-clause-cause
returns-in_err-made-clause-cause g c =
    let p = err_from_is_err_and c.from_residual-in_err-made.result c.from_residual-in_err-made.ensures.1 in
    let r = c.in_ok-now.ensures.read in
    let own = (c.in_err-made.ensures.stands r.bytes r.read).own in
    rw (p.1, p.2) (λ e. absurd (not_read _ own (cc e)))

pub returns-clause-editions : goal.returns-clause-editions
returns-clause-editions g c =
    let r = c.in_ok-now.ensures.read in
    let f = whole_stands (g.S.Source.left c.args.source.now) _ r.bytes (Ok c.in_ok-made.made.editions.items) r.told r.ended (c.in_ok-made.ensures.stands r.bytes r.read).0 in
    subst (λ (es : List EditionValue). FeedStandsIn (g.S.Source.left c.args.source.now) (Ok es)) (sym c.of.ensures) f

pub returns-clause-log : goal.returns-clause-log
returns-clause-log g c =
    let r = c.in_ok-now.ensures.read in
    subst IsLog (sym c.of.ensures) (stands_log r.bytes c.in_ok-made.made.editions.items (c.in_ok-made.ensures.stands r.bytes r.read).0)

pub returns-clause-lines : goal.returns-clause-lines
returns-clause-lines g c =
    let r = c.in_ok-now.ensures.read in
    whole_leaves (g.S.Source.left c.args.source.now) _ r.bytes c.in_ok-made.made.behind r.told r.ended (c.in_ok-made.ensures.stands r.bytes r.read).1

pub returns-in_err-made-clause-behind : goal.returns-in_err-made-clause-behind
returns-in_err-made-clause-behind g c =
    let p = err_from_is_err_and c.from_residual-in_err-made.result c.from_residual-in_err-made.ensures.1 in
    let r = c.in_ok-now.ensures.read in
    rw (p.1, p.2) (stops_at_end _ _ r.bytes c.in_ok-now.now _ r.told r.read c.in_err-made.ensures.on)
