use Rattle.std.proofs.Common.{rules, sym, ◌∙◌}
use Rattle.std.proofs.lemmas.Result.{err_from_is_err_and}
use Rattle.edr_feed.specs.Readings.{progress_of}
use Rattle.edr_feed.proofs.FeedReadings.{last_fault, last_done, last_none}
use Rattle.edr_feed.proofs.reading.end.Goals as goal

pub returns-in_err-take_line-clause-stands : goal.returns-in_err-take_line-clause-stands
returns-in_err-take_line-clause-stands c = λ bytes h.
    let p = err_from_is_err_and c.from_residual.result c.from_residual.ensures.1 in
    rw (p.1, p.2) (last_fault bytes c.args.now _ h c.in_err-take_line.ensures.takes)

pub returns-then-is_empty-clause-stands : goal.returns-then-is_empty-clause-stands
returns-then-is_empty-clause-stands c = λ bytes h.
    last_none bytes c.args.now _ h c.in_ok-take_line.ensures.takes.0 _ (search rules) (sym c.is_empty.ensures ∙ c.if-is_empty.true)

pub returns-clause-stands : goal.returns-clause-stands
returns-clause-stands c = λ bytes h.
    last_done bytes c.args.now (progress_of c.take_line.new.now.made) h c.in_ok-take_line.ensures.takes.0 _ (search rules) (sym c.is_empty.ensures ∙ c.if-is_empty.false)

pub returns-in_err-take_line-clause-on : goal.returns-in_err-take_line-clause-on
returns-in_err-take_line-clause-on c =
    let p = err_from_is_err_and c.from_residual.result c.from_residual.ensures.1 in
    rw (p.1, p.2) c.in_err-take_line.ensures.on
