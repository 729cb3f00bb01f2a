use Rattle.std.proofs.Common.{◌+◌, ◌<◌, length, ap, refl, arith}
use Rattle.std.proofs.lemmas.Result.{err_from_is_err_and}
use Rattle.edr_base.specs.Limits.{feed_limit}
use Rattle.edr_feed.specs.declared.reading.Reading.{Reading}
use Rattle.edr_feed.proofs.FeedReadings.{read_length, number_small, line_too_long, line_fault, line_done}
use Rattle.edr_feed.proofs.reading.end_line.Goals as goal

pub returns-then-now-eq-FEED_LIMIT-clause-read : goal.returns-then-now-eq-FEED_LIMIT-clause-read
returns-then-now-eq-FEED_LIMIT-clause-read c = λ bytes h rest. line_too_long bytes rest c.args.now.now h (omega (arith, c.if-now-eq-FEED_LIMIT.true))

pub returns-in_err-take_line-clause-read : goal.returns-in_err-take_line-clause-read
returns-in_err-take_line-clause-read c = λ bytes h.
    let n = read_length bytes c.args.now.now h in
    let below : length bytes < feed_limit = omega (arith, h.within, c.if-now-eq-FEED_LIMIT.false) in
    let p = err_from_is_err_and c.from_residual.result c.from_residual.ensures.1 in
    rw (p.1, p.2) (line_fault bytes c.args.now.now _ h c.in_err-take_line.ensures.takes below)

pub overflow_add-now : goal.overflow_add-now
overflow_add-now c =
    let h = c.requires.read in
    omega (arith, read_length c.requires.bytes c.args.now.now h, h.within)

pub overflow_add-now-2 : goal.overflow_add-now-2
overflow_add-now-2 c =
    let h = c.requires.read in
    let same = ap (λ (r : Reading). r.length) c.in_ok-take_line.ensures.takes.1 in
    omega (arith, same, read_length c.requires.bytes c.args.now.now h, h.within)

pub overflow_add-now-3 : goal.overflow_add-now-3
overflow_add-now-3 c =
    let h = c.requires.read in
    let same = ap (λ (r : Reading). r.ended + r.length) c.in_ok-take_line.ensures.takes.1 in
    omega (arith, same, read_length c.requires.bytes c.args.now.now h, h.within)

pub overflow_add-now-4 : goal.overflow_add-now-4
overflow_add-now-4 c =
    let h = c.requires.read in
    let same = ap (λ (r : Reading). r.number) c.in_ok-take_line.ensures.takes.1 in
    omega (arith, same, number_small c.requires.bytes c.args.now.now h, read_length c.requires.bytes c.args.now.now h, h.within)

pub returns-clause-read : goal.returns-clause-read
returns-clause-read c = λ bytes h.
    let n = read_length bytes c.args.now.now h in
    let below : length bytes < feed_limit = omega (arith, h.within, c.if-now-eq-FEED_LIMIT.false) in
    let kept = c.in_ok-take_line.ensures.takes.1 in
    line_done bytes c.args.now.now _ h c.in_ok-take_line.ensures.takes.0 below c.clear.ensures.items refl
    (ap (λ (r : Reading). r.number + 1) kept) (ap (λ (r : Reading). r.ended + (r.length + 1)) kept)

pub returns-in_err-take_line-clause-on : goal.returns-in_err-take_line-clause-on
returns-in_err-take_line-clause-on c =
    let p = err_from_is_err_and c.from_residual.result c.from_residual.ensures.1 in
    rw (p.1, p.2) c.in_err-take_line.ensures.on
