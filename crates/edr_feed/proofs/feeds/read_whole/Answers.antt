use Rattle.edr_feed.proofs.ReadFaults.{read_fault_inside}
use Rattle.std.proofs.Common.{rules, ◌≤◌, ◌++◌, length, take, length-append, length-take, arith}
use Rattle.std.proofs.lemmas.Result.{err_from_is_err_and}
use Rattle.edr_base.specs.Calls.{buffer_size}
use Rattle.edr_base.specs.KnownBytes.{took_on}
use Rattle.edr_feed.proofs.FeedReadings.{read_length}
use Rattle.edr_feed.proofs.FeedBounds.{stops_in_piece}
use Rattle.edr_feed.proofs.FeedAnswers.{front_fault, not_read}
use Rattle.edr_feed.proofs.feeds.read_whole.Goals as goal

pub loop-now-preserved : goal.loop-now-preserved
loop-now-preserved g c =
    let i = c.loop-now.invariant in
    let piece = take c.in_ok-count.count c.read.new.buf in
    record {
      bytes = i.bytes ++ piece;
      told = took_on _ _ _ i.bytes piece i.told c.in_ok-count.ensures.bytes.0;
      read = c.in_ok-read_on.ensures.read i.bytes i.read;
      lent = search rules;
    }

pub loop-now-smaller : goal.loop-now-smaller
loop-now-smaller g c =
    let i = c.loop-now.invariant in
    let piece = take c.in_ok-count.count c.read.new.buf in
    let more = c.in_ok-read_on.ensures.read i.bytes i.read in
    let old = read_length i.bytes c.loop-now.now i.read in
    let new = read_length (i.bytes ++ piece) c.read_on.new.now more in
    let sum = length-append i.bytes piece in
    let count = length-take c.in_ok-count.count c.read.new.buf in
    omega (arith, more.within, c.in_ok-count.ensures.bound)

pub returns-in_err-read_on-clause-fault : goal.returns-in_err-read_on-clause-fault
returns-in_err-read_on-clause-fault g c =
    let p = err_from_is_err_and c.from_residual-in_err-read_on.result c.from_residual-in_err-read_on.ensures.1 in
    let i = c.loop-now.invariant in
    let piece = take c.in_ok-count.count c.read.new.buf in
    rw (p.1, p.2) (front_fault _ _ (i.bytes ++ piece) _ (took_on _ _ _ i.bytes piece i.told c.in_ok-count.ensures.bytes.0) (c.in_err-read_on.ensures.read i.bytes i.read)).refused

pub returns-in_err-read_on-clause-inner : goal.returns-in_err-read_on-clause-inner
returns-in_err-read_on-clause-inner g c =
    let p = err_from_is_err_and c.from_residual-in_err-read_on.result c.from_residual-in_err-read_on.ensures.1 in
    let i = c.loop-now.invariant in
    let piece = take c.in_ok-count.count c.read.new.buf in
    rw (p.1, p.2) (front_fault _ _ (i.bytes ++ piece) _ (took_on _ _ _ i.bytes piece i.told c.in_ok-count.ensures.bytes.0) (c.in_err-read_on.ensures.read i.bytes i.read)).inner

pub returns-in_err-read_on-clause-bounded : goal.returns-in_err-read_on-clause-bounded
returns-in_err-read_on-clause-bounded g c =
    let i = c.loop-now.invariant in
    let piece = take c.in_ok-count.count c.read.new.buf in
    record {
      bytes = i.bytes ++ piece;
      read = took_on _ _ _ i.bytes piece i.told c.in_ok-count.ensures.bytes.0;
      within = omega (arith, i.read.within, length-append i.bytes piece, length-take c.in_ok-count.count c.read.new.buf, c.in_ok-count.ensures.bound);
    }

pub returns-in_err-read_on-clause-cause : goal.returns-in_err-read_on-clause-cause
returns-in_err-read_on-clause-cause g c =
    let p = err_from_is_err_and c.from_residual-in_err-read_on.result c.from_residual-in_err-read_on.ensures.1 in
    let i = c.loop-now.invariant in
    let piece = take c.in_ok-count.count c.read.new.buf in
    let own = (c.in_err-read_on.ensures.read i.bytes i.read piece).own in
    rw (p.1, p.2) (λ e. absurd (not_read _ own (cc e)))

pub returns-in_err-count-clause-inner : goal.returns-in_err-count-clause-inner
returns-in_err-count-clause-inner g c =
    let p = err_from_is_err_and c.from_residual.result c.from_residual.ensures.1 in
    rw (p.1, p.2) (read_fault_inside (g.S.Source.left c.args.source.now))

pub returns-in_err-read_on-clause-behind : goal.returns-in_err-read_on-clause-behind
returns-in_err-read_on-clause-behind g c =
    let p = err_from_is_err_and c.from_residual-in_err-read_on.result c.from_residual-in_err-read_on.ensures.1 in
    let i = c.loop-now.invariant in
    let piece = take c.in_ok-count.count c.read.new.buf in
    let few : length piece ≤ buffer_size = omega (arith, length-take c.in_ok-count.count c.read.new.buf, c.in_ok-count.ensures.bound) in
    rw (p.1, p.2) (stops_in_piece _ _ i.bytes piece c.loop-now.now _ (took_on _ _ _ i.bytes piece i.told c.in_ok-count.ensures.bytes.0) i.read few c.in_err-read_on.ensures.on)
