use Rattle.std.proofs.Common.{◌≡◌, subst, List, ℕ}
use Rattle.std.proofs.lemmas.Result.{err_from_is_err_and}
use Rattle.edr_base.specs.Calls.{Front}
use Rattle.std.specs.Io.KnownBytes.{append_known}
use Rattle.edr_import.proofs.FeedLemmas.{sent_in_part}
use Rattle.edr_import.proofs.importing.feed_from_table.Goals as goal

pub returns-in_err-send-clause-written : goal.returns-in_err-send-clause-written
returns-in_err-send-clause-written g c =
    let p = err_from_is_err_and c.from_residual-in_err-send.result c.from_residual-in_err-send.ensures.1 in
    rw (p.1, p.2) (sent_in_part (Unit {0}) _ _ c.in_ok-text.text.items _ _ c.in_ok-text.ensures
    (subst (λ (t : List ℕ). Front t (g.K.Sink.written c.args.sink.now) (g.K.Sink.written c.send.new.sink)) c.deref.ensures.value c.in_err-send.ensures.bytes.front))

pub returns-clause-written : goal.returns-clause-written
returns-clause-written g c = (
  c.in_ok-text.text.items,
  c.in_ok-text.ensures,
  subst (λ (t : List ℕ). g.K.Sink.written c.send.new.sink ≡ append_known (g.K.Sink.written c.args.sink.now) t) c.deref.ensures.value c.in_ok-send.ensures.bytes.whole,
)
