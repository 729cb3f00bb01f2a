use Rattle.std.proofs.Common.{◌≡◌, ℕ, ◌+◌, List, [], ◌∙◌, Err, ap, sym, arith}
use Rattle.std.specs.declared.option.Option.{Option}
use Rattle.std.specs.Io.KnownBytes.{prepend_known}
use Rattle.edr_base.specs.KnownBytes.{prepend_nothing}
use Rattle.edr_reply.specs.Messages.{most_beyond, most_read}
use Rattle.edr_reply.specs.Taking.{TakesHead, most_of_body}
use Rattle.edr_reply.proofs.MessageSteps.{body_breaks, body_off, breaks_first, breaks_none, body_read, head_early}
use Rattle.edr_reply.proofs.RestLemmas.{handed_on}
use Rattle.edr_reply.proofs.messages.read_message.Goals as goal

-- nothing was held before
from_left : (held : List ℕ) (left new : Option (List ℕ)) → held ≡ [] → prepend_known held left ≡ new → left ≡ new
from_left held left new e f = prepend_nothing left ∙ (ap (λ w. prepend_known w left) (sym e) ∙ f)

pub returns-in_err-body-clause-broken : goal.returns-in_err-body-clause-broken
returns-in_err-body-clause-broken g c place e =
    let t = c.in-Ok.ensures.taken in
    let taken : TakesHead c.in-Ok.opening (g.S.Source.left c.args.source.now) (prepend_known c.take_head.new.held (g.S.Source.left c.take_head.new.source)) = (t.0, t.1, t.2, from_left _ _ _ c.new-held.ensures t.3) in
    breaks_first place _ (body_breaks c.in-Ok.opening place _ _ _ taken (c.in_err-body.ensures.broken place (ap Err (handed_on c.from_residual.result _ _ c.from_residual.ensures.1 e))))

pub returns-in_err-body-clause-none : goal.returns-in_err-body-clause-none
returns-in_err-body-clause-none g c place e =
    let t = c.in-Ok.ensures.taken in
    let taken : TakesHead c.in-Ok.opening (g.S.Source.left c.args.source.now) (prepend_known c.take_head.new.held (g.S.Source.left c.take_head.new.source)) = (t.0, t.1, t.2, from_left _ _ _ c.new-held.ensures t.3) in
    breaks_none place _ (body_breaks c.in-Ok.opening place _ _ _ taken (c.in_err-body.ensures.broken place (ap Err (handed_on c.from_residual.result _ _ c.from_residual.ensures.1 e))))

pub returns-in_err-body-clause-near : goal.returns-in_err-body-clause-near
returns-in_err-body-clause-near g c place e =
    let t = c.in-Ok.ensures.taken in
    let taken : TakesHead c.in-Ok.opening (g.S.Source.left c.args.source.now) (prepend_known c.take_head.new.held (g.S.Source.left c.take_head.new.source)) = (t.0, t.1, t.2, from_left _ _ _ c.new-held.ensures t.3) in
    let breaks = c.in_err-body.ensures.broken place (ap Err (handed_on c.from_residual.result _ _ c.from_residual.ensures.1 e)) in
    body_read c.in-Ok.opening _ (place + most_beyond) _ _ _ _ taken breaks.read c.fits-2.ensures (omega (arith, breaks.at_is))

pub returns-in_err-body-clause-bounded : goal.returns-in_err-body-clause-bounded
returns-in_err-body-clause-bounded g c =
    let t = c.in-Ok.ensures.taken in
    let taken : TakesHead c.in-Ok.opening (g.S.Source.left c.args.source.now) (prepend_known c.take_head.new.held (g.S.Source.left c.take_head.new.source)) = (t.0, t.1, t.2, from_left _ _ _ c.new-held.ensures t.3) in
    let early = head_early c.in-Ok.opening _ _ taken in
    body_read c.in-Ok.opening most_of_body most_read _ _ _ _ taken c.in_err-body.ensures.bounded c.fits-2.ensures (omega (arith, early))

pub returns-clause-bounded : goal.returns-clause-bounded
returns-clause-bounded g c =
    let t = c.in-Ok.ensures.taken in
    let taken : TakesHead c.in-Ok.opening (g.S.Source.left c.args.source.now) (prepend_known c.take_head.new.held (g.S.Source.left c.take_head.new.source)) = (t.0, t.1, t.2, from_left _ _ _ c.new-held.ensures t.3) in
    let early = head_early c.in-Ok.opening _ _ taken in
    body_read c.in-Ok.opening most_of_body most_read _ _ _ _ taken c.in_ok-body.ensures.bounded c.fits-2.ensures (omega (arith, early))

pub returns-in_err-body-clause-unfinished : goal.returns-in_err-body-clause-unfinished
returns-in_err-body-clause-unfinished g c e =
    let t = c.in-Ok.ensures.taken in
    let taken : TakesHead c.in-Ok.opening (g.S.Source.left c.args.source.now) (prepend_known c.take_head.new.held (g.S.Source.left c.take_head.new.source)) = (t.0, t.1, t.2, from_left _ _ _ c.new-held.ensures t.3) in
    body_off c.in-Ok.opening _ _ _ taken (c.in_err-body.ensures.unfinished (ap Err (handed_on c.from_residual.result _ _ c.from_residual.ensures.1 e)))
