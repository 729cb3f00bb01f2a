use Rattle.std.proofs.Common.{◌∙◌, List, ℕ, Err, ap, sym, subst}
use Rattle.std.specs.Prelude.{IfSome}
use Rattle.std.specs.declared.option.Option.{Option}
use Rattle.std.specs.Io.KnownBytes.{prepend_known}
use Rattle.edr_reply.specs.declared.held.PartFault.TheVariants.{Lacking}
use Rattle.edr_reply.specs.BrokenParts.{LacksHead}
use Rattle.edr_reply.proofs.RestLemmas.{handed_on, lacks_now, lacks_ever, some_held}
use Rattle.edr_reply.proofs.parts.take_head.Goals as goal

pub returns-in-Bad-clause-lacking : goal.returns-in-Bad-clause-lacking
returns-in-Bad-clause-lacking g c e =
    let never = rw c.bytes.ensures.same at c.in-Bad.ensures in
    subst (λ (w : Option (List ℕ)). IfSome w LacksHead) c.loop-opening.invariant.rest (lacks_ever LacksHead _ _ never)

pub returns-in_err-read_on-clause-lacking : goal.returns-in_err-read_on-clause-lacking
returns-in_err-read_on-clause-lacking g c e =
    let none = rw c.bytes.ensures.same at c.in-NeedMore.ensures in
    let lacking = handed_on c.from_residual.result _ Lacking c.from_residual.ensures.1 e in
    let kept = ap (λ w. prepend_known w (g.S.Source.left c.read_on.new.source)) (sym c.in_err-read_on.ensures.kept) in
    subst (λ (w : Option (List ℕ)). IfSome w LacksHead) (kept ∙ (c.read_on.ensures.rest ∙ c.loop-opening.invariant.rest)) (lacks_now LacksHead _ _ none.0 (c.in_err-read_on.ensures.ended (ap Err lacking)))

pub returns-in_err-read_on-clause-unfinished : goal.returns-in_err-read_on-clause-unfinished
returns-in_err-read_on-clause-unfinished g c e =
    let none = rw c.bytes.ensures.same at c.in-NeedMore.ensures in
    some_held LacksHead _ _ _ _ none.0 c.in_err-read_on.ensures.kept (c.read_on.ensures.rest ∙ c.loop-opening.invariant.rest)
