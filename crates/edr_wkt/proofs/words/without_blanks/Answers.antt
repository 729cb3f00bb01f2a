use Rattle.std.proofs.Common.{arith, ◌∙◌, sym, ap, not}
use Rattle.std.proofs.lemmas.List.{take_rest}
use Rattle.edr_base.specs.SplitLaws.{IsSplit-at, IsSplit-all}
use Rattle.edr_wkt.specs.Reads.{not_blank}
use Rattle.edr_wkt.proofs.words.without_blanks.Goals as goal

pub returns-then-not-is_blank : goal.returns-then-not-is_blank
returns-then-not-is_blank c =
    rw take_rest (_, IsSplit-at not_blank c.args.text.now c.loop-i.i (omega arith) c.loop-i.invariant (λ h. ap not (sym c.is_blank.ensures ∙ c.if-not-is_blank.true)))

pub returns : goal.returns
returns c = (c.args.text.now, IsSplit-all not_blank c.args.text.now c.loop-i.i (omega arith) c.loop-i.invariant)
