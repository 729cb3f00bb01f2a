use Rattle.std.proofs.Common.{sym, ◌∙◌}
use Rattle.edr_query.proofs.ListLemmas.{true_false}
use Rattle.edr_query.proofs.PathLemmas.{no_slash}
use Rattle.edr_query.proofs.IdLemmas.{named, unnamed}
use Rattle.edr_query.proofs.paths.read_address.Goals as goal

pub returns-in_default : goal.returns-in_default
returns-in_default c = no_slash c.args.path.now c.in_default.ensures

pub returns-then-has_ids : goal.returns-then-has_ids
returns-then-has_ids c =
    named c.args.path.now c.in-Some.inner.now c.in-Some-2.address c.in-Some.ensures (sym c.in-Some-2.is ∙ c.in_ok-address.ensures) (c.has_ids.ensures.0 c.if-has_ids.true)

pub returns-else-has_ids : goal.returns-else-has_ids
returns-else-has_ids c =
    unnamed c.args.path.now c.in-Some.inner.now c.in-Some-2.address c.in-Some.ensures (sym c.in-Some-2.is ∙ c.in_ok-address.ensures)
    (λ all. true_false (sym (c.has_ids.ensures.1 all) ∙ c.if-has_ids.false))
