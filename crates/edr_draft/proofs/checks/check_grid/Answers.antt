use Rattle.std.proofs.Common.{◌≡◌, true, sym, ◌∙◌}
use Rattle.edr_ids.specs.Ids.{without_id}
use Rattle.edr_edition.specs.declared.kinds.Kind.TheVariants.{Grid}
use Rattle.edr_edition.specs.Values.{instance_id}
use Rattle.edr_draft.specs.Changes.{as_instance}
use Rattle.edr_draft.proofs.KindLaws.{kind_is}
use Rattle.edr_draft.proofs.FaultLaws.{finds_beside}
use Rattle.edr_draft.proofs.SeriesLaws.{found_others, others_found}
use Rattle.edr_draft.proofs.checks.check_grid.Goals as goal

pub returns : goal.returns
returns c =
    let collection = c.args.collection.now in
    let others = without_id instance_id c.args.id.now collection.instances in
    let found = c.other_instance.result in
    let kind = kind_is c.kind.result collection.kind Grid c.ne.result c.kind.ensures.kind c.ne.ensures c.if-ne.false in
    let grid = sym c.is_grid.ensures ∙ c.if-not-is_grid.false in
    finds_beside (as_instance c.args.id.now) collection c.args.coverage.now (c.is_some-has_others.result ≡ true)
    (λ has. found_others others found c.other_instance.ensures.other (sym c.is_some-has_others.ensures ∙ has))
    (λ some. c.is_some-has_others.ensures ∙ others_found others found c.other_instance.ensures.other some) kind grid c.check_coverage.result (λ h. h) c.check_coverage.ensures
