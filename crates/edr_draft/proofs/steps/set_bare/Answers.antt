use Rattle.std.proofs.Common.{◌≡◌, IfOk, refl, sym, ap, ◌∙◌, subst}
use Rattle.edr_base.specs.Names.{IsName}
use Rattle.edr_ids.specs.Ids.{with_item}
use Rattle.edr_edition.specs.Values.{collection_id}
use Rattle.edr_draft.specs.Changes.{as_instance, with_grid}
use Rattle.edr_draft.specs.Steps.{Fits}
use Rattle.edr_draft.proofs.CollectionLaws.{one_is_name}
use Rattle.edr_draft.proofs.StepLaws.{becomes_with_bare}
use Rattle.edr_draft.proofs.steps.set_bare.Goals as goal

pub with_grid-set-requires-clause-id : goal.with_grid-set-requires-clause-id
with_grid-set-requires-clause-id c = subst IsName (sym c.in-Ok.ensures.id) one_is_name

pub with_grid-set-requires-clause-fits : goal.with_grid-set-requires-clause-fits
with_grid-set-requires-clause-fits c = subst (λ i. Fits (as_instance i) c.in-Ok.place.1 c.args.coverage) (sym c.in-Ok.ensures.id) c.in-Ok.ensures.fits

pub returns-in-Err : goal.returns-in-Err
returns-in-Err c = record { made = record { finds = c.in-Err.ensures.finds; becomes = refl } }

pub returns : goal.returns
returns c =
    let set = subst (λ r. IfOk r (λ set. set ≡ with_grid c.in-Ok.place.0 c.args.coverage c.in-Ok.place.1)) c.in_ok-set.was c.with_grid-set.ensures in
    record {
      made = record {
        finds = c.in-Ok.ensures.finds;
        becomes =
            becomes_with_bare c.args.collections.now c.put.new.self c.in-Ok.place.0 c.args.coverage c.in-Ok.place.1 c.in-Ok.ensures.held c.in-Ok.ensures.id
            (c.in_ok-put.ensures.put ∙ ap (λ b. with_item collection_id b c.args.collections.now) set);
      };
    }
