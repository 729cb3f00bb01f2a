use Rattle.std.proofs.Common.{◌≢◌, refl, ap, ◌∙◌, subst}
use Rattle.edr_base.specs.FirstThatApplies.{IsLeast, NoneApplies}
use Rattle.edr_ids.specs.Ids.{with_item}
use Rattle.edr_edition.specs.Values.{collection_id}
use Rattle.edr_draft.specs.declared.changes.ChangeFault.TheVariants.{OutOfMemory}
use Rattle.edr_draft.specs.Changes.{rank, as_station, AppliesToSet}
use Rattle.edr_edition.specs.Stores.{collection_in}
use Rattle.edr_draft.specs.Steps.{Fits}
use Rattle.edr_draft.proofs.StepLaws.{becomes_with_series}
use Rattle.edr_draft.proofs.steps.set_station.Goals as goal

pub with_series-requires-clause-fits : goal.with_series-requires-clause-fits
with_series-requires-clause-fits c = subst (λ i. Fits (as_station i) c.in-Ok.held.now c.args.coverage) c.bytes.ensures c.in-Ok.ensures.fits

pub returns-in-Err : goal.returns-in-Err
returns-in-Err c =
    let there = collection_in c.args.collections.now c.args.collection.now in
    record {
      made = record {
        finds = subst (λ i. c.in-Err.fault ≢ OutOfMemory → IsLeast rank (AppliesToSet (as_station i) there c.args.coverage) c.in-Err.fault) c.bytes.ensures c.in-Err.ensures.finds;
        becomes = refl;
      };
    }

pub returns : goal.returns
returns c =
    let cs = c.args.collections.now in
    let collection = c.args.collection.now in
    let coverage = c.args.coverage in
    record {
      made = record {
        finds = subst (λ i. NoneApplies (AppliesToSet (as_station i) (collection_in cs collection) coverage)) c.bytes.ensures c.in-Ok.ensures.finds;
        becomes =
            becomes_with_series cs c.put.new.self collection c.args.id c.args.label coverage c.in-Ok.held.now c.in-Ok.ensures.held
            (c.in_ok-put.ensures.put ∙ ap (λ b. with_item collection_id b cs) c.in_ok-set.ensures);
      };
    }
