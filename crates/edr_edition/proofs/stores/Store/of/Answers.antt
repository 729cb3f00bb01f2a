use Rattle.std.proofs.Common.{option_map}
use Rattle.edr_edition.proofs.HeldLaws.{is_subject, subject_stands}
use Rattle.edr_edition.proofs.stores.Store.of.Goals as goal

pub returns-clause-subject : goal.returns-clause-subject
returns-clause-subject c =
    is_subject c.in-Some.collection.now (option_map (λ id. id.now) c.args.instance) (option_map (λ i. i.now) c.instance_held.result) c.instance_held.ensures.grids c.instance_held.ensures.stations
    c.args.edition.now c.args.collection.now c.in-Some.ensures.item c.requires

pub invariant_of-result : goal.invariant_of-result
invariant_of-result c =
    subject_stands c.in-Some.collection.now (option_map (λ id. id.now) c.args.instance) (option_map (λ i. i.now) c.instance_held.result) c.instance_held.ensures.grids c.instance_held.ensures.stations
    c.in-Some.ensures.collection

pub returns-clause-stands : goal.returns-clause-stands
returns-clause-stands c =
    subject_stands c.in-Some.collection.now (option_map (λ id. id.now) c.args.instance) (option_map (λ i. i.now) c.instance_held.result) c.instance_held.ensures.grids c.instance_held.ensures.stations
    c.in-Some.ensures.collection
