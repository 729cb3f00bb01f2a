use Rattle.std.proofs.Common.{◌≡◌, true, false, is_some, ap, ◌∙◌, subst, refl}
use Rattle.edr_ids.specs.Ids.{item_of, with_item}
use Rattle.edr_edition.specs.Values.{collection_id}
use Rattle.edr_draft.proofs.StepLaws.{tested, there_refuses, nothing_there}
use Rattle.edr_draft.proofs.steps.add_collection.Goals as goal

pub returns-then-is_some : goal.returns-then-is_some
returns-then-is_some c =
    let cs = c.args.collections.now in
    let id = c.args.id in
    let there : is_some (item_of collection_id id cs) ≡ true =
    subst (λ k. is_some (item_of collection_id k cs) ≡ true) c.bytes.ensures
    (tested (λ held. held.now) c.item_of.result (item_of collection_id c.bytes.result.now cs) c.is_some.result true c.item_of.ensures c.is_some.ensures c.if-is_some.true) in
    record { made = record { finds = λ _. there_refuses cs id c.args.kind c.args.title c.args.referencing there; becomes = refl } }

pub returns : goal.returns
returns c =
    let cs = c.args.collections.now in
    let id = c.args.id in
    let none : is_some (item_of collection_id id cs) ≡ false =
    subst (λ k. is_some (item_of collection_id k cs) ≡ false) c.bytes.ensures
    (tested (λ held. held.now) c.item_of.result (item_of collection_id c.bytes.result.now cs) c.is_some.result false c.item_of.ensures c.is_some.ensures c.if-is_some.false) in
    record {
      made = record {
        finds = nothing_there cs id c.args.kind c.args.title c.args.referencing none;
        becomes = c.in_ok-put.ensures.put ∙ ap (λ collection. with_item collection_id collection cs) c.in_ok-collection.ensures;
      };
    }
