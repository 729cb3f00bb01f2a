use Rattle.std.proofs.Common.{◌≡◌, true, false, is_some, refl, sym, ap, ◌∙◌, subst}
use Rattle.std.specs.declared.option.Option.{Option}
use Rattle.std.specs.Option.{IfSome}
use Rattle.edr_ids.specs.Ids.{item_of}
use Rattle.edr_edition.specs.declared.kinds.Kind.TheVariants.{Grid}
use Rattle.edr_edition.specs.Values.{CollectionValue, instance_id}
use Rattle.edr_edition.specs.Collections.{without_instance}
use Rattle.edr_draft.proofs.KindLaws.{kind_differs, kind_is}
use Rattle.edr_draft.proofs.StepLaws.{dropping_unknown, dropping_wrong_kind, dropping_unknown_instance, dropping_no_fault, instance_left}
use Rattle.edr_draft.proofs.steps.drop_instance.Goals as goal

pub returns-in_default : goal.returns-in_default
returns-in_default c =
    record { made = record { finds = λ _. dropping_unknown c.args.collections.now c.args.collection.now c.args.id.now (sym c.in_default.ensures); becomes = refl } }

pub returns-then-ne : goal.returns-then-ne
returns-then-ne c =
    let held = c.in-Some.held.now in
    let other = kind_differs c.kind.result held.kind Grid c.ne.result c.kind.ensures.kind c.ne.ensures c.if-ne.true in
    record { made = record { finds = λ _. dropping_wrong_kind c.args.collections.now held c.args.collection.now c.args.id.now c.in-Some.ensures other; becomes = refl } }

pub returns-in_default-2 : goal.returns-in_default-2
returns-in_default-2 c =
    let held = c.in-Some.held.now in
    let id = c.args.id.now in
    let kind = kind_is c.kind.result held.kind Grid c.ne.result c.kind.ensures.kind c.ne.ensures c.if-ne.false in
    let lacks : is_some (item_of instance_id id held.instances) ≡ false = sym c.in_ok-left.ensures.there ∙ ap is_some c.in_default-2.is in
    record { made = record { finds = λ _. dropping_unknown_instance c.args.collections.now held c.args.collection.now id c.in-Some.ensures kind lacks; becomes = refl } }

pub returns : goal.returns
returns c =
    let cs = c.args.collections.now in
    let held = c.in-Some.held.now in
    let id = c.args.id.now in
    let kind = kind_is c.kind.result held.kind Grid c.ne.result c.kind.ensures.kind c.ne.ensures c.if-ne.false in
    let has : is_some (item_of instance_id id held.instances) ≡ true = sym c.in_ok-left.ensures.there ∙ ap is_some c.in-Some-2.is in
    let left = subst (λ (o : Option CollectionValue). IfSome o (λ collection. collection ≡ without_instance id held)) c.in-Some-2.is c.in_ok-left.ensures.left in
    record {
      made = record {
        finds = dropping_no_fault cs held c.args.collection.now id c.in-Some.ensures kind has;
        becomes = c.in_ok-put.ensures.put ∙ instance_left cs held c.args.collection.now id c.in-Some.ensures c.in-Some-2.left left;
      };
    }
