use Rattle.std.proofs.Common.{◌≡◌, true, false, is_some, refl, sym, ap, ◌∙◌, subst}
use Rattle.std.specs.declared.option.Option.{Option}
use Rattle.std.specs.Option.{IfSome}
use Rattle.edr_ids.specs.Ids.{item_of}
use Rattle.edr_edition.specs.declared.kinds.Kind.TheVariants.{Station}
use Rattle.edr_station.specs.Stations.{station_id}
use Rattle.edr_edition.specs.Values.{CollectionValue}
use Rattle.edr_edition.specs.Collections.{without_station}
use Rattle.edr_draft.proofs.KindLaws.{kind_differs, kind_is}
use Rattle.edr_draft.proofs.StepLaws.{dropping_station_unknown, dropping_station_wrong_kind, dropping_unknown_station, dropping_station_no_fault, station_left}
use Rattle.edr_draft.proofs.steps.drop_station.Goals as goal

pub returns-in_default : goal.returns-in_default
returns-in_default c =
    record { made = record { finds = λ _. dropping_station_unknown c.args.collections.now c.args.collection.now c.args.id.now (sym c.in_default.ensures); becomes = refl } }

pub returns-then-ne : goal.returns-then-ne
returns-then-ne c =
    let held = c.in-Some.held.now in
    let other = kind_differs c.kind.result held.kind Station c.ne.result c.kind.ensures.kind c.ne.ensures c.if-ne.true in
    record { made = record { finds = λ _. dropping_station_wrong_kind c.args.collections.now held c.args.collection.now c.args.id.now c.in-Some.ensures other; becomes = refl } }

pub returns-in_default-2 : goal.returns-in_default-2
returns-in_default-2 c =
    let held = c.in-Some.held.now in
    let id = c.args.id.now in
    let kind = kind_is c.kind.result held.kind Station c.ne.result c.kind.ensures.kind c.ne.ensures c.if-ne.false in
    let lacks : is_some (item_of station_id id held.stations) ≡ false = sym c.in_ok-left.ensures.there ∙ ap is_some c.in_default-2.is in
    record { made = record { finds = λ _. dropping_unknown_station c.args.collections.now held c.args.collection.now id c.in-Some.ensures kind lacks; becomes = refl } }

pub returns : goal.returns
returns c =
    let cs = c.args.collections.now in
    let held = c.in-Some.held.now in
    let id = c.args.id.now in
    let kind = kind_is c.kind.result held.kind Station c.ne.result c.kind.ensures.kind c.ne.ensures c.if-ne.false in
    let has : is_some (item_of station_id id held.stations) ≡ true = sym c.in_ok-left.ensures.there ∙ ap is_some c.in-Some-2.is in
    let left = subst (λ (o : Option CollectionValue). IfSome o (λ collection. collection ≡ without_station id held)) c.in-Some-2.is c.in_ok-left.ensures.left in
    record {
      made = record {
        finds = dropping_station_no_fault cs held c.args.collection.now id c.in-Some.ensures kind has;
        becomes = c.in_ok-put.ensures.put ∙ station_left cs held c.args.collection.now id c.in-Some.ensures c.in-Some-2.left left;
      };
    }
