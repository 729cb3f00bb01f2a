-- The document of a query that no refusal applies to is that of a reply, and so it is valid.
use Rattle.std.proofs.Common.{Bool, None, Some, ap, arith, false, refl, subst, sym, true, ◌∙◌, ◌≡◌}
use Rattle.std.specs.Prelude.{is_none, not, option_and_then, ◌&&◌}
use Rattle.std.specs.declared.option.Option.{Option}
use Rattle.covjson_value.specs.Coverages.{IsValidDocument}
use Rattle.edr_base.specs.FirstThatApplies.{NoneApplies}
use Rattle.edr_base.specs.declared.refusals.Refusal.{Refusal}
use Rattle.edr_base.specs.declared.refusals.Refusal.TheVariants.{NoSamples, QueryNotOffered, UnknownCollection, UnknownInstance}
use Rattle.edr_edition.specs.Editions.{AreCollections, IsCollection}
use Rattle.edr_edition.specs.GridLaws.{instance_has}
use Rattle.edr_edition.specs.Instances.{HasGrid, IsInstance}
use Rattle.edr_edition.specs.Stores.{Subject, instance_named, subject_in, subject_of}
use Rattle.edr_edition.specs.Values.{CollectionValue, EditionValue, InstanceValue, collection_id}
use Rattle.edr_edition.specs.declared.kinds.Kind.{Kind}
use Rattle.edr_edition.specs.declared.kinds.Kind.TheVariants.{Grid, Station}
use Rattle.edr_ids.specs.Ids.{item_of}
use Rattle.edr_ids.specs.ListLaws.{item_found}
use Rattle.edr_lines.specs.Asked.{IsAlong}
use Rattle.edr_lines.specs.DocumentLaws.{LineDocumentsAreValid}
use Rattle.edr_query.specs.Queries.{IsQuery}
use Rattle.edr_query.specs.Values.{QueryValue}
use Rattle.edr_query.specs.declared.pages.Page.TheVariants.{Ask}
use Rattle.edr_query.specs.declared.shapes.Shape.{Shape}
use Rattle.edr_select.specs.Checks.{grid_of, stations_in}
use Rattle.edr_select.specs.Choices.{TakesEach}
use Rattle.edr_select.specs.DocumentLaws.{GridDocumentsAreValid}
use Rattle.edr_select.specs.Documents.{document}
use Rattle.edr_select.specs.Heads.{is_some_stored}
use Rattle.edr_select.specs.ListLaws.{all_member}
use Rattle.edr_select.specs.NamedLaws.{named_member, subject_found}
use Rattle.edr_select.specs.Refusals.{Applies, applies_if, applies_if_found, applies_in, applies_to_subject, is_of_grids, offers, offers_shape}
use Rattle.edr_select.specs.Selections.{picked}
use Rattle.edr_plan.specs.DocumentLaws.{DocumentsAreValid}
use Rattle.edr_plan.specs.Found.{IsOfGrids}
use Rattle.edr_plan.specs.StationPlaces.{IsAmongStations}
use Rattle.edr_plan.proofs.StationReplies.{stations_valid}
use Rattle.edr_query.specs.declared.shapes.Shape.TheVariants as at

-- there is one
abbrev Is : {V : Type 0} → Option V → Type 0
Is {V} o = (v : V) × (o ≡ Some v)

-- ---- what no refusal tells

collection_at : (q : QueryValue) (o : Option CollectionValue) → ¬ (applies_if_found (Ask q) UnknownCollection o ≡ true) → Is o
collection_at q None n = absurd (n refl)
collection_at q (Some collection) n = (collection, refl)

in_found : (q : QueryValue) (refusal : Refusal) (o : Option CollectionValue) (collection : CollectionValue) → o ≡ Some collection
    → ¬ (applies_if_found (Ask q) refusal o ≡ true) → ¬ (applies_in collection (Ask q) refusal ≡ true)
in_found q refusal o collection e n = subst (λ (p : Option CollectionValue). ¬ (applies_if_found (Ask q) refusal p ≡ true)) e n

-- the shapes that collections of a kind answer
abbrev IsAnswered : Kind → Shape → Type 0
IsAnswered Grid shape = IsOfGrids shape
IsAnswered Station shape = IsAmongStations shape

offered_of_grids : (shape : Shape) → ¬ (not (offers_shape Grid shape) ≡ true) → IsOfGrids shape
offered_of_grids (at.Position geometry) n = tt
offered_of_grids (at.Radius geometry within) n = tt
offered_of_grids (at.Area geometry) n = tt
offered_of_grids (at.Cube lo hi levels) n = tt
offered_of_grids (at.Trajectory geometry) n = tt
offered_of_grids (at.Corridor geometry width height) n = tt
offered_of_grids (at.Location id) n = absurd (n refl)

not_both : (b : Bool) → not (b && false) ≡ true
not_both true = refl
not_both false = refl

offered_of_stations : (shape : Shape) (b : Bool) → ¬ (not (b && offers_shape Station shape) ≡ true) → IsAmongStations shape
offered_of_stations (at.Position geometry) b n = absurd (n (not_both b))
offered_of_stations (at.Radius geometry within) b n = tt
offered_of_stations (at.Area geometry) b n = tt
offered_of_stations (at.Cube lo hi levels) b n = tt
offered_of_stations (at.Trajectory geometry) b n = absurd (n (not_both b))
offered_of_stations (at.Corridor geometry width height) b n = tt
offered_of_stations (at.Location id) b n = tt

answered : (kind : Kind) (q : QueryValue) → ¬ (not (offers kind (Ask q)) ≡ true) → IsAnswered kind q.shape
answered Grid q n = offered_of_grids q.shape n
answered Station q n = offered_of_stations q.shape (is_none q.instance) n

instance_at : (kind : Kind) (o : Option InstanceValue) → kind ≡ Grid → ¬ (is_of_grids kind && is_none o ≡ true) → Is o
instance_at Grid None e n = absurd (n refl)
instance_at Station None e n = cc
instance_at kind (Some instance) e n = (instance, refl)

same_subject : {s t : Subject} → Some s ≡ Some t → s ≡ t
same_subject e = grind (arith, e)

-- ---- the document

module _ (of_grids : GridDocumentsAreValid) (of_lines : LineDocumentsAreValid) (e : EditionValue) (q : QueryValue) (subject : Subject) (are : AreCollections e.collections) (query : IsQuery q)
    (none_applies : NoneApplies (Applies e (Ask q))) (named : subject_of e q.collection q.instance ≡ Some subject) (c : CollectionValue)
    (found : item_of collection_id q.collection e.collections ≡ Some c) where
  collection : IsCollection c
  collection = all_member IsCollection e.collections c are.each (item_found collection_id q.collection e.collections c found).0

  refused_here : (refusal : Refusal) → ¬ (applies_in c (Ask q) refusal ≡ true)
  refused_here refusal = in_found q refusal (item_of collection_id q.collection e.collections) c found (none_applies refusal)

  answers : IsAnswered c.kind q.shape
  answers = answered c.kind q (refused_here QueryNotOffered)

  -- something is picked of what it is asked of
  some_of : (s : Subject) → subject_in q.instance c ≡ Some s → is_some_stored (picked s q) ≡ true
  some_of s is =
      of_not (is_some_stored (picked s q)) (subst (λ (o : Option Subject). ¬ (applies_if (applies_to_subject q NoSamples) o ≡ true)) is (refused_here NoSamples))
    where
      of_not : (b : Bool) → ¬ (not b ≡ true) → b ≡ true
      of_not true n = refl
      of_not false n = absurd (n refl)

  -- what it is asked of is this
  same : (s : Subject) → subject_in q.instance c ≡ Some s → s ≡ subject
  same s is = same_subject (sym (ap (λ (o : Option CollectionValue). option_and_then (subject_in q.instance) o) found ∙ is) ∙ named)

  -- over an instance of grids
  module _ (kind : c.kind ≡ Grid) where
    held : Is (instance_named q.instance c.instances)
    held = instance_at c.kind (instance_named q.instance c.instances) kind (refused_here UnknownInstance)

    abbrev i : InstanceValue
    i = held.0

    grid : HasGrid i
    grid = instance_has i (all_member IsInstance c.instances i collection.instances.each (named_member q.instance c.instances i held.1))

    picks : is_some_stored (picked (grid_of c i) q) ≡ true
    picks = some_of (grid_of c i) (subject_found c q i kind held.1)

    over_places : TakesEach q.shape → IsValidDocument (document (grid_of c i) q)
    over_places each = of_grids c q i (record { is_collection = collection; kind = kind; instance_is = held.1; each = each; shape = query.shape; grid = grid }) picks

    along_line : IsAlong q.shape → IsValidDocument (document (grid_of c i) q)
    along_line along = of_lines c q i (record { is_collection = collection; kind = kind; instance_is = held.1; along = along; shape = query.shape; grid = grid }) picks

    by_shape : (shape : Shape) → q.shape ≡ shape → IsOfGrids shape → IsValidDocument (document (grid_of c i) q)
    by_shape (at.Position geometry) e of = over_places (subst TakesEach (sym e) tt)
    by_shape (at.Radius geometry within) e of = over_places (subst TakesEach (sym e) tt)
    by_shape (at.Area geometry) e of = over_places (subst TakesEach (sym e) tt)
    by_shape (at.Cube lo hi levels) e of = over_places (subst TakesEach (sym e) tt)
    by_shape (at.Trajectory geometry) e of = along_line (subst IsAlong (sym e) tt)
    by_shape (at.Corridor geometry width height) e of = along_line (subst IsAlong (sym e) tt)
    by_shape (at.Location id) e of = absurd of

    over_grid : IsOfGrids q.shape → IsValidDocument (document subject q)
    over_grid of = subst (λ (s : Subject). IsValidDocument (document s q)) (same (grid_of c i) (subject_found c q i kind held.1)) (by_shape q.shape refl of)

  -- over stations
  module _ (kind : c.kind ≡ Station) where
    found_stations : subject_in q.instance c ≡ Some (stations_in c)
    found_stations = rw kind refl

    some_stored : is_some_stored (picked (stations_in c) q) ≡ true
    some_stored = some_of (stations_in c) found_stations

    over_stations : IsAmongStations q.shape → IsValidDocument (document subject q)
    over_stations of = subst (λ (s : Subject). IsValidDocument (document s q)) (same (stations_in c) found_stations) (stations_valid c q collection some_stored)

  over : (kind : Kind) → c.kind ≡ kind → IsAnswered kind q.shape → IsValidDocument (document subject q)
  over Grid kind of = over_grid kind of
  over Station kind of = over_stations kind of

  pub document_valid : IsValidDocument (document subject q)
  document_valid = over c.kind refl answers

pub documents_are_valid : GridDocumentsAreValid → LineDocumentsAreValid → DocumentsAreValid
documents_are_valid of_grids of_lines e q subject are query none named =
    let found = collection_at q (item_of collection_id q.collection e.collections) (none UnknownCollection) in
    document_valid of_grids of_lines e q subject are query none named found.0 found.1
