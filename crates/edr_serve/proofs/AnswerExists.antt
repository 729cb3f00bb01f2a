-- Each page has an answer.
use Rattle.std.proofs.Common.{◌≡◌, ◌∙◌, ℕ, true, List, refl, ap, subst, Some, None, Ok, Err}
use Rattle.std.specs.Prelude.{Result, option_map, option_and_then, is_none, ◌&&◌}
use Rattle.std.specs.declared.option.Option.{Option}
use Rattle.serde_json.specs.Written.{compact_text}
use Rattle.edr_base.specs.FirstThatApplies.{NoneApplies}
use Rattle.edr_base.specs.declared.refusals.Refusal.{Refusal}
use Rattle.edr_base.specs.declared.refusals.Refusal.TheVariants.{UnknownCollection, UnknownInstance, QueryNotOffered}
use Rattle.covjson_value.specs.Trees.{document_text}
use Rattle.edr_ids.specs.Ids.{item_of}
use Rattle.edr_edition.specs.declared.kinds.Kind.{Kind}
use Rattle.edr_edition.specs.declared.kinds.Kind.TheVariants.{Grid, Station}
use Rattle.edr_edition.specs.Values.{InstanceValue, CollectionValue, EditionValue, instance_id, collection_id}
use Rattle.edr_edition.specs.Stores.{Held, of_grid, of_stations, Subject, instance_named, held_in, subject_in, subject_of}
use Rattle.edr_query.specs.Values.{QueryValue}
use Rattle.edr_query.specs.declared.pages.Page.{Page}
use Rattle.edr_query.specs.declared.pages.Page.TheVariants.{Landing, Conformance, Collections, Collection, Instances, Instance, Locations, Ask}
use Rattle.edr_select.specs.Refusals.{Applies, applies_if_found, applies_in, is_of_grids, refused, IsFirstRefusal, RefusalIsLeast}
use Rattle.edr_select.specs.Documents.{document}
use Rattle.edr_describe.specs.Descriptions.{landing_page, conformance_page, collections_page, collection_page, instances_page, instance_page, locations_page, page_of_instance}
use Rattle.edr_describe.specs.Answers.{page_text, IsAnswer}
use Rattle.edr_serve.specs.Answers.{PageHasAnswer}

-- there is one
abbrev Is : {V : Type 0} → Option V → Type 0
Is {V} o = (v : V) × (o ≡ Some v)

-- a collection is found where UnknownCollection doesn't apply
collection_at : (page : Page) (o : Option CollectionValue) → ¬ (applies_if_found page UnknownCollection o ≡ true) → Is o
collection_at page None n = absurd (n refl)
collection_at page (Some collection) n = (collection, refl)

-- an instance is found where UnknownInstance doesn't apply to a collection of grids
instance_at : (o : Option InstanceValue) → ¬ (is_none o ≡ true) → Is o
instance_at None n = absurd (n refl)
instance_at (Some instance) n = (instance, refl)

-- what holds of the collection that is found holds of the edition
in_found : (page : Page) (refusal : Refusal) (o : Option CollectionValue) (collection : CollectionValue) → o ≡ Some collection
    → ¬ (applies_if_found page refusal o ≡ true) → ¬ (applies_in collection page refusal ≡ true)
in_found page refusal o collection e n = subst (λ (p : Option CollectionValue). ¬ (applies_if_found page refusal p ≡ true)) e n

mapped : {V W : Type 0} (f : V → W) (o : Option V) → Is o → Is (option_map f o)
mapped f o h = (f h.0, ap (option_map f) h.1)

-- ---- queries

held_at : (collection : CollectionValue) (query : QueryValue) (kind : Kind) → ¬ (is_of_grids kind && is_none (instance_named query.instance collection.instances) ≡ true) → Is (held_in collection kind query.instance)
held_at collection query Grid n = let h = instance_at (instance_named query.instance collection.instances) n in (of_grid h.0, ap (option_map of_grid) h.1)
held_at collection query Station n = (of_stations collection.parameters collection.stations, refl)

subject_at : (query : QueryValue) (o : Option CollectionValue) (collection : CollectionValue) → o ≡ Some collection
    → Is (held_in collection collection.kind query.instance) → Is (option_and_then (subject_in query.instance) o)
subject_at query o collection e h = (
  record { collection = collection; held = h.0 },
  ap (option_and_then (subject_in query.instance)) e ∙ ap (option_map (λ (held : Held). record { collection = collection; held = held })) h.1,
)

data_there : (edition : EditionValue) (query : QueryValue) → NoneApplies (Applies edition (Ask query)) → Is (page_text edition (Ask query))
data_there edition query none =
    let o = item_of collection_id query.collection edition.collections in
    let found = collection_at (Ask query) o (none UnknownCollection) in
    let grids = in_found (Ask query) UnknownInstance o found.0 found.1 (none UnknownInstance) in
    mapped (λ (subject : Subject). document_text (document subject query)) (subject_of edition query.collection query.instance)
    (subject_at query o found.0 found.1 (held_at found.0 query found.0.kind grids))

-- ---- descriptions

instance_there : (collection : CollectionValue) (c i : List ℕ) (kind : Kind) → collection.kind ≡ kind
    → ¬ (applies_in collection (Instance c i) UnknownInstance ≡ true) → ¬ (applies_in collection (Instance c i) QueryNotOffered ≡ true) → Is (page_of_instance i collection)
instance_there collection c i Grid e known offered =
    mapped (instance_page collection) (item_of instance_id i collection.instances)
    (instance_at (item_of instance_id i collection.instances) (subst (λ (k : Kind). ¬ (is_of_grids k && is_none (item_of instance_id i collection.instances) ≡ true)) e known))
instance_there collection c i Station e known offered = absurd (offered (rw e refl))

instance_found : (edition : EditionValue) (c i : List ℕ) → NoneApplies (Applies edition (Instance c i)) → Is (page_text edition (Instance c i))
instance_found edition c i none =
    let o = item_of collection_id c edition.collections in
    let found = collection_at (Instance c i) o (none UnknownCollection) in
    let known = in_found (Instance c i) UnknownInstance o found.0 found.1 (none UnknownInstance) in
    let offered = in_found (Instance c i) QueryNotOffered o found.0 found.1 (none QueryNotOffered) in
    let page = instance_there found.0 c i found.0.kind refl known offered in
    mapped compact_text (option_and_then (page_of_instance i) o) (page.0, ap (option_and_then (page_of_instance i)) found.1 ∙ page.1)

text_there : (edition : EditionValue) (page : Page) → NoneApplies (Applies edition page) → Is (page_text edition page)
text_there edition Landing none = (compact_text landing_page, refl)
text_there edition Conformance none = (compact_text conformance_page, refl)
text_there edition Collections none = (compact_text (collections_page edition.collections), refl)
text_there edition (Collection c) none =
    let o = item_of collection_id c edition.collections in
    mapped compact_text (option_map collection_page o) (mapped collection_page o (collection_at (Collection c) o (none UnknownCollection)))
text_there edition (Instances c) none =
    let o = item_of collection_id c edition.collections in
    mapped compact_text (option_map instances_page o) (mapped instances_page o (collection_at (Instances c) o (none UnknownCollection)))
text_there edition (Instance c i) none = instance_found edition c i none
text_there edition (Locations c) none =
    let o = item_of collection_id c edition.collections in
    mapped compact_text (option_map locations_page o) (mapped locations_page o (collection_at (Locations c) o (none UnknownCollection)))
text_there edition (Ask query) none = data_there edition query none

answer_by : (edition : EditionValue) (page : Page) (r : Option Refusal) → IsFirstRefusal edition page r → (answer : Result (List ℕ) Refusal) × IsAnswer edition page answer
answer_by edition page None none = let text = text_there edition page none in (Ok text.0, record { none = none; text_is = text.1 })
answer_by edition page (Some refusal) least = (Err refusal, least)

pub has_answer : RefusalIsLeast → PageHasAnswer
has_answer least edition page = answer_by edition page (refused edition page) (least edition page)
