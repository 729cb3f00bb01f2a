-- What a line of one member has, by the name of the member.
use Rattle.std.proofs.Common.{◌≡◌, ◌⊎◌, ℕ, true, List, [], ◌∷◌, codes, Option, None, Some, inl, inr, refl}
use Rattle.serde_json.specs.Data.{Data, string}
use Rattle.serde_json.specs.Find.{get}
use Rattle.covjson_read.specs.Standing.{Stands}
use Rattle.covjson_value.specs.declared.coverages.Coverage.{Coverage}
use Rattle.edr_edition.specs.declared.kinds.Kind.{Kind}
use Rattle.edr_draft.specs.declared.changes.Change.TheVariants.{Collection, Grid, Station, DropCollection, DropInstance, DropStation, Bare}
use Rattle.edr_feed.specs.declared.entries.Entry.{Entry}
use Rattle.edr_feed.specs.declared.entries.Entry.TheVariants.{Change, Publish}
use Rattle.edr_feed.specs.Forms.{IsObjectOf, kind_word, IsCollection, IsGrid, IsStation, IsDropCollection, IsDropInstance, IsDropStation, HoldsGrid, HoldsStation, HasForm, HoldsCoverage, HasOutline}
use Rattle.edr_feed.specs.FormParts.{HasText, HasName, HasTextIfGiven, HasKind, collection_members, line_of}
use Rattle.edr_json.specs.Trees.{has_members}
use Rattle.edr_feed.proofs.FormMembers.{Named, object_is, object_counts, object_finds, object_lacks}
use Rattle.edr_feed.proofs.FormLemmas.{text_is, is_text, just_line, just_value, just_other}

-- ---- a collection

-- the parts of a collection
pub record CollectionParts (d : Data) (id : List ℕ) (kind : Kind) (title crs : List ℕ) (vertical : Option (List ℕ)) : Type 0 where
  pub has_id : HasName (codes "id") d id
  pub has_kind : HasKind d kind
  pub has_title : HasText (codes "title") d title
  pub has_crs : HasText (codes "crs") d crs
  pub has_vertical : HasTextIfGiven (codes "vertical") d vertical
  pub counts : has_members (collection_members vertical) d ≡ true

pub collection_parts : (id : List ℕ) (kind : Kind) (title crs : List ℕ) (vertical : Option (List ℕ)) (d : Data) → IsCollection id kind title crs vertical d
    → CollectionParts d id kind title crs vertical
collection_parts id kind title crs None d is =
    let these : List Named = (codes "id", string id) ∷ (codes "kind", string (kind_word kind)) ∷ (codes "title", string title) ∷ (codes "crs", string crs) ∷ [] in
    let finds = object_finds these d refl is.members in
    record {
      has_id = (is_text (codes "id") d id finds.0, is.id_is_name);
      has_kind = is_text (codes "kind") d (kind_word kind) finds.1.0;
      has_title = is_text (codes "title") d title finds.1.1.0;
      has_crs = is_text (codes "crs") d crs finds.1.1.1.0;
      has_vertical = object_lacks these d is.members (codes "vertical") refl;
      counts = object_counts these d is.members 4;
    }
collection_parts id kind title crs (Some vertical) d is =
    let these : List Named = (codes "id", string id) ∷ (codes "kind", string (kind_word kind)) ∷ (codes "title", string title) ∷ (codes "crs", string crs) ∷ (codes "vertical", string vertical) ∷ [] in
    let finds = object_finds these d refl is.members in
    record {
      has_id = (is_text (codes "id") d id finds.0, is.id_is_name);
      has_kind = is_text (codes "kind") d (kind_word kind) finds.1.0;
      has_title = is_text (codes "title") d title finds.1.1.0;
      has_crs = is_text (codes "crs") d crs finds.1.1.1.0;
      has_vertical = finds.1.1.1.1.0;
      counts = object_counts these d is.members 5;
    }

-- and they make one
pub collection_whole : (id : List ℕ) (kind : Kind) (title crs : List ℕ) (vertical : Option (List ℕ)) (d : Data) → CollectionParts d id kind title crs vertical
    → IsCollection id kind title crs vertical d
collection_whole id kind title crs None d parts = record {
  id_is_name = parts.has_id.1;
  members = object_is ((codes "id", string id) ∷ (codes "kind", string (kind_word kind)) ∷ (codes "title", string title) ∷ (codes "crs", string crs) ∷ []) d refl parts.counts (
    text_is (codes "id") d id parts.has_id.0,
    (
      text_is (codes "kind") d (kind_word kind) parts.has_kind,
      (text_is (codes "title") d title parts.has_title, (text_is (codes "crs") d crs parts.has_crs, tt)),
    ),
  );
}
collection_whole id kind title crs (Some vertical) d parts = record {
  id_is_name = parts.has_id.1;
  members = object_is ((codes "id", string id) ∷ (codes "kind", string (kind_word kind)) ∷ (codes "title", string title) ∷ (codes "crs", string crs) ∷ (codes "vertical", string vertical) ∷ [])
      d refl parts.counts (
        text_is (codes "id") d id parts.has_id.0,
        (
          text_is (codes "kind") d (kind_word kind) parts.has_kind,
          (text_is (codes "title") d title parts.has_title, (text_is (codes "crs") d crs parts.has_crs, (parts.has_vertical, tt))),
        ),
      );
}

-- the parts of a collection that an entry adds
pub record AddsCollection (d : Data) (entry : Entry) : Type 0 where
  pub id : List ℕ
  pub kind : Kind
  pub title : List ℕ
  pub crs : List ℕ
  pub vertical : Option (List ℕ)
  pub parts : CollectionParts d id kind title crs vertical
  pub is : entry ≡ Change (Collection id kind title crs vertical)

pub collection_form : (d : Data) (entry : Entry) → HasForm (line_of (codes "collection") d) entry → AddsCollection d entry
collection_form d (Change (Collection id kind title crs vertical)) form =
    let is = just_value (codes "collection") d (IsCollection id kind title crs vertical) form in
    record {
      id = id;
      kind = kind;
      title = title;
      crs = crs;
      vertical = vertical;
      parts = collection_parts id kind title crs vertical d is;
      is = refl;
    }
collection_form d (Change (Grid collection instance coverage)) form = absurd (just_other (codes "collection") (codes "grid") d (IsGrid collection instance form.0) refl form.1)
collection_form d (Change (Station collection id label coverage)) form =
    absurd (just_other (codes "collection") (codes "station") d (IsStation collection id label form.0) refl form.1)
collection_form d (Change (DropCollection collection)) form = absurd (just_other (codes "collection") (codes "drop") d (IsDropCollection collection) refl form)
collection_form d (Change (DropInstance collection instance)) form = absurd (just_other (codes "collection") (codes "drop") d (IsDropInstance collection instance) refl form)
collection_form d (Change (DropStation collection id)) form = absurd (just_other (codes "collection") (codes "drop") d (IsDropStation collection id) refl form)
collection_form d (Change (Bare coverage)) form = let none = form.0 in cc
collection_form d Publish form = absurd (just_other (codes "collection") (codes "publish") d (IsObjectOf []) refl form)

pub collection_holds : (d coverage : Data) → HoldsCoverage (line_of (codes "collection") d) coverage → ⊥
collection_holds d coverage (inl grid) = just_other (codes "collection") (codes "grid") d (IsGrid grid.0 grid.1 coverage) refl grid.2
collection_holds d coverage (inr (inl station)) =
    just_other (codes "collection") (codes "station") d (IsStation station.0 station.1 station.2 coverage) refl station.3
collection_holds d coverage (inr (inr bare)) = let none = bare.0 in cc

-- some entry that adds a collection
pub collection_outline : (d : Data) → HasOutline (line_of (codes "collection") d) → (entry : Entry) × AddsCollection d entry
collection_outline d (inl form) = (form.0, collection_form d form.0 form.1)
collection_outline d (inr holds) = absurd (collection_holds d holds.0 holds.1)

-- ---- an instance

-- the parts of a line that sets an instance
pub record GridParts (d : Data) (collection instance : List ℕ) (coverage : Data) : Type 0 where
  pub has_collection : HasName (codes "collection") d collection
  pub has_instance : HasName (codes "instance") d instance
  pub has_coverage : get (codes "coverage") d ≡ Some coverage
  pub counts : has_members 3 d ≡ true

pub grid_parts : (collection instance : List ℕ) (coverage d : Data) → IsGrid collection instance coverage d → GridParts d collection instance coverage
grid_parts collection instance coverage d is =
    let these : List Named = (codes "collection", string collection) ∷ (codes "instance", string instance) ∷ (codes "coverage", coverage) ∷ [] in
    let finds = object_finds these d refl is.members in
    record {
      has_collection = (is_text (codes "collection") d collection finds.0, is.collection_is_name);
      has_instance = (is_text (codes "instance") d instance finds.1.0, is.instance_is_name);
      has_coverage = finds.1.1.0;
      counts = object_counts these d is.members 3;
    }

-- and they make one
pub grid_whole : (collection instance : List ℕ) (coverage d : Data) → GridParts d collection instance coverage → HoldsGrid (line_of (codes "grid") d) collection instance coverage
grid_whole collection instance coverage d parts = (
  d,
  just_line (codes "grid") d,
  record {
    collection_is_name = parts.has_collection.1;
    instance_is_name = parts.has_instance.1;
    members = object_is ((codes "collection", string collection) ∷ (codes "instance", string instance) ∷ (codes "coverage", coverage) ∷ []) d refl parts.counts
        (text_is (codes "collection") d collection parts.has_collection.0, (text_is (codes "instance") d instance parts.has_instance.0, (parts.has_coverage, tt)));
  },
)

-- what an entry sets
pub record SetsGrid (d : Data) (entry : Entry) : Type 0 where
  pub collection : List ℕ
  pub instance : List ℕ
  pub tree : Data
  pub parts : GridParts d collection instance tree
  pub coverage : Coverage
  pub stands : Stands tree coverage
  pub is : entry ≡ Change (Grid collection instance coverage)

pub grid_form : (d : Data) (entry : Entry) → HasForm (line_of (codes "grid") d) entry → SetsGrid d entry
grid_form d (Change (Collection id kind title crs vertical)) form = absurd (just_other (codes "grid") (codes "collection") d (IsCollection id kind title crs vertical) refl form)
grid_form d (Change (Grid collection instance coverage)) form = record {
  collection = collection;
  instance = instance;
  tree = form.0;
  parts = grid_parts collection instance form.0 d (just_value (codes "grid") d (IsGrid collection instance form.0) form.1);
  coverage = coverage;
  stands = form.2;
  is = refl;
}
grid_form d (Change (Station collection id label coverage)) form =
    absurd (just_other (codes "grid") (codes "station") d (IsStation collection id label form.0) refl form.1)
grid_form d (Change (DropCollection collection)) form = absurd (just_other (codes "grid") (codes "drop") d (IsDropCollection collection) refl form)
grid_form d (Change (DropInstance collection instance)) form = absurd (just_other (codes "grid") (codes "drop") d (IsDropInstance collection instance) refl form)
grid_form d (Change (DropStation collection id)) form = absurd (just_other (codes "grid") (codes "drop") d (IsDropStation collection id) refl form)
grid_form d (Change (Bare coverage)) form = let none = form.0 in cc
grid_form d Publish form = absurd (just_other (codes "grid") (codes "publish") d (IsObjectOf []) refl form)

-- the parts of some line that sets an instance
pub record HoldsParts (d coverage : Data) : Type 0 where
  pub collection : List ℕ
  pub instance : List ℕ
  pub parts : GridParts d collection instance coverage

pub grid_holds : (d coverage : Data) → HoldsCoverage (line_of (codes "grid") d) coverage → HoldsParts d coverage
grid_holds d coverage (inl grid) = record {
  collection = grid.0;
  instance = grid.1;
  parts = grid_parts grid.0 grid.1 coverage d (just_value (codes "grid") d (IsGrid grid.0 grid.1 coverage) grid.2);
}
grid_holds d coverage (inr (inl station)) =
    absurd (just_other (codes "grid") (codes "station") d (IsStation station.0 station.1 station.2 coverage) refl station.3)
grid_holds d coverage (inr (inr bare)) = let none = bare.0 in cc

pub grid_outline : (d : Data) → HasOutline (line_of (codes "grid") d) → (coverage : Data) × HoldsParts d coverage
grid_outline d (inl form) =
    let sets = grid_form d form.0 form.1 in
    (sets.tree, record { collection = sets.collection; instance = sets.instance; parts = sets.parts })
grid_outline d (inr holds) = (holds.0, grid_holds d holds.0 holds.1)

-- ---- a station

-- the parts of a line that sets a station
pub record StationParts (d : Data) (collection id label : List ℕ) (coverage : Data) : Type 0 where
  pub has_collection : HasName (codes "collection") d collection
  pub has_id : HasName (codes "id") d id
  pub has_label : HasText (codes "label") d label
  pub has_coverage : get (codes "coverage") d ≡ Some coverage
  pub counts : has_members 4 d ≡ true

station_parts : (collection id label : List ℕ) (coverage d : Data) → IsStation collection id label coverage d → StationParts d collection id label coverage
station_parts collection id label coverage d is =
    let these : List Named = (codes "collection", string collection) ∷ (codes "id", string id) ∷ (codes "label", string label) ∷ (codes "coverage", coverage) ∷ [] in
    let finds = object_finds these d refl is.members in
    record {
      has_collection = (is_text (codes "collection") d collection finds.0, is.collection_is_name);
      has_id = (is_text (codes "id") d id finds.1.0, is.id_is_name);
      has_label = is_text (codes "label") d label finds.1.1.0;
      has_coverage = finds.1.1.1.0;
      counts = object_counts these d is.members 4;
    }

-- and they make one
pub station_whole : (collection id label : List ℕ) (coverage d : Data) → StationParts d collection id label coverage
    → HoldsStation (line_of (codes "station") d) collection id label coverage
station_whole collection id label coverage d parts = (
  d,
  just_line (codes "station") d,
  record {
    collection_is_name = parts.has_collection.1;
    id_is_name = parts.has_id.1;
    members = object_is ((codes "collection", string collection) ∷ (codes "id", string id) ∷ (codes "label", string label) ∷ (codes "coverage", coverage) ∷ []) d refl parts.counts (
      text_is (codes "collection") d collection parts.has_collection.0,
      (text_is (codes "id") d id parts.has_id.0, (text_is (codes "label") d label parts.has_label, (parts.has_coverage, tt))),
    );
  },
)

-- what an entry sets
pub record SetsStation (d : Data) (entry : Entry) : Type 0 where
  pub collection : List ℕ
  pub id : List ℕ
  pub label : List ℕ
  pub tree : Data
  pub parts : StationParts d collection id label tree
  pub coverage : Coverage
  pub stands : Stands tree coverage
  pub is : entry ≡ Change (Station collection id label coverage)

pub station_form : (d : Data) (entry : Entry) → HasForm (line_of (codes "station") d) entry → SetsStation d entry
station_form d (Change (Collection id kind title crs vertical)) form =
    absurd (just_other (codes "station") (codes "collection") d (IsCollection id kind title crs vertical) refl form)
station_form d (Change (Grid collection instance coverage)) form = absurd (just_other (codes "station") (codes "grid") d (IsGrid collection instance form.0) refl form.1)
station_form d (Change (Station collection id label coverage)) form = record {
  collection = collection;
  id = id;
  label = label;
  tree = form.0;
  parts = station_parts collection id label form.0 d (just_value (codes "station") d (IsStation collection id label form.0) form.1);
  coverage = coverage;
  stands = form.2;
  is = refl;
}
station_form d (Change (DropCollection collection)) form = absurd (just_other (codes "station") (codes "drop") d (IsDropCollection collection) refl form)
station_form d (Change (DropInstance collection instance)) form = absurd (just_other (codes "station") (codes "drop") d (IsDropInstance collection instance) refl form)
station_form d (Change (DropStation collection id)) form = absurd (just_other (codes "station") (codes "drop") d (IsDropStation collection id) refl form)
station_form d (Change (Bare coverage)) form = let none = form.0 in cc
station_form d Publish form = absurd (just_other (codes "station") (codes "publish") d (IsObjectOf []) refl form)

-- the parts of some line that sets a station
pub record HoldsStationParts (d coverage : Data) : Type 0 where
  pub collection : List ℕ
  pub id : List ℕ
  pub label : List ℕ
  pub parts : StationParts d collection id label coverage

pub station_holds : (d coverage : Data) → HoldsCoverage (line_of (codes "station") d) coverage → HoldsStationParts d coverage
station_holds d coverage (inl grid) = absurd (just_other (codes "station") (codes "grid") d (IsGrid grid.0 grid.1 coverage) refl grid.2)
station_holds d coverage (inr (inl station)) = record {
  collection = station.0;
  id = station.1;
  label = station.2;
  parts = station_parts station.0 station.1 station.2 coverage d (just_value (codes "station") d (IsStation station.0 station.1 station.2 coverage) station.3);
}
station_holds d coverage (inr (inr bare)) = let none = bare.0 in cc

pub station_outline : (d : Data) → HasOutline (line_of (codes "station") d) → (coverage : Data) × HoldsStationParts d coverage
station_outline d (inl form) =
    let sets = station_form d form.0 form.1 in
    (sets.tree, record { collection = sets.collection; id = sets.id; label = sets.label; parts = sets.parts })
station_outline d (inr holds) = (holds.0, station_holds d holds.0 holds.1)

-- ---- what is dropped

-- the parts of the name of a collection
pub record DropParts (d : Data) (collection : List ℕ) : Type 0 where
  pub has_collection : HasName (codes "collection") d collection
  pub counts : has_members 1 d ≡ true

-- and of that of an instance
pub record DropInstanceParts (d : Data) (collection instance : List ℕ) : Type 0 where
  pub has_collection : HasName (codes "collection") d collection
  pub has_instance : HasName (codes "instance") d instance
  pub lacks_station : get (codes "station") d ≡ None
  pub counts : has_members 2 d ≡ true

-- and of that of a station
pub record DropStationParts (d : Data) (collection id : List ℕ) : Type 0 where
  pub has_collection : HasName (codes "collection") d collection
  pub has_id : HasName (codes "station") d id
  pub counts : has_members 2 d ≡ true

drop_parts : (collection : List ℕ) (d : Data) → IsDropCollection collection d → DropParts d collection
drop_parts collection d is =
    let these : List Named = (codes "collection", string collection) ∷ [] in
    record {
      has_collection = (is_text (codes "collection") d collection (object_finds these d refl is.members).0, is.collection_is_name);
      counts = object_counts these d is.members 1;
    }

pub drop_whole : (collection : List ℕ) (d : Data) → DropParts d collection → HasForm (line_of (codes "drop") d) (Change (DropCollection collection))
drop_whole collection d parts = (
  d,
  just_line (codes "drop") d,
  record {
    collection_is_name = parts.has_collection.1;
    members = object_is ((codes "collection", string collection) ∷ []) d refl parts.counts (text_is (codes "collection") d collection parts.has_collection.0, tt);
  },
)

drop_instance_parts : (collection instance : List ℕ) (d : Data) → IsDropInstance collection instance d → DropInstanceParts d collection instance
drop_instance_parts collection instance d is =
    let these : List Named = (codes "collection", string collection) ∷ (codes "instance", string instance) ∷ [] in
    let finds = object_finds these d refl is.members in
    record {
      has_collection = (is_text (codes "collection") d collection finds.0, is.collection_is_name);
      has_instance = (is_text (codes "instance") d instance finds.1.0, is.instance_is_name);
      lacks_station = object_lacks these d is.members (codes "station") refl;
      counts = object_counts these d is.members 2;
    }

pub drop_instance_whole : (collection instance : List ℕ) (d : Data) → DropInstanceParts d collection instance
    → HasForm (line_of (codes "drop") d) (Change (DropInstance collection instance))
drop_instance_whole collection instance d parts = (
  d,
  just_line (codes "drop") d,
  record {
    collection_is_name = parts.has_collection.1;
    instance_is_name = parts.has_instance.1;
    members = object_is ((codes "collection", string collection) ∷ (codes "instance", string instance) ∷ []) d refl parts.counts
        (text_is (codes "collection") d collection parts.has_collection.0, (text_is (codes "instance") d instance parts.has_instance.0, tt));
  },
)

drop_station_parts : (collection id : List ℕ) (d : Data) → IsDropStation collection id d → DropStationParts d collection id
drop_station_parts collection id d is =
    let these : List Named = (codes "collection", string collection) ∷ (codes "station", string id) ∷ [] in
    let finds = object_finds these d refl is.members in
    record {
      has_collection = (is_text (codes "collection") d collection finds.0, is.collection_is_name);
      has_id = (is_text (codes "station") d id finds.1.0, is.id_is_name);
      counts = object_counts these d is.members 2;
    }

pub drop_station_whole : (collection id : List ℕ) (d : Data) → DropStationParts d collection id → HasForm (line_of (codes "drop") d) (Change (DropStation collection id))
drop_station_whole collection id d parts = (
  d,
  just_line (codes "drop") d,
  record {
    collection_is_name = parts.has_collection.1;
    id_is_name = parts.has_id.1;
    members = object_is ((codes "collection", string collection) ∷ (codes "station", string id) ∷ []) d refl parts.counts
        (text_is (codes "collection") d collection parts.has_collection.0, (text_is (codes "station") d id parts.has_id.0, tt));
  },
)

-- what an entry drops
pub record DropsCollection (d : Data) (entry : Entry) : Type 0 where
  pub collection : List ℕ
  pub parts : DropParts d collection
  pub is : entry ≡ Change (DropCollection collection)

pub record DropsInstance (d : Data) (entry : Entry) : Type 0 where
  pub collection : List ℕ
  pub instance : List ℕ
  pub parts : DropInstanceParts d collection instance
  pub is : entry ≡ Change (DropInstance collection instance)

pub record DropsStation (d : Data) (entry : Entry) : Type 0 where
  pub collection : List ℕ
  pub id : List ℕ
  pub parts : DropStationParts d collection id
  pub is : entry ≡ Change (DropStation collection id)

-- one of these
abbrev pub Drops : Data → Entry → Type 0
Drops d entry = DropsCollection d entry ⊎ (DropsInstance d entry ⊎ DropsStation d entry)

pub drop_form : (d : Data) (entry : Entry) → HasForm (line_of (codes "drop") d) entry → Drops d entry
drop_form d (Change (Collection id kind title crs vertical)) form = absurd (just_other (codes "drop") (codes "collection") d (IsCollection id kind title crs vertical) refl form)
drop_form d (Change (Grid collection instance coverage)) form = absurd (just_other (codes "drop") (codes "grid") d (IsGrid collection instance form.0) refl form.1)
drop_form d (Change (Station collection id label coverage)) form = absurd (just_other (codes "drop") (codes "station") d (IsStation collection id label form.0) refl form.1)
drop_form d (Change (DropCollection collection)) form =
    inl (record { collection = collection; parts = drop_parts collection d (just_value (codes "drop") d (IsDropCollection collection) form); is = refl })
drop_form d (Change (DropInstance collection instance)) form = inr (inl (record {
  collection = collection;
  instance = instance;
  parts = drop_instance_parts collection instance d (just_value (codes "drop") d (IsDropInstance collection instance) form);
  is = refl;
}))
drop_form d (Change (DropStation collection id)) form = inr (inr (record {
  collection = collection;
  id = id;
  parts = drop_station_parts collection id d (just_value (codes "drop") d (IsDropStation collection id) form);
  is = refl;
}))
drop_form d (Change (Bare coverage)) form = let none = form.0 in cc
drop_form d Publish form = absurd (just_other (codes "drop") (codes "publish") d (IsObjectOf []) refl form)

drop_holds : (d coverage : Data) → HoldsCoverage (line_of (codes "drop") d) coverage → ⊥
drop_holds d coverage (inl grid) = just_other (codes "drop") (codes "grid") d (IsGrid grid.0 grid.1 coverage) refl grid.2
drop_holds d coverage (inr (inl station)) =
    just_other (codes "drop") (codes "station") d (IsStation station.0 station.1 station.2 coverage) refl station.3
drop_holds d coverage (inr (inr bare)) = let none = bare.0 in cc

pub drop_outline : (d : Data) → HasOutline (line_of (codes "drop") d) → (entry : Entry) × Drops d entry
drop_outline d (inl form) = (form.0, drop_form d form.0 form.1)
drop_outline d (inr holds) = absurd (drop_holds d holds.0 holds.1)

-- there is a name of a collection in any case
pub drop_collection : (d : Data) (entry : Entry) → Drops d entry → (collection : List ℕ) × HasName (codes "collection") d collection
drop_collection d entry (inl one) = (one.collection, one.parts.has_collection)
drop_collection d entry (inr (inl one)) = (one.collection, one.parts.has_collection)
drop_collection d entry (inr (inr one)) = (one.collection, one.parts.has_collection)

-- ---- a publish

pub publish_whole : (d : Data) → has_members 0 d ≡ true → HasForm (line_of (codes "publish") d) Publish
publish_whole d counts = (d, just_line (codes "publish") d, object_is [] d refl counts tt)

-- an entry publishes
pub record Publishes (d : Data) (entry : Entry) : Type 0 where
  pub counts : has_members 0 d ≡ true
  pub is : entry ≡ Publish

pub publish_form : (d : Data) (entry : Entry) → HasForm (line_of (codes "publish") d) entry → Publishes d entry
publish_form d (Change (Collection id kind title crs vertical)) form = absurd (just_other (codes "publish") (codes "collection") d (IsCollection id kind title crs vertical) refl form)
publish_form d (Change (Grid collection instance coverage)) form = absurd (just_other (codes "publish") (codes "grid") d (IsGrid collection instance form.0) refl form.1)
publish_form d (Change (Station collection id label coverage)) form =
    absurd (just_other (codes "publish") (codes "station") d (IsStation collection id label form.0) refl form.1)
publish_form d (Change (DropCollection collection)) form = absurd (just_other (codes "publish") (codes "drop") d (IsDropCollection collection) refl form)
publish_form d (Change (DropInstance collection instance)) form = absurd (just_other (codes "publish") (codes "drop") d (IsDropInstance collection instance) refl form)
publish_form d (Change (DropStation collection id)) form = absurd (just_other (codes "publish") (codes "drop") d (IsDropStation collection id) refl form)
publish_form d (Change (Bare coverage)) form = let none = form.0 in cc
publish_form d Publish form = record { counts = object_counts [] d (just_value (codes "publish") d (IsObjectOf []) form) 0; is = refl }

publish_holds : (d coverage : Data) → HoldsCoverage (line_of (codes "publish") d) coverage → ⊥
publish_holds d coverage (inl grid) = just_other (codes "publish") (codes "grid") d (IsGrid grid.0 grid.1 coverage) refl grid.2
publish_holds d coverage (inr (inl station)) =
    just_other (codes "publish") (codes "station") d (IsStation station.0 station.1 station.2 coverage) refl station.3
publish_holds d coverage (inr (inr bare)) = let none = bare.0 in cc

pub publish_outline : (d : Data) → HasOutline (line_of (codes "publish") d) → (entry : Entry) × Publishes d entry
publish_outline d (inl form) = (form.0, publish_form d form.0 form.1)
publish_outline d (inr holds) = absurd (publish_holds d holds.0 holds.1)
