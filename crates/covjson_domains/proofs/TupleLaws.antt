-- The tuples that are read are those that the tree stands for.
use Rattle.std.specs.Prelude.{bytes_eq}
use Rattle.std.proofs.Common.{◌≡◌, List, map, Bool, true, Option, Some, Ok, refl, ap, ◌∙◌, subst, codes}
use Rattle.std.proofs.lemmas.Slice.Eq.{bytes_eq-Decides}
use Rattle.serde_json.specs.Data.{Data, string, array, Items}
use Rattle.serde_json.specs.Find.{get}
use Rattle.serde_json.specs.View.{items_of}
use Rattle.edr_base.specs.declared.places.Position.{Position}
use Rattle.edr_axes.specs.InstantComputed.{InstantsAreRead}
use Rattle.covjson_value.specs.Trees.{keys_data}
use Rattle.covjson_checks.specs.declared.faults.CovFault.TheVariants.{WrongType}
use Rattle.covjson_checks.specs.declared.faults.Member.TheVariants.{Composite}
use Rattle.covjson_domains.specs.declared.tuples.ReadTuples.{ReadTuples}
use Rattle.covjson_domains.specs.declared.tuples.TupleKind.{TupleKind}
use Rattle.edr_base.specs.FirstThatApplies.{check}
use Rattle.covjson_checks.specs.Members.{part, object_at, list_at}
use Rattle.edr_json.specs.Trees.{text_or_empty}
use Rattle.covjson_domains.specs.AxisAnswers.{value_items}
use Rattle.covjson_domains.specs.Tuples.{StandsForTuple, StandsForTuples}
use Rattle.covjson_domains.specs.TupleAnswers.{names_of, may_have_z, has_z_by_keys, tuples_of_items, axis_has_z, tuples_read}
use Rattle.edr_json.specs.AnswerLaws.{and_then_ok, or_fault_ok, check_ok, and_then_given, or_fault_given, check_given}
use Rattle.edr_json.specs.TreeLaws.{text_is}
use Rattle.covjson_checks.specs.CheckLaws.{list_ok, object_given}
use Rattle.covjson_domains.proofs.AxisLists.{value_items_stand, value_items_given, some_stand, stand_some}
use Rattle.covjson_domains.proofs.TupleOrder.{key_data, keys_tell, keys_choose, keys_chosen}
use Rattle.covjson_domains.proofs.TupleNames.{finds_each}
use Rattle.covjson_domains.proofs.TupleSteps.{items_stand, items_answer}

-- ---- parts of a composite axis

-- what is a tuple's kind of axis says so
pub type_tells : (o : Option Data) → bytes_eq (text_or_empty o) (codes "tuple") ≡ true → o ≡ Some (string (codes "tuple"))
type_tells o h = text_is o _ _ ((bytes_eq-Decides (text_or_empty o) (codes "tuple")).0 h)

-- the type and the names of an axis whose tuples may have levels
abbrev HasNames : TupleKind → Data → Bool → Type 0
HasNames kind axis has_z =
    (get (codes "dataType") axis ≡ Some (string (codes "tuple"))) × (get (codes "coordinates") axis ≡ Some (keys_data (names_of kind has_z))) × (has_z ≡ true → may_have_z kind ≡ true)

-- the names that are read are those of the axis
names_stand : (kind : TupleKind) (axis : Data) (has_z : Bool) → axis_has_z kind axis ≡ Ok has_z → HasNames kind axis has_z
names_stand kind axis has_z h =
    let o = and_then_ok (object_at Composite axis) _ has_z h in
    let is_tuple = bytes_eq (text_or_empty (get (codes "dataType") axis)) (codes "tuple") in
    let k = and_then_ok (check is_tuple (WrongType Composite)) _ has_z o.2 in
    let l = and_then_ok (part (codes "coordinates") Composite axis) _ has_z k.2 in
    let keys = and_then_ok (list_at Composite l.0) _ has_z l.2 in
    let chosen = keys_choose kind keys.0 has_z (or_fault_ok (has_z_by_keys kind keys.0) _ has_z keys.2) in (
      type_tells (get (codes "dataType") axis) (check_ok is_tuple _ _ k.1),
      or_fault_ok (get (codes "coordinates") axis) _ l.0 l.1 ∙ ap Some (list_ok Composite l.0 keys.0 keys.1) ∙ ap (λ (ds : Items). Some (array ds)) (keys_tell (names_of kind has_z) keys.0 chosen.0),
      chosen.1,
    )

-- and those of an axis are read
names_answer : (kind : TupleKind) (axis : Data) (has_z : Bool) → HasNames kind axis has_z → axis_has_z kind axis ≡ Ok has_z
names_answer kind axis has_z h =
    let o = object_given Composite (codes "dataType") axis _ h.0 in
    let keys = items_of (map key_data (names_of kind has_z)) in
    let typed : bytes_eq (text_or_empty (get (codes "dataType") axis)) (codes "tuple") ≡ true = ap (λ (d : Option Data). bytes_eq (text_or_empty d) (codes "tuple")) h.0 in
    and_then_given (object_at Composite axis) _ o.0 _ o.1
    (and_then_given (check _ (WrongType Composite)) _ tt _ (check_given _ (WrongType Composite) typed)
    (and_then_given (part (codes "coordinates") Composite axis) _ (array keys) _ (or_fault_given (get (codes "coordinates") axis) _ (array keys) h.1)
    (or_fault_given (has_z_by_keys kind keys) _ has_z (keys_chosen kind has_z h.2))))

-- ---- the laws

-- the tuples that are read are those that the axis stands for
pub tuples_stand : InstantsAreRead → (kind : TupleKind) (axis : Data) (r : ReadTuples) → tuples_read kind axis ≡ Ok r
    → StandsForTuples (names_of kind r.has_z) axis r.tuples × (r.has_z ≡ true → may_have_z kind ≡ true)
tuples_stand instants kind axis r h =
    let z = and_then_ok (axis_has_z kind axis) _ r h in
    let i = and_then_ok (value_items Composite axis) _ r z.2 in
    let t = and_then_ok (tuples_of_items (names_of kind z.0) i.0) _ r i.2 in
    let found : ReadTuples = record { tuples = t.0; has_z = z.0 } in
    let same : found ≡ r = cc in
    let names = names_stand kind axis z.0 z.1 in
    let values = value_items_stand Composite axis i.0 i.1 in
    let stand = items_stand instants (names_of kind z.0) (finds_each kind z.0) i.0 t.0 t.1 in
    let told : StandsForTuples (names_of kind z.0) axis t.0 × (z.0 ≡ true → may_have_z kind ≡ true) = (
      record {
        data_type = names.0;
        coordinates = names.1;
        items = i.0;
        list = values.0;
        each = stand.0;
        some = stand_some (StandsForTuple (names_of kind z.0)) i.0 t.0 stand.0 values.1;
        in_time = stand.1;
      },
      names.2,
    ) in
    subst (λ (q : ReadTuples). StandsForTuples (names_of kind q.has_z) axis q.tuples × (q.has_z ≡ true → may_have_z kind ≡ true)) same told

-- and the tuples that an axis stands for are read
pub tuples_answer : InstantsAreRead → (kind : TupleKind) (axis : Data) (has_z : Bool) (tuples : List Position) → (has_z ≡ true → may_have_z kind ≡ true)
    → StandsForTuples (names_of kind has_z) axis tuples → tuples_read kind axis ≡ Ok (record { tuples = tuples; has_z = has_z })
tuples_answer instants kind axis has_z tuples may x =
    let names = names_of kind has_z in
    and_then_given (axis_has_z kind axis) _ has_z _ (names_answer kind axis has_z (x.data_type, x.coordinates, may))
    (and_then_given (value_items Composite axis) _ x.items _ (value_items_given Composite axis x.items x.list (some_stand (StandsForTuple names) x.items tuples x.each x.some))
    (and_then_given (tuples_of_items names x.items) _ tuples _ (items_answer instants names x.items tuples x.each x.in_time) refl))
