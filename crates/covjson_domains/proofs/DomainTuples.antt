-- The composite axis of a tree, as a domain type wants it, and the domains with tuples.
use Rattle.std.specs.Prelude.{is_some, IsNone}
use Rattle.std.proofs.Common.{◌≡◌, ℤ, Bool, true, false, List, [], ◌∷◌, Option, Some, None, Ok, refl, ap, ◌∙◌, subst}
use Rattle.std.proofs.lemmas.Bool.{false≢true}
use Rattle.serde_json.specs.Data.{Data}
use Rattle.edr_base.specs.declared.places.Position.{Position}
use Rattle.edr_axes.specs.InstantComputed.{InstantsAreRead}
use Rattle.edr_json.specs.AnswerLaws.{and_then_ok, and_then_given}
use Rattle.covjson_value.specs.declared.domains.CoordinateName.{CoordinateName}
use Rattle.covjson_value.specs.declared.domains.CoordinateName.TheVariants.{T, Z, Y, X}
use Rattle.covjson_value.specs.declared.domains.Domain.{Domain}
use Rattle.covjson_value.specs.declared.domains.Domain.TheVariants as domain
use Rattle.covjson_value.specs.declared.axis_names.AxisName.TheVariants.{Composite}
use Rattle.covjson_value.specs.Domains.{axis_of, tuples_of, coordinates_of, is_among, level_if}
use Rattle.covjson_checks.specs.declared.turned.Turned.{Turned}
use Rattle.covjson_domains.specs.declared.axes.ReadAxis.{ReadAxis}
use Rattle.covjson_domains.specs.declared.tuples.ReadTuples.{ReadTuples}
use Rattle.covjson_domains.specs.declared.tuples.TupleKind.{TupleKind}
use Rattle.covjson_domains.specs.declared.tuples.TupleKind.TheVariants.{Places, Steps, LevelSteps}
use Rattle.covjson_domains.specs.declared.domains.ReadAxes.{ReadAxes}
use Rattle.covjson_value.specs.declared.domain_types.DomainType.{DomainType}
use Rattle.covjson_value.specs.declared.domain_types.DomainType.TheVariants.{Grid, Point, PointSeries, VerticalProfile, MultiPoint, Trajectory}
use Rattle.covjson_value.specs.DomainTypes.{kind_of}
use Rattle.covjson_domains.specs.declared.domain_types.Presence.{Presence}
use Rattle.covjson_domains.specs.DomainTypes.{presence, IsAllowed}
use Rattle.covjson_domains.specs.Tuples.{StandsForTuples, HasSameTuples}
use Rattle.covjson_domains.specs.TypeAnswers.{is_allowed, is_needed, left_out}
use Rattle.covjson_domains.specs.TupleAnswers.{names_of, may_have_z, tuples_read}
use Rattle.covjson_domains.specs.DomainAnswers.{tuple_kind, composite_if, value_in, tuples_of as tuples_in, domain_formed}
use Rattle.covjson_checks.specs.declared.faults.Member.TheVariants.{Composite as CompositeAxis}
use Rattle.covjson_domains.proofs.TupleLaws.{tuples_stand, tuples_answer}
use Rattle.covjson_domains.proofs.DomainAxes.{not_missing}
use Rattle.covjson_domains.proofs.DomainForms.{tuples_as, axes_as}

-- ---- what was read of a composite axis

-- tuples that stand there, of a kind that may have them
pub record HaveTuples (kind : TupleKind) (found : Option Data) (read : ReadTuples) : Type 0 where
  pub axis : Data
  pub there : found ≡ Some axis
  pub stand : StandsForTuples (names_of kind read.has_z) axis read.tuples
  pub may : read.has_z ≡ true → may_have_z kind ≡ true

-- what was read: none where none is found
abbrev pub IsReadTuples : TupleKind → Option Data → Option ReadTuples → Type 0
IsReadTuples kind found None = found ≡ None
IsReadTuples kind found (Some read) = HaveTuples kind found read

-- what was read of a composite axis stands there, where it has to be there if it may be
pub record IsReadComposite (wanted : Presence) (kind : TupleKind) (found : Option Data) (read : Option ReadTuples) : Type 0 where
  pub same : IsReadTuples kind found read
  pub needed : is_needed wanted ≡ true → is_some read ≡ true

-- tuples that were read
tuples_there : InstantsAreRead → (kind : TupleKind) (axis : Data) (read : ReadTuples) → tuples_read kind axis ≡ Ok read → HaveTuples kind (Some axis) read
tuples_there instants kind axis read h =
    let stand = tuples_stand instants kind axis read h in
    record { axis = axis; there = refl; stand = stand.0; may = stand.1 }

-- what was read of a composite axis stands there
pub composite_if_stands : InstantsAreRead → (wanted : Presence) (kind : TupleKind) (found : Option Data) (read : Option ReadTuples) → composite_if wanted kind found ≡ Ok read
    → IsReadComposite wanted kind found read
composite_if_stands instants wanted kind None None h =
    let a = and_then_ok (left_out wanted CompositeAxis) _ None h in
    record { same = refl; needed = λ e. absurd (not_missing wanted CompositeAxis a.0 a.1 e) }
composite_if_stands instants wanted kind None (Some r) h =
    let a = and_then_ok (left_out wanted CompositeAxis) _ (Some r) h in
    let e = a.2 in cc
composite_if_stands instants wanted kind (Some axis) None h =
    let a = and_then_ok (tuples_read kind axis) _ None h in
    let e = a.2 in cc
composite_if_stands instants wanted kind (Some axis) (Some r) h =
    let a = and_then_ok (tuples_read kind axis) _ (Some r) h in
    let same : a.0 ≡ r = let e = a.2 in cc in
    record { same = tuples_there instants kind axis r (a.1 ∙ ap Ok same); needed = λ e. refl }

-- ---- the tuples of the domain that is formed

-- none stand where none is found
no_tuples : (found : Option Data) → found ≡ None → HasSameTuples [] found None
no_tuples found h = rw h tt

-- those that were read stand there
with_tuples : (kind : TupleKind) (names : Bool → List CoordinateName) (found : Option Data) (read : Option ReadTuples) → ((has_z : Bool) → names_of kind has_z ≡ names has_z)
    → IsReadTuples kind found read → is_some read ≡ true → HasSameTuples (names (tuples_in read).has_z) found (Some (tuples_in read).tuples)
with_tuples kind names found None same h some = absurd (false≢true some)
with_tuples kind names found (Some r) same h some =
    rw h.there (subst (λ (all : List CoordinateName). StandsForTuples all h.axis r.tuples) (same r.has_z) h.stand)

-- the coordinates of places
abbrev spot_names : Bool → List CoordinateName
spot_names has_z = X ∷ Y ∷ level_if has_z

-- and of places at their times
abbrev step_names : Bool → List CoordinateName
step_names has_z = T ∷ X ∷ Y ∷ level_if has_z

-- they are the same at one level and at levels of their own
steps_named : (level has_z : Bool) → names_of (tuple_kind Trajectory level) has_z ≡ step_names has_z
steps_named true has_z = refl
steps_named false has_z = refl

-- the tuples of the domain are those that stand there
pub formed_tuples : (kind : DomainType) (found : Option Data) (r : ReadAxes) → IsReadComposite (presence kind Composite) (tuple_kind kind (is_some r.z)) found r.composite
    → (is_allowed (presence kind Composite) ≡ false → found ≡ None) → HasSameTuples (coordinates_of (domain_formed kind r)) found (tuples_of (domain_formed kind r))
formed_tuples Grid found r h only = no_tuples found (only refl)
formed_tuples Point found r h only = no_tuples found (only refl)
formed_tuples PointSeries found r h only = no_tuples found (only refl)
formed_tuples VerticalProfile found r h only = no_tuples found (only refl)
formed_tuples MultiPoint found r h only = with_tuples Places spot_names found r.composite (λ has_z. refl) h.same (h.needed refl)
formed_tuples Trajectory found r h only = with_tuples (tuple_kind Trajectory (is_some r.z)) step_names found r.composite (steps_named (is_some r.z)) h.same (h.needed refl)

-- places have no axis of their coordinates beside them
once_spots : (t : Option ℤ) (has_z : Bool) (spots : List Position) (name : CoordinateName) → is_among name (spot_names has_z) ≡ true → IsNone (axis_of (domain.MultiPoint t has_z spots) name)
once_spots t true spots T among = absurd (false≢true among)
once_spots t false spots T among = absurd (false≢true among)
once_spots t has_z spots Z among = refl
once_spots t has_z spots Y among = refl
once_spots t has_z spots X among = refl

-- nor have places at their times
once_steps : (z : Option ReadAxis) (has_z : Bool) (steps : List Position) → (has_z ≡ true → may_have_z (tuple_kind Trajectory (is_some z)) ≡ true)
    → (name : CoordinateName) → is_among name (step_names has_z) ≡ true → IsNone (axis_of (domain.Trajectory (value_in z) has_z steps) name)
once_steps z has_z steps may T among = refl
once_steps None has_z steps may Z among = refl
once_steps (Some level) true steps may Z among = let e = may refl in cc
once_steps (Some level) false steps may Z among = cc
once_steps z has_z steps may Y among = refl
once_steps z has_z steps may X among = refl

-- tuples may have the levels that they have
may_have : (kind : TupleKind) (found : Option Data) (read : Option ReadTuples) → IsReadTuples kind found read → (tuples_in read).has_z ≡ true → may_have_z kind ≡ true
may_have kind found None h levels = absurd (false≢true levels)
may_have kind found (Some r) h levels = h.may levels

-- no coordinate of the tuples has an axis of its own
pub formed_once : (kind : DomainType) (found : Option Data) (r : ReadAxes) → IsReadComposite (presence kind Composite) (tuple_kind kind (is_some r.z)) found r.composite
    → (name : CoordinateName) → is_among name (coordinates_of (domain_formed kind r)) ≡ true → IsNone (axis_of (domain_formed kind r) name)
formed_once Grid found r h name among = absurd (false≢true among)
formed_once Point found r h name among = absurd (false≢true among)
formed_once PointSeries found r h name among = absurd (false≢true among)
formed_once VerticalProfile found r h name among = absurd (false≢true among)
formed_once MultiPoint found r h name among = once_spots (value_in r.t) (tuples_in r.composite).has_z (tuples_in r.composite).tuples name among
formed_once Trajectory found r h name among =
    once_steps r.z (tuples_in r.composite).has_z (tuples_in r.composite).tuples (may_have (tuple_kind Trajectory (is_some r.z)) found r.composite h.same) name among

-- ---- and the tuples of a domain are read

-- tuples that the domain hasn't aren't in the tree
pub no_composite : (found : Option Data) → HasSameTuples [] found None → found ≡ None
no_composite None h = refl
no_composite (Some axis) h = absurd h

-- those that it has are read
tuples_given : InstantsAreRead → (wanted : Presence) (kind : TupleKind) (has_z : Bool) (found : Option Data) (tuples : List Position) → (has_z ≡ true → may_have_z kind ≡ true)
    → HasSameTuples (names_of kind has_z) found (Some tuples) → composite_if wanted kind found ≡ Ok (Some (record { tuples = tuples; has_z = has_z }))
tuples_given instants wanted kind has_z None tuples may h = absurd h
tuples_given instants wanted kind has_z (Some axis) tuples may h =
    and_then_given (tuples_read kind axis) _ (record { tuples = tuples; has_z = has_z }) _ (tuples_answer instants kind axis has_z tuples may h) refl

-- the tuples of a trajectory at one level have none of their own
no_levels : (level : ℤ) (has_z : Bool) (steps : List Position)
    → (is_among Z (coordinates_of (domain.Trajectory (Some level) has_z steps)) ≡ true → IsNone (axis_of (domain.Trajectory (Some level) has_z steps) Z))
    → has_z ≡ true → may_have_z LevelSteps ≡ true
no_levels level true steps once h = let e = once refl in cc
no_levels level false steps once h = absurd (false≢true h)

-- what is read of the composite axis of a domain
pub composite_answers : InstantsAreRead → (turned : Turned) (d : Domain) (found : Option Data) → HasSameTuples (coordinates_of d) found (tuples_of d)
    → (is_among Z (coordinates_of d) ≡ true → IsNone (axis_of d Z))
    → composite_if (presence (kind_of d) Composite) (tuple_kind (kind_of d) (is_some (axes_as turned d).z)) found ≡ Ok (tuples_as d)
composite_answers instants turned (domain.Grid t z y x) found same once = rw (no_composite found same) refl
composite_answers instants turned (domain.Point t z y x) found same once = rw (no_composite found same) refl
composite_answers instants turned (domain.PointSeries t z y x) found same once = rw (no_composite found same) refl
composite_answers instants turned (domain.VerticalProfile t z y x) found same once = rw (no_composite found same) refl
composite_answers instants turned (domain.MultiPoint t has_z spots) found same once =
    tuples_given instants (presence MultiPoint Composite) Places has_z found spots (λ h. refl) same
composite_answers instants turned (domain.Trajectory None has_z steps) found same once =
    tuples_given instants (presence Trajectory Composite) Steps has_z found steps (λ h. refl) same
composite_answers instants turned (domain.Trajectory (Some level) has_z steps) found same once =
    tuples_given instants (presence Trajectory Composite) LevelSteps has_z found steps (no_levels level has_z steps once) same

-- a type that may have no composite axis has none
pub composite_absent : (d : Domain) (found : Option Data) → HasSameTuples (coordinates_of d) found (tuples_of d) → ¬ (IsAllowed (presence (kind_of d) Composite)) → found ≡ None
composite_absent (domain.Grid t z y x) found same absent = no_composite found same
composite_absent (domain.Point t z y x) found same absent = no_composite found same
composite_absent (domain.PointSeries t z y x) found same absent = no_composite found same
composite_absent (domain.VerticalProfile t z y x) found same absent = no_composite found same
composite_absent (domain.MultiPoint t has_z spots) found same absent = absurd (absent tt)
composite_absent (domain.Trajectory z has_z steps) found same absent = absurd (absent tt)
