-- The answer to the tree of a domain is that domain exactly where the tree stands for it.
use Rattle.std.specs.Prelude.{Result, IfSome, is_some}
use Rattle.std.proofs.Common.{◌≡◌, ◌<◌, ◌^◌, Bool, false, List, [], ◌∷◌, length, ℤ, All, Option, Some, None, Ok, codes, refl, sym, ap, ◌∙◌, subst}
use Rattle.std.proofs.lemmas.Bool.{false≢true, false_from_ne_true}
use Rattle.std.proofs.lemmas.List.Elements.{All-nil, All-cons}
use Rattle.serde_json.specs.Data.{Data, string, object, Items, no_items, item, Members}
use Rattle.serde_json.specs.Find.{get, get_member}
use Rattle.edr_base.specs.declared.places.Position.{Position}
use Rattle.edr_base.specs.FirstThatApplies.{check}
use Rattle.edr_axes.specs.InstantComputed.{InstantsAreRead}
use Rattle.edr_json.specs.Trees.{EachStands, names_of}
use Rattle.edr_json.specs.AnswerLaws.{and_then_ok, or_fault_ok, check_ok, and_then_given, or_fault_given, check_given}
use Rattle.covjson_value.specs.declared.domains.CoordinateName.{CoordinateName}
use Rattle.covjson_value.specs.declared.domains.CoordinateName.TheVariants.{T, Z, Y, X}
use Rattle.covjson_value.specs.declared.axis_names.AxisName.{AxisName}
use Rattle.covjson_value.specs.declared.axis_names.AxisName.TheVariants as axis
use Rattle.covjson_value.specs.declared.domains.Domain.{Domain}
use Rattle.covjson_value.specs.AxisNames.{axis_key, axis_name}
use Rattle.covjson_value.specs.Domains.{axis_of, tuples_of, coordinates_of}
use Rattle.covjson_value.specs.Coverages.{IsTuple, IsNamedAxis, HasAxes, AreTuples, HasTuples}
use Rattle.covjson_checks.specs.declared.turned.Turned.{Turned}
use Rattle.covjson_checks.specs.declared.turned.ReadDomain.{ReadDomain}
use Rattle.covjson_checks.specs.declared.faults.Member.TheVariants.{Axes}
use Rattle.covjson_checks.specs.declared.faults.CovFault.TheVariants.{Missing, WrongType}
use Rattle.covjson_checks.specs.Members.{need, object_at}
use Rattle.covjson_checks.specs.CheckLaws.{object_ok}
use Rattle.covjson_checks.specs.Turns.{is_turned}
use Rattle.covjson_domains.specs.declared.domains.ReadAxes.{ReadAxes}
use Rattle.covjson_value.specs.declared.domain_types.DomainType.{DomainType}
use Rattle.covjson_value.specs.DomainTypes.{type_key, kind_of}
use Rattle.covjson_domains.specs.DomainTypes.{presence, IsAllowed, IsAxisOf}
use Rattle.covjson_domains.specs.Axes.{HasSameAxis}
use Rattle.covjson_domains.specs.Tuples.{StandsForTuple, HasSameTuples}
use Rattle.covjson_domains.specs.Domains.{StandsForDomain}
use Rattle.covjson_domains.specs.TypeAnswers.{is_allowed, has_no_others}
use Rattle.covjson_domains.specs.AxisAnswers.{axis_by}
use Rattle.covjson_domains.specs.DomainAnswers.{type_at, axes_at, tuple_kind, composite_by, axes_read, is_turned_round, axis_in, turned_in, domain_formed, formed, domain_of, AreCounted}
use Rattle.covjson_domains.proofs.DomainTypes.{type_stands, type_of_domain, allowed_decides, domain_fits}
use Rattle.covjson_domains.proofs.DomainKeys.{no_others_decides, no_other, all_axes, all_left}
use Rattle.covjson_domains.proofs.DomainAxes.{IsRead, axis_if_stands, read_as, axis_if_answers, same_turned, none_there}
use Rattle.covjson_domains.proofs.DomainForms.{read_at, formed_axes, formed_kind, axes_as, formed_back}
use Rattle.covjson_domains.proofs.DomainTuples.{IsReadComposite, composite_if_stands, formed_tuples, formed_once, composite_answers, composite_absent}

-- ---- the axes of a tree

-- the axes of a type that were found
pub record AreAxes (kind : DomainType) (tree axes : Data) : Type 0 where
  pub members : Members
  pub axes_are : axes ≡ object members
  pub axes_at : get (codes "axes") tree ≡ Some (object members)
  pub keys : All (IsAxisOf kind) (names_of members)

-- the axes that were found are those of the tree
pub axes_stand : (kind : DomainType) (tree axes : Data) → axes_at kind tree ≡ Ok axes → AreAxes kind tree axes
axes_stand kind tree axes h =
    let d = and_then_ok (need (codes "axes") Axes tree) _ axes h in
    let members = and_then_ok (object_at Axes d.0) _ axes d.2 in
    let checked = and_then_ok (check (has_no_others kind members.0) (WrongType Axes)) _ axes members.2 in
    let is_object = object_ok _ d.0 members.0 members.1 in
    let same : d.0 ≡ axes = let e = checked.2 in cc in
    record {
      members = members.0;
      axes_are = sym same ∙ is_object;
      axes_at = or_fault_ok (get (codes "axes") tree) _ d.0 d.1 ∙ ap Some is_object;
      keys = (no_others_decides kind members.0).0 (check_ok (has_no_others kind members.0) _ _ checked.1);
    }

-- and those of the tree are found
pub axes_answer : (kind : DomainType) (tree : Data) (members : Members) → get (codes "axes") tree ≡ Some (object members) → All (IsAxisOf kind) (names_of members)
    → axes_at kind tree ≡ Ok (object members)
axes_answer kind tree members found keys =
    and_then_given (need (codes "axes") Axes tree) _ (object members) _ (or_fault_given _ (Missing Axes) _ found)
    (and_then_given (check (has_no_others kind members) (WrongType Axes)) _ tt _ (check_given _ (WrongType Axes) ((no_others_decides kind members).1 keys)) refl)

-- ---- an answer stands

-- an axis that the type hasn't isn't found
pub only_there : (kind : DomainType) (members : Members) → All (IsAxisOf kind) (names_of members) → (name : AxisName) → is_allowed (presence kind name) ≡ false
    → get_member (axis_key name) members ≡ None
only_there kind members keys name none = no_other kind name members keys (λ h. false≢true (sym none ∙ (allowed_decides (presence kind name)).1 h))

-- what was read of the axes of a type
pub record AreRead (kind : DomainType) (members : Members) (r : ReadAxes) : Type 0 where
  pub each : (name : CoordinateName) → IsRead (presence kind (axis_name name)) name (get (axis_key (axis_name name)) (object members)) (read_at r name)
  pub composite : IsReadComposite (presence kind axis.Composite) (tuple_kind kind (is_some r.z)) (get (axis_key axis.Composite) (object members)) r.composite

-- each name's
abbrev EachRead : DomainType → Members → ReadAxes → CoordinateName → Type 0
EachRead kind members r name = IsRead (presence kind (axis_name name)) name (get (axis_key (axis_name name)) (object members)) (read_at r name)

each_read : (kind : DomainType) (members : Members) (r : ReadAxes) → EachRead kind members r T → EachRead kind members r Z → EachRead kind members r Y → EachRead kind members r X
    → (name : CoordinateName) → EachRead kind members r name
each_read kind all r t z y x T = t
each_read kind all r t z y x Z = z
each_read kind all r t z y x Y = y
each_read kind all r t z y x X = x

-- what is answered is one value
same_ok : {T F : Type 0} (x y : T) → ◌≡◌ {A = Result T F} (Ok x) (Ok y) → x ≡ y
same_ok x y h = cc

-- the axes that were read
pub axes_are_read : InstantsAreRead → (kind : DomainType) (members : Members) → All (IsAxisOf kind) (names_of members) → (r : ReadAxes) → axes_read kind (object members) ≡ Ok r → AreRead kind members r
axes_are_read instants kind members keys r h =
    let axes = object members in
    let t = and_then_ok (axis_by (presence kind axis.T) T axes) _ r h in
    let z = and_then_ok (axis_by (presence kind axis.Z) Z axes) _ r t.2 in
    let y = and_then_ok (axis_by (presence kind axis.Y) Y axes) _ r z.2 in
    let x = and_then_ok (axis_by (presence kind axis.X) X axes) _ r y.2 in
    let c = and_then_ok (composite_by (presence kind axis.Composite) (tuple_kind kind (is_some z.0)) axes) _ r x.2 in
    let made : ReadAxes = record { t = t.0; z = z.0; y = y.0; x = x.0; composite = c.0 } in
    let same : made ≡ r = same_ok made r c.2 in
    let read : AreRead kind members made = record {
      each = each_read kind members made
          (axis_if_stands instants (presence kind axis.T) T (get (axis_key (axis_name T)) axes) t.0 (only_there kind members keys axis.T) t.1)
          (axis_if_stands instants (presence kind axis.Z) Z (get (axis_key (axis_name Z)) axes) z.0 (only_there kind members keys axis.Z) z.1)
          (axis_if_stands instants (presence kind axis.Y) Y (get (axis_key (axis_name Y)) axes) y.0 (only_there kind members keys axis.Y) y.1)
          (axis_if_stands instants (presence kind axis.X) X (get (axis_key (axis_name X)) axes) x.0 (only_there kind members keys axis.X) x.1);
      composite = composite_if_stands instants (presence kind axis.Composite) (tuple_kind kind (is_some z.0)) (get (axis_key axis.Composite) axes) c.0 c.1;
    } in
    subst (AreRead kind members) same read

-- whether the axis of a name was turned
turned_at : (r : ReadAxes) (name : CoordinateName) → is_turned_round (read_at r name) ≡ is_turned (turned_in r) name
turned_at r T = refl
turned_at r Z = refl
turned_at r Y = refl
turned_at r X = refl

-- the axis of a name stands in the tree
same_formed : (kind : DomainType) (members : Members) (r : ReadAxes) → AreRead kind members r → (name : CoordinateName)
    → HasSameAxis name (get (axis_key (axis_name name)) (object members)) (is_turned (turned_in r) name) (axis_of (domain_formed kind r) name)
same_formed kind members r read name =
    let found = get (axis_key (axis_name name)) (object members) in
    let values = formed_axes kind r (λ other. (read.each other).fits) name in
    let P : Bool → Type 0 = λ turned. HasSameAxis name found turned (axis_in (read_at r name)) in
    let Q : Option (List ℤ) → Type 0 = λ vs. HasSameAxis name found (is_turned (turned_in r) name) vs in
    subst Q (sym values) (subst P (turned_at r name) (read.each name).same)

-- the domain that is formed of them stands in the tree
pub formed_stands : (found : Option Data) (tree : Data) (kind : DomainType) (r : ReadAxes) → found ≡ Some (string (type_key kind)) → (axes : Data) (are : AreAxes kind tree axes) → AreRead kind are.members r
    → StandsForDomain found tree (turned_in r) (domain_formed kind r)
formed_stands found tree kind r is axes are read = record {
  kind_is = is ∙ ap (λ k. Some (string (type_key k))) (sym (formed_kind kind r));
  members = are.members;
  axes = are.axes_at;
  no_others = all_axes kind are.members are.keys;
  same_axes = same_formed kind are.members r read;
  same_tuples = formed_tuples kind (get (axis_key axis.Composite) (object are.members)) r read.composite (only_there kind are.members are.keys axis.Composite);
  once = formed_once kind (get (axis_key axis.Composite) (object are.members)) r read.composite;
}

-- the tree stands for the domain that is the answer
pub domain_stands : InstantsAreRead → (found : Option Data) (tree : Data) (r : ReadDomain) → domain_of found tree ≡ Ok r → StandsForDomain found tree r.turned r.domain
domain_stands instants found tree r h =
    let kind = and_then_ok (type_at found) _ r h in
    let axes = and_then_ok (axes_at kind.0 tree) _ r kind.2 in
    let read = and_then_ok (axes_read kind.0 axes.0) _ r axes.2 in
    let are = axes_stand kind.0 tree axes.0 axes.1 in
    let answer : axes_read kind.0 (object are.members) ≡ Ok read.0 = ap (axes_read kind.0) (sym are.axes_are) ∙ read.1 in
    let same : formed kind.0 read.0 ≡ r = same_ok (formed kind.0 read.0) r read.2 in
    let stands = formed_stands found tree kind.0 read.0 (type_stands found kind.0 kind.1) axes.0 are (axes_are_read instants kind.0 are.members are.keys read.0 answer) in
    subst (λ (q : ReadDomain). StandsForDomain found tree q.turned q.domain) same stands

-- ---- what stands is the answer

-- an axis of a coordinate that a domain's type hasn't isn't in the tree
absent_at : (found : Option Data) (tree : Data) (turned : Turned) (d : Domain) (s : StandsForDomain found tree turned d) (name : CoordinateName)
    → ¬ (IsAllowed (presence (kind_of d) (axis_name name))) → get (axis_key (axis_name name)) (object s.members) ≡ None
absent_at found tree turned d s name absent =
    let wanted = presence (kind_of d) (axis_name name) in
    let none : axis_of d name ≡ None = (domain_fits d name).absent (false_from_ne_true (is_allowed wanted) (λ e. absent ((allowed_decides wanted).0 e))) in
    none_there name (get (axis_key (axis_name name)) (object s.members)) (is_turned turned name) (axis_of d name) (s.same_axes name) none

-- no axis that its type hasn't is
absent_axis : (found : Option Data) (tree : Data) (turned : Turned) (d : Domain) (s : StandsForDomain found tree turned d) (name : AxisName)
    → ¬ (IsAllowed (presence (kind_of d) name)) → get_member (axis_key name) s.members ≡ None
absent_axis found tree turned d s axis.T absent = absent_at found tree turned d s T absent
absent_axis found tree turned d s axis.Z absent = absent_at found tree turned d s Z absent
absent_axis found tree turned d s axis.Y absent = absent_at found tree turned d s Y absent
absent_axis found tree turned d s axis.X absent = absent_at found tree turned d s X absent
absent_axis found tree turned d s axis.Composite absent = composite_absent d (get (axis_key axis.Composite) (object s.members)) s.same_tuples absent

-- each axis of a domain for which the tree stands is read
axis_answer : InstantsAreRead → (found : Option Data) (tree : Data) (turned : Turned) (d : Domain) (s : StandsForDomain found tree turned d) (name : CoordinateName)
    → axis_by (presence (kind_of d) (axis_name name)) name (object s.members) ≡ Ok (read_as (is_turned turned name) (axis_of d name))
axis_answer instants found tree turned d s name =
    axis_if_answers instants (presence (kind_of d) (axis_name name)) name (get (axis_key (axis_name name)) (object s.members)) (is_turned turned name) (axis_of d name) (s.same_axes name) (domain_fits d name)

-- which of its axes are turned
turned_back : (found : Option Data) (tree : Data) (turned : Turned) (d : Domain) (s : StandsForDomain found tree turned d) → turned_in (axes_as turned d) ≡ turned
turned_back found tree turned d s =
    let same = λ (name : CoordinateName). same_turned name (get (axis_key (axis_name name)) (object s.members)) (is_turned turned name) (axis_of d name) (s.same_axes name) in
    λ i. record { t = same T i; z = same Z i; y = same Y i; x = same X i }

-- the domain for which the tree stands is the answer
pub domain_answers : InstantsAreRead → (found : Option Data) (tree : Data) (r : ReadDomain) → StandsForDomain found tree r.turned r.domain → domain_of found tree ≡ Ok r
domain_answers instants found tree r s =
    let d = r.domain in
    let turned = r.turned in
    let kind = kind_of d in
    let axes = object s.members in
    let read = axes_as turned d in
    let keys = all_left kind s.members s.no_others (absent_axis found tree turned d s) in
    let composite = composite_answers instants turned d (get (axis_key axis.Composite) axes) s.same_tuples (s.once Z) in
    let answer : axes_read kind axes ≡ Ok read =
    and_then_given (axis_by (presence kind axis.T) T axes) _ read.t _ (axis_answer instants found tree turned d s T)
    (and_then_given (axis_by (presence kind axis.Z) Z axes) _ read.z _ (axis_answer instants found tree turned d s Z)
    (and_then_given (axis_by (presence kind axis.Y) Y axes) _ read.y _ (axis_answer instants found tree turned d s Y)
    (and_then_given (axis_by (presence kind axis.X) X axes) _ read.x _ (axis_answer instants found tree turned d s X)
    (and_then_given (composite_by (presence kind axis.Composite) (tuple_kind kind (is_some read.z)) axes) _ read.composite _ composite refl)))) in
    let form = formed_back turned d in
    let turns = turned_back found tree turned d s in
    and_then_given (type_at found) _ kind _ (ap type_at s.kind_is ∙ type_of_domain d)
    (and_then_given (axes_at kind tree) _ axes _ (axes_answer kind tree s.members s.axes keys)
    (and_then_given (axes_read kind axes) _ read _ answer (λ i. Ok (record { domain = form i; turned = turns i }))))

-- ---- what the axes and the tuples of a domain are

-- an axis that stands in the tree is one of its name
axis_of_same : (name : CoordinateName) (o : Option Data) (turned : Bool) (values : Option (List ℤ)) → HasSameAxis name o turned values → IfSome values (IsNamedAxis name)
axis_of_same name o turned None h = tt
axis_of_same name None turned (Some values) h = absurd h
axis_of_same name (Some axis) turned (Some values) h = record { ascending = h.ascending; within = h.within }

-- so each axis of the domain is
pub domain_axes : (found : Option Data) (tree : Data) (turned : Turned) (domain : Domain) → StandsForDomain found tree turned domain → HasAxes domain
domain_axes found tree turned domain s name = axis_of_same name (get (axis_key (axis_name name)) (object s.members)) (is_turned turned name) (axis_of domain name) (s.same_axes name)

-- each tuple that stands in the tree is one of these coordinates
each_tuple : (names : List CoordinateName) (ds : Items) (tuples : List Position) → EachStands (StandsForTuple names) ds tuples → All (IsTuple names) tuples
each_tuple names no_items [] h = All-nil (IsTuple names)
each_tuple names no_items (tuple ∷ tuples) h = absurd h
each_tuple names (item d ds) [] h = absurd h
each_tuple names (item d ds) (tuple ∷ tuples) h = All-cons (IsTuple names) tuple tuples h.0.within (each_tuple names ds tuples h.1)

-- tuples that stand in the tree are tuples of a domain
tuples_of_same : (names : List CoordinateName) (o : Option Data) (tuples : Option (List Position)) → HasSameTuples names o tuples → IfSome tuples (λ ts. length ts < 2 ^ 64) → IfSome tuples (AreTuples names)
tuples_of_same names o None h counted = tt
tuples_of_same names None (Some tuples) h counted = absurd h
tuples_of_same names (Some axis) (Some tuples) h counted = record { some = h.some; counted = counted; each = each_tuple names h.items tuples h.each; in_time = h.in_time }

-- so those of the domain are
pub domain_tuples : (found : Option Data) (tree : Data) (turned : Turned) (domain : Domain) → StandsForDomain found tree turned domain → AreCounted domain → HasTuples domain
domain_tuples found tree turned domain s counted =
    record { tuples = tuples_of_same (coordinates_of domain) (get (axis_key axis.Composite) (object s.members)) (tuples_of domain) s.same_tuples counted; once = s.once }
