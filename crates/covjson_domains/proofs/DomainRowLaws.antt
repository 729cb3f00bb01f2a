-- Rows of domains have the computed answer, and no other; they end in a domain exactly where the tree stands for it.
use Rattle.std.specs.Prelude.{is_some, ◌↔◌, IfOk, IfErr}
use Rattle.std.proofs.Common.{◌≡◌, ◌≢◌, ℕ, List, Bool, false, Option, Some, None, Ok, Err, inl, inr, refl, sym, ap, ◌∙◌, subst, codes}
use Rattle.serde_json.specs.Data.{Data, string, object}
use Rattle.serde_json.specs.Find.{get, as_str, as_object}
use Rattle.edr_base.specs.FirstThatApplies.{Then, Gives, and_then, or_fault, check, With}
use Rattle.edr_axes.specs.InstantComputed.{InstantsAreRead}
use Rattle.edr_json.specs.AnswerLaws.{and_then_ok, and_then_given, or_fault_given, check_ok, check_given}
use Rattle.edr_json.specs.TreeLaws.{as_str_some}
use Rattle.covjson_value.specs.declared.domains.CoordinateName.{CoordinateName}
use Rattle.covjson_value.specs.declared.domains.CoordinateName.TheVariants.{T, Z, Y, X}
use Rattle.covjson_value.specs.declared.axis_names.AxisName.TheVariants as axis
use Rattle.covjson_value.specs.AxisNames.{axis_key, axis_name}
use Rattle.covjson_value.specs.Coverages.{HasAxes, HasTuples}
use Rattle.covjson_checks.specs.declared.turned.ReadDomain.{ReadDomain}
use Rattle.covjson_checks.specs.declared.faults.Member.TheVariants.{DomainType as TypeMember, Axes, Composite as CompositeAxis}
use Rattle.covjson_checks.specs.declared.faults.CovFault.{CovFault}
use Rattle.covjson_checks.specs.declared.faults.CovFault.TheVariants.{Missing, WrongType, UnsupportedDomain, OutOfMemory}
use Rattle.covjson_checks.specs.Answers.{Answer, GivesUnlessMemory}
use Rattle.covjson_checks.specs.Members.{need, object_at, text_at}
use Rattle.covjson_checks.specs.CheckLaws.{object_ok}
use Rattle.covjson_checks.specs.RowLaws.{HaveAnswer, Finds, option_finds, find_answers, find_within, value_answers, told, told_within, gives_answers, rows_stand, ok_fault, option_fault, check_fault, then_fault}
use Rattle.covjson_domains.specs.declared.axes.ReadAxis.{ReadAxis}
use Rattle.covjson_domains.specs.declared.tuples.ReadTuples.{ReadTuples}
use Rattle.covjson_domains.specs.declared.domains.ReadAxes.{ReadAxes}
use Rattle.covjson_value.specs.declared.domain_types.DomainType.{DomainType}
use Rattle.covjson_value.specs.declared.domain_types.DomainType.TheVariants.{Grid, Point, PointSeries, VerticalProfile, MultiPoint, Trajectory}
use Rattle.covjson_value.specs.DomainTypes.{type_key, type_by_name}
use Rattle.covjson_domains.specs.declared.domain_types.Presence.{Presence}
use Rattle.covjson_domains.specs.DomainTypes.{presence, member_of}
use Rattle.covjson_domains.specs.Domains.{StandsForDomain}
use Rattle.covjson_domains.specs.RowWords.{IfFound}
use Rattle.covjson_domains.specs.TupleRows.{TupleRows}
use Rattle.covjson_domains.specs.DomainRows.{HasOnlyAxes, NamedRows, CompositeRows, DomainRows}
use Rattle.covjson_domains.specs.TypeAnswers.{is_allowed, has_no_others, left_out}
use Rattle.covjson_domains.specs.AxisAnswers.{axis_read, need_count, axis_if, axis_by}
use Rattle.covjson_domains.specs.TupleAnswers.{tuples_read}
use Rattle.covjson_domains.specs.DomainAnswers.{type_at, axes_at, tuple_kind, composite_if, composite_by, axes_read, formed, domain_of, AreCounted}
use Rattle.covjson_domains.proofs.DomainTypes.{type_is_named, type_of_key}
use Rattle.covjson_domains.proofs.DomainKeys.{no_others_decides}
use Rattle.covjson_domains.proofs.DomainLaws.{only_there, axes_answer, domain_stands, domain_answers, domain_axes, domain_tuples}
use Rattle.covjson_domains.proofs.AxisRowLaws.{with_answers, out_row, axis_if_rows}
use Rattle.covjson_domains.proofs.TupleRowLaws.{HasComposite, kind_at, tuple_rows}

-- ---- the parts of a domain

-- a datum that was found
datum_found : (found : Option Data) → Finds (λ (d : Data). found ≡ Some d) (Missing TypeMember) (or_fault found (Missing TypeMember))
datum_found found = option_finds (λ (d : Data). found ≡ Some d) (Missing TypeMember) found (λ d h. h) (λ d h. h)

-- a text
text_found : (d : Data) → Finds (λ (name : List ℕ). d ≡ string name) (WrongType TypeMember) (text_at TypeMember d)
text_found d = option_finds (λ (name : List ℕ). d ≡ string name) (WrongType TypeMember) (as_str d) (λ name h. as_str_some d name h) (λ name h. ap as_str h)

-- a type of that name
type_found : (name : List ℕ) → Finds (λ (kind : DomainType). name ≡ type_key kind) (UnsupportedDomain name) (or_fault (type_by_name name) (UnsupportedDomain name))
type_found name =
    option_finds (λ (kind : DomainType). name ≡ type_key kind) (UnsupportedDomain name) (type_by_name name) (type_is_named name) (λ kind h. ap type_by_name h ∙ type_of_key kind)

-- the axes of a tree
axes_found : (tree : Data) → Finds (λ (axes : Data). get (codes "axes") tree ≡ Some axes) (Missing Axes) (need (codes "axes") Axes tree)
axes_found tree = option_finds (λ (axes : Data). get (codes "axes") tree ≡ Some axes) (Missing Axes) (get (codes "axes") tree) (λ d h. h) (λ d h. h)

-- no others than those of the type
abbrev only_axes : DomainType → Data → Answer Data
only_axes kind axes = and_then (object_at Axes axes) (λ members. and_then (check (has_no_others kind members) (WrongType Axes)) (λ _. Ok axes))

only_tells : (kind : DomainType) (axes found : Data) → only_axes kind axes ≡ Ok found → HasOnlyAxes kind axes × (found ≡ axes)
only_tells kind axes found h =
    let members = and_then_ok (object_at Axes axes) _ found h in
    let checked = and_then_ok (check (has_no_others kind members.0) (WrongType Axes)) _ found members.2 in
    let same : axes ≡ found = let e = checked.2 in cc in (
      record {
        members = members.0;
        object_is = object_ok Axes axes members.0 members.1;
        no_others = (no_others_decides kind members.0).0 (check_ok (has_no_others kind members.0) _ checked.0 checked.1);
      },
      sym same,
    )

only_given : (kind : DomainType) (axes found : Data) → HasOnlyAxes kind axes × (found ≡ axes) → only_axes kind axes ≡ Ok found
only_given kind axes found h =
    and_then_given (object_at Axes axes) _ h.0.members _ (or_fault_given (as_object axes) (WrongType Axes) h.0.members (ap as_object h.0.object_is))
    (and_then_given (check (has_no_others kind h.0.members) (WrongType Axes)) _ tt _ (check_given (has_no_others kind h.0.members) _ ((no_others_decides kind h.0.members).1 h.0.no_others)) (ap Ok (sym h.1)))

only_found : (kind : DomainType) (axes : Data) → Finds (λ (found : Data). HasOnlyAxes kind axes × (found ≡ axes)) (WrongType Axes) (only_axes kind axes)
only_found kind axes = record {
  found = only_tells kind axes;
  finds = only_given kind axes;
  none = then_fault (WrongType Axes) (object_at Axes axes) _ (option_fault (WrongType Axes) (as_object axes)) (λ members.
      then_fault (WrongType Axes) (check (has_no_others kind members) (WrongType Axes)) _ (check_fault (WrongType Axes) (has_no_others kind members)) (λ _. ok_fault (WrongType Axes) axes));
}

-- ---- the composite axis

-- whether tuples were read is all that is kept
some_told : (answer : Answer ReadTuples) → told (and_then answer (λ read. Ok (Some read))) ≡ told answer
some_told (Ok read) = refl
some_told (Err f) = refl

-- an axis that the type hasn't isn't found
never : (kind : DomainType) (axes : Data) → HasOnlyAxes kind axes → (composite : Data) → is_allowed (presence kind axis.Composite) ≡ false → get (axis_key axis.Composite) axes ≡ Some composite → ⊥
never kind axes only composite none h =
    let gone = only_there kind only.members only.no_others axis.Composite none in
    let found : ◌≡◌ {A = Option Data} None (Some composite) = sym gone ∙ ap (get (axis_key axis.Composite)) (sym only.object_is) ∙ h in
    cc

-- a type without a composite axis
no_composite : (kind : DomainType) (axes : Data) → HasOnlyAxes kind axes → (composite : Data) → get (axis_key axis.Composite) axes ≡ Some composite → HasComposite kind
no_composite Grid axes only composite h = absurd (never Grid axes only composite refl h)
no_composite Point axes only composite h = absurd (never Point axes only composite refl h)
no_composite PointSeries axes only composite h = absurd (never PointSeries axes only composite refl h)
no_composite VerticalProfile axes only composite h = absurd (never VerticalProfile axes only composite refl h)
no_composite MultiPoint axes only composite h = tt
no_composite Trajectory axes only composite h = tt

-- the rows of a composite axis, found or not
composite_rows : InstantsAreRead → (kind : DomainType) (level found : Option Data) → ((composite : Data) → found ≡ Some composite → HasComposite kind)
    → HaveAnswer (IfFound (presence kind axis.Composite) CompositeAxis found (TupleRows kind level)) (told (composite_if (presence kind axis.Composite) (kind_at kind level) found))
composite_rows instants kind level None has =
    let none : Option ReadTuples = None in
    out_row (presence kind axis.Composite) CompositeAxis none
composite_rows instants kind level (Some composite) has =
    subst (HaveAnswer (TupleRows kind level composite)) (sym (some_told (tuples_read (kind_at kind level) composite))) (tuple_rows instants kind level composite (has composite refl))

-- an axis was read where one is found
read_there : (wanted : Presence) (name : CoordinateName) (found : Option Data) (read : Option ReadAxis) → axis_if wanted name found ≡ Ok read → is_some read ≡ is_some found
read_there wanted name None None h = refl
read_there wanted name None (Some r) h =
    let a = and_then_ok (left_out wanted (member_of name)) _ (Some r) h in
    let e = a.2 in cc
read_there wanted name (Some axis) None h =
    let a = and_then_ok (axis_read name axis) _ None h in
    let c = and_then_ok (need_count wanted name a.0) _ None a.2 in
    let e = c.2 in cc
read_there wanted name (Some axis) (Some r) h = refl

-- so the kind of its tuples is as it was read
composite_read : InstantsAreRead → (kind : DomainType) (axes : Data) → HasOnlyAxes kind axes → (z : Option ReadAxis) → axis_by (presence kind axis.Z) Z axes ≡ Ok z
    → HaveAnswer (CompositeRows kind axes) (told (composite_by (presence kind axis.Composite) (tuple_kind kind (is_some z)) axes))
composite_read instants kind axes only z h =
    let level = get (axis_key (axis_name Z)) axes in
    let has = composite_rows instants kind level (get (axis_key axis.Composite) axes) (no_composite kind axes only) in
    let same = read_there (presence kind axis.Z) Z level z h in
    subst (λ (there : Bool). HaveAnswer (CompositeRows kind axes) (told (composite_by (presence kind axis.Composite) (tuple_kind kind there) axes))) (sym same) has

-- ---- the domain

-- a type is read of its text
type_read : (kind : DomainType) → type_at (Some (string (type_key kind))) ≡ Ok kind
type_read Grid = refl
type_read Point = refl
type_read PointSeries = refl
type_read VerticalProfile = refl
type_read MultiPoint = refl
type_read Trajectory = refl

-- what the rows before have found
record IsFound (found : Option Data) (tree : Data) (kind : DomainType) (axes : Data) : Type 0 where
  type_is : found ≡ Some (string (type_key kind))
  axes_are : get (codes "axes") tree ≡ Some axes
  only : HasOnlyAxes kind axes

-- then the axes that are read are those of the answer
answer_is : (found : Option Data) (tree : Data) (kind : DomainType) (axes : Data) (r : ReadAxes) → IsFound found tree kind axes → axes_read kind axes ≡ Ok r → domain_of found tree ≡ Ok (formed kind r)
answer_is found tree kind axes r is read =
    let members = is.only.members in
    let there : get (codes "axes") tree ≡ Some (object members) = is.axes_are ∙ ap Some is.only.object_is in
    and_then_given (type_at found) _ kind _ (ap type_at is.type_is ∙ type_read kind)
    (and_then_given (axes_at kind tree) _ (object members) _ (axes_answer kind tree members there is.only.no_others)
    (and_then_given (axes_read kind (object members)) _ r _ (ap (axes_read kind) (sym is.only.object_is) ∙ read) refl))

-- two domains that are the answer
only_one : (one other : ReadDomain) → ◌≡◌ {A = Answer ReadDomain} (Ok one) (Ok other) → one ≡ other
only_one one other h = cc

-- and the domain of these axes is the one for which the tree stands
stands_alone : InstantsAreRead → (found : Option Data) (tree : Data) (kind : DomainType) (axes : Data) (r : ReadAxes) → IsFound found tree kind axes → axes_read kind axes ≡ Ok r
    → HaveAnswer {F = CovFault} (With (λ (read : ReadDomain). StandsForDomain found tree read.turned read.domain) Gives) (Ok (formed kind r))
stands_alone instants found tree kind axes r is read =
    let answer = answer_is found tree kind axes r is read in
    let Stands = λ (other : ReadDomain). StandsForDomain found tree other.turned other.domain in
    with_answers Stands Gives (formed kind r) (Ok (formed kind r)) (domain_stands instants found tree (formed kind r) answer)
    (λ other also. only_one other (formed kind r) (sym (domain_answers instants found tree other also) ∙ answer)) (gives_answers (formed kind r))

-- the rows of the axes
abbrev AxesRows : Option Data → Data → DomainType → Data → Answer ReadDomain → Type 0
AxesRows found tree kind axes =
    Then (NamedRows kind axes T) (λ _.
    Then (NamedRows kind axes Z) (λ _.
    Then (NamedRows kind axes Y) (λ _.
    Then (NamedRows kind axes X) (λ _.
    Then (CompositeRows kind axes) (λ _.
    With (λ (read : ReadDomain). StandsForDomain found tree read.turned read.domain) Gives)))))

rows_of_axes : InstantsAreRead → (found : Option Data) (tree : Data) (kind : DomainType) (axes : Data) → IsFound found tree kind axes
    → HaveAnswer (AxesRows found tree kind axes) (and_then (axes_read kind axes) (λ read. Ok (formed kind read)))
rows_of_axes instants found tree kind axes is =
    told_within (NamedRows kind axes T) _ (axis_by (presence kind axis.T) T axes) _ _ (axis_if_rows instants (presence kind axis.T) T (get (axis_key (axis_name T)) axes)) (λ t is_t.
    told_within (NamedRows kind axes Z) _ (axis_by (presence kind axis.Z) Z axes) _ _ (axis_if_rows instants (presence kind axis.Z) Z (get (axis_key (axis_name Z)) axes)) (λ z is_z.
    told_within (NamedRows kind axes Y) _ (axis_by (presence kind axis.Y) Y axes) _ _ (axis_if_rows instants (presence kind axis.Y) Y (get (axis_key (axis_name Y)) axes)) (λ y is_y.
    told_within (NamedRows kind axes X) _ (axis_by (presence kind axis.X) X axes) _ _ (axis_if_rows instants (presence kind axis.X) X (get (axis_key (axis_name X)) axes)) (λ x is_x.
    told_within (CompositeRows kind axes) _ (composite_by (presence kind axis.Composite) (tuple_kind kind (is_some z)) axes) _ _ (composite_read instants kind axes is.only z is_z) (λ composite is_composite.
    let r : ReadAxes = record { t = t; z = z; y = y; x = x; composite = composite } in
    let read : axes_read kind axes ≡ Ok r =
    and_then_given (axis_by (presence kind axis.T) T axes) _ t _ is_t
    (and_then_given (axis_by (presence kind axis.Z) Z axes) _ z _ is_z
    (and_then_given (axis_by (presence kind axis.Y) Y axes) _ y _ is_y
    (and_then_given (axis_by (presence kind axis.X) X axes) _ x _ is_x
    (and_then_given (composite_by (presence kind axis.Composite) (tuple_kind kind (is_some z)) axes) _ composite _ is_composite refl)))) in
    stands_alone instants found tree kind axes r is read)))))

-- the rows of a domain
pub domain_rows : InstantsAreRead → (found : Option Data) (tree : Data) → HaveAnswer (DomainRows found tree) (domain_of found tree)
domain_rows instants found tree =
    find_within (λ (d : Data). found ≡ Some d) (Missing TypeMember) _ (or_fault found (Missing TypeMember)) _ _ (datum_found found) (λ d is_d.
    find_within (λ (name : List ℕ). d ≡ string name) (WrongType TypeMember) _ (text_at TypeMember d) _ _ (text_found d) (λ name is_name.
    find_answers (λ (kind : DomainType). name ≡ type_key kind) (UnsupportedDomain name) _ (or_fault (type_by_name name) (UnsupportedDomain name)) _ (type_found name) (λ kind is_kind.
    find_within (λ (axes : Data). get (codes "axes") tree ≡ Some axes) (Missing Axes) _ (need (codes "axes") Axes tree) _ _ (axes_found tree) (λ axes is_axes.
    value_answers (HasOnlyAxes kind axes) (WrongType Axes) _ (only_axes kind axes) axes _ (only_found kind axes) (λ only.
    rows_of_axes instants found tree kind axes (record { type_is = is_d ∙ ap Some (is_name ∙ ap string is_kind); axes_are = is_axes; only = only }))))))

-- they end in what stands
pub rows_are_what_stands : InstantsAreRead → (found : Option Data) (tree : Data) (read : ReadDomain) → DomainRows found tree (Ok read) ↔ StandsForDomain found tree read.turned read.domain
rows_are_what_stands instants found tree read =
    rows_stand (DomainRows found tree) (domain_of found tree) (λ (other : ReadDomain). StandsForDomain found tree other.turned other.domain) (domain_rows instants found tree)
    (λ other. (domain_stands instants found tree other, domain_answers instants found tree other)) read

-- ---- what a result says, which is the answer unless memory was wanting

-- a domain stands
pub result_stands : InstantsAreRead → (found : Option Data) (tree : Data) (result : Answer ReadDomain) → GivesUnlessMemory (λ read. read) result (domain_of found tree)
    → IfOk result (λ read. StandsForDomain found tree read.turned read.domain)
result_stands instants found tree (Ok read) h = domain_stands instants found tree read h
result_stands instants found tree (Err f) h = tt

-- a fault is that of the rows
pub result_refused : InstantsAreRead → (found : Option Data) (tree : Data) (result : Answer ReadDomain) → GivesUnlessMemory (λ read. read) result (domain_of found tree)
    → IfErr result (λ fault. fault ≢ OutOfMemory → DomainRows found tree (Err fault))
result_refused instants found tree (Ok read) h = tt
result_refused instants found tree (Err f) (inl h) = λ other. subst (DomainRows found tree) h (domain_rows instants found tree).follows
result_refused instants found tree (Err f) (inr h) = λ other. absurd (other h)

-- and then nothing stands
pub result_stands_not : InstantsAreRead → (found : Option Data) (tree : Data) (result : Answer ReadDomain) → GivesUnlessMemory (λ read. read) result (domain_of found tree)
    → IfErr result (λ fault. fault ≢ OutOfMemory → (read : ReadDomain) → ¬ (StandsForDomain found tree read.turned read.domain))
result_stands_not instants found tree (Ok read) h = tt
result_stands_not instants found tree (Err f) (inl h) = λ other read stands. let e = sym (domain_answers instants found tree read stands) ∙ h in cc
result_stands_not instants found tree (Err f) (inr h) = λ other. absurd (other h)

-- the axes of the domain are axes
pub result_axes : InstantsAreRead → (found : Option Data) (tree : Data) (result : Answer ReadDomain) → GivesUnlessMemory (λ read. read) result (domain_of found tree) → IfOk result (λ read. HasAxes read.domain)
result_axes instants found tree (Ok read) h = domain_axes found tree read.turned read.domain (domain_stands instants found tree read h)
result_axes instants found tree (Err f) h = tt

-- and its tuples are tuples
pub result_tuples : InstantsAreRead → (found : Option Data) (tree : Data) (result : Answer ReadDomain) → GivesUnlessMemory (λ read. read) result (domain_of found tree)
    → IfOk result (λ read. AreCounted read.domain) → IfOk result (λ read. HasTuples read.domain)
result_tuples instants found tree (Ok read) h counted = domain_tuples found tree read.turned read.domain (domain_stands instants found tree read h) counted
result_tuples instants found tree (Err f) h counted = tt
