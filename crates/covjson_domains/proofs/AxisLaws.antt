-- The laws of axes: an axis is the answer exactly where the tree stands for it.
use Rattle.std.specs.Prelude.{is_some}
use Rattle.std.proofs.Common.{◌≡◌, ◌⊎◌, inl, inr, if◌then◌else◌, ◌<◌, ℤ, List, [], ◌∷◌, length, All, Bool, Option, Some, None, Ok, refl, sym, ap, ◌∙◌, subst, arith, codes}
use Rattle.serde_json.specs.Data.{Data, array}
use Rattle.serde_json.specs.Find.{get}
use Rattle.edr_axes.specs.Axes.{value_at}
use Rattle.edr_axes.specs.InstantComputed.{InstantsAreRead}
use Rattle.covjson_value.specs.declared.domains.CoordinateName.{CoordinateName}
use Rattle.covjson_value.specs.declared.domains.CoordinateName.TheVariants.{T, Z, Y, X}
use Rattle.edr_base.specs.Limits.{IsCoordinate}
use Rattle.covjson_value.specs.Coverages.{IsAxisValue}
use Rattle.covjson_domains.specs.declared.axes.ReadAxis.{ReadAxis}
use Rattle.covjson_checks.specs.declared.faults.Member.{Member}
use Rattle.covjson_checks.specs.declared.faults.Member.TheVariants.{Z as LevelAxis, Y as RowAxis, X as ColumnAxis}
use Rattle.covjson_checks.specs.Answers.{Answer}
use Rattle.covjson_checks.specs.Members.{object_at}
use Rattle.edr_json.specs.Trees.{EachStands}
use Rattle.covjson_domains.specs.Axes.{StandsForAxisValue, ListsValues, SpansValues, HoldsValues, turned_if, StandsForAxis}
use Rattle.covjson_domains.specs.DomainTypes.{member_of}
use Rattle.covjson_domains.specs.AxisAnswers.{coordinates, spanned, axis_numbers, axis_values, in_direction, axis_read}
use Rattle.edr_json.specs.AnswerLaws.{and_then_ok, and_then_given}
use Rattle.covjson_checks.specs.CheckLaws.{object_given}
use Rattle.covjson_domains.proofs.AxisLists.{coordinates_stand, coordinates_given, axis_times_stand, axis_times_given}
use Rattle.covjson_domains.proofs.AxisSpans.{spanned_stand, spanned_given, start_there}
use Rattle.covjson_domains.proofs.AxisDirections.{direction_tells, direction_given, all_turned, length_turned, turned_back}

-- ---- numbers, listed or spanned

-- listed where `values` is there, else spanned
numbers_by : (m : Member) (axis : Data) (vs : List ℤ) (o : Option Data) → get (codes "values") axis ≡ o
    → (if is_some o then coordinates m axis else spanned m axis) ≡ Ok vs → (ListsValues X axis vs ⊎ SpansValues axis vs) × All IsCoordinate vs × (0 < length vs)
numbers_by m axis vs (Some d) is h = let a = coordinates_stand m axis vs h in (inl a.0, a.1, a.2)
numbers_by m axis vs None is h = let a = spanned_stand m axis vs is h in (inr a.0, a.1, a.2)

-- the numbers of an answer are those that the tree lists or spans
numbers_stand : (m : Member) (axis : Data) (vs : List ℤ) → axis_numbers m axis ≡ Ok vs → (ListsValues X axis vs ⊎ SpansValues axis vs) × All IsCoordinate vs × (0 < length vs)
numbers_stand m axis vs h =
    let a = and_then_ok (object_at m axis) _ vs h in
    numbers_by m axis vs (get (codes "values") axis) refl a.2

-- what is listed is taken
then_given : (o : Option Data) (d : Data) (a b : Answer (List ℤ)) (vs : List ℤ) → o ≡ Some d → a ≡ Ok vs → (if is_some o then a else b) ≡ Ok vs
then_given None d a b vs h k = cc
then_given (Some e) d a b vs h k = k

-- and what is spanned, where nothing is listed
else_given : (o : Option Data) (a b : Answer (List ℤ)) (vs : List ℤ) → o ≡ None → b ≡ Ok vs → (if is_some o then a else b) ≡ Ok vs
else_given None a b vs h k = k
else_given (Some e) a b vs h k = cc

-- and those that it lists or spans are the answer
numbers_given : (m : Member) (axis : Data) (vs : List ℤ) → ListsValues X axis vs ⊎ SpansValues axis vs → All IsCoordinate vs → 0 < length vs → axis_numbers m axis ≡ Ok vs
numbers_given m axis vs (inl lists) all some =
    let held = object_given m (codes "values") axis (array lists.items) lists.list in
    and_then_given (object_at m axis) _ held.0 _ held.1
    (then_given (get (codes "values") axis) (array lists.items) (coordinates m axis) (spanned m axis) vs lists.list (coordinates_given m axis vs lists all some))
numbers_given m axis vs (inr spans) all some =
    let start = start_there axis vs spans in
    let held = object_given m (codes "start") axis start.0 start.1 in
    and_then_given (object_at m axis) _ held.0 _ held.1
    (else_given (get (codes "values") axis) (coordinates m axis) (spanned m axis) vs spans.unlisted (spanned_given m axis vs spans all some))

-- ---- the values of an axis of any name

-- listed numbers are those of each axis of numbers
listed_as : (name other : CoordinateName) (axis : Data) (vs : List ℤ) → StandsForAxisValue name ≡ StandsForAxisValue other
    → ListsValues name axis vs ⊎ SpansValues axis vs → ListsValues other axis vs ⊎ SpansValues axis vs
listed_as name other axis vs same (inl h) =
    inl (record { items = h.items; list = h.list; values_stand = subst (λ R. EachStands R h.items vs) same h.values_stand })
listed_as name other axis vs same (inr h) = inr h

-- the values of an answer are those that the tree holds
pub values_stand : InstantsAreRead → (name : CoordinateName) (axis : Data) (vs : List ℤ) → axis_values name axis ≡ Ok vs → HoldsValues name axis vs × All (IsAxisValue name) vs × (0 < length vs)
values_stand instants T axis vs h = axis_times_stand instants axis vs h
values_stand instants Z axis vs h = let a = numbers_stand LevelAxis axis vs h in (listed_as X Z axis vs refl a.0, a.1, a.2)
values_stand instants Y axis vs h = let a = numbers_stand RowAxis axis vs h in (listed_as X Y axis vs refl a.0, a.1, a.2)
values_stand instants X axis vs h = numbers_stand ColumnAxis axis vs h

-- and those that it holds are the answer
pub values_given : InstantsAreRead → (name : CoordinateName) (axis : Data) (vs : List ℤ) → HoldsValues name axis vs → All (IsAxisValue name) vs → 0 < length vs → axis_values name axis ≡ Ok vs
values_given instants T axis vs held all some = axis_times_given instants axis vs held some
values_given instants Z axis vs held all some = numbers_given LevelAxis axis vs (listed_as Z X axis vs refl held) all some
values_given instants Y axis vs held all some = numbers_given RowAxis axis vs (listed_as Y X axis vs refl held) all some
values_given instants X axis vs held all some = numbers_given ColumnAxis axis vs held all some

-- ---- axes

-- the tree stands for the axis that is the answer
pub axis_stands : InstantsAreRead → (name : CoordinateName) (axis : Data) (r : ReadAxis) → axis_read name axis ≡ Ok r → StandsForAxis name axis r.turned r.axis
axis_stands instants name axis r h =
    let a = and_then_ok (axis_values name axis) _ r h in
    let v = values_stand instants name axis a.0 a.1 in
    let d = direction_tells (member_of name) a.0 r v.2 a.2 in
    let back : turned_if r.turned a.0 ≡ r.axis = ap (turned_if r.turned) (sym d.held) ∙ turned_back r.turned r.axis in
    record {
      ascending = d.ascending;
      within = subst (λ (vs : List ℤ). All (IsAxisValue name) vs) back (all_turned (IsAxisValue name) r.turned a.0 v.1);
      several = d.several;
      held = subst (λ (vs : List ℤ). HoldsValues name axis vs) (sym d.held) v.0;
    }

-- and an axis for which it stands is the answer
pub axis_answers : InstantsAreRead → (name : CoordinateName) (axis : Data) (turned : Bool) (values : List ℤ) → StandsForAxis name axis turned values
    → axis_read name axis ≡ Ok (record { axis = values; turned = turned })
axis_answers instants name axis turned values s =
    let vs = turned_if turned values in
    let some : 0 < length vs = rw (length_turned turned values) s.ascending.some in
    let given = values_given instants name axis vs s.held (all_turned (IsAxisValue name) turned values s.within) some in
    and_then_given (axis_values name axis) (in_direction (member_of name)) vs _ given (direction_given (member_of name) turned values s.ascending s.several)

-- ---- axes of a single value

-- one value is all of its axis
pub only_value : (values : List ℤ) → length values ≡ 1 → values ≡ value_at values 0 ∷ []
only_value [] h = absurd (omega arith)
only_value (v ∷ []) h = refl
only_value (v ∷ (w ∷ values)) h = absurd (omega arith)
