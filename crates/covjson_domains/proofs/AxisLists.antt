-- Axes by their listed values: the answer is that list exactly where the tree lists it.
use Rattle.std.proofs.Common.{◌≡◌, ℕ, suc, ◌<◌, ℤ, List, [], ◌∷◌, length, All, true, Some, Ok, refl, sym, ap, ◌∙◌, arith, codes}
use Rattle.std.proofs.lemmas.List.Elements.{All-nil, All-cons}
use Rattle.serde_json.specs.Data.{Data, array, Items, no_items, item}
use Rattle.serde_json.specs.Find.{get, as_number}
use Rattle.edr_axes.specs.Instants.{IsTime}
use Rattle.edr_base.specs.Limits.{coordinate_limit, IsCoordinate}
use Rattle.covjson_value.specs.declared.domains.CoordinateName.TheVariants.{T, X}
use Rattle.covjson_checks.specs.declared.faults.Member.{Member}
use Rattle.covjson_checks.specs.declared.faults.Member.TheVariants.{T as TimeAxis}
use Rattle.covjson_checks.specs.declared.faults.CovFault.TheVariants.{WrongType, NotWhole, BadTime}
use Rattle.covjson_checks.specs.declared.members.Wanted.TheVariants.{Texts, Numbers, Wholes}
use Rattle.edr_base.specs.FirstThatApplies.{check}
use Rattle.edr_axes.specs.InstantComputed.{instant_of, InstantsAreRead}
use Rattle.covjson_checks.specs.Members.{part, list_at, text_at, object_at, need_each, whole_within, all_wanted, is_wanted}
use Rattle.edr_json.specs.Trees.{whole_of, EachStands, StandsForWhole}
use Rattle.covjson_domains.specs.Axes.{StandsForTime, ListsValues}
use Rattle.covjson_domains.specs.AxisAnswers.{has_some, value_items, coordinates, time_at, times_from, axis_times}
use Rattle.edr_json.specs.AnswerLaws.{and_then_ok, or_fault_ok, check_ok, and_then_given, or_fault_given, check_given, some_is}
use Rattle.covjson_checks.specs.CheckLaws.{list_ok, text_ok, from_stands, from_all, whole_within_stands, object_given, whole_within_given, from_given, first_given, all_wanted_given}
use Rattle.edr_json.specs.TreeLaws.{whole_is_number}

-- ---- the items

-- the items are those of the member `values`, and there are some
pub value_items_stand : (m : Member) (axis : Data) (ds : Items) → value_items m axis ≡ Ok ds → (get (codes "values") axis ≡ Some (array ds)) × (has_some ds ≡ true)
value_items_stand m axis ds h =
    let b = and_then_ok (part (codes "values") m axis) _ ds h in
    let l = and_then_ok (list_at m b.0) _ ds b.2 in
    let s = and_then_ok (check (has_some l.0) _) _ ds l.2 in
    let e : l.0 ≡ ds = cc (s.2) in
    let some = check_ok (has_some l.0) _ s.0 s.1 in
    (or_fault_ok (get (codes "values") axis) _ b.0 b.1 ∙ ap Some (list_ok m b.0 l.0 l.1 ∙ ap array e), ap has_some (sym e) ∙ some)

-- and those of the member `values` are found, where there are some
pub value_items_given : (m : Member) (axis : Data) (ds : Items) → get (codes "values") axis ≡ Some (array ds) → has_some ds ≡ true → value_items m axis ≡ Ok ds
value_items_given m axis ds h some =
    and_then_given (part (codes "values") m axis) _ (array ds) _ (or_fault_given (get (codes "values") axis) _ (array ds) h)
    (and_then_given (check (has_some ds) _) _ tt _ (check_given (has_some ds) _ some) refl)

-- items that stand for some values are some
pub some_stand : {V : Type 0} (R : Data → V → Type 0) (ds : Items) (vs : List V) → EachStands R ds vs → 0 < length vs → has_some ds ≡ true
some_stand R no_items [] stand some = absurd (omega arith)
some_stand R no_items (v ∷ vs) stand some = absurd stand
some_stand R (item d ds) vs stand some = refl

-- and some items stand for some values
pub stand_some : {V : Type 0} (R : Data → V → Type 0) (ds : Items) (vs : List V) → EachStands R ds vs → has_some ds ≡ true → 0 < length vs
stand_some R no_items vs stand some = cc
stand_some R (item d ds) [] stand some = absurd stand
stand_some R (item d ds) (v ∷ vs) stand some = omega arith

-- ---- numbers

-- the numbers of an answer are listed, within their limit, and some
pub coordinates_stand : (m : Member) (axis : Data) (vs : List ℤ) → coordinates m axis ≡ Ok vs → ListsValues X axis vs × All IsCoordinate vs × (0 < length vs)
coordinates_stand m axis vs h =
    let a = and_then_ok (value_items m axis) _ vs h in
    let b = and_then_ok (need_each Numbers (WrongType m) a.0) _ vs a.2 in
    let w = and_then_ok (need_each Wholes (NotWhole m) a.0) _ vs b.2 in
    let f = whole_within m coordinate_limit in
    let items = value_items_stand m axis a.0 a.1 in
    let stand = from_stands f StandsForWhole (λ place d v e. (whole_within_stands m coordinate_limit place d v e).0) 0 a.0 vs w.2 in (
      record { items = a.0; list = items.0; values_stand = stand },
      from_all f IsCoordinate (λ place d v e. (whole_within_stands m coordinate_limit place d v e).1) 0 a.0 vs w.2,
      stand_some StandsForWhole a.0 vs stand items.1,
    )

-- an item that stands for a whole number is held whole
pub whole_wanted : (d : Data) (v : ℤ) → StandsForWhole d v → is_wanted Wholes d ≡ true
whole_wanted d v h = some_is (whole_of d) v h

-- and is a number
pub number_wanted : (d : Data) (v : ℤ) → StandsForWhole d v → is_wanted Numbers d ≡ true
number_wanted d v h = let n = whole_is_number d v h in some_is (as_number d) n.0 n.1

-- and listed numbers within their limit are the answer
pub coordinates_given : (m : Member) (axis : Data) (vs : List ℤ) → ListsValues X axis vs → All IsCoordinate vs → 0 < length vs → coordinates m axis ≡ Ok vs
coordinates_given m axis vs lists within some =
    let ds = lists.items in
    let stand : EachStands StandsForWhole ds vs = lists.values_stand in
    and_then_given (value_items m axis) _ ds _ (value_items_given m axis ds lists.list (some_stand StandsForWhole ds vs stand some))
    (and_then_given (need_each Numbers (WrongType m) ds) _ tt _ (check_given (all_wanted Numbers ds) _ (all_wanted_given Numbers StandsForWhole number_wanted ds vs stand))
    (and_then_given (need_each Wholes (NotWhole m) ds) _ tt _ (check_given (all_wanted Wholes ds) _ (all_wanted_given Wholes StandsForWhole whole_wanted ds vs stand))
    (from_given (whole_within m coordinate_limit) StandsForWhole IsCoordinate (whole_within_given m coordinate_limit) 0 ds vs stand within)))

-- ---- times

-- a text gives a time exactly where it is an instant
pub time_stands : InstantsAreRead → (m : Member) (place : ℕ) (d : Data) (t : ℤ) → time_at m place d ≡ Ok t → StandsForTime d t
time_stands instants m place d t h =
    let a = and_then_ok (text_at m d) _ t h in
    let is_text = text_ok m d a.0 a.1 in
    (a.0, is_text, (instants a.0 t).0 (or_fault_ok (instant_of a.0) _ t a.2))

-- and an instant is taken
pub time_given : InstantsAreRead → (m : Member) (place : ℕ) (d : Data) (t : ℤ) → StandsForTime d t → time_at m place d ≡ Ok t
time_given instants m place d t h =
    rw h.1 (or_fault_given (instant_of h.0) (BadTime place) t ((instants h.0 t).1 h.2))

-- the times of the answer are those of the texts
pub times_stand : InstantsAreRead → (place : ℕ) (ds : Items) (ts : List ℤ) → times_from place ds ≡ Ok ts → EachStands StandsForTime ds ts
times_stand instants place no_items [] h = tt
times_stand instants place no_items (t ∷ ts) h = cc
times_stand instants place (item d ds) ts h =
    let a = and_then_ok (time_at TimeAxis place d) _ ts h in
    let b = and_then_ok (times_from (suc place) ds) _ ts a.2 in
    let e : a.0 ∷ b.0 ≡ ts = cc (b.2) in
    rw (← e) (time_stands instants TimeAxis place d a.0 a.1, times_stand instants (suc place) ds b.0 b.1)

-- and those of the texts are the answer
pub times_given : InstantsAreRead → (place : ℕ) (ds : Items) (ts : List ℤ) → EachStands StandsForTime ds ts → times_from place ds ≡ Ok ts
times_given instants place no_items [] stand = refl
times_given instants place no_items (t ∷ ts) stand = absurd stand
times_given instants place (item d ds) [] stand = absurd stand
times_given instants place (item d ds) (t ∷ ts) stand =
    first_given (time_at TimeAxis place d) (times_from (suc place) ds) t ts (time_given instants TimeAxis place d t stand.0) (times_given instants (suc place) ds ts stand.1)

-- each lies in the years of times
times_within : (ds : Items) (ts : List ℤ) → EachStands StandsForTime ds ts → All IsTime ts
times_within no_items [] stand = All-nil IsTime
times_within no_items (t ∷ ts) stand = absurd stand
times_within (item d ds) [] stand = absurd stand
times_within (item d ds) (t ∷ ts) stand = All-cons IsTime t ts stand.0.2.time_in (times_within ds ts stand.1)

-- an item that stands for a time is a text
text_wanted : (d : Data) (t : ℤ) → StandsForTime d t → is_wanted Texts d ≡ true
text_wanted d t h = rw h.1

-- the times of an answer are listed, within their limit, and some
pub axis_times_stand : InstantsAreRead → (axis : Data) (ts : List ℤ) → axis_times axis ≡ Ok ts → ListsValues T axis ts × All IsTime ts × (0 < length ts)
axis_times_stand instants axis ts h =
    let o = and_then_ok (object_at TimeAxis axis) _ ts h in
    let a = and_then_ok (value_items TimeAxis axis) _ ts o.2 in
    let w = and_then_ok (need_each Texts (WrongType TimeAxis) a.0) _ ts a.2 in
    let items = value_items_stand TimeAxis axis a.0 a.1 in
    let stand = times_stand instants 0 a.0 ts w.2 in
    (record { items = a.0; list = items.0; values_stand = stand }, times_within a.0 ts stand, stand_some StandsForTime a.0 ts stand items.1)

-- and listed times are the answer
pub axis_times_given : InstantsAreRead → (axis : Data) (ts : List ℤ) → ListsValues T axis ts → 0 < length ts → axis_times axis ≡ Ok ts
axis_times_given instants axis ts lists some =
    let ds = lists.items in
    let stand : EachStands StandsForTime ds ts = lists.values_stand in
    let held = object_given TimeAxis (codes "values") axis (array ds) lists.list in
    and_then_given (object_at TimeAxis axis) _ held.0 _ held.1
    (and_then_given (value_items TimeAxis axis) _ ds _ (value_items_given TimeAxis axis ds lists.list (some_stand StandsForTime ds ts stand some))
    (and_then_given (need_each Texts (WrongType TimeAxis) ds) _ tt _ (check_given (all_wanted Texts ds) _ (all_wanted_given Texts StandsForTime text_wanted ds ts stand))
    (times_given instants 0 ds ts stand)))
