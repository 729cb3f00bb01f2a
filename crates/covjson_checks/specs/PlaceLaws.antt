-- Laws of items of a list, by their places.
use Rattle.std.proofs.Common.{◌≡◌, if◌then◌else◌, ℕ, zero, suc, ◌<◌, List, [], ◌∷◌, All, Bool, true, false, ◌&&◌, Decides, Some, refl, sym, ap, ◌∙◌, subst, arith}
use Rattle.std.proofs.lemmas.Bool.{true≢false, and_parts, and_from}
use Rattle.std.proofs.lemmas.List.Elements.{All-nil, All-cons, All-head, All-tail}
use Rattle.serde_json.specs.Data.{Data, Items, no_items, item}
use Rattle.edr_base.specs.FirstLaws.{least_rank}
use Rattle.edr_json.specs.Trees.{item_at, EachStands}
use Rattle.covjson_checks.specs.Places.{IsAmong, EachItem, IsSoAt, IsFirstItem, HasValue, failing_place}

-- ---- each item

-- no item is one
pub each_none : (Is : Data → Type 0) → EachItem Is no_items
each_none Is d among = let e = among.1 in cc

-- the first item and each of the others
pub each_more : (Is : Data → Type 0) (d : Data) (ds : Items) → Is d → EachItem Is ds → EachItem Is (item d ds)
each_more Is d ds here later other (zero, at) = let same : d ≡ other = cc in subst Is same here
each_more Is d ds here later other (suc place, at) = later other (place, at)

-- the first is so where each is
pub each_head : (Is : Data → Type 0) (d : Data) (ds : Items) → EachItem Is (item d ds) → Is d
each_head Is d ds each = each d (0, refl)

-- and so is each of the others
pub each_tail : (Is : Data → Type 0) (d : Data) (ds : Items) → EachItem Is (item d ds) → EachItem Is ds
each_tail Is d ds each other among = each other (suc among.0, among.1)

-- a test along the items decides whether each is so where one of an item decides whether that is
pub each_decides : (Is : Data → Type 0) (test : Data → Bool) (all : Items → Bool) → all no_items ≡ true → ((d : Data) (ds : Items) → all (item d ds) ≡ (test d && all ds))
    → ((d : Data) → Decides (test d) (Is d)) → (ds : Items) → Decides (all ds) (EachItem Is ds)
each_decides Is test all none more one no_items = (λ e. each_none Is, λ each. none)
each_decides Is test all none more one (item d ds) =
    let later = each_decides Is test all none more one ds in (
      λ e.
          let parts = and_parts (test d) (all ds) (sym (more d ds) ∙ e) in
          each_more Is d ds ((one d).0 parts.0) (later.0 parts.1),
      λ each. more d ds ∙ and_from (test d) (all ds) ((one d).1 (each_head Is d ds each)) (later.1 (each_tail Is d ds each)),
    )

-- ---- the first item

-- it is so
pub first_is : (Is : Data → Type 0) (items : Items) (first : Data) → IsFirstItem Is items first → Is first
first_is Is items first at =
    let so = at.first.applies in
    let there : item_at items at.place ≡ Some so.0 = so.1 in
    let here : item_at items at.place ≡ Some first = at.here in
    let same : so.0 ≡ first = cc in
    subst Is same so.2

-- and none before it is
pub none_before : (Is : Data → Type 0) (items : Items) (first : Data) (at : IsFirstItem Is items first) (earlier : ℕ) (other : Data) → earlier < at.place → item_at items earlier ≡ Some other → ¬ (Is other)
none_before Is items first at earlier other low there is = at.first.none_before earlier low (other, there, is)

-- it is the first of all
pub first_here : (Is : Data → Type 0) (d : Data) (ds : Items) → Is d → IsFirstItem Is (item d ds) d
first_here Is d ds is = record {
  place = 0;
  here = refl;
  first = record { applies = (d, refl, is); none_before = λ earlier low so. absurd (omega (arith, low)) };
}

-- at place 0
pub first_here_place : (Is : Data → Type 0) (d : Data) (ds : Items) (is : Is d) → (first_here Is d ds is).place ≡ 0
unfolding first_here
first_here_place Is d ds is = refl

-- none before a place after the first item is so
before : (Is : Data → Type 0) (d : Data) (ds : Items) (first : Data) → ¬ (Is d) → (later : IsFirstItem Is ds first) (earlier : ℕ) → earlier < suc later.place → ¬ (IsSoAt Is (item d ds) earlier)
before Is d ds first not later zero low (other, at, is) = let same : other ≡ d = cc in not (subst Is same is)
before Is d ds first not later (suc earlier) low so = later.first.none_before earlier (omega (arith, low)) so

-- or the first of the others
pub first_later : (Is : Data → Type 0) (d : Data) (ds : Items) (first : Data) → ¬ (Is d) → IsFirstItem Is ds first → IsFirstItem Is (item d ds) first
first_later Is d ds first not later = record {
  place = suc later.place;
  here = later.here;
  first = record { applies = later.first.applies; none_before = before Is d ds first not later };
}

-- one place on
pub first_later_place : (Is : Data → Type 0) (d : Data) (ds : Items) (first : Data) (not : ¬ (Is d)) (later : IsFirstItem Is ds first) → (first_later Is d ds first not later).place ≡ suc later.place
unfolding first_later
first_later_place Is d ds first not later = refl

-- the first stands at one place
pub first_place : (Is : Data → Type 0) (items : Items) (one other : Data) (a : IsFirstItem Is items one) (b : IsFirstItem Is items other) → a.place ≡ b.place
first_place Is items one other a b = least_rank (λ place. place) (IsSoAt Is items) a.place b.place a.first b.first

-- the first that isn't so is one of the items
pub first_among : (Is : Data → Type 0) (items : Items) (first : Data) → IsFirstItem Is items first → IsAmong first items
first_among Is items first at = (at.place, at.here)

-- ---- the first item that doesn't pass a test

-- the first item that isn't so, at the place that the test gives
abbrev pub FirstFailing : (Data → Type 0) → (Data → Bool) → Items → Type 0
FirstFailing Is test ds = (d : Data) × (first : IsFirstItem (λ other. ¬ (Is other)) ds d) × (first.place ≡ failing_place test ds)

-- it is the first of all, or the first of the others
failing_by : (Is : Data → Type 0) (test : Data → Bool) (d : Data) (ds : Items) → Decides (test d) (Is d) → (b : Bool) → test d ≡ b → (b ≡ true → FirstFailing Is test ds) → FirstFailing Is test (item d ds)
failing_by Is test d ds one true passes later =
    let next = later refl in
    let not : ¬ (¬ (Is d)) = λ no_more. no_more (one.0 passes) in (
      next.0,
      first_later (λ other. ¬ (Is other)) d ds next.0 not next.1,
      first_later_place (λ other. ¬ (Is other)) d ds next.0 not next.1 ∙ ap suc next.2 ∙ ap (λ (b : Bool). if b then suc (failing_place test ds) else zero) (sym passes),
    )
failing_by Is test d ds one false fails later =
    let not : ¬ (Is d) = λ is. true≢false (sym (one.1 is) ∙ fails) in (
      d,
      first_here (λ other. ¬ (Is other)) d ds not,
      first_here_place (λ other. ¬ (Is other)) d ds not ∙ ap (λ (b : Bool). if b then suc (failing_place test ds) else zero) (sym fails),
    )

-- where not all pass, there is one
pub first_failing : (Is : Data → Type 0) (test : Data → Bool) (all : Items → Bool) → all no_items ≡ true → ((d : Data) (ds : Items) → all (item d ds) ≡ (test d && all ds))
    → ((d : Data) → Decides (test d) (Is d)) → (ds : Items) → all ds ≡ false → FirstFailing Is test ds
first_failing Is test all none more one no_items fails = absurd (true≢false (sym none ∙ fails))
first_failing Is test all none more one (item d ds) fails =
    failing_by Is test d ds (one d) (test d) refl (λ passes.
    first_failing Is test all none more one ds (ap (λ (b : Bool). b && all ds) (sym passes) ∙ sym (more d ds) ∙ fails))

-- ---- the values of the items

-- where each item has a value that is so, all values are so for which they stand
pub values_all : {V : Type 0} (R : Data → V → Type 0) (P : V → Type 0) → ((d : Data) (v w : V) → R d v → R d w → v ≡ w)
    → (ds : Items) (vs : List V) → EachStands R ds vs → EachItem (HasValue R P) ds → All P vs
values_all R P one no_items [] stand have = All-nil P
values_all R P one no_items (v ∷ vs) stand have = absurd stand
values_all R P one (item d ds) [] stand have = absurd stand
values_all R P one (item d ds) (v ∷ vs) stand have =
    let here = each_head (HasValue R P) d ds have in
    All-cons P v vs (subst P (one d here.0 v here.1 stand.0) here.2) (values_all R P one ds vs stand.1 (each_tail (HasValue R P) d ds have))

-- and where all values are so, each item has one
pub values_each : {V : Type 0} (R : Data → V → Type 0) (P : V → Type 0) (ds : Items) (vs : List V) → EachStands R ds vs → All P vs → EachItem (HasValue R P) ds
values_each R P no_items [] stand all = each_none (HasValue R P)
values_each R P no_items (v ∷ vs) stand all = absurd stand
values_each R P (item d ds) [] stand all = absurd stand
values_each R P (item d ds) (v ∷ vs) stand all =
    each_more (HasValue R P) d ds (v, stand.0, All-head P v vs all) (values_each R P ds vs stand.1 (All-tail P v vs all))

-- each of items that stand for values has one
pub values_had : {V : Type 0} (R : Data → V → Type 0) (ds : Items) (vs : List V) → EachStands R ds vs → EachItem (λ d. (v : V) × R d v) ds
values_had {V} R no_items [] stand = each_none (λ d. (v : V) × R d v)
values_had R no_items (v ∷ vs) stand = absurd stand
values_had R (item d ds) [] stand = absurd stand
values_had {V} R (item d ds) (v ∷ vs) stand = each_more (λ other. (w : V) × R other w) d ds (v, stand.0) (values_had R ds vs stand.1)
