-- A target has one answer, and the least refusal of parameters is that of their target.
use Rattle.std.proofs.Common.{◌≡◌, ◌⊎◌, inl, inr, ℕ, ◌<◌, List, refl, ap, sym, ◌∙◌, subst, arith, Some, None, Ok, Err}
use Rattle.std.specs.Prelude.{Result}
use Rattle.std.specs.declared.option.Option.{Option}
use Rattle.edr_base.specs.FirstThatApplies.{IsLeast, NoneApplies}
use Rattle.edr_base.specs.declared.refusals.Refusal.{Refusal}
use Rattle.edr_base.specs.declared.refusals.Refusal.TheVariants.{NoSuchPage, UnknownParameter, RepeatedParameter, BadFormat, MissingParameter, BadCoords, WrongGeometry, BadBbox, BadDatetime, BadLevel, BadDistance, Conflict}
use Rattle.edr_axes.specs.declared.times.Times.{Times}
use Rattle.edr_axes.specs.declared.levels.Levels.{Levels}
use Rattle.edr_axes.specs.Times.{TimesAreUnique}
use Rattle.edr_axes.specs.Levels.{LevelsAreUnique}
use Rattle.edr_axes.specs.Distances.{DistancesAreUnique}
use Rattle.edr_query.specs.declared.addresses.Address.{Address}
use Rattle.edr_query.specs.declared.addresses.Address.TheVariants as to
use Rattle.edr_query.specs.declared.pages.Page.{Page}
use Rattle.edr_query.specs.declared.pages.Page.TheVariants.{Landing, Conformance, Collections, Collection, Instances, Instance, Locations, Ask}
use Rattle.edr_query.specs.declared.shapes.Shape.{Shape}
use Rattle.edr_query.specs.declared.said.Said.{Said}
use Rattle.edr_query.specs.Paths.{parts_of, page_kind, IsPath, path_in, query_in}
use Rattle.edr_query.specs.PathReads.{HasNoAddress, address_in}
use Rattle.edr_query.specs.Parameters.{Pair, pairs_in}
use Rattle.edr_query.specs.Values.{QueryValue}
use Rattle.edr_query.specs.Queries.{IsPlaced, Says}
use Rattle.edr_base.specs.RefusalTable.{rank}
use Rattle.edr_query.specs.Targets.{Names, Refuses, Applies, IsPage, MatchTarget, TargetIsOne}
use Rattle.edr_query.specs.declared.reading.TargetFault.{TargetFault}
use Rattle.edr_query.specs.declared.reading.TargetFault.TheVariants.{Refused, OutOfMemory}
use Rattle.edr_query.specs.Reads.{Steps, IsGoodPage}
use Rattle.edr_query.proofs.ListLemmas.{some_same, none_some}
use Rattle.edr_query.proofs.AddressLemmas.{address_back}
use Rattle.edr_query.proofs.PathLemmas.{parts_same}
use Rattle.edr_query.proofs.CoordsLemmas.{WktIsOne}
use Rattle.edr_query.proofs.SaidLemmas.{said_same}
use Rattle.edr_base.specs.RefusalLaws.{least_once}

-- a path names one address
pub path_is_one : (path : List ℕ) (a b : Address) → IsPath path a → IsPath path b → a ≡ b
path_is_one path a b x y = some_same a b (sym (address_back a) ∙ ap address_in (parts_same path (parts_of a) (parts_of b) x y) ∙ address_back b)

-- ---- refusals of parameters and of targets

abbrev pub pairs_at : List ℕ → List Pair
pairs_at target = pairs_in (query_in target)

up : (target : List ℕ) (a : Address) → Names target a → (r : Refusal) → Applies (page_kind a) (pairs_at target) r → Refuses target r
up target a n NoSuchPage h = absurd h
up target a n _ h = (a, n, h)

down_at : (target : List ℕ) (a b : Address) (r : Refusal) → Names target a → Names target b → Applies (page_kind b) (pairs_at target) r → Applies (page_kind a) (pairs_at target) r
down_at target a b r n m h = let P : Address → Type 0 = λ c. Applies (page_kind c) (pairs_at target) r in subst P (path_is_one (path_in target) b a m n) h

down : (target : List ℕ) (a : Address) → Names target a → (r : Refusal) → Refuses target r → Applies (page_kind a) (pairs_at target) r
down target a n NoSuchPage h = absurd (h a n)
down target a n UnknownParameter h = down_at target a h.0 UnknownParameter n h.1 h.2
down target a n RepeatedParameter h = down_at target a h.0 RepeatedParameter n h.1 h.2
down target a n BadFormat h = down_at target a h.0 BadFormat n h.1 h.2
down target a n MissingParameter h = down_at target a h.0 MissingParameter n h.1 h.2
down target a n BadCoords h = down_at target a h.0 BadCoords n h.1 h.2
down target a n WrongGeometry h = down_at target a h.0 WrongGeometry n h.1 h.2
down target a n BadBbox h = down_at target a h.0 BadBbox n h.1 h.2
down target a n BadDatetime h = down_at target a h.0 BadDatetime n h.1 h.2
down target a n BadLevel h = down_at target a h.0 BadLevel n h.1 h.2
down target a n BadDistance h = down_at target a h.0 BadDistance n h.1 h.2
down target a n Conflict h = down_at target a h.0 Conflict n h.1 h.2
down target a n _ h = h.2

pub least_up : (target : List ℕ) (a : Address) (r : Refusal) → Names target a → IsLeast rank (Applies (page_kind a) (pairs_at target)) r → IsLeast rank (Refuses target) r
least_up target a r n is = record { applies = up target a n r is.applies; none_before = λ other l h. is.none_before other l (down target a n other h) }

pub none_up : (target : List ℕ) (a : Address) → Names target a → NoneApplies (Applies (page_kind a) (pairs_at target)) → NoneApplies (Refuses target)
none_up target a n none r h = none r (down target a n r h)

early : (target : List ℕ) (r : Refusal) → rank r < 6 → ¬ (Refuses target r)
early target NoSuchPage l = absurd (omega (arith, l))
early target UnknownParameter l = absurd (omega (arith, l))
early target RepeatedParameter l = absurd (omega (arith, l))
early target BadFormat l = absurd (omega (arith, l))
early target MissingParameter l = absurd (omega (arith, l))
early target BadCoords l = absurd (omega (arith, l))
early target WrongGeometry l = absurd (omega (arith, l))
early target BadBbox l = absurd (omega (arith, l))
early target BadDatetime l = absurd (omega (arith, l))
early target BadLevel l = absurd (omega (arith, l))
early target BadDistance l = absurd (omega (arith, l))
early target Conflict l = absurd (omega (arith, l))
early target _ l = λ h. h.2

pub no_page : (target : List ℕ) → HasNoAddress (path_in target) → IsLeast rank (Refuses target) NoSuchPage
no_page target none = record { applies = none; none_before = early target }

-- ---- one page

abbrev description : Address → Option Page
description to.Landing = Some Landing
description to.Conformance = Some Conformance
description to.Collections = Some Collections
description (to.Collection c) = Some (Collection c)
description (to.Instances c) = Some (Instances c)
description (to.Instance c i) = Some (Instance c i)
description (to.Locations c) = Some (Locations c)
description (to.Location c s) = None
description (to.Query kind c i) = None

not_described : (address : Address) (said : Said) (q : QueryValue) → IsPlaced address said q → description address ≡ None
not_described (to.Query kind c i) said q h = refl
not_described (to.Location c s) said q h = refl
not_described _ said q h = absurd h

abbrev Asks : Address → List Pair → Page → Type 0
Asks address pairs page = (q : QueryValue) × (page ≡ Ask q) × Says address pairs q

page_cases : (address : Address) (pairs : List Pair) (page : Page) → IsPage address pairs page → (description address ≡ Some page) ⊎ Asks address pairs page
page_cases address pairs Landing h = inl (ap description h)
page_cases address pairs Conformance h = inl (ap description h)
page_cases address pairs Collections h = inl (ap description h)
page_cases address pairs (Collection c) h = inl (ap description h)
page_cases address pairs (Instances c) h = inl (ap description h)
page_cases address pairs (Instance c i) h = inl (ap description h)
page_cases address pairs (Locations c) h = inl (ap description h)
page_cases address pairs (Ask q) h = inr (q, refl, h)

abbrev made : List ℕ → Option (List ℕ) → Shape → Option Times → Option Levels → Option (List (List ℕ)) → Option (List ℕ) → QueryValue
made a b c d e f g = record { collection = a; instance = b; shape = c; times = d; levels = e; parameters = f; crs = g }

query_same : (a b : QueryValue) → a.collection ≡ b.collection → a.instance ≡ b.instance → a.shape ≡ b.shape → a.times ≡ b.times → a.levels ≡ b.levels → a.parameters ≡ b.parameters → a.crs ≡ b.crs → a ≡ b
query_same a b e0 e1 e2 e3 e4 e5 e6 =
    ap (λ v. made v a.instance a.shape a.times a.levels a.parameters a.crs) e0
    ∙ ap (λ v. made b.collection v a.shape a.times a.levels a.parameters a.crs) e1
    ∙ ap (λ v. made b.collection b.instance v a.times a.levels a.parameters a.crs) e2
    ∙ ap (λ v. made b.collection b.instance b.shape v a.levels a.parameters a.crs) e3
    ∙ ap (λ v. made b.collection b.instance b.shape b.times v a.parameters a.crs) e4
    ∙ ap (λ v. made b.collection b.instance b.shape b.times b.levels v a.crs) e5
    ∙ ap (λ v. made b.collection b.instance b.shape b.times b.levels b.parameters v) e6

placed_same : (address : Address) (said : Said) (a b : QueryValue) → IsPlaced address said a → IsPlaced address said b → (a.collection ≡ b.collection) × (a.instance ≡ b.instance) × (a.shape ≡ b.shape)
placed_same (to.Query kind c i) said a b x y = (x.0 ∙ sym y.0, x.1 ∙ sym y.1, some_same a.shape b.shape (sym x.2 ∙ y.2))
placed_same (to.Location c s) said a b x y = (x.0 ∙ sym y.0, x.1 ∙ sym y.1, x.2 ∙ sym y.2)
placed_same _ said a b x y = absurd x

says_same : WktIsOne → TimesAreUnique → LevelsAreUnique → DistancesAreUnique → (address : Address) (pairs : List Pair) (a b : QueryValue) → Says address pairs a → Says address pairs b → a ≡ b
says_same wkt times levels distances address pairs a b x y =
    let s = said_same wkt times levels distances pairs x.said y.said x.is_said y.is_said in
    let P : Said → Type 0 = λ said. IsPlaced address said a in
    let h = placed_same address y.said a b (subst P s x.placed) y.placed in
    query_same a b h.0 h.1 h.2 (x.times ∙ ap (λ (v : Said). v.times) s ∙ sym y.times) (x.levels ∙ ap (λ (v : Said). v.levels) s ∙ sym y.levels) (x.parameters ∙ sym y.parameters) (x.crs ∙ sym y.crs)

pages_at : WktIsOne → TimesAreUnique → LevelsAreUnique → DistancesAreUnique → (address : Address) (pairs : List Pair) (a b : Page) → (description address ≡ Some a) ⊎ Asks address pairs a → (description address ≡ Some b) ⊎ Asks address pairs b → a ≡ b
pages_at wkt times levels distances address pairs a b (inl e) (inl f) = some_same a b (sym e ∙ f)
pages_at wkt times levels distances address pairs a b (inl e) (inr h) = absurd (none_some a (sym (not_described address h.2.said h.0 h.2.placed) ∙ e))
pages_at wkt times levels distances address pairs a b (inr h) (inl f) = absurd (none_some b (sym (not_described address h.2.said h.0 h.2.placed) ∙ f))
pages_at wkt times levels distances address pairs a b (inr h) (inr k) = h.1 ∙ ap Ask (says_same wkt times levels distances address pairs h.0 k.0 h.2 k.2) ∙ sym k.1

pages_same : WktIsOne → TimesAreUnique → LevelsAreUnique → DistancesAreUnique → (address : Address) (pairs : List Pair) (a b : Page) → IsPage address pairs a → IsPage address pairs b → a ≡ b
pages_same wkt times levels distances address pairs a b x y = pages_at wkt times levels distances address pairs a b (page_cases address pairs a x) (page_cases address pairs b y)

-- a target has one answer
pub target_one : WktIsOne → TimesAreUnique → LevelsAreUnique → DistancesAreUnique → TargetIsOne
target_one wkt times levels distances target (Ok a) (Ok b) x y =
    let P : Address → Type 0 = λ c. IsPage c (pairs_at target) b in
    ap Ok (pages_same wkt times levels distances x.address (pairs_at target) a b x.page_is (subst P (path_is_one (path_in target) y.address x.address y.path x.path) y.page_is))
target_one wkt times levels distances target (Ok a) (Err r) x y = absurd (x.none r y.applies)
target_one wkt times levels distances target (Err r) (Ok b) x y = absurd (y.none r x.applies)
target_one wkt times levels distances target (Err r) (Err s) x y = ap Err (least_once (Refuses target) r s x y)

-- ---- what reading answers

pub target_fault : {T : Type 0} (Reads : T → Type 0) (target : List ℕ) (a : Address) (fault : TargetFault) → Names target a → Steps {T = T} (Err fault) Reads (page_kind a) (pairs_at target) → MatchTarget (Err fault) target
target_fault Reads target a (Refused r) n h = least_up target a r n h
target_fault Reads target a OutOfMemory n h = tt

pub target_page : (target : List ℕ) (a : Address) (page : Page) → Names target a → NoneApplies (Applies (page_kind a) (pairs_at target)) → IsPage a (pairs_at target) page → MatchTarget (Ok page) target
target_page target a page n none is = record { address = a; path = n; page_is = is; none = none_up target a n none }

-- the same, of the pieces that were read
pub at_page : (target path text : List ℕ) (a : Address) (result : Result Page TargetFault) → path ≡ path_in target → text ≡ query_in target → IsPath path a
    → Steps result (λ page. IsGoodPage a (pairs_in text) page) (page_kind a) (pairs_in text) → MatchTarget result target
at_page target path text a (Ok page) e f n good =
    let N : List ℕ → Type 0 = λ t. IsPath t a in
    let G : List ℕ → Type 0 = λ t. IsGoodPage a (pairs_in t) page in
    let at = subst G f good in
    target_page target a page (subst N e n) at.none at.is_page
at_page target path text a (Err fault) e f n steps =
    let N : List ℕ → Type 0 = λ t. IsPath t a in
    let S : List ℕ → Type 0 = λ t. Steps {T = Page} (Err fault) (λ page. IsGoodPage a (pairs_in t) page) (page_kind a) (pairs_in t) in
    target_fault (λ page. IsGoodPage a (pairs_at target) page) target a fault (subst N e n) (subst S f steps)
