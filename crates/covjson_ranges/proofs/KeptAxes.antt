-- The names of axes of which some are kept, in the order t, z, y, x, composite, and the numbers of places by them.
use Rattle.std.proofs.Common.{◌≡◌, ℕ, ◌+◌, ◌-◌, ◌*◌, if◌then◌else◌, Bool, true, false, true≢false, bytes_eq, List, [], ◌∷◌, All, refl, sym, ap, ◌∙◌, arith}
use Rattle.std.proofs.lemmas.Bool.{or_right}
use Rattle.std.proofs.lemmas.List.Elements.{All-nil, All-cons}
use Rattle.covjson_value.specs.declared.domains.Domain.{Domain}
use Rattle.edr_chunk.specs.RowMajor.{row_major}
use Rattle.covjson_checks.specs.declared.turned.Turned.{Turned}
use Rattle.covjson_ranges.specs.declared.places.Places.{Places}
use Rattle.covjson_value.specs.declared.axis_names.AxisName.{AxisName}
use Rattle.covjson_value.specs.declared.axis_names.AxisName.TheVariants.{T, Z, Y, X, Composite}
use Rattle.covjson_value.specs.AxisNames.{axis_key}
use Rattle.covjson_ranges.specs.Ranges.{length_of, place_on, is_range_turned, is_named, AreDistinct, AreInside, number_of, tree_place, tree_number}
use Rattle.covjson_ranges.specs.Orders.{IsUnturned}
use Rattle.covjson_ranges.proofs.PlaceNumbers.{row_major_same, usual, passed_over}

-- ---- the names

-- a name before others, where it is kept
abbrev pub keep : Bool → AxisName → List AxisName → List AxisName
keep true name names = name ∷ names
keep false name names = names

-- the names that are kept, in the order t, z, y, x, composite
abbrev pub kept : (AxisName → Bool) → List AxisName
kept test = keep (test T) T (keep (test Z) Z (keep (test Y) Y (keep (test X) X (keep (test Composite) Composite []))))

-- a name that is apart from the kept one isn't among them
keep_apart : (name other : AxisName) (b : Bool) (names : List AxisName) → bytes_eq (axis_key name) (axis_key other) ≡ false → is_named name names ≡ false → is_named name (keep b other names) ≡ false
keep_apart name other true names apart h = rw apart h
keep_apart name other false names apart h = h

-- a name that isn't among others is kept before them once
keep_distinct : (name : AxisName) (b : Bool) (names : List AxisName) → is_named name names ≡ false → AreDistinct names → AreDistinct (keep b name names)
keep_distinct name true names apart h = (apart, h)
keep_distinct name false names apart h = h

-- no name is kept twice
pub kept_distinct : (test : AxisName → Bool) → AreDistinct (kept test)
kept_distinct test =
    let x = keep (test X) X (keep (test Composite) Composite []) in
    let y = keep (test Y) Y x in
    let z = keep (test Z) Z y in
    keep_distinct T (test T) z
    (keep_apart T Z (test Z) y refl (keep_apart T Y (test Y) x refl (keep_apart T X (test X) _ refl (keep_apart T Composite (test Composite) [] refl refl))))
    (keep_distinct Z (test Z) y
    (keep_apart Z Y (test Y) x refl (keep_apart Z X (test X) _ refl (keep_apart Z Composite (test Composite) [] refl refl)))
    (keep_distinct Y (test Y) x
    (keep_apart Y X (test X) _ refl (keep_apart Y Composite (test Composite) [] refl refl))
    (keep_distinct X (test X) _
    (keep_apart X Composite (test Composite) [] refl refl)
    (keep_distinct Composite (test Composite) [] refl tt))))

-- what holds of a name where it is kept, and of the others, holds of all
keep_all : (P : AxisName → Type 0) (name : AxisName) (b : Bool) (names : List AxisName) → (b ≡ true → P name) → All P names → All P (keep b name names)
keep_all P name true names here h = All-cons P name names (here refl) h
keep_all P name false names here h = h

-- what holds of each name that passes the test holds of all that are kept
pub kept_all : (P : AxisName → Type 0) (test : AxisName → Bool) → ((name : AxisName) → test name ≡ true → P name) → All P (kept test)
kept_all P test each =
    keep_all P T (test T) _ (each T) (keep_all P Z (test Z) _ (each Z) (keep_all P Y (test Y) _ (each Y)
    (keep_all P X (test X) _ (each X) (keep_all P Composite (test Composite) [] (each Composite) (All-nil P)))))

-- the first name is among the names
named_first : (name : AxisName) (names : List AxisName) → is_named name (name ∷ names) ≡ true
named_first T names = refl
named_first Z names = refl
named_first Y names = refl
named_first X names = refl
named_first Composite names = refl

-- a name that is kept is among the names
keep_here : (name : AxisName) (b : Bool) (names : List AxisName) → b ≡ true → is_named name (keep b name names) ≡ true
keep_here name true names h = named_first name names
keep_here name false names h = absurd (true≢false (sym h))

-- and so is each one behind it
keep_later : (name other : AxisName) (b : Bool) (names : List AxisName) → is_named name names ≡ true → is_named name (keep b other names) ≡ true
keep_later name other true names h = or_right (bytes_eq (axis_key name) (axis_key other)) (is_named name names) h
keep_later name other false names h = h

-- a name that passes the test is kept
pub kept_named : (test : AxisName → Bool) (name : AxisName) → test name ≡ true → is_named name (kept test) ≡ true
kept_named test T h = keep_here T (test T) _ h
kept_named test Z h = keep_later Z T (test T) _ (keep_here Z (test Z) _ h)
kept_named test Y h = keep_later Y T (test T) _ (keep_later Y Z (test Z) _ (keep_here Y (test Y) _ h))
kept_named test X h = keep_later X T (test T) _ (keep_later X Z (test Z) _ (keep_later X Y (test Y) _ (keep_here X (test X) _ h)))
kept_named test Composite h =
    keep_later Composite T (test T) _ (keep_later Composite Z (test Z) _ (keep_later Composite Y (test Y) _ (keep_later Composite X (test X) _ (keep_here Composite (test Composite) [] h))))

-- ---- numbers of places

-- an axis that is left out may as well be there
kept_number : (lengths places : AxisName → ℕ) (b : Bool) (name : AxisName) (names : List AxisName) (number : ℕ)
    → (b ≡ false → (lengths name ≡ 1) × (places name ≡ 0))
    → row_major lengths places (keep b name names) number ≡ row_major lengths places names (number * lengths name + places name)
kept_number lengths places true name names number out = refl
kept_number lengths places false name names number out =
    ap (row_major lengths places names) (sym (passed_over number (lengths name) (places name) (out refl).0 (out refl).1))

-- so the number by the kept names is that by all
all_kept : (lengths places : AxisName → ℕ) (among : AxisName → Bool) → ((name : AxisName) → among name ≡ false → (lengths name ≡ 1) × (places name ≡ 0))
    → row_major lengths places (kept among) 0 ≡ usual lengths places
all_kept lengths places among out =
    kept_number lengths places (among T) T _ _ (out T)
    ∙ kept_number lengths places (among Z) Z _ _ (out Z)
    ∙ kept_number lengths places (among Y) Y _ _ (out Y)
    ∙ kept_number lengths places (among X) X _ _ (out X)
    ∙ kept_number lengths places (among Composite) Composite [] _ (out Composite)

-- the place on an axis that isn't turned round is that in the tree
straight : (domain : Domain) (turned : Turned) (places : Places) (name : AxisName) → is_range_turned turned name ≡ false → tree_place domain turned places name ≡ place_on places name
straight domain turned places name h = ap (λ b. if b then length_of domain name - 1 - place_on places name else place_on places name) h

-- the number of some places in a tree that leaves out axes of one value alone is that in the domain
pub kept_number_of : (domain : Domain) (turned : Turned) (among : AxisName → Bool) (places : Places) → IsUnturned turned
    → ((name : AxisName) → among name ≡ false → length_of domain name ≡ 1) → AreInside domain places → tree_number domain turned (kept among) places ≡ number_of domain places
kept_number_of domain turned among places unturned one inside =
    let lengths = length_of domain in
    let on = place_on places in
    row_major_same lengths (tree_place domain turned places) on (λ name. straight domain turned places name (unturned name)) (kept among) 0
    ∙ all_kept lengths on among (λ name out. (one name out, omega (arith, inside name, one name out)))
