-- The value of each name among those of some tuples stands at its place.
use Rattle.std.proofs.Common.{◌≡◌, List, [], ◌∷◌, Bool, true, false, true≢false, refl, sym, subst}
use Rattle.std.proofs.lemmas.Bool.{and_parts}
use Rattle.serde_json.specs.Data.{Data, Items, no_items, item}
use Rattle.covjson_value.specs.declared.domains.CoordinateName.{CoordinateName}
use Rattle.covjson_value.specs.declared.domains.CoordinateName.TheVariants.{T, Z, Y, X}
use Rattle.covjson_domains.specs.declared.tuples.Test.TheVariants.{Within}
use Rattle.covjson_domains.specs.declared.tuples.TupleKind.{TupleKind}
use Rattle.covjson_domains.specs.declared.tuples.TupleKind.TheVariants.{Places, Steps, LevelSteps}
use Rattle.covjson_domains.specs.TupleAnswers.{names_of, passes, all_pass, value_of}
use Rattle.covjson_domains.proofs.TupleValues.{HasEach}

-- a datum of the first name, and those of the others
record Begins (names : List CoordinateName) (ds : Items) : Type 0 where
  first : Data
  rest : Items
  is : ds ≡ item first rest
  pass : all_pass Within names rest ≡ true

-- data within the limits begin with one of the first name
begins : (name : CoordinateName) (names : List CoordinateName) (ds : Items) → all_pass Within (name ∷ names) ds ≡ true → Begins names ds
begins name names no_items h = absurd (true≢false (sym h))
begins name names (item d ds) h = record { first = d; rest = ds; is = refl; pass = (and_parts (passes Within name d) (all_pass Within names ds) h).1 }

-- and end with the names
no_more : (ds : Items) → all_pass Within [] ds ≡ true → ds ≡ no_items
no_more no_items h = refl
no_more (item d ds) h = absurd (true≢false (sym h))

-- the value of each name is the datum at its place
abbrev pub Finds : List CoordinateName → Type 0
Finds names = (ds : Items) → all_pass Within names ds ≡ true → HasEach (λ name. value_of name names ds) names ds

-- in tuples of x and y
finds_plane : Finds (X ∷ Y ∷ [])
finds_plane ds h =
    let x = begins X (Y ∷ []) ds h in
    let y = begins Y [] x.rest x.pass in
    let end = no_more y.rest y.pass in
    let is : ds ≡ item x.first (item y.first no_items) = cc in
    subst (λ (es : Items). HasEach (λ name. value_of name (X ∷ Y ∷ []) es) (X ∷ Y ∷ []) es) (sym is) (refl, (refl, tt))

-- in tuples of x, y and z
finds_levels : Finds (X ∷ Y ∷ Z ∷ [])
finds_levels ds h =
    let x = begins X (Y ∷ Z ∷ []) ds h in
    let y = begins Y (Z ∷ []) x.rest x.pass in
    let z = begins Z [] y.rest y.pass in
    let end = no_more z.rest z.pass in
    let is : ds ≡ item x.first (item y.first (item z.first no_items)) = cc in
    subst (λ (es : Items). HasEach (λ name. value_of name (X ∷ Y ∷ Z ∷ []) es) (X ∷ Y ∷ Z ∷ []) es) (sym is) (refl, (refl, (refl, tt)))

-- in tuples of t, x and y
finds_times : Finds (T ∷ X ∷ Y ∷ [])
finds_times ds h =
    let t = begins T (X ∷ Y ∷ []) ds h in
    let x = begins X (Y ∷ []) t.rest t.pass in
    let y = begins Y [] x.rest x.pass in
    let end = no_more y.rest y.pass in
    let is : ds ≡ item t.first (item x.first (item y.first no_items)) = cc in
    subst (λ (es : Items). HasEach (λ name. value_of name (T ∷ X ∷ Y ∷ []) es) (T ∷ X ∷ Y ∷ []) es) (sym is) (refl, (refl, (refl, tt)))

-- in tuples of t, x, y and z
finds_all : Finds (T ∷ X ∷ Y ∷ Z ∷ [])
finds_all ds h =
    let t = begins T (X ∷ Y ∷ Z ∷ []) ds h in
    let x = begins X (Y ∷ Z ∷ []) t.rest t.pass in
    let y = begins Y (Z ∷ []) x.rest x.pass in
    let z = begins Z [] y.rest y.pass in
    let end = no_more z.rest z.pass in
    let is : ds ≡ item t.first (item x.first (item y.first (item z.first no_items))) = cc in
    subst (λ (es : Items). HasEach (λ name. value_of name (T ∷ X ∷ Y ∷ Z ∷ []) es) (T ∷ X ∷ Y ∷ Z ∷ []) es) (sym is) (refl, (refl, (refl, (refl, tt))))

-- the tuples of each kind have each name once
pub finds_each : (kind : TupleKind) (has_z : Bool) → Finds (names_of kind has_z)
finds_each Places false = finds_plane
finds_each Places true = finds_levels
finds_each Steps false = finds_times
finds_each Steps true = finds_all
finds_each LevelSteps false = finds_times
finds_each LevelSteps true = finds_all
