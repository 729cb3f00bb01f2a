-- Forms with some pairs, and with more.
use Rattle.std.proofs.Common.{◌≡◌, ℕ, ◌<◌, ℤ, List, codes, Option, None, Some, option_map, Result, Ok, Err, OnOk, [], ◌∷◌, ◌++◌, length, FitsSigned, w64, to_z, of_z, subst, refl, sym, ap, ◌∙◌, arith}
use Rattle.std.proofs.lemmas.Int.{to_z-of_z}
use Rattle.std.proofs.lemmas.List.{length-append}
use Rattle.std.specs.Fmt.{signed_decimal}
use Rattle.edr_wkt.specs.declared.geometry.Geometry.{Geometry}
use Rattle.edr_wkt.specs.Spelling.{spelled}
use Rattle.edr_query.specs.declared.parameters.Parameter.TheVariants as p
use Rattle.edr_query.specs.declared.shapes.Shape.TheVariants.{Corridor}
use Rattle.std.proofs.lemmas.Grind.{flat_map-append}
use Rattle.form_urlencoded.specs.Form.{append_pair, extend_pairs, separator, byte_serialize}
use Rattle.edr_query.specs.Parameters.{Pair}
use Rattle.edr_query.specs.Spelling.{pairs_of, query_text, metres_unit, pair_with}
use Rattle.edr_query.specs.Values.{QueryValue}
use Rattle.edr_target.specs.Forms.{place_entries, filter_entries, pairs_with, with_pair, with_place, with_filters}

-- pairs behind pairs
pub extend_on : (form : List ℕ) (ps qs : List Pair) → extend_pairs form (ps ++ qs) ≡ extend_pairs (extend_pairs form ps) qs
extend_on form [] qs = refl
extend_on form (pair ∷ ps) qs = extend_on (append_pair form pair.0 pair.1) ps qs

-- where a query selects, and what else it selects by, are its pairs
pub query_pairs : (query : QueryValue) → with_filters (with_place [] query.shape) query ≡ extend_pairs [] (pairs_of query)
query_pairs query =
    sym (extend_on [] (pairs_with (place_entries query.shape)) (pairs_with (filter_entries query)))
    ∙ ap (extend_pairs []) (sym (flat_map-append (λ entry. pair_with entry.0 entry.1) (place_entries query.shape) (filter_entries query)))

some_behind : (front back : List ℕ) → 0 < length back → 0 < length (front ++ back)
some_behind front back some = omega (arith, length-append front back)

some_before : (front back : List ℕ) → 0 < length front → 0 < length (front ++ back)
some_before front back some = omega (arith, length-append front back)

-- a form with a pair isn't empty
pub pair_some : (form name value : List ℕ) → 0 < length (append_pair form name value)
pair_some form name value =
    let mark : List ℕ = 61 ∷ [] in
    some_behind (form ++ separator form) ((byte_serialize name ++ mark) ++ byte_serialize value)
    (some_before (byte_serialize name ++ mark) (byte_serialize value) (some_behind (byte_serialize name) mark (omega arith)))

pairs_some : (form : List ℕ) (ps : List Pair) → 0 < length form → 0 < length (extend_pairs form ps)
pairs_some form [] some = some
pairs_some form (pair ∷ ps) some = pairs_some (append_pair form pair.0 pair.1) ps (pair_some form pair.0 pair.1)

-- a form that is empty has no pairs
pub form_none : (ps : List Pair) (form : List ℕ) → form ≡ extend_pairs [] ps → length form ≡ 0 → query_text ps ≡ []
form_none [] form e none = refl
form_none (pair ∷ ps) form e none = absurd (omega (arith, ap length e, pairs_some (append_pair [] pair.0 pair.1) ps (pair_some [] pair.0 pair.1)))

-- what follows of an answer that is Ok
pub on_ok : {T E : Type 0} (r : Result T E) (A B : Type 0) → (A → B) → OnOk r A → OnOk r B
on_ok (Ok x) A B f h = f h
on_ok (Err e) A B f h = tt

-- the height of a corridor, if it has one
pub height_put : (form now : List ℕ) (height : Option ℤ) (metres : ℤ) → height ≡ Some metres
    → now ≡ append_pair (append_pair form (codes "corridor-height") (signed_decimal metres)) (codes "height-units") (codes "m")
    → now ≡ with_pair (with_pair form p.CorridorHeight (option_map signed_decimal height)) p.HeightUnits (metres_unit height)
height_put form now height metres is h = rw is h

-- a corridor: a line, a width, and perhaps a height
pub corridor_put : (form one two now : List ℕ) (geometry : Geometry) (width : ℤ) (height : Option ℤ) → one ≡ append_pair form (codes "coords") (spelled geometry)
    → two ≡ append_pair (append_pair one (codes "corridor-width") (signed_decimal width)) (codes "width-units") (codes "m")
    → now ≡ with_pair (with_pair two p.CorridorHeight (option_map signed_decimal height)) p.HeightUnits (metres_unit height)
    → now ≡ with_place form (Corridor geometry width height)
corridor_put form one two now geometry width None e f h = rw (f, e) at h
corridor_put form one two now geometry width (Some height) e f h = rw (f, e) at h

-- a number that is passed is itself
pub passed : (P : ℤ → Type 0) (z : ℤ) → FitsSigned w64 z → P (to_z w64 (of_z w64 z)) → P z
passed P z fits h = subst P (to_z-of_z w64 z fits) h
