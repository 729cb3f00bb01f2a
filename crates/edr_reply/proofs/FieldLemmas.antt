-- The values of the fields of a name, and the numbers that digits write.
use Rattle.std.proofs.Common.{◌≡◌, ℕ, ◌+◌, ◌-◌, ◌<◌, ◌≤◌, List, [], ◌∷◌, ◌++◌, length, map, take, get_or, Bool, true, false, refl, sym, ap, ◌∙◌, arith, subst}
use Rattle.std.specs.Prelude.{if◌then◌else◌}
use Rattle.std.proofs.lemmas.List.{map-append, length-append, map_more}
use Rattle.std.proofs.lemmas.List.Elements.{filter-append}
use Rattle.std.specs.Char.{is_ascii_digit}
use Rattle.std.specs.List.{AllPass, filter}
use Rattle.std.specs.Str.Parse.{digits_value}
use Rattle.httparse.specs.Spans.{header_bytes}
use Rattle.httparse.specs.declared.spans.HeaderSpan.{HeaderSpan}
use Rattle.edr_http.specs.Checks.{Field, is_named}
use Rattle.edr_reply.specs.declared.numbers.Number.{Number}
use Rattle.edr_reply.specs.declared.numbers.Number.TheVariants as number
use Rattle.edr_reply.specs.Messages.{values_of, HasNumber}
use Rattle.edr_reply.specs.Finding.{TellsNumber, TellsField}
use Rattle.edr_reply.proofs.MessageLaws.{number_one}

-- ---- the values of the fields so far: how many there are, and which is the last
pub record Found (values : List (List ℕ)) (count : ℕ) (value : List ℕ) : Type 0 where
  pub count_is : length values ≡ count
  pub value_is : count ≡ 1 → values ≡ value ∷ []

abbrev pub so_far : List ℕ → List ℕ → List HeaderSpan → ℕ → List (List ℕ)
so_far name bytes spans i = values_of name (map (header_bytes bytes) (take i spans))

no_values : (values : List (List ℕ)) → length values ≡ 0 → values ≡ []
no_values [] e = refl
no_values (v ∷ vs) e = absurd (omega (arith, e))

pub found_one : (old new : List (List ℕ)) (count : ℕ) (value next : List ℕ) → Found old count value → new ≡ old ++ next ∷ [] → Found new (count + 1) next
found_one old new count value next f e = record {
  count_is = omega (arith, ap length e, length-append old (next ∷ []), f.count_is);
  value_is = λ one. let none : length old ≡ 0 = omega (arith, f.count_is, one) in e ∙ ap (λ w. w ++ next ∷ []) (no_values old none);
}

pub found_same : (old new : List (List ℕ)) (count : ℕ) (value : List ℕ) → Found old count value → new ≡ old → Found new count value
found_same old new count value f e = subst (λ (w : List (List ℕ)). Found w count value) (sym e) f

one_more : (name : List ℕ) (fields : List Field) (field : Field) (b : Bool) → is_named name field ≡ b → values_of name (fields ++ field ∷ []) ≡ values_of name fields ++ (if b then field.1 ∷ [] else [])
one_more name fields field b e =
    ap (map (λ (f : Field). f.1)) (filter-append (is_named name) fields (field ∷ []))
    ∙ (map-append (λ (f : Field). f.1) (filter (is_named name) fields) (filter (is_named name) (field ∷ []))
    ∙ ap (λ w. values_of name fields ++ w) (last b e))
  where
    last : (b : Bool) → is_named name field ≡ b → values_of name (field ∷ []) ≡ (if b then field.1 ∷ [] else [])
    last true e = ap (λ t. map (λ (f : Field). f.1) (if t then field ∷ [] else [])) e
    last false e = ap (λ t. map (λ (f : Field). f.1) (if t then field ∷ [] else [])) e

pub values_more : (name bytes : List ℕ) (spans : List HeaderSpan) (i : ℕ) (h : HeaderSpan) (b : Bool) → i < length spans → h ≡ get_or spans i h → is_named name (header_bytes bytes h) ≡ b
    → so_far name bytes spans (i + 1) ≡ so_far name bytes spans i ++ (if b then (header_bytes bytes h).1 ∷ [] else [])
values_more name bytes spans i h b l is e =
    ap (values_of name) (map_more (header_bytes bytes) spans i h l ∙ ap (λ w. map (header_bytes bytes) (take i spans) ++ header_bytes bytes w ∷ []) (sym is))
    ∙ one_more name (map (header_bytes bytes) (take i spans)) (header_bytes bytes h) b e

-- ---- the number that the one value of a name is
pub field_tells : (name : List ℕ) (fields : List Field) (value : List ℕ) (n : Number) → values_of name fields ≡ value ∷ [] → TellsNumber value n → TellsField name fields n
field_tells name fields value (number.Value n) one t = (record { value = value; one = one; some = t.0.0; digits = t.0.1; number_is = t.1 }, t.2)
field_tells name fields value number.TooLarge one t = (digits_value 10 value, record { value = value; one = one; some = t.0.0; digits = t.0.1; number_is = refl }, t.1)
field_tells name fields value number.NoNumber one t =
    λ n h.
    let same : h.value ∷ [] ≡ value ∷ [] = sym h.one ∙ one in
    let is : h.value ≡ value = cc in
    t (subst (λ (w : List ℕ). 0 < length w) is h.some, subst (λ (w : List ℕ). AllPass is_ascii_digit w) is h.digits)

-- what is too large for 64 bits isn't the number of an edition
pub too_large : (name : List ℕ) (fields : List Field) (n m : ℕ) → HasNumber name fields n → 18446744073709551616 ≤ n → m < 18446744073709551616 → HasNumber name fields m → ⊥
too_large name fields n m h large small k = omega (arith, large, small, number_one name fields n m h k)
