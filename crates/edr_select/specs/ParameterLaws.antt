-- The parameters that are asked, by their places.
use Rattle.std.proofs.Common.{◌≡◌, ℕ, zero, suc, ◌+◌, ◌<◌, List, [], ◌∷◌, length, refl, ap, ap₂, sym, ◌∙◌, arith}
use Rattle.std.specs.declared.option.Option.{Option}
use Rattle.std.specs.Prelude.{map}
use Rattle.std.specs.List.{filter, range_with_len, slice_index_or}
use Rattle.std.proofs.lemmas.List.Elements.{filter_agree}
use Rattle.covjson_value.specs.declared.coverages.Parameter.{Parameter}
use Rattle.edr_edition.specs.Values.{InstanceValue}
use Rattle.edr_edition.specs.Stores.{Held, of_grid, Subject}
use Rattle.edr_query.specs.Values.{QueryValue}
use Rattle.edr_select.specs.Samples.{id_at, parameters_in}
use Rattle.edr_select.specs.Selections.{is_asked}
use Rattle.edr_select.specs.Documents.{parameters_asked}
use Rattle.edr_select.specs.Choices.{parameter_places}
use Rattle.edr_select.specs.Planned.{no_parameter}
use Rattle.edr_select.specs.ListLaws.{filter-map}

abbrev pub parameter_at : List Parameter → ℕ → Parameter
parameter_at parameters place = slice_index_or parameters place no_parameter

read_from : (ps : List Parameter) (a : ℕ) (qs : List Parameter) → ((k : ℕ) → k < length qs → parameter_at ps (a + k) ≡ parameter_at qs k)
    → map (parameter_at ps) (range_with_len a (length qs)) ≡ qs
read_from ps a [] same = refl
read_from ps a (q ∷ qs) same =
    ap₂ (λ v r. v ∷ r) (ap (parameter_at ps) (none a) ∙ same 0 (omega arith)) (read_from ps (a + 1) qs (λ k h. ap (parameter_at ps) (next a k) ∙ same (suc k) (omega arith)))
  where
    none : (a : ℕ) → a ≡ a + 0
    none a = omega arith

    next : (a k : ℕ) → (a + 1) + k ≡ a + suc k
    next a k = omega arith

pub same_id : (ps : List Parameter) (k : ℕ) → (parameter_at ps k).id ≡ id_at ps k
same_id [] k = refl
same_id (p ∷ ps) zero = refl
same_id (p ∷ ps) (suc k) = same_id ps k

pub asked_by_places : (names : Option (List (List ℕ))) (ps : List Parameter)
    → filter (λ (p : Parameter). is_asked names p.id) ps ≡ map (parameter_at ps) (parameter_places names ps)
asked_by_places names ps =
    let whole : map (parameter_at ps) (range_with_len 0 (length ps)) ≡ ps = read_from ps 0 ps (λ k h. ap (parameter_at ps) (zero_more k)) in
    ap (filter (λ (p : Parameter). is_asked names p.id)) (sym whole)
    ∙ (filter-map (λ (p : Parameter). is_asked names p.id) (parameter_at ps) (range_with_len 0 (length ps))
    ∙ ap (map (parameter_at ps)) (filter_agree (λ k. is_asked names (parameter_at ps k).id) (λ k. is_asked names (id_at ps k)) (λ k. ap (is_asked names) (same_id ps k)) (range_with_len 0 (length ps))))
  where
    zero_more : (k : ℕ) → 0 + k ≡ k
    zero_more k = omega arith

pub parameters_are : (s : Subject) (q : QueryValue) (i : InstanceValue) → s.held ≡ of_grid i
    → parameters_asked s q ≡ map (parameter_at i.parameters) (parameter_places q.parameters i.parameters)
parameters_are s q i held =
    ap (λ (h : Held). filter (λ (p : Parameter). is_asked q.parameters p.id) (parameters_in h)) held ∙ asked_by_places q.parameters i.parameters
