-- What is written of parameters stands for them.
use Rattle.std.proofs.Common.{◌≡◌, ℕ, List, [], ◌∷◌, map, All, codes, Option, Some, None, option_map, inl, inr, refl, sym, ap, ◌∙◌, subst}
use Rattle.std.specs.declared.cmp.Ordering.{Ordering}
use Rattle.std.specs.declared.cmp.Ordering.TheVariants.{Less, Equal, Greater}
use Rattle.std.specs.Ordering.{nat_cmp, match_ordering, ordering_reverse}
use Rattle.std.specs.Cmp.Lexicographic.{slice_cmp}
use Rattle.std.specs.List.{AllByRecursion}
use Rattle.std.specs.List.Sorted.{IsStrictlySortedBy}
use Rattle.std.proofs.lemmas.Cmp.{nat_list_cmp_total, tied_itself}
use Rattle.std.proofs.lemmas.Map.Lookups.{exact_bytes}
use Rattle.std.proofs.lemmas.List.Elements.{All-nil, All-cons, All-head, All-tail, All-weaker}
use Rattle.serde_json.specs.Data.{Data, string, Members, no_members, member}
use Rattle.serde_json.specs.Find.{get_member}
use Rattle.covjson_value.specs.declared.coverages.Parameter.{Parameter}
use Rattle.covjson_value.specs.Coverages.{IsParameter, ids_of, AscendById}
use Rattle.covjson_value.specs.Trees.{members_in_order, property_data, unit_data, parameter_data, named_parameter, parameters_data}
use Rattle.covjson_read.specs.Parameters.{IsSaid, StandsForLabel, StandsForUnit, StandsForParameter, EachIsParameter, HoldsParameters, StandsAmong}
use Rattle.covjson_value.specs.MemberLaws.{member_found}

-- ---- one parameter

-- the only text is said, in English or in another language
said_by : (lang text : List ℕ) (order : Ordering) → slice_cmp nat_cmp (codes "en") lang ≡ order → IsSaid (member lang (string text) no_members) lang text
said_by lang text Less is = inr (ap (λ o. match_ordering o None (Some (string text)) None) is, (no_members, refl))
said_by lang text Equal is = inl (ap (λ o. match_ordering o None (Some (string text)) None) is, sym (exact_bytes (codes "en") lang is))
said_by lang text Greater is = inr (ap (λ o. match_ordering o None (Some (string text)) None) is, (no_members, refl))

-- a label
label_written : (p : Parameter) → StandsForLabel (property_data p) p.lang p.label
label_written p = record {
  members = member p.lang (string p.label) no_members;
  label = refl;
  texts = ((p.label, refl), tt);
  said = said_by p.lang p.label (slice_cmp nat_cmp (codes "en") p.lang) refl;
}

-- a unit
unit_written : (unit : Option (List ℕ)) → StandsForUnit (option_map unit_data unit) unit
unit_written None = tt
unit_written (Some text) = refl

-- a parameter
parameter_written : (p : Parameter) → StandsForParameter (parameter_data p) p
parameter_written p =
    let P : Option Data → Type 0 = λ found. StandsForUnit found p.unit in
    let found = member_found (codes "unit") (option_map unit_data p.unit) no_members (λ d. refl) refl in
    record {
      property = property_data p;
      observed = refl;
      no_categories = refl;
      label = label_written p;
      unit = subst P (sym found) (unit_written p.unit);
    }

-- ---- the parameters by their ids

-- each is written as a parameter by its id
each_parameter_written : (ps : List Parameter) → All IsParameter ps → EachIsParameter (members_in_order (map named_parameter ps))
each_parameter_written [] h = tt
each_parameter_written (p ∷ ps) h =
    ((All-head IsParameter p ps h).id, (p, parameter_written p), each_parameter_written ps (All-tail IsParameter p ps h))

-- and so all are parameters
pub parameters_written : (ps : List Parameter) → All IsParameter ps → HoldsParameters (parameters_data ps)
parameters_written ps h = record { members = members_in_order (map named_parameter ps); is = refl; each = each_parameter_written ps h }

-- the parameter is found by its id among some members
abbrev IsFound : Members → Parameter → Type 0
IsFound ms p = get_member p.id ms ≡ Some (parameter_data p)

-- a member of a lesser name is passed over
found_above : (name key : List ℕ) (d : Data) (ms : Members) → slice_cmp nat_cmp key name ≡ Less → get_member name (member key d ms) ≡ get_member name ms
found_above name key d ms below =
    let above : slice_cmp nat_cmp name key ≡ Greater = nat_list_cmp_total.antisymm name key ∙ ap ordering_reverse below in
    rw above refl

-- a parameter is found behind a member of a lesser name
found_behind : (key : List ℕ) (d : Data) (ms : Members) (qs : List Parameter) → AllByRecursion (λ y. slice_cmp nat_cmp key y ≡ Less) (ids_of qs)
    → All (IsFound ms) qs → All (IsFound (member key d ms)) qs
found_behind key d ms [] below h = All-nil (IsFound (member key d ms))
found_behind key d ms (q ∷ qs) below h =
    All-cons (IsFound (member key d ms)) q qs (found_above q.id key d ms below.0 ∙ All-head (IsFound ms) q qs h)
    (found_behind key d ms qs below.1 (All-tail (IsFound ms) q qs h))

-- a parameter is found first by its id
found_first : (p : Parameter) (ms : Members) → IsFound (member p.id (parameter_data p) ms) p
found_first p ms =
    let same : slice_cmp nat_cmp p.id p.id ≡ Equal = tied_itself nat_list_cmp_total p.id in
    rw same refl

-- each parameter is found by its id
each_found : (ps : List Parameter) → AscendById ps → All (IsFound (members_in_order (map named_parameter ps))) ps
unfolding IsStrictlySortedBy
each_found [] h = All-nil (IsFound no_members)
each_found (p ∷ ps) h =
    let rest : Members = members_in_order (map named_parameter ps) in
    All-cons (IsFound (member p.id (parameter_data p) rest)) p ps (found_first p rest)
    (found_behind p.id (parameter_data p) rest ps h.0 (each_found ps h.1))

-- and stands there for itself
pub parameters_stand_written : (ps : List Parameter) → AscendById ps → All (StandsAmong (parameters_data ps)) ps
parameters_stand_written ps h =
    All-weaker (IsFound (members_in_order (map named_parameter ps))) (StandsAmong (parameters_data ps))
    (λ p found. record { d = parameter_data p; named = found; stands = parameter_written p }) ps (each_found ps h)
