-- The names of the members of an object.
use Rattle.std.proofs.Common.{◌≡◌, ℕ, List, ◌&&◌, is_some, true, Option, Some, None, refl, sym, ap, ◌∙◌, subst}
use Rattle.std.proofs.lemmas.Bool.{and_parts, and_from}
use Rattle.std.proofs.lemmas.Map.Lookups.{exact_bytes}
use Rattle.std.specs.declared.cmp.Ordering.{Ordering}
use Rattle.std.specs.declared.cmp.Ordering.TheVariants.{Less, Equal, Greater}
use Rattle.std.specs.Ordering.{nat_cmp, match_ordering}
use Rattle.std.specs.Cmp.Lexicographic.{slice_cmp}
use Rattle.serde_json.specs.Data.{Data, object, Members, no_members, member}
use Rattle.serde_json.specs.Find.{get, get_member, as_object}
use Rattle.edr_base.specs.Names.{IsName}
use Rattle.edr_json.specs.AnswerLaws.{some_is}
use Rattle.edr_json.specs.TreeLaws.{as_object_some}
use Rattle.covjson_read.specs.Parameters.{EachHasName, HaveNames, EachIsNamedObject, EachIsParameter, HoldsParameters}
use Rattle.edr_base.specs.NameTests.{is_name}
use Rattle.edr_base.specs.NameLaws.{name_tells, name_passes}
use Rattle.covjson_read.specs.ParameterAnswers.{all_named_objects}

-- ---- objects by names

inside_of : (d : Data) (o : Option Members) → as_object d ≡ o → is_some o ≡ true → (inside : Members) × (d ≡ object inside)
inside_of d None is h = cc
inside_of d (Some inside) is h = (inside, as_object_some d inside is)

-- members that pass the test are objects by names
pub named_tells : (ms : Members) → all_named_objects ms ≡ true → EachIsNamedObject ms
named_tells no_members h = tt
named_tells (member name d ms) h =
    let p = and_parts (is_name name && is_some (as_object d)) (all_named_objects ms) h in
    let q = and_parts (is_name name) (is_some (as_object d)) p.0 in
    (name_tells name q.0, inside_of d (as_object d) refl q.1, named_tells ms p.1)

-- and those pass it
pub named_passes : (ms : Members) → EachIsNamedObject ms → all_named_objects ms ≡ true
named_passes no_members each = refl
named_passes (member name d ms) each =
    and_from (is_name name && is_some (as_object d)) (all_named_objects ms)
    (and_from (is_name name) (is_some (as_object d)) (name_passes name each.0) (some_is (as_object d) each.1.0 (ap as_object each.1.1)))
    (named_passes ms each.2)

-- ---- a name that is found

-- a name found by comparison is that of the member or of a later one
name_by : (k l : List ℕ) (here : Data) (rest : Option Data) (d : Data) (o : Ordering) → slice_cmp nat_cmp k l ≡ o → IsName l
    → (rest ≡ Some d → IsName k) → match_ordering o rest (Some here) rest ≡ Some d → IsName k
name_by k l here rest d Less order name later h = later h
name_by k l here rest d Equal order name later h = subst IsName (sym (exact_bytes k l order)) name
name_by k l here rest d Greater order name later h = later h

-- what is found among members with names has one
name_found : (k : List ℕ) (ms : Members) (d : Data) → EachHasName ms → get_member k ms ≡ Some d → IsName k
name_found k no_members d each h = cc
name_found k (member l here ms) d each h =
    name_by k l here (get_member k ms) d (slice_cmp nat_cmp k l) refl each.0 (name_found k ms d each.1) h

-- what is found by a name among members with names has one
pub named_found : (id : List ℕ) (tree d : Data) → HaveNames tree → get id tree ≡ Some d → IsName id
named_found id tree d names h = name_found id names.0 d names.2 (ap (get id) (sym names.1) ∙ h)

-- each parameter has a name
each_has_name : (ms : Members) → EachIsParameter ms → EachHasName ms
each_has_name no_members each = tt
each_has_name (member name d ms) each = (each.0, each_has_name ms each.2)

-- parameters have names
pub have_names : (d : Data) → HoldsParameters d → HaveNames d
have_names d holds = (holds.members, holds.is, each_has_name holds.members holds.each)
