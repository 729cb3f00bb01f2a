-- Parameters: the answer is what stands, and the rows have it.
use Rattle.std.specs.Prelude.{◌↔◌}
use Rattle.std.proofs.Common.{◌≡◌, ℕ, List, not, is_some, Option, Some, None, Ok, Err, inl, refl, sym, ap, subst, codes}
use Rattle.serde_json.specs.Data.{Data, object, Members, no_members, member}
use Rattle.serde_json.specs.Find.{get, as_object}
use Rattle.covjson_value.specs.declared.coverages.Parameter.{Parameter}
use Rattle.covjson_checks.specs.declared.faults.CovFault.{CovFault}
use Rattle.covjson_checks.specs.declared.faults.Member.TheVariants.{Parameters as ParametersMember, ObservedProperty, Unit}
use Rattle.covjson_checks.specs.declared.faults.CovFault.TheVariants.{Missing, WrongType}
use Rattle.covjson_checks.specs.Answers.{Answer}
use Rattle.covjson_checks.specs.Members.{need, object_at}
use Rattle.edr_base.specs.FirstThatApplies.{and_then, or_fault}
use Rattle.edr_json.specs.AnswerLaws.{none_of}
use Rattle.edr_json.specs.TreeLaws.{as_object_some, member_of_object}
use Rattle.covjson_checks.specs.RowLaws.{HaveAnswer, Finds, option_finds, find_answers, check_answers, then_answers, gives_answers, passed, passed_then, find_within, check_within}
use Rattle.covjson_read.proofs.RowAnswers.{answer_stands}
use Rattle.covjson_read.specs.Parameters.{StandsForLabel, StandsForUnit, StandsForParameter, EachIsNamedObject, EachIsParameter, HoldsParameters}
use Rattle.covjson_read.specs.ParameterAnswers.{all_named_objects, label_at, parameter_label, parameter_unit, parameter_forms, parameters_of, parameter_of}
use Rattle.covjson_read.specs.Rows.{ParameterRows, EachParameterRows, ParametersRows}
use Rattle.covjson_read.proofs.SystemLaws.{given_found}
use Rattle.covjson_read.proofs.LabelLaws.{label_finds, unit_finds}
use Rattle.covjson_read.proofs.ParameterNames.{named_tells, named_passes}

-- ---- one parameter

-- the rows have the answer
pub parameter_rows : (id : List ℕ) (d : Data) → HaveAnswer (ParameterRows id d) (parameter_of id d)
parameter_rows id d =
    find_within (λ property. get (codes "observedProperty") d ≡ Some property) (Missing ObservedProperty) _ (need (codes "observedProperty") ObservedProperty d) _ _ (given_found (Missing ObservedProperty) (get (codes "observedProperty") d)) (λ property observed.
    let categories = get (codes "categories") property in
    check_within (categories ≡ None) (WrongType ObservedProperty) _ (not (is_some categories)) _ _ (none_of categories, λ none. ap (λ (o : Option Data). not (is_some o)) none) (λ none.
    find_answers (λ (said : List ℕ × List ℕ). StandsForLabel property said.0 said.1) (WrongType ObservedProperty) _ (label_at ObservedProperty property) _ (label_finds ObservedProperty property) (λ said label.
    find_answers (StandsForUnit (get (codes "unit") d)) (WrongType Unit) _ (parameter_unit d) _ (unit_finds d) (λ unit stands.
    gives_answers (record { id = id; lang = said.0; label = said.1; unit = unit })))))

-- the parameter of an id
abbrev pub IsParameterOf : List ℕ → Data → Parameter → Type 0
IsParameterOf id d p = (p.id ≡ id) × StandsForParameter d p

-- one that passes the rows stands
pub parameter_tells : (id : List ℕ) (d : Data) (p : Parameter) → ParameterRows id d (Ok p) → IsParameterOf id d p
parameter_tells id d p h =
    let o = passed h in
    let c = passed o.2 in
    let l = passed c.1 in
    let u = passed l.2 in
    let made : Parameter = record { id = id; lang = l.0.0; label = l.0.1; unit = u.0 } in
    let same : p ≡ made = let e = u.2 in cc in
    subst (IsParameterOf id d) (sym same) (refl, record { property = o.0; observed = o.1; no_categories = c.0; label = l.1; unit = u.1 })

-- and one that stands passes them
pub parameter_passes : (id : List ℕ) (d : Data) (p : Parameter) → IsParameterOf id d p → ParameterRows id d (Ok p)
parameter_passes id d p s =
    let t = s.1 in
    inl (t.property, t.observed, inl (t.no_categories, inl ((p.lang, p.label), t.label, inl (p.unit, t.unit, ap (λ k. Ok (record p { id = k })) s.0))))

-- the answer is what stands
pub parameter_is : (id : List ℕ) (d : Data) (p : Parameter) → (parameter_of id d ≡ Ok p) ↔ IsParameterOf id d p
parameter_is id d = answer_stands (ParameterRows id d) (parameter_of id d) (IsParameterOf id d) (parameter_rows id d) (parameter_tells id d) (parameter_passes id d)

-- ---- each parameter of an object

-- the form of a parameter is looked at as the parameter is
same_form : {L U P T : Type 0} (a : Answer L) (b : Answer U) (make : L → U → P) (rest : Answer T)
    → and_then (and_then a (λ l. and_then b (λ u. Ok (make l u)))) (λ _. rest) ≡ and_then (and_then a (λ l. and_then b (λ u. Ok (tt {0})))) (λ _. rest)
same_form (Ok l) (Ok u) make rest = refl
same_form (Ok l) (Err f) make rest = refl
same_form (Err f) b make rest = refl

pub each_rows : (ms : Members) → HaveAnswer (EachParameterRows ms) (parameter_forms ms)
each_rows no_members = gives_answers tt
each_rows (member id d ms) =
    subst (HaveAnswer (EachParameterRows (member id d ms))) (same_form (parameter_label d) (parameter_unit d) (λ l u. record { id = id; lang = l.0; label = l.1; unit = u }) (parameter_forms ms))
    (then_answers (ParameterRows id d) _ (parameter_of id d) _ (parameter_rows id d) (λ p found. each_rows ms))

-- objects by names that pass the rows are parameters
each_tells : (ms : Members) → EachIsNamedObject ms → EachParameterRows ms (Ok tt) → EachIsParameter ms
each_tells no_members named h = tt
each_tells (member id d ms) named h =
    let p = passed_then h in
    (named.0, (p.0, (parameter_tells id d p.0 p.1).1), each_tells ms named.2 p.2)

-- and parameters pass them
each_passes : (ms : Members) → EachIsParameter ms → EachParameterRows ms (Ok tt)
each_passes no_members each = refl
each_passes (member id d ms) each =
    let p : Parameter = record each.1.0 { id = id } in
    let s = each.1.1 in
    let stands : StandsForParameter d p = record { property = s.property; observed = s.observed; no_categories = s.no_categories; label = s.label; unit = s.unit } in
    inl (p, parameter_passes id d p (refl, stands), each_passes ms each.2)

-- what has a member is an object
pub object_of : (key : List ℕ) (d v : Data) → get key d ≡ Some v → (inside : Members) × (d ≡ object inside)
object_of key d v h = let o = member_of_object key d v h in (o.0, as_object_some d o.0 o.1)

-- parameters are objects by names
each_named : (ms : Members) → EachIsParameter ms → EachIsNamedObject ms
each_named no_members each = tt
each_named (member id d ms) each =
    let s = each.1.1 in
    (each.0, object_of (codes "observedProperty") d s.property s.observed, each_named ms each.2)

-- ---- the parameters of a coverage

pub object_found : (fault : CovFault) (d : Data) → Finds (λ members. d ≡ object members) fault (or_fault (as_object d) fault)
object_found fault d = option_finds (λ members. d ≡ object members) fault (as_object d) (as_object_some d) (λ members is. ap as_object is)

-- the rows have the answer
pub parameters_rows : (found : Option Data) → HaveAnswer (ParametersRows found) (parameters_of found)
parameters_rows found =
    find_answers (λ d. found ≡ Some d) (Missing ParametersMember) _ (or_fault found (Missing ParametersMember)) _ (given_found (Missing ParametersMember) found) (λ d is.
    find_answers (λ members. d ≡ object members) (WrongType ParametersMember) _ (object_at ParametersMember d) _ (object_found (WrongType ParametersMember) d) (λ members are.
    check_answers (EachIsNamedObject members) (WrongType ParametersMember) _ (all_named_objects members) _ (named_tells members, named_passes members) (λ named.
    then_answers (EachParameterRows members) _ (parameter_forms members) _ (each_rows members) (λ _ passed.
    gives_answers d))))

abbrev pub AreParametersOf : Option Data → Data → Type 0
AreParametersOf found d = (found ≡ Some d) × HoldsParameters d

-- those that pass the rows are parameters
pub parameters_tell : (found : Option Data) (d : Data) → ParametersRows found (Ok d) → AreParametersOf found d
parameters_tell found d h =
    let f = passed h in
    let o = passed f.2 in
    let n = passed o.2 in
    let e = passed_then n.1 in
    let same : f.0 ≡ d = let x = e.2 in cc in
    subst (AreParametersOf found) same (f.1, record { members = o.0; is = o.1; each = each_tells o.0 n.0 e.1 })

-- and parameters pass them
pub parameters_pass : (found : Option Data) (d : Data) → AreParametersOf found d → ParametersRows found (Ok d)
parameters_pass found d s =
    let h = s.1 in
    inl (d, s.0, inl (h.members, h.is, inl (each_named h.members h.each, inl (tt, each_passes h.members h.each, refl))))

-- the answer is what stands
pub parameters_are : (found : Option Data) (d : Data) → (parameters_of found ≡ Ok d) ↔ AreParametersOf found d
parameters_are found = answer_stands (ParametersRows found) (parameters_of found) (AreParametersOf found) (parameters_rows found) (parameters_tell found) (parameters_pass found)
