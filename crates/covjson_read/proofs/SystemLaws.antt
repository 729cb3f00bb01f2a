-- Reference systems: the answer is what stands, and the rows have it.
use Rattle.std.specs.Prelude.{◌↔◌}
use Rattle.std.proofs.Common.{◌≡◌, ℕ, List, bytes_eq, Bool, true, false, Option, Some, None, option_and_then, Ok, Err, inl, inr, refl, sym, ap, ◌∙◌, subst, codes}
use Rattle.std.proofs.lemmas.Slice.Eq.{bytes_eq-Decides}
use Rattle.serde_json.specs.Data.{Data, array, Items}
use Rattle.serde_json.specs.Find.{as_array}
use Rattle.covjson_value.specs.declared.coverages.Referencing.{Referencing}
use Rattle.covjson_checks.specs.declared.faults.CovFault.{CovFault}
use Rattle.covjson_checks.specs.declared.faults.Member.TheVariants.{Referencing as SystemsMember}
use Rattle.covjson_checks.specs.declared.faults.CovFault.TheVariants.{Missing, WrongType, UnsupportedSystem}
use Rattle.covjson_checks.specs.Members.{list_at}
use Rattle.edr_base.specs.FirstThatApplies.{or_fault}
use Rattle.edr_json.specs.TreeLaws.{as_array_some}
use Rattle.covjson_checks.specs.RowLaws.{HaveAnswer, Finds, option_finds, find_answers, then_answers, passed, passed_then, find_within, check_within}
use Rattle.covjson_read.proofs.RowAnswers.{answer_stands, same_ok, not_fault}
use Rattle.covjson_checks.specs.Places.{EachItem, NoItem, IsFirstItem}
use Rattle.covjson_read.specs.Systems.{IsConnection, IsPlane, IsOtherCalendar, IsVertical, system_text, system_name, StandsForVertical, StandsForReferencing}
use Rattle.covjson_read.specs.SystemAnswers.{all_that, first_that, is_connection, is_plane, is_other_calendar, is_vertical, vertical_name, only_gregorian, referencing_of}
use Rattle.covjson_read.specs.Rows.{CalendarRows, GivesSystems, SystemRows}
use Rattle.covjson_read.proofs.ItemTests.{all_tells, all_passes, first_tells, first_passes, none_tells, none_passes}
use Rattle.covjson_read.proofs.EntryTests.{connections, planes, other_calendars, verticals}

-- ---- the vertical text

-- by the first entry of levels
vertical_by : (entries : Items) (o : Option Data) → first_that is_vertical entries ≡ o → StandsForVertical true entries (option_and_then system_name o)
vertical_by entries None h = inr (none_tells is_vertical IsVertical verticals entries h, refl)
vertical_by entries (Some entry) h = inl (entry, first_tells is_vertical IsVertical verticals entries entry h, refl)

-- the name that is answered stands there
pub vertical_stands : (has_z : Bool) (entries : Items) → StandsForVertical has_z entries (vertical_name has_z entries)
vertical_stands true entries = vertical_by entries (first_that is_vertical entries) refl
vertical_stands false entries = refl

-- and no other does
pub vertical_one : (has_z : Bool) (entries : Items) (vertical : Option (List ℕ)) → StandsForVertical has_z entries vertical → vertical ≡ vertical_name has_z entries
vertical_one true entries vertical s = elim s [
  | inl w ↦ w.2 ∙ ap (option_and_then system_name) (sym (first_passes is_vertical IsVertical verticals entries w.0 w.1))
  | inr w ↦ w.1 ∙ ap (option_and_then system_name) (sym (none_passes is_vertical IsVertical verticals entries w.0))
]
vertical_one false entries vertical s = s

-- ---- rows

-- a list
pub list_found : (fault : CovFault) (list : Data) → Finds (λ entries. list ≡ array entries) fault (or_fault (as_array list) fault)
list_found fault list = option_finds (λ entries. list ≡ array entries) fault (as_array list) (as_array_some list) (λ entries is. ap as_array is)

-- what was found
pub given_found : {V : Type 0} (fault : CovFault) (o : Option V) → Finds (λ v. o ≡ Some v) fault (or_fault o fault)
given_found fault o = option_finds (λ v. o ≡ Some v) fault o (λ v h. h) (λ v h. h)

-- the calendars, by the first other one
calendars_by : (entries : Items) (o : Option Data) → first_that is_other_calendar entries ≡ o → HaveAnswer (CalendarRows entries) (only_gregorian o)
calendars_by entries None h =
    let none = none_tells is_other_calendar IsOtherCalendar other_calendars entries h in
    record {
      follows = inl (none, refl);
      only = λ other rows. elim rows [
        | inl w ↦ w.1
        | inr w ↦ let e = first_passes is_other_calendar IsOtherCalendar other_calendars entries w.0 w.1 in cc
      ];
    }
calendars_by entries (Some entry) h =
    let f = first_tells is_other_calendar IsOtherCalendar other_calendars entries entry h in
    record {
      follows = inr (entry, f, refl);
      only = λ other rows. elim rows [
        | inl w ↦ let e = none_passes is_other_calendar IsOtherCalendar other_calendars entries w.0 in cc
        | inr w ↦
            let e = first_passes is_other_calendar IsOtherCalendar other_calendars entries w.0 w.1 in
            let same : w.0 ≡ entry = cc in
            w.2 ∙ ap (λ (d : Data). Err (UnsupportedSystem (system_text (codes "calendar") d))) same
      ];
    }

-- the systems at the end
systems_given : (has_z : Bool) (entries : Items) (plane : Data)
    → HaveAnswer (GivesSystems has_z entries plane) (Ok (record { crs = system_text (codes "id") plane; vertical = vertical_name has_z entries }))
systems_given has_z entries plane =
    let given : Referencing = record { crs = system_text (codes "id") plane; vertical = vertical_name has_z entries } in
    record {
      follows = (given, (refl, vertical_stands has_z entries), refl);
      only = λ other rows.
          let vertical = vertical_one has_z entries rows.0.vertical rows.1.1 in
          let crs = rows.1.0 in
          let same : rows.0 ≡ given = λ i. record { crs = crs i; vertical = vertical i } in
          rows.2 ∙ ap Ok same;
    }

-- the rows have the answer
pub systems_rows : (has_z : Bool) (found : Option Data) → HaveAnswer (SystemRows has_z found) (referencing_of has_z found)
systems_rows has_z found =
    find_answers (λ list. found ≡ Some list) (Missing SystemsMember) _ (or_fault found (Missing SystemsMember)) _ (given_found (Missing SystemsMember) found) (λ list is.
    find_answers (λ entries. list ≡ array entries) (WrongType SystemsMember) _ (list_at SystemsMember list) _ (list_found (WrongType SystemsMember) list) (λ entries is_list.
    check_within (EachItem IsConnection entries) (WrongType SystemsMember) _ (all_that is_connection entries) _ _ (all_tells is_connection IsConnection connections entries, all_passes is_connection IsConnection connections entries) (λ all.
    find_within (IsFirstItem IsPlane entries) (Missing SystemsMember) _ (or_fault (first_that is_plane entries) (Missing SystemsMember)) _ _
    (option_finds (IsFirstItem IsPlane entries) (Missing SystemsMember) (first_that is_plane entries) (first_tells is_plane IsPlane planes entries) (first_passes is_plane IsPlane planes entries)) (λ plane first.
    let kind = system_text (codes "type") plane in
    check_within (kind ≡ codes "ProjectedCRS") (UnsupportedSystem kind) _ (bytes_eq kind (codes "ProjectedCRS")) _ _ (bytes_eq-Decides kind (codes "ProjectedCRS")) (λ projected.
    then_answers (CalendarRows entries) _ (only_gregorian (first_that is_other_calendar entries)) _ (calendars_by entries (first_that is_other_calendar entries) refl) (λ _ passed.
    systems_given has_z entries plane))))))

-- ---- what stands

-- systems that pass the rows stand
pub rows_tell : (has_z : Bool) (found : Option Data) (r : Referencing) → SystemRows has_z found (Ok r) → StandsForReferencing has_z found r
rows_tell has_z found r h =
    let l = passed h in
    let e = passed l.2 in
    let c = passed e.2 in
    let p = passed c.1 in
    let k = passed p.2 in
    let g = passed_then k.1 in
    let none : NoItem IsOtherCalendar e.0 = elim g.1 [ inl w ↦ w.0 | inr w ↦ absurd (not_fault _ _ w.2) ] in
    let s = g.2 in
    let same : s.0 ≡ r = sym (same_ok r s.0 s.2) in
    record {
      entries = e.0;
      list = l.1 ∙ ap Some e.1;
      connections = c.0;
      plane = p.0;
      first = p.1;
      projected = k.0;
      gregorian = none;
      crs = subst (λ (q : Referencing). q.crs ≡ system_text (codes "id") p.0) same s.1.0;
      vertical = subst (λ (q : Referencing). StandsForVertical has_z e.0 q.vertical) same s.1.1;
    }

-- and systems that stand pass them
pub rows_pass : (has_z : Bool) (found : Option Data) (r : Referencing) → StandsForReferencing has_z found r → SystemRows has_z found (Ok r)
rows_pass has_z found r s =
    inl (array s.entries, s.list, inl (s.entries, refl, inl (s.connections, inl (s.plane, s.first, inl (s.projected, inl (tt, inl (s.gregorian, refl), (r, (s.crs, s.vertical), refl)))))))

-- the answer is what stands
pub systems_are : (has_z : Bool) (found : Option Data) (r : Referencing) → (referencing_of has_z found ≡ Ok r) ↔ StandsForReferencing has_z found r
systems_are has_z found = answer_stands (SystemRows has_z found) (referencing_of has_z found) (StandsForReferencing has_z found) (systems_rows has_z found) (rows_tell has_z found) (rows_pass has_z found)
