-- The tests of entries of reference systems.
use Rattle.std.proofs.Common.{◌≡◌, ℕ, Bool, true, false, not, is_some, bytes_eq, codes, List, Option, Some, None, option_and_then, refl, ap, ◌∙◌}
use Rattle.std.proofs.lemmas.Bool.{and_parts, and_from}
use Rattle.std.proofs.lemmas.Slice.Eq.{bytes_eq-Decides}
use Rattle.serde_json.specs.Data.{Data, array, Items}
use Rattle.serde_json.specs.Find.{get, as_array}
use Rattle.edr_json.specs.AnswerLaws.{some_is}
use Rattle.edr_json.specs.TreeLaws.{as_array_some}
use Rattle.covjson_read.specs.Systems.{IsConnection, HoldsName, IsPlane, IsOtherCalendar, IsVertical, system_text}
use Rattle.covjson_read.specs.SystemAnswers.{has_text_if_list, holds, is_connection, is_plane, is_other_calendar, is_vertical}
use Rattle.covjson_read.proofs.ItemTests.{Tells, has_tells, has_passes}
use Rattle.covjson_value.specs.declared.domains.CoordinateName.TheVariants.{X, Y, Z}
use Rattle.covjson_value.specs.Domains.{coordinate_key}

-- what is there
some_of : {A : Type 0} (o : Option A) → is_some o ≡ true → (a : A) × (o ≡ Some a)
some_of None h = cc
some_of (Some a) h = (a, refl)

pub connections : Tells is_connection IsConnection
connections = record {
  tells = λ entry h.
      let p = and_parts (is_some (get (codes "coordinates") entry)) (is_some (get (codes "system") entry)) h in
      let c = some_of (get (codes "coordinates") entry) p.0 in
      let s = some_of (get (codes "system") entry) p.1 in
      record { coordinates = c.0; coordinates_at = c.1; system = s.0; system_at = s.1 };
  passes = λ entry is.
      and_from (is_some (get (codes "coordinates") entry)) (is_some (get (codes "system") entry))
      (some_is _ is.coordinates is.coordinates_at) (some_is _ is.system is.system_at);
}

-- ---- the names that coordinates hold

list_holds : (name : List ℕ) (o : Option Items) → has_text_if_list name o ≡ true → (names : Items) × (o ≡ Some names) × (has_text_if_list name (Some names) ≡ true)
list_holds name None h = cc
list_holds name (Some names) h = (names, refl, h)

found_list : (o : Option Data) (names : Items) → option_and_then as_array o ≡ Some names → o ≡ Some (array names)
found_list None names h = cc
found_list (Some d) names h = ap Some (as_array_some d names h)

pub holds_tells : (name : List ℕ) (entry : Data) → holds name entry ≡ true → HoldsName name entry
holds_tells name entry h =
    let o = get (codes "coordinates") entry in
    let l = list_holds name (option_and_then as_array o) h in
    (l.0, found_list o l.0 l.1, has_tells name l.0 l.2)

pub holds_passes : (name : List ℕ) (entry : Data) → HoldsName name entry → holds name entry ≡ true
holds_passes name entry is = ap (λ (o : Option Data). has_text_if_list name (option_and_then as_array o)) is.1 ∙ has_passes name is.0 is.2

pub planes : Tells is_plane IsPlane
planes = record {
  tells = λ entry h.
      let p = and_parts (holds (coordinate_key X) entry) (holds (coordinate_key Y) entry) h in
      (holds_tells (coordinate_key X) entry p.0, holds_tells (coordinate_key Y) entry p.1);
  passes = λ entry is. and_from (holds (coordinate_key X) entry) (holds (coordinate_key Y) entry) (holds_passes (coordinate_key X) entry is.0) (holds_passes (coordinate_key Y) entry is.1);
}

-- ---- types and calendars

-- texts that fail the test differ
differ : (xs ys : List ℕ) → not (bytes_eq xs ys) ≡ true → ¬ (xs ≡ ys)
differ xs ys h same = let e = (bytes_eq-Decides xs ys).1 same in cc

fail : (b : Bool) → ¬ (b ≡ true) → not b ≡ true
fail true h = absurd (h refl)
fail false h = refl

-- and those that differ fail it
apart : (xs ys : List ℕ) → ¬ (xs ≡ ys) → not (bytes_eq xs ys) ≡ true
apart xs ys other = fail (bytes_eq xs ys) (λ h. other ((bytes_eq-Decides xs ys).0 h))

pub other_calendars : Tells is_other_calendar IsOtherCalendar
other_calendars = record {
  tells = λ entry h.
      let kind = system_text (codes "type") entry in
      let calendar = system_text (codes "calendar") entry in
      let p = and_parts (bytes_eq kind (codes "TemporalRS")) (not (bytes_eq calendar (codes "Gregorian"))) h in
      ((bytes_eq-Decides kind (codes "TemporalRS")).0 p.0, differ calendar (codes "Gregorian") p.1);
  passes = λ entry is.
      let kind = system_text (codes "type") entry in
      let calendar = system_text (codes "calendar") entry in
      and_from (bytes_eq kind (codes "TemporalRS")) (not (bytes_eq calendar (codes "Gregorian"))) ((bytes_eq-Decides kind (codes "TemporalRS")).1 is.0) (apart calendar (codes "Gregorian") is.1);
}

pub verticals : Tells is_vertical IsVertical
verticals = record {
  tells = λ entry h.
      let kind = system_text (codes "type") entry in
      let p = and_parts (bytes_eq kind (codes "VerticalCRS")) (holds (coordinate_key Z) entry) h in
      ((bytes_eq-Decides kind (codes "VerticalCRS")).0 p.0, holds_tells (coordinate_key Z) entry p.1);
  passes = λ entry is.
      let kind = system_text (codes "type") entry in
      and_from (bytes_eq kind (codes "VerticalCRS")) (holds (coordinate_key Z) entry) ((bytes_eq-Decides kind (codes "VerticalCRS")).1 is.0) (holds_passes (coordinate_key Z) entry is.1);
}
