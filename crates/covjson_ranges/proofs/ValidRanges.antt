-- A range for which a tree stands is one over the domain.
use Rattle.std.specs.Prelude.{IfSome}
use Rattle.std.proofs.Common.{◌≡◌, inl, inr, ℕ, ◌<◌, ℤ, List, length, get_or, Option, None, sym, ap, ◌∙◌, subst, arith}
use Rattle.std.proofs.lemmas.Bool.{cases_lt}
use Rattle.std.proofs.lemmas.List.{get_or_default, get_or_past}
use Rattle.covjson_value.specs.Domains.{count_of}
use Rattle.edr_base.specs.Limits.{IsSample, AreSamples, HasSample}
use Rattle.covjson_ranges.specs.Ranges.{tree_number}
use Rattle.covjson_ranges.specs.Orders.{places_at}
use Rattle.covjson_ranges.specs.Laws.{RangesAreValid}
use Rattle.covjson_ranges.proofs.PlaceLemmas.{places_at_inside, places_at_number}

-- what stands at any place is a sample, or absent
any_sample : (samples : List (Option ℤ)) → AreSamples samples → (place : ℕ) → IfSome (get_or samples place None) IsSample
any_sample samples are place = elim (cases_lt place (length samples)) [
  | inl inside ↦ are place None inside
  | inr beyond ↦ subst HasSample (sym (get_or_past samples place None beyond)) tt
]

pub ranges_are_valid : RangesAreValid
ranges_are_valid domain turned d range s =
    let in_order = s.in_order in
    record {
      count = in_order.counted;
      samples = λ place other inside.
          let within : place < count_of domain = omega (arith, in_order.counted) in
          let places = places_at domain place in
          let there = in_order.each places (places_at_inside domain place within) in
          let here : get_or range.values place other ≡ get_or s.samples (tree_number domain turned s.names places) None =
          get_or_default range.values place other None inside ∙ ap (λ n. get_or range.values n None) (sym (places_at_number domain place)) ∙ there in
          subst HasSample (sym here) (any_sample s.samples s.within (tree_number domain turned s.names places));
    }
