-- Tallies of one range more.
use Rattle.std.proofs.Common.{◌≡◌, ℕ, ◌+◌, ◌<◌, List, [], ◌∷◌, ◌++◌, length, take, get_or, sym, ap, ◌∙◌, append-nil}
use Rattle.std.proofs.lemmas.Grind.{flat_map-append}
use Rattle.std.proofs.lemmas.List.{take_more}
use Rattle.covjson_value.specs.declared.coverages.NdArray.{NdArray}
use Rattle.edr_station.specs.declared.tallies.Tally.{Tally}
use Rattle.edr_station.specs.Tallies.{tally_of, and_of}
use Rattle.edr_station.specs.TallyLaws.{tally-append}
use Rattle.edr_edition.specs.Instances.{values_of}

-- the values of one range more
pub values_more : (ranges : List NdArray) (i : ℕ) (d : NdArray) → i < length ranges → values_of (take (i + 1) ranges) ≡ values_of (take i ranges) ++ (get_or ranges i d).values
values_more ranges i d inside =
    ap values_of (take_more ranges i d inside)
    ∙ (flat_map-append (λ (range : NdArray). range.values) (take i ranges) (get_or ranges i d ∷ [])
    ∙ ap (λ list. values_of (take i ranges) ++ list) (append-nil (get_or ranges i d).values))

pub range_step : (now next : Tally) (ranges : List NdArray) (i : ℕ) (d : NdArray) → now ≡ tally_of (values_of (take i ranges)) → i < length ranges
    → next ≡ and_of now (tally_of (get_or ranges i d).values) → next ≡ tally_of (values_of (take (i + 1) ranges))
range_step now next ranges i d before inside step =
    let values = (get_or ranges i d).values in
    step ∙ (ap (λ t. and_of t (tally_of values)) before
    ∙ (sym (tally-append (values_of (take i ranges)) values) ∙ ap tally_of (sym (values_more ranges i d inside))))
