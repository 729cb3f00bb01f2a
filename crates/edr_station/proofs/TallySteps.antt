-- Tallies of one sample more, and of one list more.
use Rattle.std.proofs.Common.{◌≡◌, ℕ, ◌+◌, ◌<◌, ℤ, List, [], ◌∷◌, ◌++◌, length, take, get_or, Option, sym, ap, ◌∙◌, append-nil}
use Rattle.std.proofs.lemmas.Grind.{flat_map-append}
use Rattle.std.proofs.lemmas.List.{take_more}
use Rattle.edr_station.specs.declared.tallies.Tally.{Tally}
use Rattle.edr_station.specs.KeptBlocks.{values_of}
use Rattle.edr_station.specs.Tallies.{tally_of, and_of}
use Rattle.edr_station.specs.TallyLaws.{tally-append, and-assoc}

-- one sample more
pub tally_step : (self now next : Tally) (xs : List (Option ℤ)) (i : ℕ) (d : Option ℤ) → now ≡ and_of self (tally_of (take i xs)) → i < length xs
    → next ≡ and_of now (tally_of (get_or xs i d ∷ [])) → next ≡ and_of self (tally_of (take (i + 1) xs))
tally_step self now next xs i d before inside step =
    let x = get_or xs i d in
    step ∙ (ap (λ t. and_of t (tally_of (x ∷ []))) before
    ∙ (and-assoc self (tally_of (take i xs)) (tally_of (x ∷ []))
    ∙ (ap (and_of self) (sym (tally-append (take i xs) (x ∷ [])))
    ∙ ap (λ list. and_of self (tally_of list)) (sym (take_more xs i d inside)))))

-- ---- lists of values, one after another

-- one list more
pub part_step : (now next : Tally) (parts : List (List (Option ℤ))) (i : ℕ) (part : List (Option ℤ)) → now ≡ tally_of (values_of (take i parts)) → i < length parts
    → part ≡ get_or parts i [] → next ≡ and_of now (tally_of part) → next ≡ tally_of (values_of (take (i + 1) parts))
part_step now next parts i part before inside is step =
    let here = get_or parts i [] in
    let more : values_of (take (i + 1) parts) ≡ values_of (take i parts) ++ here =
    ap values_of (take_more parts i [] inside)
    ∙ (flat_map-append (λ (values : List (Option ℤ)). values) (take i parts) (here ∷ [])
    ∙ ap (λ list. values_of (take i parts) ++ list) (append-nil here)) in
    step ∙ (ap (λ t. and_of t (tally_of part)) before
    ∙ (ap (λ values. and_of (tally_of (values_of (take i parts))) (tally_of values)) is
    ∙ (sym (tally-append (values_of (take i parts)) here) ∙ ap tally_of (sym more))))
