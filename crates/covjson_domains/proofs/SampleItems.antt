-- Samples where other items are wanted: texts, names, tuples.
use Rattle.std.specs.Prelude.{nat_eq}
use Rattle.std.proofs.Common.{◌≡◌, ℤ, List, [], ◌∷◌, length, map, false, Option, Some, None, Err, refl, sym, arith}
use Rattle.std.proofs.lemmas.Bool.{ne_eqb}
use Rattle.serde_json.specs.View.{items_of}
use Rattle.edr_samples.specs.Tokens.{sample_data}
use Rattle.covjson_value.specs.declared.domains.CoordinateName.{CoordinateName}
use Rattle.covjson_checks.specs.declared.faults.Member.TheVariants.{T as TimeAxis, Composite}
use Rattle.covjson_checks.specs.declared.faults.CovFault.TheVariants.{WrongType}
use Rattle.covjson_domains.specs.AxisAnswers.{times_from}
use Rattle.covjson_domains.specs.TupleAnswers.{are_keys, tuples_of_items}

-- samples are no times
pub times_some : (ss : List (Option ℤ)) → ¬ (length ss ≡ 0) → times_from 0 (items_of (map sample_data ss)) ≡ Err (WrongType TimeAxis)
times_some [] h = absurd (h refl)
times_some (None ∷ ss) h = refl
times_some (Some z ∷ ss) h = refl

-- and no names
pub keys_none : (names : List CoordinateName) (ss : List (Option ℤ)) → length ss ≡ 0 → are_keys names (items_of (map sample_data ss)) ≡ nat_eq (length names) 0
keys_none [] [] h = refl
keys_none (name ∷ names) [] h = sym (ne_eqb (length (name ∷ names)) 0 (λ e. omega (arith, e)))
keys_none names (s ∷ ss) h = absurd (omega arith)

pub keys_some : (names : List CoordinateName) (ss : List (Option ℤ)) → ¬ (length ss ≡ 0) → are_keys names (items_of (map sample_data ss)) ≡ false
keys_some names [] h = absurd (h refl)
keys_some [] (s ∷ ss) h = refl
keys_some (name ∷ names) (None ∷ ss) h = refl
keys_some (name ∷ names) (Some z ∷ ss) h = refl

-- and no tuples
pub tuples_some : (names : List CoordinateName) (ss : List (Option ℤ)) → ¬ (length ss ≡ 0) → tuples_of_items names (items_of (map sample_data ss)) ≡ Err (WrongType Composite)
tuples_some names [] h = absurd (h refl)
tuples_some names (None ∷ ss) h = refl
tuples_some names (Some z ∷ ss) h = refl
