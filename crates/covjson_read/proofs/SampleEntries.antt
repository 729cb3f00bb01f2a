-- Samples where other items are wanted: texts, entries of reference systems, coverages.
use Rattle.std.proofs.Common.{◌≡◌, ℕ, ℤ, Bool, false, List, [], ◌∷◌, length, map, Option, Some, None, Err, refl, arith}
use Rattle.serde_json.specs.Data.{Data, array}
use Rattle.serde_json.specs.View.{items_of}
use Rattle.edr_samples.specs.Tokens.{sample_data}
use Rattle.covjson_checks.specs.declared.faults.Member.TheVariants.{Coverages, Referencing}
use Rattle.covjson_checks.specs.declared.faults.CovFault.TheVariants.{Missing, WrongType}
use Rattle.covjson_checks.specs.Answers.{each}
use Rattle.covjson_read.specs.SystemAnswers.{has_text, referencing_of}
use Rattle.covjson_read.specs.CoverageAnswers.{coverage_in}

-- samples are no texts
pub no_text : (text : List ℕ) (ss : List (Option ℤ)) → has_text text (items_of (map sample_data ss)) ≡ false
no_text text [] = refl
no_text text (None ∷ ss) = no_text text ss
no_text text (Some z ∷ ss) = no_text text ss

-- nor entries
pub systems_empty : (has_z : Bool) (ss : List (Option ℤ)) → length ss ≡ 0 → referencing_of has_z (Some (array (items_of (map sample_data ss)))) ≡ Err (Missing Referencing)
systems_empty has_z [] h = refl
systems_empty has_z (s ∷ ss) h = absurd (omega arith)

pub systems_some : (has_z : Bool) (ss : List (Option ℤ)) → ¬ (length ss ≡ 0) → referencing_of has_z (Some (array (items_of (map sample_data ss)))) ≡ Err (WrongType Referencing)
systems_some has_z [] h = absurd (h refl)
systems_some has_z (None ∷ ss) h = refl
systems_some has_z (Some z ∷ ss) h = refl

-- nor coverages
pub coverages_some : (collection : Data) (ss : List (Option ℤ)) → ¬ (length ss ≡ 0) → each (coverage_in collection) (items_of (map sample_data ss)) ≡ Err (WrongType Coverages)
coverages_some collection [] h = absurd (h refl)
coverages_some collection (None ∷ ss) h = refl
coverages_some collection (Some z ∷ ss) h = refl
