-- The answer to a tree: what it stands for, or the first check that it fails.
use Rattle.std.specs.Prelude.{ℕ, suc, Result, Ok, List, [], ◌∷◌, ◌++◌}
use Rattle.serde_json.specs.Data.{Data, Items, no_items, item}
use Rattle.edr_base.specs.FirstThatApplies as first
use Rattle.edr_base.specs.FirstThatApplies.{and_then, IsAnswer, IsAnswerUnless}
use Rattle.covjson_checks.specs.declared.faults.CovFault.{CovFault}
use Rattle.covjson_checks.specs.declared.faults.CovFault.TheVariants.{OutOfMemory}

abbrev pub Answer : Type 0 → Type 0
Answer T = first.Answer CovFault T

-- an answer for each item of a list, in turn
abbrev pub each : {V : Type 0} → (Data → Answer V) → Items → Answer (List V)
each answer_of no_items = Ok []
each answer_of (item d ds) = and_then (answer_of d) (λ v. and_then (each answer_of ds) (λ vs. Ok (v ∷ vs)))

-- an answer for each item of a list, by the place that it has there, from that place on
abbrev pub each_from : {V : Type 0} → (ℕ → Data → Answer V) → ℕ → Items → Answer (List V)
each_from answer_at place no_items = Ok []
each_from answer_at place (item d ds) = and_then (answer_at place d) (λ v. and_then (each_from answer_at (suc place) ds) (λ vs. Ok (v ∷ vs)))

-- the answer's list, after what was found before
abbrev pub onto : {T : Type 0} → List T → Answer (List T) → Answer (List T)
onto front answer = and_then answer (λ rest. Ok (front ++ rest))

-- the result, seen by `seen`, is the answer
abbrev pub GivesAnswer : {T U : Type 0} → (T → U) → Result T CovFault → Answer U → Type 0
GivesAnswer seen result answer = IsAnswer seen result answer

-- the same, unless memory was wanting
abbrev pub GivesUnlessMemory : {T U : Type 0} → (T → U) → Result T CovFault → Answer U → Type 0
GivesUnlessMemory seen result answer = IsAnswerUnless OutOfMemory seen result answer
