-- What is answered where several faults may apply: the first that does, in one of two forms.
use Rattle.std.specs.Prelude.{◌≡◌, ◌≢◌, ◌⊎◌, ℕ, ◌<◌, ⊤, Bool, true, false, List, Result, Ok, Err, MatchResult, MatchOption}
use Rattle.std.specs.declared.option.Option.{Option}
use Rattle.std.specs.declared.cmp.Ordering.TheVariants.{Less}
use Rattle.std.specs.Prelude.{None, Some}
use Rattle.edr_base.specs.Names.{order}

-- ---- where each fault can be asked of the whole input: the least of them

-- the fault applies, and none before it does; `rank` numbers the faults in their order
pub record IsLeast {F : Type 0} (rank : F → ℕ) (Applies : F → Type 0) (fault : F) : Type 0 where
  pub applies : Applies fault
  pub none_before : (other : F) → rank other < rank fault → ¬ (Applies other)

-- no fault applies
abbrev pub NoneApplies : {F : Type 0} → (F → Type 0) → Type 0
NoneApplies {F} Applies = (fault : F) → ¬ (Applies fault)

-- the least that applies, or none where none does
abbrev pub IsLeastOrNone : {F : Type 0} → (F → ℕ) → (F → Type 0) → Option F → Type 0
IsLeastOrNone rank Applies outcome = MatchOption outcome (NoneApplies Applies) (IsLeast rank Applies)

-- the first place at which something is so
abbrev pub IsFirstPlace : (ℕ → Type 0) → ℕ → Type 0
IsFirstPlace IsAt = IsLeast (λ place. place) IsAt

-- an id is so, and none before it in byte order is
pub record IsLeastId (IsSo : List ℕ → Type 0) (id : List ℕ) : Type 0 where
  pub so : IsSo id
  pub none_before : (other : List ℕ) → IsSo other → order other id ≢ Less

-- ---- where a check presupposes what those before it found: one row after another, each a relation to the answer

-- a row: it holds, and the next rows follow; or it doesn't hold, and its fault is answered
abbrev pub Check : {F T : Type 0} → Type 0 → F → (Result T F → Type 0) → Result T F → Type 0
Check Holds fault Next answer = (Holds × Next answer) ⊎ ((¬ Holds) × (answer ≡ Err fault))

-- a row that finds a value: it is found, and the next rows follow; or there is none, and the fault is answered
abbrev pub Find : {V F T : Type 0} → (V → Type 0) → F → (V → Result T F → Type 0) → Result T F → Type 0
Find {V} IsFound fault Next answer = ((found : V) × IsFound found × Next found answer) ⊎ (((found : V) → ¬ (IsFound found)) × (answer ≡ Err fault))

-- a value that is there by the rows before, and the next rows
abbrev pub With : {V F T : Type 0} → (V → Type 0) → (V → Result T F → Type 0) → Result T F → Type 0
With {V} Is Next answer = (value : V) × Is value × Next value answer

-- rows of their own: with their value the next rows follow, and their fault is the answer
abbrev pub Then : {V F T : Type 0} → (Result V F → Type 0) → (V → Result T F → Type 0) → Result T F → Type 0
Then {V} {F} Rows Next answer = ((found : V) × Rows (Ok found) × Next found answer) ⊎ ((fault : F) × Rows (Err fault) × (answer ≡ Err fault))

-- the value, which ends the rows
abbrev pub Gives : {T F : Type 0} → T → Result T F → Type 0
Gives value answer = answer ≡ Ok value

-- ---- the same as a computation, for private clauses and for the calls between the readers of CoverageJSON

-- a value, or the first fault
abbrev pub Answer : Type 0 → Type 0 → Type 0
Answer F T = Result T F

-- the next check, where this one passed
abbrev pub and_then : {F T U : Type 0} → Answer F T → (T → Answer F U) → Answer F U
and_then (Ok x) next = next x
and_then (Err f) next = Err f

-- the value, or a fault where there is none
abbrev pub or_fault : {F T : Type 0} → Option T → F → Answer F T
or_fault None f = Err f
or_fault (Some x) f = Ok x

-- nothing, or a fault where a test isn't passed
abbrev pub check : {F : Type 0} → Bool → F → Answer F ⊤
check true f = Ok tt
check false f = Err f

-- the result, seen by `seen`, is the answer
abbrev pub IsAnswer : {F T U : Type 0} → (T → U) → Result T F → Answer F U → Type 0
IsAnswer seen result answer = MatchResult result (λ x. answer ≡ Ok (seen x)) (λ f. answer ≡ Err f)

-- the same, unless memory was wanting
abbrev pub IsAnswerUnless : {F T U : Type 0} → F → (T → U) → Result T F → Answer F U → Type 0
IsAnswerUnless memory seen result answer = MatchResult result (λ x. answer ≡ Ok (seen x)) (λ f. (answer ≡ Err f) ⊎ (f ≡ memory))
