-- Laws of answers, one check after another.
use Rattle.std.specs.Prelude.{⊤, not, is_some}
use Rattle.std.proofs.Common.{◌≡◌, subst, List, [], ◌∷◌, ◌++◌, All, Bool, true, false, Option, Some, None, Ok, Err, refl, sym, ap, ◌∙◌}
use Rattle.std.proofs.lemmas.List.Elements.{All-cons, All-nil, All-append}
use Rattle.edr_base.specs.FirstThatApplies.{Answer, and_then, or_fault, check}

-- the check before passed, and what it gave was taken
pub and_then_ok : {F T U : Type 0} (a : Answer F T) (next : T → Answer F U) (y : U) → and_then a next ≡ Ok y → (x : T) × (a ≡ Ok x) × (next x ≡ Ok y)
and_then_ok (Ok x) next y h = (x, refl, h)
and_then_ok (Err f) next y h = cc

-- a value was there
pub or_fault_ok : {F T : Type 0} (o : Option T) (f : F) (x : T) → or_fault o f ≡ Ok x → o ≡ Some x
or_fault_ok None f x h = cc
or_fault_ok (Some y) f x h = cc

-- a test was passed
pub check_ok : {F : Type 0} (b : Bool) (f : F) (x : ⊤) → check b f ≡ Ok x → b ≡ true
check_ok true f x h = refl
check_ok false f x h = cc

-- what isn't something is nothing
pub none_of : {T : Type 0} (o : Option T) → not (is_some o) ≡ true → o ≡ None
none_of None h = refl
none_of (Some x) h = cc

-- what holds of each value that was found and of one more holds of all
pub All-push : {V : Type 0} (P : V → Type 0) (found new : List V) (v : V) → new ≡ found ++ v ∷ [] → All P found → P v → All P new
All-push P found new v pushed before here =
    subst (λ (vs : List _). All P vs) (sym pushed) (All-append P found (v ∷ []) before (All-cons P v [] here (All-nil P)))

-- where a check passes, the answer is that of the next one
pub and_then_given : {F T U : Type 0} (a : Answer F T) (next : T → Answer F U) (x : T) (r : Answer F U) → a ≡ Ok x → next x ≡ r → and_then a next ≡ r
and_then_given a next x r h k = ap (λ (b : Answer _ _). and_then b next) h ∙ k

-- a value that is there
pub or_fault_given : {F T : Type 0} (o : Option T) (f : F) (x : T) → o ≡ Some x → or_fault o f ≡ Ok x
or_fault_given None f x h = cc
or_fault_given (Some y) f x h = let same : y ≡ x = cc in rw same

-- a test that is passed
pub check_given : {F : Type 0} (b : Bool) (f : F) → b ≡ true → check b f ≡ Ok tt
check_given true f h = refl
check_given false f h = cc

-- something is there
pub some_is : {T : Type 0} (o : Option T) (x : T) → o ≡ Some x → is_some o ≡ true
some_is None x h = cc
some_is (Some y) x h = refl
