-- Laws of rows of checks: the computed answer follows them, and no other answer does.
use Rattle.std.specs.Prelude.{◌⊎◌, ◌↔◌, ⊤}
use Rattle.std.proofs.Common.{◌≡◌, Bool, true, false, true≢false, Decides, Option, Some, None, Result, Ok, Err, inl, inr, refl, sym, ap, ◌∙◌, subst}
use Rattle.edr_base.specs.FirstThatApplies.{Check, Find, Then, Gives, Answer, and_then, or_fault, check}

-- ---- the answer of rows

-- no two answers follow the rows
abbrev pub HasOneAnswer : {F T : Type 0} → (Result T F → Type 0) → Type 0
HasOneAnswer {F} {T} Rows = (one other : Result T F) → Rows one → Rows other → one ≡ other

-- the answer follows the rows, and no other does
pub record HaveAnswer {F T : Type 0} (Rows : Result T F → Type 0) (answer : Result T F) : Type 0 where
  pub follows : Rows answer
  pub only : (other : Result T F) → Rows other → other ≡ answer

-- so they have one
pub answer_is_one : {F T : Type 0} (Rows : Result T F → Type 0) (answer : Result T F) → HaveAnswer Rows answer → HasOneAnswer Rows
answer_is_one Rows answer has one other a b = has.only one a ∙ sym (has.only other b)

-- where the answer is a value exactly where that value stands, the rows say so too
pub rows_stand : {F T : Type 0} (Rows : Result T F → Type 0) (answer : Result T F) (Stands : T → Type 0) → HaveAnswer Rows answer → ((x : T) → (answer ≡ Ok x) ↔ Stands x)
    → (x : T) → Rows (Ok x) ↔ Stands x
rows_stand Rows answer Stands has stands x = (λ h. (stands x).0 (sym (has.only (Ok x) h)), λ s. subst Rows ((stands x).1 s) has.follows)

-- ---- row by row

-- an answer is what is looked for, or that fault where there is none
pub record Finds {V F : Type 0} (IsFound : V → Type 0) (fault : F) (answer : Answer F V) : Type 0 where
  pub found : (value : V) → answer ≡ Ok value → IsFound value
  pub finds : (value : V) → IsFound value → answer ≡ Ok value
  pub none : (other : F) → answer ≡ Err other → other ≡ fault

-- a value where there is one
pub option_finds : {V F : Type 0} (IsFound : V → Type 0) (fault : F) (o : Option V) → ((v : V) → o ≡ Some v → IsFound v) → ((v : V) → IsFound v → o ≡ Some v) → Finds IsFound fault (or_fault o fault)
option_finds IsFound fault None found finds = record { found = λ v h. cc; finds = λ v is. let h = finds v is in cc; none = λ other h. cc }
option_finds IsFound fault (Some x) found finds = record { found = λ v h. found v cc; finds = λ v is. let h = finds v is in cc; none = λ other h. cc }

-- a row that finds
pub find_answers : {V F T : Type 0} (IsFound : V → Type 0) (fault : F) (Next : V → Result T F → Type 0) (answer : Answer F V) (next : V → Answer F T) → Finds IsFound fault answer
    → ((v : V) → IsFound v → HaveAnswer (Next v) (next v)) → HaveAnswer (Find IsFound fault Next) (and_then answer next)
find_answers {V} IsFound fault Next (Ok v) next finds rows =
    let here = finds.found v refl in
    let same : (w : V) → IsFound w → v ≡ w = λ w is. let h = finds.finds w is in cc in
    record {
      follows = inl (v, here, (rows v here).follows);
      only = λ other h. elim h [ inl w ↦ (rows w.0 w.1).only other w.2 ∙ ap next (sym (same w.0 w.1)) | inr w ↦ absurd (w.0 v here) ];
    }
find_answers {V} IsFound fault Next (Err f) next finds rows =
    let gone : (w : V) → IsFound w → ⊥ = λ w is. let h = finds.finds w is in cc in
    let same = finds.none f refl in
    record {
      follows = inr (gone, ap Err same);
      only = λ other h. elim h [ inl w ↦ absurd (gone w.0 w.1) | inr w ↦ w.1 ∙ ap Err (sym same) ];
    }

-- a row that checks
pub check_answers : {F T : Type 0} (Holds : Type 0) (fault : F) (Next : Result T F → Type 0) (test : Bool) (next : ⊤ → Answer F T) → Decides test Holds
    → (Holds → HaveAnswer Next (next tt)) → HaveAnswer (Check Holds fault Next) (and_then (check test fault) next)
check_answers Holds fault Next true next decides rows =
    let here = decides.0 refl in
    record {
      follows = inl (here, (rows here).follows);
      only = λ other h. elim h [ inl w ↦ (rows here).only other w.1 | inr w ↦ absurd (w.0 here) ];
    }
check_answers Holds fault Next false next decides rows =
    let gone : Holds → ⊥ = λ h. true≢false (sym (decides.1 h)) in
    record {
      follows = inr (gone, refl);
      only = λ other h. elim h [ inl w ↦ absurd (gone w.0) | inr w ↦ w.1 ];
    }

-- rows of their own
pub then_answers : {V F T : Type 0} (Rows : Result V F → Type 0) (Next : V → Result T F → Type 0) (answer : Answer F V) (next : V → Answer F T) → HaveAnswer Rows answer
    → ((v : V) → answer ≡ Ok v → HaveAnswer (Next v) (next v)) → HaveAnswer (Then Rows Next) (and_then answer next)
then_answers {V} {F} Rows Next (Ok v) next has rows =
    let same : (w : V) → Rows (Ok w) → v ≡ w = λ w is. let h = has.only (Ok w) is in cc in
    let gone : (f : F) → Rows (Err f) → ⊥ = λ f is. let h = has.only (Err f) is in cc in
    record {
      follows = inl (v, has.follows, (rows v refl).follows);
      only = λ other h. elim h [
        | inl w ↦ (rows w.0 (ap Ok (same w.0 w.1))).only other w.2 ∙ ap next (sym (same w.0 w.1))
        | inr w ↦ absurd (gone w.0 w.1)
      ];
    }
then_answers {V} {F} Rows Next (Err f) next has rows =
    let gone : (w : V) → Rows (Ok w) → ⊥ = λ w is. let h = has.only (Ok w) is in cc in
    let same : (g : F) → Rows (Err g) → f ≡ g = λ g is. let h = has.only (Err g) is in cc in
    record {
      follows = inr (f, has.follows, refl);
      only = λ other h. elim h [ inl w ↦ absurd (gone w.0 w.1) | inr w ↦ w.2 ∙ ap Err (sym (same w.0 w.1)) ];
    }

-- the value at the end
pub gives_answers : {F T : Type 0} (value : T) → HaveAnswer (Gives {F = F} value) (Ok value)
gives_answers value = record { follows = refl; only = λ other h. h }

-- ---- where the computation stands within another

-- a row that finds, and others behind it, before more
pub find_within : {V W F T : Type 0} (IsFound : V → Type 0) (fault : F) (Next : V → Result T F → Type 0) (answer : Answer F V) (first : V → Answer F W) (next : W → Answer F T) → Finds IsFound fault answer
    → ((v : V) → IsFound v → HaveAnswer (Next v) (and_then (first v) next)) → HaveAnswer (Find IsFound fault Next) (and_then (and_then answer first) next)
find_within IsFound fault Next (Ok v) first next finds rows = find_answers IsFound fault Next (Ok v) (λ w. and_then (first w) next) finds rows
find_within IsFound fault Next (Err f) first next finds rows = find_answers IsFound fault Next (Err f) (λ w. and_then (first w) next) finds rows

-- a row that checks, likewise
pub check_within : {W F T : Type 0} (Holds : Type 0) (fault : F) (Next : Result T F → Type 0) (test : Bool) (first : ⊤ → Answer F W) (next : W → Answer F T) → Decides test Holds
    → (Holds → HaveAnswer Next (and_then (first tt) next)) → HaveAnswer (Check Holds fault Next) (and_then (and_then (check test fault) first) next)
check_within Holds fault Next true first next decides rows = check_answers Holds fault Next true (λ w. and_then (first w) next) decides rows
check_within Holds fault Next false first next decides rows = check_answers Holds fault Next false (λ w. and_then (first w) next) decides rows

-- and rows of their own
pub then_within : {V W F T : Type 0} (Rows : Result V F → Type 0) (Next : V → Result T F → Type 0) (answer : Answer F V) (first : V → Answer F W) (next : W → Answer F T) → HaveAnswer Rows answer
    → ((v : V) → answer ≡ Ok v → HaveAnswer (Next v) (and_then (first v) next)) → HaveAnswer (Then Rows Next) (and_then (and_then answer first) next)
then_within Rows Next (Ok v) first next has rows = then_answers Rows Next (Ok v) (λ w. and_then (first w) next) has rows
then_within Rows Next (Err f) first next has rows = then_answers Rows Next (Err f) (λ w. and_then (first w) next) has rows

-- checks in checks are checks one after the other
pub and_then_assoc : {F T U V : Type 0} (answer : Answer F T) (first : T → Answer F U) (second : U → Answer F V)
    → and_then (and_then answer first) second ≡ and_then answer (λ x. and_then (first x) second)
and_then_assoc (Ok x) first second = refl
and_then_assoc (Err f) first second = refl

-- ---- where only is kept that there is an answer

-- nothing, where there is an answer
abbrev pub told : {F U : Type 0} → Answer F U → Answer F ⊤
told answer = and_then answer (λ _. Ok tt)

-- rows that give nothing, before others
pub told_answers : {U F T : Type 0} (Rows : Result ⊤ F → Type 0) (Next : Result T F → Type 0) (answer : Answer F U) (next : U → Answer F T) → HaveAnswer Rows (told answer)
    → ((u : U) → answer ≡ Ok u → HaveAnswer Next (next u)) → HaveAnswer (Then Rows (λ _. Next)) (and_then answer next)
told_answers Rows Next (Ok u) next has rows = then_answers Rows (λ _. Next) (Ok tt) (λ _. next u) has (λ v h. rows u refl)
told_answers Rows Next (Err f) next has rows = then_answers Rows (λ _. Next) (Err f) (λ _. Err f) has (λ v h. let e = h in cc)

-- likewise where the computation stands within another
pub told_within : {U W F T : Type 0} (Rows : Result ⊤ F → Type 0) (Next : Result T F → Type 0) (answer : Answer F U) (first : U → Answer F W) (next : W → Answer F T) → HaveAnswer Rows (told answer)
    → ((u : U) → answer ≡ Ok u → HaveAnswer Next (and_then (first u) next)) → HaveAnswer (Then Rows (λ _. Next)) (and_then (and_then answer first) next)
told_within Rows Next (Ok u) first next has rows = told_answers Rows Next (Ok u) (λ w. and_then (first w) next) has rows
told_within Rows Next (Err f) first next has rows = told_answers Rows Next (Err f) (λ w. and_then (first w) next) has rows

-- a row that checks by an answer, of which the value is known
pub value_answers : {U F T : Type 0} (Holds : Type 0) (fault : F) (Next : Result T F → Type 0) (answer : Answer F U) (value : U) (next : U → Answer F T) → Finds (λ (u : U). Holds × (u ≡ value)) fault answer
    → (Holds → HaveAnswer Next (next value)) → HaveAnswer (Check Holds fault Next) (and_then answer next)
value_answers Holds fault Next (Ok u) value next finds rows =
    let here = finds.found u refl in
    let has = subst (λ v. HaveAnswer Next (next v)) (sym here.1) (rows here.0) in
    record {
      follows = inl (here.0, has.follows);
      only = λ other h. elim h [ inl w ↦ has.only other w.1 | inr w ↦ absurd (w.0 here.0) ];
    }
value_answers Holds fault Next (Err f) value next finds rows =
    let gone : Holds → ⊥ = λ h. let e = finds.finds value (h, refl) in cc in
    let same = finds.none f refl in
    record {
      follows = inr (gone, ap Err same);
      only = λ other h. elim h [ inl w ↦ absurd (gone w.0) | inr w ↦ w.1 ∙ ap Err (sym same) ];
    }

-- ---- what passed, where the answer is a value

-- a row that finds or checks
pub passed : {A N T F : Type 0} {x : T} {fault : F} → A ⊎ (N × (Ok x ≡ Err fault)) → A
passed h = elim h [ inl w ↦ w | inr w ↦ let e = w.1 in cc ]

-- rows of their own
pub passed_then : {A T F : Type 0} {Rows : F → Type 0} {x : T} → A ⊎ ((fault : F) × Rows fault × (Ok x ≡ Err fault)) → A
passed_then h = elim h [ inl w ↦ w | inr w ↦ let e = w.2 in cc ]

-- ---- answers with one fault

-- where it isn't a value, the answer is this fault
abbrev pub FaultIs : {F T : Type 0} → F → Answer F T → Type 0
FaultIs {F} fault answer = (other : F) → answer ≡ Err other → other ≡ fault

-- a value is none
pub ok_fault : {F T : Type 0} (fault : F) (x : T) → FaultIs fault (Ok x)
ok_fault fault x other h = cc

-- what isn't there
pub option_fault : {F T : Type 0} (fault : F) (o : Option T) → FaultIs fault (or_fault o fault)
option_fault fault None other h = cc
option_fault fault (Some x) other h = cc

-- a test that isn't passed
pub check_fault : {F : Type 0} (fault : F) (test : Bool) → FaultIs fault (check test fault)
check_fault fault true other h = cc
check_fault fault false other h = cc

-- one check after another
pub then_fault : {F T U : Type 0} (fault : F) (answer : Answer F T) (next : T → Answer F U) → FaultIs fault answer → ((x : T) → FaultIs fault (next x)) → FaultIs fault (and_then answer next)
then_fault fault (Ok x) next here behind = behind x
then_fault fault (Err f) next here behind = λ other h. let same : f ≡ other = cc in here other (ap Err same)

-- ---- rows that find, by their words alone

-- a row that finds a value of which there is one has one answer where those after it have one
pub find_one : {V F T : Type 0} (IsFound : V → Type 0) (fault : F) (Next : V → Result T F → Type 0) → ((v w : V) → IsFound v → IsFound w → v ≡ w)
    → ((v : V) → IsFound v → HasOneAnswer (Next v)) → HasOneAnswer (Find IsFound fault Next)
find_one IsFound fault Next unique later one other (inl h) (inl k) =
    let same : h.0 ≡ k.0 = unique h.0 k.0 h.1 k.1 in
    later k.0 k.1 one other (subst (λ v. Next v one) same h.2) k.2
find_one IsFound fault Next unique later one other (inl h) (inr k) = absurd (k.0 h.0 h.1)
find_one IsFound fault Next unique later one other (inr h) (inl k) = absurd (h.0 k.0 k.1)
find_one IsFound fault Next unique later one other (inr h) (inr k) = h.1 ∙ sym k.1
