-- Replies, text by text.
use Rattle.std.proofs.Common.{◌≡◌, ℕ, List, ◌++◌, ⊎_elim, subst, ap₂, Ok, Err}
use Rattle.std.specs.declared.option.Option.{Option}
use Rattle.std.specs.Prelude.{Result, IsErr}
use Rattle.std.specs.Io.KnownBytes.{append_known}
use Rattle.edr_base.specs.Calls.{Front, Writes}
use Rattle.edr_base.specs.KnownBytes.{writes_on, writes_stop}
use Rattle.edr_http.specs.Replies.{IsStatus}

-- a text was written whole, and another behind it
pub written_on : {T E : Type 0} (r : Result T E) (a b c : Option (List ℕ)) (xs ys first second : List ℕ) → xs ≡ first → ys ≡ second → b ≡ append_known a xs → Writes r ys b c → Writes r (first ++ second) a c
written_on r a b c xs ys first second e f g w = subst (λ (t : List ℕ). Writes r t a c) (ap₂ (λ x y. x ++ y) e f) (writes_on r a b c xs ys g w)

-- the first of them wasn't written whole
pub stopped_first : {T E : Type 0} (r : Result T E) (a b : Option (List ℕ)) (xs ys : List ℕ) → IsErr r → Front xs a b → Writes r (xs ++ ys) a b
stopped_first (Ok x) a b xs ys stopped f = absurd (cc stopped)
stopped_first {T} (Err e) a b xs ys stopped f = writes_stop T e a b xs ys f

pub written_stop : {T E : Type 0} (r : Result T E) (a b : Option (List ℕ)) (xs first second : List ℕ) → IsErr r → xs ≡ first → Front xs a b → Writes r (first ++ second) a b
written_stop r a b xs first second stopped s f = stopped_first r a b first second stopped (subst (λ (t : List ℕ). Front t a b) s f)

-- of the statuses the last is 505
pub last_status : (s : ℕ) → IsStatus s → ¬ (s ≡ 200) → ¬ (s ≡ 400) → ¬ (s ≡ 404) → ¬ (s ≡ 405) → ¬ (s ≡ 413) → s ≡ 505
last_status s h a b c d e =
    ⊎_elim (λ t. absurd (a t)) (λ h. ⊎_elim (λ t. absurd (b t)) (λ h. ⊎_elim (λ t. absurd (c t)) (λ h. ⊎_elim (λ t. absurd (d t)) (λ h. ⊎_elim (λ t. absurd (e t)) (λ t. t) h) h) h) h) h
