-- Laws of splits: there is one, and where it stands.
use Rattle.std.proofs.Common.{◌≡◌, ℕ, zero, suc, subst, ap, ap₂, sym, ◌∙◌, refl, ◌<◌, ◌≤◌, Bool, true, false, List, [], ◌∷◌, ◌++◌, length, take, drop, get_or}
use Rattle.std.proofs.lemmas.Bool.{false≢true}
use Rattle.std.proofs.lemmas.List.{take-append-drop, append-nil}
use Rattle.std.proofs.Math.Nat.{zero-lt-suc, suc-le-suc_iff, le_trans}
use Rattle.edr_base.specs.NumberParts.{NonePass, Stops, IsSplit}

abbrev first_of : List ℕ → ℕ
first_of [] = 0
first_of (c ∷ cs) = c

abbrev rest_of : List ℕ → List ℕ
rest_of [] = []
rest_of (c ∷ cs) = cs

-- two texts that begin with the same byte
pub same_first : (a b : ℕ) (x y : List ℕ) → a ∷ x ≡ b ∷ y → a ≡ b
same_first a b x y e = ap first_of e

pub same_rest : (a b : ℕ) (x y : List ℕ) → a ∷ x ≡ b ∷ y → x ≡ y
same_rest a b x y e = ap rest_of e

parts_same : (p : ℕ → Bool) (a x b y : List ℕ) → NonePass p a → Stops p x → NonePass p b → Stops p y → a ++ x ≡ b ++ y → (a ≡ b) × (x ≡ y)
parts_same p [] x [] y none stops none' stops' e = (refl, e)
parts_same p [] x (d ∷ b) y none stops none' stops' e = absurd (false≢true (sym none'.0 ∙ subst (Stops p) e stops))
parts_same p (c ∷ a) x [] y none stops none' stops' e = absurd (false≢true (sym none.0 ∙ subst (Stops p) (sym e) stops'))
parts_same p (c ∷ a) x (d ∷ b) y none stops none' stops' e =
    let rest = parts_same p a x b y none.1 stops none'.1 stops' (same_rest c d (a ++ x) (b ++ y) e) in
    (ap₂ (λ h t. h ∷ t) (same_first c d (a ++ x) (b ++ y) e) rest.0, rest.1)

-- there is one split
pub IsSplit-unique : (p : ℕ → Bool) (text a x b y : List ℕ) → IsSplit p text a x → IsSplit p text b y → (a ≡ b) × (x ≡ y)
IsSplit-unique p text a x b y s t = parts_same p a x b y s.before s.stops t.before t.stops (sym s.text_is ∙ t.text_is)

none_before : (p : ℕ → Bool) (text : List ℕ) (n : ℕ) → n ≤ length text → ((k : ℕ) → k < n → p (get_or text k 0) ≡ false) → NonePass p (take n text)
none_before p text zero h none = tt
none_before p [] (suc n) h none = tt
none_before p (c ∷ text) (suc n) h none = (none 0 (zero-lt-suc n), none_before p text n (suc-le-suc_iff.0 h) (λ k l. none (suc k) (suc-le-suc_iff.1 l)))

stops_there : (p : ℕ → Bool) (text : List ℕ) (n : ℕ) → (n < length text → p (get_or text n 0) ≡ true) → Stops p (drop n text)
stops_there p [] zero stops = tt
stops_there p (c ∷ text) zero stops = stops (zero-lt-suc (length text))
stops_there p [] (suc n) stops = tt
stops_there p (c ∷ text) (suc n) stops = stops_there p text n (λ l. stops (suc-le-suc_iff.1 l))

-- the split by places: none before passes, and the byte there does
pub IsSplit-at : (p : ℕ → Bool) (text : List ℕ) (n : ℕ) → n ≤ length text → ((k : ℕ) → k < n → p (get_or text k 0) ≡ false) → (n < length text → p (get_or text n 0) ≡ true)
    → IsSplit p text (take n text) (drop n text)
IsSplit-at p text n h none stops = record { text_is = sym (take-append-drop n text); before = none_before p text n h none; stops = stops_there p text n stops }

none_in : (p : ℕ → Bool) (text : List ℕ) → ((k : ℕ) → k < length text → p (get_or text k 0) ≡ false) → NonePass p text
none_in p [] none = tt
none_in p (c ∷ text) none = (none 0 (zero-lt-suc (length text)), none_in p text (λ k l. none (suc k) (suc-le-suc_iff.1 l)))

-- the split at the end of a text without such a byte
pub IsSplit-all : (p : ℕ → Bool) (text : List ℕ) (i : ℕ) → length text ≤ i → ((k : ℕ) → k < i → p (get_or text k 0) ≡ false) → IsSplit p text text []
IsSplit-all p text i h none = record { text_is = sym (append-nil text); before = none_in p text (λ k l. none k (le_trans l h)); stops = tt }
