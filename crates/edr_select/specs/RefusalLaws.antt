-- Laws of the refusal that is found: it is the first by its number; for the proofs of callers.
use Rattle.std.proofs.Common.{◌≡◌, ◌<◌, ◌≤◌, ◌+◌, ℕ, zero, suc, Bool, true, false, cond, List, [], ◌∷◌, length, Contains, Some, None, refl, ap, sym, ◌∙◌, subst, arith}
use Rattle.std.specs.declared.option.Option.{Option}
use Rattle.std.specs.List.{find, slice_index_or}
use Rattle.std.proofs.lemmas.Bool.{false≢true}
use Rattle.edr_base.specs.FirstThatApplies.{IsLeastOrNone}
use Rattle.edr_base.specs.declared.refusals.Refusal.{Refusal}
use Rattle.edr_base.specs.declared.refusals.Refusal.TheVariants.{UnknownCollection, UnknownInstance, UnknownLocation, QueryNotOffered, UnknownParameterName, BadCrs, NoLevels, NoSamples, TooLarge}
use Rattle.edr_edition.specs.Values.{CollectionValue, EditionValue, collection_id}
use Rattle.edr_edition.specs.Stores.{subject_in}
use Rattle.edr_ids.specs.Ids.{item_of}
use Rattle.edr_query.specs.declared.pages.Page.{Page}
use Rattle.edr_query.specs.declared.pages.Page.TheVariants.{Ask}
use Rattle.edr_query.specs.Values.{QueryValue}
use Rattle.edr_base.specs.RefusalTable.{rank}
use Rattle.edr_base.specs.RefusalLaws.{first_once}
use Rattle.edr_select.specs.Refusals.{applies, applies_in, applies_if, applies_if_found, applies_to_query, collection_named, in_order, refused, IsFirstRefusal, RefusalIsLeast, Applies, AppliesToQuery, IsFirstOfQuery}
use Rattle.edr_select.specs.Checks.{of_data, refused_query}

-- ---- refusals that aren't of an edition never apply

abbrev is_other : Refusal → Bool
is_other UnknownCollection = false
is_other UnknownInstance = false
is_other UnknownLocation = false
is_other QueryNotOffered = false
is_other UnknownParameterName = false
is_other BadCrs = false
is_other NoLevels = false
is_other NoSamples = false
is_other TooLarge = false
is_other other = true

none_if : {V : Type 0} (o : Option V) → applies_if (λ v. false) o ≡ true → ⊥
none_if None h = false≢true h
none_if (Some v) h = false≢true h

never_to_query : (collection : CollectionValue) (q : QueryValue) (r : Refusal) → is_other r ≡ true → applies_to_query collection q r ≡ true → ⊥
never_to_query collection q UnknownCollection other h = false≢true other
never_to_query collection q UnknownInstance other h = false≢true other
never_to_query collection q UnknownLocation other h = false≢true other
never_to_query collection q QueryNotOffered other h = false≢true other
never_to_query collection q UnknownParameterName other h = false≢true other
never_to_query collection q BadCrs other h = false≢true other
never_to_query collection q NoLevels other h = false≢true other
never_to_query collection q NoSamples other h = false≢true other
never_to_query collection q TooLarge other h = false≢true other
never_to_query collection q r other h = none_if (subject_in q.instance collection) h

never_in : (collection : CollectionValue) (page : Page) (r : Refusal) → is_other r ≡ true → applies_in collection page r ≡ true → ⊥
never_in collection page UnknownCollection other h = false≢true other
never_in collection page UnknownInstance other h = false≢true other
never_in collection page UnknownLocation other h = false≢true other
never_in collection page QueryNotOffered other h = false≢true other
never_in collection page UnknownParameterName other h = false≢true other
never_in collection page BadCrs other h = false≢true other
never_in collection page NoLevels other h = false≢true other
never_in collection page NoSamples other h = false≢true other
never_in collection page TooLarge other h = false≢true other
never_in collection (Ask q) r other h = never_to_query collection q r other h
never_in collection page r other h = false≢true h

never_found : (page : Page) (r : Refusal) (found : Option CollectionValue) → is_other r ≡ true → applies_if_found page r found ≡ true → ⊥
never_found page UnknownCollection None other h = false≢true other
never_found page r None other h = false≢true h
never_found page r (Some collection) other h = never_in collection page r other h

never_named : (edition : EditionValue) (page : Page) (r : Refusal) (named : Option (List ℕ)) → is_other r ≡ true
    → applies_if (λ id. applies_if_found page r (item_of collection_id id edition.collections)) named ≡ true → ⊥
never_named edition page r None other h = false≢true h
never_named edition page r (Some id) other h = never_found page r (item_of collection_id id edition.collections) other h

never : (edition : EditionValue) (page : Page) (r : Refusal) → is_other r ≡ true → applies edition page r ≡ true → ⊥
never edition page r other h = never_named edition page r (collection_named page) other h

-- ---- a list in the order of its numbers

abbrev Numbered : ℕ → List Refusal → Type 0
Numbered n [] = Unit {0}
Numbered n (r ∷ rs) = (rank r ≡ n) × Numbered (n + 1) rs

from_number : (n : ℕ) (rs : List Refusal) → Numbered n rs → (r : Refusal) (k : ℕ) → k < length rs → slice_index_or rs k r ≡ r → n ≤ rank r
from_number n [] h r k l e = absurd (omega arith)
from_number n (x ∷ rs) h r zero l e = omega (arith, h.0, ap rank e)
from_number n (x ∷ rs) h r (suc k) l e = omega (arith, from_number (n + 1) rs h.1 r k (omega arith) e)

abbrev Least : (Refusal → Bool) → Option Refusal → Type 0
Least t = IsLeastOrNone rank (λ r. t r ≡ true)

-- what applies is among these
abbrev Covers : (Refusal → Bool) → List Refusal → Type 0
Covers t rs = (r : Refusal) → t r ≡ true → Contains rs r

least : (t : Refusal → Bool) (n : ℕ) (rs : List Refusal) → Numbered n rs → Covers t rs → Least t (find t rs)
least t n [] numbered covers = λ r h. absurd (omega (arith, (covers r h).1))
least t n (x ∷ rs) numbered covers = here (t x) refl (least t (n + 1) rs numbered.1)
  where
    later : t x ≡ false → (r : Refusal) → t r ≡ true → (k : ℕ) → k < length (x ∷ rs) → slice_index_or (x ∷ rs) k r ≡ r → Contains rs r
    later e r h zero l same = absurd (false≢true (sym e ∙ (ap t same ∙ h)))
    later e r h (suc k) l same = (k, omega arith, same)

    here : (b : Bool) → t x ≡ b → (Covers t rs → Least t (find t rs)) → Least t (cond (t x) (Some x) (find t rs))
    here true e rest =
        subst (λ b. Least t (cond b (Some x) (find t rs))) (sym e)
        (record { applies = e; none_before = λ r below h. (let c = covers r h in absurd (omega (arith, numbered.0, below, from_number n (x ∷ rs) numbered r c.0 c.1 c.2))) })
    here false e rest =
        subst (λ b. Least t (cond b (Some x) (find t rs))) (sym e) (rest (λ r h. let c = covers r h in later e r h c.0 c.1 c.2))

-- ---- the refusals of an edition

numbered : Numbered 18 in_order
numbered = (refl, (refl, (refl, (refl, (refl, (refl, (refl, (refl, (refl, tt)))))))))

covered : (edition : EditionValue) (page : Page) (r : Refusal) → applies edition page r ≡ true → Contains in_order r
covered edition page UnknownCollection h = (0, omega arith, refl)
covered edition page UnknownInstance h = (1, omega arith, refl)
covered edition page UnknownLocation h = (2, omega arith, refl)
covered edition page QueryNotOffered h = (3, omega arith, refl)
covered edition page UnknownParameterName h = (4, omega arith, refl)
covered edition page BadCrs h = (5, omega arith, refl)
covered edition page NoLevels h = (6, omega arith, refl)
covered edition page NoSamples h = (7, omega arith, refl)
covered edition page TooLarge h = (8, omega arith, refl)
covered edition page r h = absurd (never edition page r refl h)

is_least : (edition : EditionValue) (page : Page) (o : Option Refusal) → Least (applies edition page) o → IsFirstRefusal edition page o
is_least edition page None h = h
is_least edition page (Some r) h = h

pub refusal_is_least : RefusalIsLeast
refusal_is_least edition page = is_least edition page (refused edition page) (least (applies edition page) 18 in_order numbered (covered edition page))

-- a refusal that is found, or none, is the first
pub found_first : (edition : EditionValue) (page : Page) (o : Option Refusal) → refused edition page ≡ o → IsFirstRefusal edition page o
found_first edition page o is = subst (IsFirstRefusal edition page) is (refusal_is_least edition page)

-- and the first is found
pub first_found : (edition : EditionValue) (page : Page) (o : Option Refusal) → IsFirstRefusal edition page o → refused edition page ≡ o
first_found edition page o first = first_once (Applies edition page) (refused edition page) o (refusal_is_least edition page) first

-- ---- the refusals of a query, from that of names on

covered_of_query : (collection : CollectionValue) (q : QueryValue) (r : Refusal) → applies_to_query collection q r ≡ true
    → Contains (UnknownParameterName ∷ (BadCrs ∷ of_data)) r
covered_of_query collection q UnknownParameterName h = (0, omega arith, refl)
covered_of_query collection q BadCrs h = (1, omega arith, refl)
covered_of_query collection q NoLevels h = (2, omega arith, refl)
covered_of_query collection q NoSamples h = (3, omega arith, refl)
covered_of_query collection q TooLarge h = (4, omega arith, refl)
covered_of_query collection q r h = absurd (none_if (subject_in q.instance collection) h)

is_first_of_query : (collection : CollectionValue) (q : QueryValue) (o : Option Refusal) → Least (applies_to_query collection q) o → IsFirstOfQuery collection q o
is_first_of_query collection q None h = h
is_first_of_query collection q (Some r) h = h

query_refusal_is_first : (collection : CollectionValue) (q : QueryValue) → IsFirstOfQuery collection q (refused_query collection q)
query_refusal_is_first collection q =
    is_first_of_query collection q (refused_query collection q)
    (least (applies_to_query collection q) 22 (UnknownParameterName ∷ (BadCrs ∷ of_data)) (refl, (refl, (refl, (refl, (refl, tt))))) (covered_of_query collection q))

pub found_of_query : (collection : CollectionValue) (q : QueryValue) (o : Option Refusal) → refused_query collection q ≡ o → IsFirstOfQuery collection q o
found_of_query collection q o is = subst (IsFirstOfQuery collection q) is (query_refusal_is_first collection q)

pub of_query_found : (collection : CollectionValue) (q : QueryValue) (o : Option Refusal) → IsFirstOfQuery collection q o → refused_query collection q ≡ o
of_query_found collection q o first = first_once (AppliesToQuery collection q) (refused_query collection q) o (query_refusal_is_first collection q) first
