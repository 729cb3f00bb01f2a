-- Lists of numbers that grow.
use Rattle.std.proofs.Common.{rules, ◌≡◌, ℕ, List, [], ◌++◌, refl, ap, sym, ◌∙◌, append_assoc, append-nil, subst}
use Rattle.std.specs.Prelude.{Result, Ok, Err, IsErr}
use Rattle.edr_send.specs.Sending.{Opens}
use Rattle.edr_send.specs.Filling.{Added, Adds}

pub adds_begun : {T E : Type 0} (r : Result T E) (wanted old new : List ℕ) → IsErr r → Added wanted old new → Adds r wanted old new
adds_begun (Ok x) wanted old new is f = absurd (search (rules, is))
adds_begun (Err e) wanted old new is f = record { all = tt; begun = f }

-- all of them, as another tells them
pub adds_same : {T E : Type 0} (r : Result T E) (xs ys old new : List ℕ) → xs ≡ ys → Adds r xs old new → Adds r ys old new
adds_same r xs ys old new e w = subst (λ (l : List ℕ). Adds r l old new) e w

-- nothing more, or all of them
pub adds_none : {T E : Type 0} (r : Result T E) (wanted old new : List ℕ) → IsErr r → new ≡ old → Adds r wanted old new
adds_none r wanted old new is same = adds_begun r wanted old new is (record { front = []; begins = (wanted, refl); grew = same ∙ sym (append-nil old) })

pub adds_all : {T E : Type 0} (r : Result T E) (xs wanted old new : List ℕ) → xs ≡ wanted → new ≡ old ++ xs → Adds r wanted old new
adds_all r xs wanted old new same e = all_of r (e ∙ ap (λ (l : List ℕ). old ++ l) same)
  where
    all_of : {T E : Type 0} (r : Result T E) → new ≡ old ++ wanted → Adds r wanted old new
    all_of (Ok x) e = record { all = e; begun = record { front = wanted; begins = ([], sym (append-nil wanted)); grew = e } }
    all_of (Err f) e = record { all = tt; begun = record { front = wanted; begins = ([], sym (append-nil wanted)); grew = e } }

-- some were added before, and the first of the others then
pub adds_fault : {T E : Type 0} (r : Result T E) (before others rest wanted a b c : List ℕ) → IsErr r → b ≡ a ++ before → wanted ≡ (before ++ others) ++ rest → Added others b c → Adds r wanted a c
adds_fault r before others rest wanted a b c is e whole f = adds_begun r wanted a c is (record {
  front = before ++ f.front;
  begins = (
    f.begins.0 ++ rest,
    whole ∙ ap (λ (l : List ℕ). (before ++ l) ++ rest) f.begins.1 ∙ ap (λ (l : List ℕ). l ++ rest) (sym (append_assoc before f.front f.begins.0)) ∙ append_assoc (before ++ f.front) f.begins.0 rest,
  );
  grew = f.grew ∙ ap (λ (l : List ℕ). l ++ f.front) e ∙ append_assoc a before f.front;
})

pub added_on : (before others whole a b c : List ℕ) → b ≡ a ++ before → c ≡ b ++ others → whole ≡ before ++ others → c ≡ a ++ whole
added_on before others whole a b c e f g = f ∙ ap (λ (l : List ℕ). l ++ others) e ∙ append_assoc a before others ∙ ap (λ (l : List ℕ). a ++ l) (sym g)

-- ---- from an empty list on

pub opens_begun : {T E : Type 0} (r : Result T E) (wanted others old new : List ℕ) → IsErr r → old ≡ [] → wanted ≡ others → Added wanted old new → Opens r others new
opens_begun (Ok x) wanted others old new is none same f = absurd (search (rules, is))
opens_begun (Err e) wanted others old new is none same f =
    let grew : new ≡ f.front = f.grew ∙ ap (λ (l : List ℕ). l ++ f.front) none in
    record { all = tt; begun = (f.begins.0, sym same ∙ f.begins.1 ∙ ap (λ (l : List ℕ). l ++ f.begins.0) (sym grew)) }
