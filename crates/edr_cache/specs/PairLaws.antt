-- Laws of the pairs of a store, for the proofs of callers.
use Rattle.std.proofs.Common.{◌≡◌, ℕ, true, not, bytes_eq, List, [], ◌∷◌, All, IfSome, Option, Some, None, inl, inr, refl, sym, subst}
use Rattle.std.proofs.lemmas.Bool.{cases_Bool}
use Rattle.std.proofs.lemmas.List.Elements.{All-cons, All-head, All-tail, All-take, All-filter}
use Rattle.std.proofs.lemmas.Slice.Eq.{bytes_eq-Decides}
use Rattle.std.specs.Option.{option_map_or}
use Rattle.edr_cache.specs.Pairs.{Pair, body_of, without, with_first, to_front, with_body}

-- ---- what holds of each pair

module _ (P : Pair → Type 0) (target : List ℕ) where
  -- it holds of that of a target
  pub All-body_of : (pairs : List Pair) → All P pairs → IfSome (body_of target pairs) (λ body. P (target, body))
  All-body_of [] all = tt
  All-body_of (pair ∷ pairs) all =
      elim (cases_Bool (bytes_eq target pair.0)) [
        | inl same ↦ rw same (subst (λ key. P (key, pair.1)) (sym ((bytes_eq-Decides target pair.0).0 same)) (All-head P pair pairs all))
        | inr other ↦ rw other (All-body_of pairs (All-tail P pair pairs all))
      ]

  pub All-with_first : (body : List ℕ) (pairs : List Pair) → P (target, body) → All P pairs → All P (with_first target body pairs)
  All-with_first body pairs new all = All-cons P (target, body) (without target pairs) new (All-filter (λ pair. not (bytes_eq target pair.0)) P pairs all)

  fronted : (pairs : List Pair) (found : Option (List ℕ)) → IfSome found (λ body. P (target, body)) → All P pairs
      → All P (option_map_or (λ body. with_first target body pairs) found pairs)
  fronted pairs None one all = all
  fronted pairs (Some body) one all = All-with_first body pairs one all

  -- it holds of each once one of them was used
  pub All-to_front : (pairs : List Pair) → All P pairs → All P (to_front target pairs)
  All-to_front pairs all = fronted pairs (body_of target pairs) (All-body_of pairs all) all

  -- it holds of each once a pair was put of which it holds
  pub All-with_body : (capacity : ℕ) (body : List ℕ) (pairs : List Pair) → P (target, body) → All P pairs → All P (with_body capacity target body pairs)
  All-with_body capacity body pairs new all = All-take P capacity (with_first target body pairs) (All-with_first body pairs new all)

-- ---- the body of a target

pub bytes_eq_itself : (target : List ℕ) → bytes_eq target target ≡ true
bytes_eq_itself target = (bytes_eq-Decides target target).1 refl

fronted_body : (target : List ℕ) (pairs : List Pair) (found : Option (List ℕ)) → body_of target pairs ≡ found
    → body_of target (option_map_or (λ body. with_first target body pairs) found pairs) ≡ found
fronted_body target pairs None is = is
fronted_body target pairs (Some body) is = rw (bytes_eq_itself target) refl

-- a target that was asked for keeps its body
pub body_of-to_front : (target : List ℕ) (pairs : List Pair) → body_of target (to_front target pairs) ≡ body_of target pairs
body_of-to_front target pairs = fronted_body target pairs (body_of target pairs) refl
