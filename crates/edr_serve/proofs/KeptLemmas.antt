-- What is kept of replies stays what an edition answers.
use Rattle.std.proofs.Common.{◌≡◌, inl, inr, ℕ, ◌<◌, ◌≤◌, List, [], length, sym, subst, refl, Some, None, Ok, Err}
use Rattle.std.specs.declared.option.Option.{Option}
use Rattle.std.specs.Prelude.{Result, IsOk, OnOk, OnErr}
use Rattle.std.proofs.lemmas.Bool.{cases_lt}
use Rattle.edr_cache.specs.Limits.{kept_limit}
use Rattle.edr_cache.specs.Pairs.{Pair, Held, held, to_front, with_body}
use Rattle.edr_cache.specs.PairLaws.{All-to_front, All-with_body}
use Rattle.edr_edition.specs.Values.{EditionValue}
use Rattle.edr_serve.specs.Keeping.{IsDataOf, AreDataOf, MayBeKept, Puts}

-- ---- what holds of a store always

pub data_fronted : (o : Option EditionValue) (target : List ℕ) (pairs : List Pair) → AreDataOf o pairs → AreDataOf o (to_front target pairs)
data_fronted None target pairs none = subst (λ (ps : List Pair). to_front target ps ≡ []) (sym none) refl
data_fronted (Some e) target pairs all = All-to_front (IsDataOf e) target pairs all

pub data_more : (o : Option EditionValue) (capacity : ℕ) (target body : List ℕ) (pairs : List Pair) → MayBeKept o (target, body) → AreDataOf o pairs
    → AreDataOf o (with_body capacity target body pairs)
data_more None capacity target body pairs may all = absurd may
data_more (Some e) capacity target body pairs may all = All-with_body (IsDataOf e) target capacity body pairs may all

pub data_put : (o : Option EditionValue) (target body : List ℕ) (a b : Held) → MayBeKept o (target, body) → AreDataOf o a.pairs → Puts body target a b → AreDataOf o b.pairs
data_put o target body a b may all (inl same) = subst (λ (h : Held). AreDataOf o h.pairs) (sym same) all
data_put o target body a b may all (inr put) = subst (λ (h : Held). AreDataOf o h.pairs) (sym put.1) (data_more o a.capacity target body a.pairs may all)

-- what a put leaves
pub put_puts : {T E : Type 0} (r : Result T E) (target body : List ℕ) (a b : Held)
    → (length body ≤ kept_limit → OnOk r (b ≡ held (with_body a.capacity target body a.pairs) a.capacity)) → (kept_limit < length body → IsOk r × (b ≡ a)) → OnErr r (b ≡ a)
    → Puts body target a b
put_puts (Err e) target body a b kept long same = inl same
put_puts (Ok x) target body a b kept long same =
    elim (cases_lt kept_limit (length body)) [ inl more ↦ inl (long more).1 | inr few ↦ inr (few, kept few) ]
