-- The rest: what is held, and what is left of the source.
use Rattle.std.proofs.Common.{◌≡◌, ℕ, ◌+◌, ◌≤◌, ◌<◌, length, length-append, List, [], ◌++◌, take, drop, sym, ap, subst, ◌∙◌, Some, None, append-nil, arith}
use Rattle.std.specs.Prelude.{IfSome, IsErrAnd, Result, Err}
use Rattle.std.specs.declared.option.Option.{Option}
use Rattle.std.specs.Io.KnownBytes.{prepend_known, IsAtEnd}
use Rattle.std.proofs.lemmas.List.{take-append-drop, length-take-le}
use Rattle.std.proofs.Math.Seq.{drop-append_seam}
use mathlib.Core.List.{append_assoc}
use Rattle.edr_base.specs.Calls.{ReadsAtMost}
use Rattle.edr_base.specs.KnownBytes.{prepend_more, took_on}
use Rattle.edr_reply.specs.Taking.{TakesSome, TakesOnto}

-- a fault that is handed on is the same
pub handed_on : {T E : Type 0} (r : Result T E) (found fault : E) → IsErrAnd r (λ e. e ≡ found) → r ≡ Err fault → found ≡ fault
handed_on r found fault h e = sym (subst (λ z. IsErrAnd z (λ e. e ≡ found)) e h)

-- a text at the front of what is held was taken
pub front_taken : (held text rest : List ℕ) (n : ℕ) (left : Option (List ℕ)) → held ≡ text ++ rest → n ≡ length text
    → prepend_known held left ≡ prepend_known text (prepend_known (drop n held) left)
front_taken held text rest n left e l =
    let back : drop n held ≡ rest = ap (λ k. drop k held) l ∙ (ap (drop (length text)) e ∙ drop-append_seam text rest) in
    ap (λ w. prepend_known w left) e ∙ (sym (prepend_more left text rest) ∙ ap (λ w. prepend_known text (prepend_known w left)) (sym back))

-- and isn't longer
pub front_short : (held text rest : List ℕ) (n : ℕ) → held ≡ text ++ rest → n ≡ length text → n ≤ length held
front_short held text rest n e l = omega (arith, ap length e, length-append text rest, l)

-- what lacks in all that is there lacks in the rest
pub lacks_now : (P : List ℕ → Type 0) (held : List ℕ) (left : Option (List ℕ)) → P held → IsAtEnd left → IfSome (prepend_known held left) P
lacks_now P held None p e = tt
lacks_now P held (Some bytes) p e = subst P (sym (ap (λ w. held ++ w) e ∙ append-nil held)) p

-- and what lacks whatever follows
pub lacks_ever : (P : List ℕ → Type 0) (held : List ℕ) (left : Option (List ℕ)) → ((more : List ℕ) → P (held ++ more)) → IfSome (prepend_known held left) P
lacks_ever P held None never = tt
lacks_ever P held (Some bytes) never = never bytes

-- what holds of what is held, where nothing else of what follows was taken
pub some_held : (P : List ℕ → Type 0) (held held' : List ℕ) (old left : Option (List ℕ)) → P held → held' ≡ held → prepend_known held' left ≡ old → TakesSome P old left
some_held P held held' old left p e f = record { bytes = held'; read = sym f; holds = subst P (sym e) p }

-- ---- bytes that are put behind a body

pub moved_onto : (n : ℕ) (held held' body body' : List ℕ) (left : Option (List ℕ)) → n ≤ length held → body' ≡ body ++ take n held → held' ≡ drop n held
    → TakesOnto n body body' (prepend_known held left) (prepend_known held' left)
moved_onto n held held' body body' left few e f = record {
  bytes = take n held;
  count = length-take-le n held few;
  body_is = e;
  rest_is = ap (λ w. prepend_known w left) (sym (take-append-drop n held)) ∙ (sym (prepend_more left (take n held) (drop n held)) ∙ ap (λ w. prepend_known (take n held) (prepend_known w left)) (sym f));
}

pub onto_more : (n m : ℕ) (a b c : List ℕ) (x y z : Option (List ℕ)) → TakesOnto n a b x y → TakesOnto m b c y z → TakesOnto (n + m) a c x z
onto_more n m a b c x y z s t = record {
  bytes = s.bytes ++ t.bytes;
  count = omega (arith, length-append s.bytes t.bytes, s.count, t.count);
  body_is = t.body_is ∙ (ap (λ w. w ++ t.bytes) s.body_is ∙ append_assoc a s.bytes t.bytes);
  rest_is = took_on x y z s.bytes t.bytes s.rest_is t.rest_is;
}

pub onto_most : (most n : ℕ) (a b : List ℕ) (x y : Option (List ℕ)) → TakesOnto n a b x y → n ≤ most → ReadsAtMost most x y
onto_most most n a b x y s few = record { bytes = s.bytes; read = s.rest_is; within = omega (arith, s.count, few) }

-- nothing more is there
pub ended_now : (held : List ℕ) (left : Option (List ℕ)) → held ≡ [] → IsAtEnd left → IsAtEnd (prepend_known held left)
ended_now held None e f = tt
ended_now held (Some bytes) e f = ap (λ w. w ++ bytes) e ∙ f

-- fewer than were to come
pub too_few : (n size : ℕ) (a b : List ℕ) (x y : Option (List ℕ)) → TakesOnto n a b x y → n < size → IsAtEnd y → IfSome x (λ bytes. length bytes < size)
too_few n size a b None y s few e = tt
too_few n size a b (Some bytes) None s few e = absurd (untold s.rest_is)
  where
    untold : Some bytes ≡ None → ⊥
    untold e = cc
too_few n size a b (Some bytes) (Some rest) s few e =
    let whole : bytes ≡ s.bytes ++ rest = told s.rest_is in
    omega (arith, ap length whole, length-append s.bytes rest, ap length e, s.count, few)
  where
    told : Some bytes ≡ Some (s.bytes ++ rest) → bytes ≡ s.bytes ++ rest
    told e = cc

-- more than may come
pub too_many : (n limit : ℕ) (a b : List ℕ) (x y : Option (List ℕ)) → TakesOnto n a b x y → limit < n → IfSome x (λ bytes. limit < length bytes)
too_many n limit a b None y s many = tt
too_many n limit a b (Some bytes) None s many = absurd (untold s.rest_is)
  where
    untold : Some bytes ≡ None → ⊥
    untold e = cc
too_many n limit a b (Some bytes) (Some rest) s many =
    let whole : bytes ≡ s.bytes ++ rest = told s.rest_is in
    omega (arith, ap length whole, length-append s.bytes rest, s.count, many)
  where
    told : Some bytes ≡ Some (s.bytes ++ rest) → bytes ≡ s.bytes ++ rest
    told e = cc

-- fewer than were to come, where nothing is held
pub some_taken : (most n : ℕ) (a b held : List ℕ) (x left : Option (List ℕ)) → TakesOnto n a b x (prepend_known held left) → n < most → length held ≡ 0 → TakesSome (λ bytes. length bytes < most) x left
some_taken most n a b held x left s few none = record {
  bytes = s.bytes ++ held;
  read = s.rest_is ∙ prepend_more left s.bytes held;
  holds = omega (arith, length-append s.bytes held, s.count, few, none);
}
