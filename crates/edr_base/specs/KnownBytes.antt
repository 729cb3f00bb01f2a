-- Laws of bytes that are told by some objects only: an equation says both that they are told still and what they are.
use Rattle.std.proofs.Common.{◌≡◌, ℕ, List, [], ◌++◌, sym, ap, ◌∙◌, refl, Some, None, append-nil}
use Rattle.std.specs.declared.option.Option.{Option}
use Rattle.std.specs.Prelude.{Result, Ok, Err}
use mathlib.Core.List.{append_assoc}
use Rattle.std.specs.Io.KnownBytes.{append_known, prepend_known}
use Rattle.edr_base.specs.Calls.{Front, Writes}

pub append_nothing : (w : Option (List ℕ)) → w ≡ append_known w []
append_nothing None = refl
append_nothing (Some xs) = ap Some (sym (append-nil xs))

pub append_more : (w : Option (List ℕ)) (xs ys : List ℕ) → append_known (append_known w xs) ys ≡ append_known w (xs ++ ys)
append_more None xs ys = refl
append_more (Some ws) xs ys = ap Some (append_assoc ws xs ys)

pub prepend_nothing : (l : Option (List ℕ)) → l ≡ prepend_known [] l
prepend_nothing None = refl
prepend_nothing (Some xs) = refl

pub prepend_more : (l : Option (List ℕ)) (xs ys : List ℕ) → prepend_known xs (prepend_known ys l) ≡ prepend_known (xs ++ ys) l
prepend_more None xs ys = refl
prepend_more (Some ls) xs ys = ap Some (sym (append_assoc xs ys ls))

-- two writes after one another are one
pub grew_on : (a b c : Option (List ℕ)) (xs ys : List ℕ) → b ≡ append_known a xs → c ≡ append_known b ys → c ≡ append_known a (xs ++ ys)
grew_on a b c xs ys p q = q ∙ (ap (λ w. append_known w ys) p ∙ append_more a xs ys)

-- two reads after one another are one
pub took_on : (a b c : Option (List ℕ)) (xs ys : List ℕ) → a ≡ prepend_known xs b → b ≡ prepend_known ys c → a ≡ prepend_known (xs ++ ys) c
took_on a b c xs ys p q = p ∙ (ap (λ w. prepend_known xs w) q ∙ prepend_more c xs ys)

-- the whole piece went out
pub front_whole : (old new : Option (List ℕ)) (piece : List ℕ) → new ≡ append_known old piece → Front piece old new
front_whole old new piece e = record { bytes = piece; begins = ([], sym (append-nil piece)); grew = e }

-- nothing went out
pub front_none : (old new : Option (List ℕ)) (piece : List ℕ) → new ≡ old → Front piece old new
front_none old new piece e = record { bytes = []; begins = (piece, refl); grew = e ∙ append_nothing old }

-- some bytes are out, and a beginning of the rest goes out
pub front_on : (a b c : Option (List ℕ)) (xs ys : List ℕ) → b ≡ append_known a xs → Front ys b c → Front (xs ++ ys) a c
front_on a b c xs ys p f = record {
  bytes = xs ++ f.bytes;
  begins = (f.begins.0, ap (λ w. xs ++ w) f.begins.1 ∙ sym (append_assoc xs f.bytes f.begins.0));
  grew = grew_on a b c xs f.bytes p f.grew;
}

-- a beginning of the first bytes went out
pub front_more : (a b : Option (List ℕ)) (xs ys : List ℕ) → Front xs a b → Front (xs ++ ys) a b
front_more a b xs ys f = record {
  bytes = f.bytes;
  begins = (f.begins.0 ++ ys, ap (λ w. w ++ ys) f.begins.1 ∙ append_assoc f.bytes f.begins.0 ys);
  grew = f.grew;
}

-- a text is written behind one that was
pub writes_on : {T E : Type 0} (r : Result T E) (a b c : Option (List ℕ)) (xs ys : List ℕ) → b ≡ append_known a xs → Writes r ys b c → Writes r (xs ++ ys) a c
writes_on (Ok x) a b c xs ys p w = record { whole = grew_on a b c xs ys p w.whole; front = front_on a b c xs ys p w.front }
writes_on (Err e) a b c xs ys p w = record { whole = tt; front = front_on a b c xs ys p w.front }

-- the first text wasn't written whole
pub writes_stop : (T : Type 0) {E : Type 0} (e : E) (a b : Option (List ℕ)) (xs ys : List ℕ) → Front xs a b → Writes {T = T} (Err e) (xs ++ ys) a b
writes_stop T e a b xs ys f = record { whole = tt; front = front_more a b xs ys f }
