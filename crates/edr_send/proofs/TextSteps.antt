-- A text that is written piece by piece.
use Rattle.std.proofs.Common.{rules, ◌≡◌, ℕ, List, [], ◌++◌, refl, ap, sym, ◌∙◌, subst, append_assoc, append-nil}
use Rattle.std.specs.declared.option.Option.{Option}
use Rattle.std.specs.Prelude.{Result, Ok, Err, IsErr}
use Rattle.std.specs.Io.KnownBytes.{append_known}
use Rattle.edr_base.specs.Calls.{Front, Writes}
use Rattle.edr_base.specs.KnownBytes.{append_nothing, grew_on, front_whole, front_on, front_more, writes_on}
use Rattle.edr_send.specs.Gathered.{AllBut}

-- nothing of it was written yet, or all of it
pub all_but_all : (whole : List ℕ) (a : Option (List ℕ)) → AllBut whole whole a a
all_but_all whole a = record { front = []; whole_is = refl; grew = append_nothing a }

pub all_but_none : {T E : Type 0} (r : Result T E) (whole : List ℕ) (a b : Option (List ℕ)) → AllBut [] whole a b → Writes r whole a b
all_but_none r whole a b f = done r (f.grew ∙ ap (append_known a) (sym (f.whole_is ∙ append-nil f.front)))
  where
    done : {T E : Type 0} (r : Result T E) → b ≡ append_known a whole → Writes r whole a b
    done (Ok x) e = record { whole = e; front = front_whole a b whole e }
    done (Err f) e = record { whole = tt; front = front_whole a b whole e }

pub all_but_on : (xs ys whole : List ℕ) (a b c : Option (List ℕ)) → AllBut (xs ++ ys) whole a b → c ≡ append_known b xs → AllBut ys whole a c
all_but_on xs ys whole a b c f e = record {
  front = f.front ++ xs;
  whole_is = f.whole_is ∙ sym (append_assoc f.front xs ys);
  grew = grew_on a b c f.front xs f.grew e;
}

pub all_but_front : (xs ys whole : List ℕ) (a b c : Option (List ℕ)) → AllBut (xs ++ ys) whole a b → Front xs b c → Front whole a c
all_but_front xs ys whole a b c f g = subst (λ (l : List ℕ). Front l a c) (sym f.whole_is) (front_on a b c f.front (xs ++ ys) f.grew (front_more b c xs ys g))

-- the rest told in another way
pub all_but_same : (xs ys whole : List ℕ) (a b : Option (List ℕ)) → xs ≡ ys → AllBut xs whole a b → AllBut ys whole a b
all_but_same xs ys whole a b e f = subst (λ (l : List ℕ). AllBut l whole a b) e f

pub writes_fault : {T E : Type 0} (r : Result T E) (whole : List ℕ) (a c : Option (List ℕ)) → IsErr r → Front whole a c → Writes r whole a c
writes_fault (Ok x) whole a c is f = absurd (search (rules, is))
writes_fault (Err e) whole a c is f = record { whole = tt; front = f }

-- ---- some pieces in a row

pub writes_next : {T E : Type 0} (r : Result T E) (a b c : Option (List ℕ)) (xs ys zs : List ℕ) → b ≡ append_known a xs → ys ≡ zs → Writes r ys b c → Writes r (xs ++ zs) a c
writes_next r a b c xs ys zs p e w = writes_on r a b c xs zs p (subst (λ (l : List ℕ). Writes r l b c) e w)

pub writes_third : {T E : Type 0} (r : Result T E) (a b c : Option (List ℕ)) (xs ys zs ws : List ℕ) → b ≡ append_known a (xs ++ ys) → zs ≡ ws → Writes r zs b c → Writes r (xs ++ (ys ++ ws)) a c
writes_third r a b c xs ys zs ws p e w = subst (λ (l : List ℕ). Writes r l a c) (append_assoc xs ys ws) (writes_next r a b c (xs ++ ys) zs ws p e w)

pub writes_two : {T E : Type 0} (r : Result T E) (a b : Option (List ℕ)) (xs ys zs : List ℕ) → IsErr r → Front (xs ++ ys) a b → Writes r (xs ++ (ys ++ zs)) a b
writes_two r a b xs ys zs is f = subst (λ (l : List ℕ). Writes r l a b) (append_assoc xs ys zs) (writes_fault r ((xs ++ ys) ++ zs) a b is (front_more a b (xs ++ ys) zs f))
