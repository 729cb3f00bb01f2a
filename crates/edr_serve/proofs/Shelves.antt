-- Editions that are used one after another, and their numbers.
use Rattle.std.proofs.Common.{◌≡◌, ℕ, ◌+◌, ◌≤◌, length, length-append, List, [], ◌∷◌, ◌++◌, sym, ap, subst, ◌∙◌, refl, Some, None, append-nil, arith}
use Rattle.std.specs.declared.option.Option.{Option}
use mathlib.Core.List.{append_assoc}
use Rattle.edr_edition.specs.Values.{EditionValue}
use Rattle.edr_edition.specs.Shelves.{AreNumberedFrom, IsShelfList, BeginsSeen, EndsWith, TakenGrew}
use Rattle.edr_serve.specs.Sessions.{Uses, last_number, NeverFall}

-- ---- what was seen and used

pub seen_same : (s : List EditionValue) → BeginsSeen s s
seen_same s = ([], sym (append-nil s))

seen_on : (a b c : List EditionValue) → BeginsSeen a b → BeginsSeen b c → BeginsSeen a c
seen_on a b c x y = (x.0 ++ y.0, y.1 ∙ (ap (λ w. w ++ y.0) x.1 ∙ append_assoc a x.0 y.0))

pub uses_on : (a es fs b c : List EditionValue) → Uses a es b → Uses b fs c → Uses a (es ++ fs) c
uses_on a [] [] b c x y = seen_on a b c x y
uses_on a [] (f ∷ fs) b c x y = (y.0, seen_on a b y.0 x y.1, y.2, y.3)
uses_on a (e ∷ es) fs b c x y = (x.0, x.1, x.2, uses_on x.0 es fs b c x.3 y)

-- ---- what was taken

pub taken_same : (t : Option (List ℕ)) → TakenGrew t t []
taken_same None = tt
taken_same (Some numbers) = sym (append-nil numbers)

pub taken_on : (a b c : Option (List ℕ)) (xs ys : List ℕ) → TakenGrew a b xs → TakenGrew b c ys → TakenGrew a c (xs ++ ys)
taken_on a b None xs ys p q = tt
taken_on a None (Some cs) xs ys p q = absurd q
taken_on None (Some bs) (Some cs) xs ys p q = absurd p
taken_on (Some os) (Some bs) (Some cs) xs ys p q = q ∙ (ap (λ w. w ++ ys) p ∙ append_assoc os xs ys)

-- ---- numbers that don't fall

lower : (a b : ℕ) (ys : List ℕ) (c : ℕ) → a ≤ b → NeverFall b ys c → NeverFall a ys c
lower a b [] c h x = omega (arith, h, x)
lower a b (y ∷ ys) c h x = (omega (arith, h, x.0), x.1)

pub never_on : (a b c : ℕ) (xs ys : List ℕ) → NeverFall a xs b → NeverFall b ys c → NeverFall a (xs ++ ys) c
never_on a b c [] ys x y = lower a b ys c x y
never_on a b c (z ∷ xs) ys x y = (x.0, never_on z b c xs ys x.1 y)

last_end : (front : List EditionValue) (e : EditionValue) → last_number (front ++ e ∷ []) ≡ e.number
last_end [] e = refl
last_end (f ∷ []) e = refl
last_end (f ∷ g ∷ front) e = last_end (g ∷ front) e

last_is : (seen : List EditionValue) (e : EditionValue) → EndsWith seen e → last_number seen ≡ e.number
last_is seen e x = ap last_number x.1 ∙ last_end x.0 e

last_from : (n : ℕ) (e : EditionValue) (es : List EditionValue) → AreNumberedFrom n (e ∷ es) → last_number (e ∷ es) ≡ n + length es
last_from n e [] x = x.0 ∙ omega arith
last_from n e (f ∷ es) x = last_from (n + 1) f es x.1 ∙ omega arith

first_of : (n : ℕ) (es fs : List EditionValue) → AreNumberedFrom n (es ++ fs) → AreNumberedFrom n es
first_of n [] fs x = tt
first_of n (e ∷ es) fs x = (x.0, first_of (n + 1) es fs x.1)

last_grows : (n : ℕ) (before more : List EditionValue) → AreNumberedFrom n (before ++ more) → last_number before ≤ last_number (before ++ more)
last_grows n [] more x = omega arith
last_grows n (e ∷ es) more x =
    omega (arith, last_from n e es (first_of n (e ∷ es) more x), last_from n e (es ++ more) x, length-append es more)

pub last_later : (before after : List EditionValue) → BeginsSeen before after → IsShelfList after → last_number before ≤ last_number after
last_later before after x s =
    subst (λ (z : List EditionValue). last_number before ≤ last_number z) (sym x.1) (last_grows s.0 before x.0 (subst (AreNumberedFrom s.0) x.1 s.1))

-- the edition that is taken is the last
pub order_of : (before after : List EditionValue) (e : EditionValue) → BeginsSeen before after → EndsWith after e → IsShelfList after
    → NeverFall (last_number before) (e.number ∷ []) (last_number after)
order_of before after e x ends s =
    let last : last_number after ≡ e.number = last_is after e ends in
    let later = last_later before after x s in
    (omega (arith, last, later), omega (arith, last))
