-- Lists in brackets, read from the front, one item after the other.
use Rattle.std.proofs.Common.{◌≡◌, ℕ, subst, ◌<◌, ◌≤◌, List, [], ◌∷◌, ◌++◌, length, refl, sym, ap, ap₂, ◌∙◌, arith, append_assoc}
use Rattle.std.proofs.lemmas.List.{length-append}
use Rattle.edr_wkt.specs.Grammar.{IsMark, IsMore, AreItems, IsList}
use Rattle.edr_wkt.specs.Reads.{HasNoItems}
use Rattle.edr_wkt.proofs.WordLemmas.{mark-unique}

-- one item stands at the front of a text
pub record IsUnique {A : Type 0} (Item : List ℕ → A → List ℕ → Type 0) : Type 0 where
  pub one : (text : List ℕ) (x y : A) (r s : List ℕ) → Item text x r → Item text y s → (x ≡ y) × (r ≡ s)

-- the items xs are read, each with the comma behind it, and the rest follows
pub record Continues {A : Type 0} (Item : List ℕ → A → List ℕ → Type 0) (text : List ℕ) (xs : List A) (rest : List ℕ) : Type 0 where
  pub to : (ys : List A) (end : List ℕ) → AreItems Item rest ys end → AreItems Item text (xs ++ ys) end
  pub from : (zs : List A) (end : List ℕ) → AreItems Item text zs end → (ys : List A) × (zs ≡ xs ++ ys) × AreItems Item rest ys end

pub continues-start : {A : Type 0} (Item : List ℕ → A → List ℕ → Type 0) (text : List ℕ) → Continues Item text [] text
continues-start Item text = record { to = λ ys end h. h; from = λ zs end h. (zs, refl, h) }

-- another comma and the items behind it
more-from : {A : Type 0} (Item : List ℕ → A → List ℕ → Type 0) (after next : List ℕ) (ys : List A) (end : List ℕ) → IsMark 44 after next → AreItems Item next ys end → IsMore Item after ys end
more-from Item after next [] end mark h = absurd h
more-from Item after next (y ∷ ys) end mark h = (next, h.0, mark, h.1, h.2)

more-to : {A : Type 0} (Item : List ℕ → A → List ℕ → Type 0) (after next : List ℕ) (ys : List A) (end : List ℕ) → IsMark 44 after next → IsMore Item after ys end → AreItems Item next ys end
more-to Item after next [] end mark h = absurd (let e : 44 ≡ 41 = (mark-unique 44 41 after next end refl refl mark h).0 in omega (arith, e))
more-to {A} Item after next (y ∷ ys) end mark h =
    let e : h.0 ≡ next = (mark-unique 44 44 after h.0 next refl refl h.2 mark).1 in
    let P : List ℕ → Type 0 = λ l. AreItems Item l (y ∷ ys) end in
    subst P e (h.1, h.3, h.4)

step-from : {A : Type 0} (Item : List ℕ → A → List ℕ → Type 0) (xs : List A) (x : A) (rest after next : List ℕ) → IsUnique Item → Item rest x after → IsMark 44 after next
    → (zs ys : List A) (end : List ℕ) → zs ≡ xs ++ ys → AreItems Item rest ys end → (ws : List A) × (zs ≡ (xs ++ x ∷ []) ++ ws) × AreItems Item next ws end
step-from Item xs x rest after next u item mark zs [] end e h = absurd h
step-from {A} Item xs x rest after next u item mark zs (y ∷ ys) end e h =
    let same = u.one rest y x h.0 after h.1 item in
    let P : List ℕ → Type 0 = λ l. IsMore Item l ys end in
    let Q : A → Type 0 = λ w. zs ≡ xs ++ w ∷ ys in
    (ys, subst Q same.0 e ∙ sym (append_assoc xs (x ∷ []) ys), more-to Item after next ys end mark (subst P same.1 h.2))

pub continues-step : {A : Type 0} (Item : List ℕ → A → List ℕ → Type 0) (text rest after next : List ℕ) (xs : List A) (x : A) → IsUnique Item → Continues Item text xs rest → Item rest x after → IsMark 44 after next
    → Continues Item text (xs ++ x ∷ []) next
continues-step {A} Item text rest after next xs x u c item mark = record {
  to = λ ys end h. let P : List A → Type 0 = λ l. AreItems Item text l end in subst P (sym (append_assoc xs (x ∷ []) ys)) (c.to (x ∷ ys) end (after, item, more-from Item after next ys end mark h));
  from = λ zs end h. let f = c.from zs end h in step-from Item xs x rest after next u item mark zs f.0 end f.1 f.2;
}

pub continues-end : {A : Type 0} (Item : List ℕ → A → List ℕ → Type 0) (text rest after end : List ℕ) (xs : List A) (x : A) → Continues Item text xs rest → Item rest x after → IsMark 41 after end → AreItems Item text (xs ++ x ∷ []) end
continues-end Item text rest after end xs x c item mark = c.to (x ∷ []) end (after, item, mark)

no-first : {A : Type 0} (Item : List ℕ → A → List ℕ → Type 0) (rest : List ℕ) (ys : List A) (end : List ℕ) → ((x : A) (r : List ℕ) → ¬ (Item rest x r)) → ¬ (AreItems Item rest ys end)
no-first Item rest [] end none = λ h. h
no-first Item rest (y ∷ ys) end none = λ h. none y h.0 h.1

-- where the next item is wanting, there is no list
pub continues-none : {A : Type 0} (Item : List ℕ → A → List ℕ → Type 0) (text rest : List ℕ) (xs : List A) → Continues Item text xs rest → ((x : A) (r : List ℕ) → ¬ (Item rest x r)) → HasNoItems Item text
continues-none Item text rest xs c none zs end h = let f = c.from zs end h in no-first Item rest f.0 end none f.2

no-more : {A : Type 0} (Item : List ℕ → A → List ℕ → Type 0) (after : List ℕ) (ys : List A) (end : List ℕ) → ((r : List ℕ) → ¬ (IsMark 44 after r)) → ((r : List ℕ) → ¬ (IsMark 41 after r)) → ¬ (IsMore Item after ys end)
no-more Item after [] end comma closes = λ h. closes end h
no-more Item after (y ∷ ys) end comma closes = λ h. comma h.0 h.2

no-second : {A : Type 0} (Item : List ℕ → A → List ℕ → Type 0) (rest after : List ℕ) (x : A) (ys : List A) (end : List ℕ) → IsUnique Item → Item rest x after → ((r : List ℕ) → ¬ (IsMark 44 after r)) → ((r : List ℕ) → ¬ (IsMark 41 after r))
    → ¬ (AreItems Item rest ys end)
no-second Item rest after x [] end u item comma closes = λ h. h
no-second Item rest after x (y ∷ ys) end u item comma closes = λ h.
    let P : List ℕ → Type 0 = λ l. IsMore Item l ys end in
    no-more Item after ys end comma closes (subst P (u.one rest y x h.0 after h.1 item).1 h.2)

-- where neither a comma nor a closing bracket follows an item, there is no list
pub continues-no_mark : {A : Type 0} (Item : List ℕ → A → List ℕ → Type 0) (text rest after : List ℕ) (xs : List A) (x : A) → IsUnique Item → Continues Item text xs rest → Item rest x after
    → ((r : List ℕ) → ¬ (IsMark 44 after r)) → ((r : List ℕ) → ¬ (IsMark 41 after r)) → HasNoItems Item text
continues-no_mark Item text rest after xs x u c item comma closes zs end h = let f = c.from zs end h in no-second Item rest after x f.0 end u item comma closes f.2

more-unique : {A : Type 0} (Item : List ℕ → A → List ℕ → Type 0) → IsUnique Item → (text : List ℕ) (xs ys : List A) (r s : List ℕ) → IsMore Item text xs r → IsMore Item text ys s → (xs ≡ ys) × (r ≡ s)
more-unique Item u text [] [] r s a b = (refl, (mark-unique 41 41 text r s refl refl a b).1)
more-unique Item u text [] (y ∷ ys) r s a b = absurd (let e : 41 ≡ 44 = (mark-unique 41 44 text r b.0 refl refl a b.2).0 in omega (arith, e))
more-unique Item u text (x ∷ xs) [] r s a b = absurd (let e : 44 ≡ 41 = (mark-unique 44 41 text a.0 s refl refl a.2 b).0 in omega (arith, e))
more-unique {A} Item u text (x ∷ xs) (y ∷ ys) r s a b =
    let next : a.0 ≡ b.0 = (mark-unique 44 44 text a.0 b.0 refl refl a.2 b.2).1 in
    let P : List ℕ → Type 0 = λ l. Item l x a.1 in
    let same = u.one b.0 x y a.1 b.1 (subst P next a.3) b.3 in
    let Q : List ℕ → Type 0 = λ l. IsMore Item l xs r in
    let later = more-unique Item u b.1 xs ys r s (subst Q same.1 a.4) b.4 in
    (ap₂ (λ v vs. v ∷ vs) same.0 later.0, later.1)

pub items-unique : {A : Type 0} (Item : List ℕ → A → List ℕ → Type 0) → IsUnique Item → (text : List ℕ) (xs ys : List A) (r s : List ℕ) → AreItems Item text xs r → AreItems Item text ys s → (xs ≡ ys) × (r ≡ s)
items-unique Item u text [] ys r s a b = absurd a
items-unique Item u text (x ∷ xs) [] r s a b = absurd b
items-unique {A} Item u text (x ∷ xs) (y ∷ ys) r s a b =
    let same = u.one text x y a.0 b.0 a.1 b.1 in
    let Q : List ℕ → Type 0 = λ l. IsMore Item l xs r in
    let later = more-unique Item u b.0 xs ys r s (subst Q same.1 a.2) b.2 in
    (ap₂ (λ v vs. v ∷ vs) same.0 later.0, later.1)

pub list-unique : {A : Type 0} (Item : List ℕ → A → List ℕ → Type 0) → IsUnique Item → (text : List ℕ) (xs ys : List A) (r s : List ℕ) → IsList Item text xs r → IsList Item text ys s → (xs ≡ ys) × (r ≡ s)
list-unique {A} Item u text xs ys r s a b =
    let inside : a.0 ≡ b.0 = (mark-unique 40 40 text a.0 b.0 refl refl a.1 b.1).1 in
    let P : List ℕ → Type 0 = λ l. AreItems Item l xs r in
    items-unique Item u b.0 xs ys r s (subst P inside a.2) b.2

-- no item is longer than its text
pub record IsShorter {A : Type 0} (Item : List ℕ → A → List ℕ → Type 0) : Type 0 where
  pub le : (text : List ℕ) (x : A) (rest : List ℕ) → Item text x rest → length rest ≤ length text

pub mark-shorter : (mark : ℕ) (text rest : List ℕ) → IsMark mark text rest → length rest < length text
mark-shorter mark text rest m = omega (arith, ap length m.text_is, length-append m.blanks (mark ∷ rest))

more-shorter : {A : Type 0} (Item : List ℕ → A → List ℕ → Type 0) → IsShorter Item → (text : List ℕ) (xs : List A) (rest : List ℕ) → IsMore Item text xs rest → length rest ≤ length text
more-shorter Item s text [] rest h = omega (arith, mark-shorter 41 text rest h)
more-shorter Item s text (x ∷ xs) rest h = omega (arith, mark-shorter 44 text h.0 h.2, s.le h.0 x h.1 h.3, more-shorter Item s h.1 xs rest h.4)

pub items-shorter : {A : Type 0} (Item : List ℕ → A → List ℕ → Type 0) → IsShorter Item → (text : List ℕ) (xs : List A) (rest : List ℕ) → AreItems Item text xs rest → length rest ≤ length text
items-shorter Item s text [] rest h = absurd h
items-shorter Item s text (x ∷ xs) rest h = omega (arith, s.le text x h.0 h.1, more-shorter Item s h.0 xs rest h.2)

pub list-shorter : {A : Type 0} (Item : List ℕ → A → List ℕ → Type 0) → IsShorter Item → (text : List ℕ) (xs : List A) (rest : List ℕ) → IsList Item text xs rest → length rest ≤ length text
list-shorter Item s text xs rest h = omega (arith, mark-shorter 40 text h.0 h.1, items-shorter Item s h.0 xs rest h.2)
