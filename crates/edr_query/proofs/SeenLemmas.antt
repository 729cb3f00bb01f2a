-- A set of names that were seen, and the list of those that it has.
use Rattle.std.proofs.Common.{◌≡◌, ℕ, List, [], ◌∷◌, ◌++◌, map, Bool, true, false, cond, not, refl, ap, ap₂, sym, ◌∙◌}
use Rattle.std.specs.Prelude.{bytes_eq, ◌||◌}
use Rattle.std.specs.Borrow.{Bor}
use Rattle.std.specs.List.{list_any}
use Rattle.std.specs.declared.cmp.Ordering.{Ordering}
use Rattle.std.specs.declared.cmp.Ordering.TheVariants.{Less, Equal, Greater}
use Rattle.std.specs.Ordering.{is_eq, match_ordering, nat_cmp}
use Rattle.std.specs.Cmp.Lexicographic.{slice_cmp}
use Rattle.std.specs.BTreeMap.{is_at}
use Rattle.std.specs.BTreeSet.{BTreeSet, insert_key}
use Rattle.std.proofs.lemmas.Map.Text.{is_eq-slice_cmp}
use Rattle.std.proofs.lemmas.Slice.Eq.{bytes_eq-Decides}
use Rattle.edr_query.specs.Queries.{with_name}
use Rattle.edr_query.specs.Seen.{AreSeen}

abbrev Name : Type 0
Name = Bor (List ℕ)

abbrev pub order : Name → Name → Ordering
order one other = slice_cmp nat_cmp one.now other.now

abbrev has : List ℕ → List Name → Bool
has name keys = list_any (bytes_eq name) (map (λ (key : Name). key.now) keys)

or_swap : (a b c : Bool) → (a || (b || c)) ≡ (b || (a || c))
or_swap true true c = refl
or_swap true false c = refl
or_swap false b c = refl

or_again : (a c : Bool) → (a || (a || c)) ≡ (a || c)
or_again true c = refl
or_again false c = refl

more_at : (o : Ordering) (name : List ℕ) (k x : Name) (xs ys : List Name) → (is_eq o ≡ true → k.now ≡ x.now) → has name ys ≡ (bytes_eq name k.now || has name xs)
    → has name (match_ordering o (k ∷ x ∷ xs) (x ∷ xs) (x ∷ ys)) ≡ (bytes_eq name k.now || has name (x ∷ xs))
more_at Less name k x xs ys same more = refl
more_at Equal name k x xs ys same more =
    sym (or_again (bytes_eq name x.now) (has name xs)) ∙ ap (λ t. bytes_eq name t || (bytes_eq name x.now || has name xs)) (sym (same refl))
more_at Greater name k x xs ys same more =
    ap (λ b. bytes_eq name x.now || b) more ∙ or_swap (bytes_eq name x.now) (bytes_eq name k.now) (has name xs)

same_names : (a b : List ℕ) → is_eq (slice_cmp nat_cmp a b) ≡ true → a ≡ b
same_names a b e = (bytes_eq-Decides a b).0 (sym (is_eq-slice_cmp a b) ∙ e)

insert_has : (name : List ℕ) (ks : List Name) (k : Name) → has name (insert_key order ks k) ≡ (bytes_eq name k.now || has name ks)
insert_has name [] k = refl
insert_has name (x ∷ xs) k = more_at (order k x) name k x xs (insert_key order xs k) (same_names k.now x.now) (insert_has name xs k)

found : (ks : List Name) (k : Name) → list_any (is_at (order k)) ks ≡ has k.now ks
found [] k = refl
found (x ∷ xs) k = ap₂ (λ a b. a || b) (is_eq-slice_cmp k.now x.now) (found xs k)

any_more : (n : List ℕ) (names : List (List ℕ)) (name : List ℕ) → list_any (bytes_eq n) (names ++ name ∷ []) ≡ (bytes_eq n name || list_any (bytes_eq n) names)
any_more n [] name = refl
any_more n (x ∷ names) name = ap (λ b. bytes_eq n x || b) (any_more n names name) ∙ or_swap (bytes_eq n x) (bytes_eq n name) (list_any (bytes_eq n) names)

not_flips : (a b : Bool) → not a ≡ b → a ≡ not b
not_flips true b e = ap not e
not_flips false b e = ap not e

is_seen : (old : BTreeSet Name) (key : Name) (names : List (List ℕ)) (added : Bool) → AreSeen old names → added ≡ not (list_any (is_at (order key)) old.keys) → list_any (bytes_eq key.now) names ≡ not added
is_seen old key names added seen e = sym (seen key.now) ∙ sym (found old.keys key) ∙ not_flips (list_any (is_at (order key)) old.keys) added (sym e)

-- ---- one more name

pub name_added : (old : BTreeSet Name) (key : Name) (names : List (List ℕ)) → AreSeen old names → true ≡ not (list_any (is_at (order key)) old.keys) → with_name names key.now ≡ names ++ key.now ∷ []
name_added old key names seen e = ap (λ t. cond t names (names ++ key.now ∷ [])) (is_seen old key names true seen e)

pub name_kept : (old : BTreeSet Name) (key : Name) (names : List (List ℕ)) → AreSeen old names → false ≡ not (list_any (is_at (order key)) old.keys) → with_name names key.now ≡ names
name_kept old key names seen e = ap (λ t. cond t names (names ++ key.now ∷ [])) (is_seen old key names false seen e)

pub seen_more : (old new : BTreeSet Name) (key : Name) (names : List (List ℕ)) → AreSeen old names → new.keys ≡ insert_key order old.keys key → AreSeen new (names ++ key.now ∷ [])
seen_more old new key names seen e n =
    ap (has n) e ∙ insert_has n old.keys key ∙ ap (λ b. bytes_eq n key.now || b) (seen n) ∙ sym (any_more n names key.now)
