-- The rest of a connection: what is held, and what is left of the source.
use Rattle.std.proofs.Common.{◌≡◌, ◌≢◌, ℕ, ◌+◌, ◌-◌, ◌≤◌, ◌<◌, length, length-append, length-drop, List, [], ◌++◌, take, drop, sym, ap, subst, ◌∙◌, refl, Some, None, append-nil, arith, Bool, true, false, ◌∷◌, ◌⊎◌, max, inl, inr, ⊎_elim}
use Rattle.std.specs.Prelude.{nat_le}
use Rattle.std.proofs.lemmas.Bool.Decides.{nat_tests}
use Rattle.std.specs.declared.option.Option.{Option}
use Rattle.std.specs.Io.KnownBytes.{prepend_known, IsAtEnd}
use Rattle.std.proofs.lemmas.List.{take-append-le, take_all, take-append-drop}
use Rattle.std.proofs.lemmas.Grind.{common_steps}
use Rattle.std.proofs.Math.Nat.{le-max_right}
use mathlib.Core.List.{append_assoc}
use Rattle.httparse.specs.Grammar.{RequestHead, print_request, ReadsRequest}
use Rattle.edr_base.specs.KnownBytes.{prepend_more, prepend_nothing}
use Rattle.edr_http.specs.declared.heads.Head.{Head}
use Rattle.edr_http.specs.Heads.{BeginsWith, HeadOf, HasHead, HasNoHead, Told, IsBehind, head_of}
use Rattle.edr_http.specs.Finding.{HasTree, HasNoTree, NeverHasTree, NoHeadIn, LastBlock}
use Rattle.edr_http.proofs.HeadLemmas.{reads_window, no_head, some_head}

pub rest_grew : (old new block : List ℕ) (left left' : Option (List ℕ)) → new ≡ old ++ block → left ≡ prepend_known block left' → prepend_known new left' ≡ prepend_known old left
rest_grew old new block left left' e f = ap (λ w. prepend_known w left') e ∙ (sym (prepend_more left' old block) ∙ ap (prepend_known old) (sym f))

-- no head, whatever follows
pub no_head_ever : (held : List ℕ) (left : Option (List ℕ)) → NeverHasTree held → NoHeadIn held left
no_head_ever held None never = tt
no_head_ever held (Some bytes) never = never bytes

-- no head, and nothing follows
pub no_head_end : (held : List ℕ) (left : Option (List ℕ)) → HasNoTree held → IsAtEnd left → NoHeadIn held left
no_head_end held None none e = tt
no_head_end held (Some bytes) none e = subst HasNoTree (sym (ap (λ w. held ++ w) e ∙ append-nil held)) none

-- a head that the bytes without the last block haven't ends in that block
pub ends_in_block : (held : List ℕ) (h : RequestHead) (rest : List ℕ) → LastBlock held → BeginsWith held h rest → length held - length (print_request h) < 4096
ends_in_block held h rest x b = by_size (nat_le (length (print_request h)) (length x.before)) refl
  where
    size : length held ≡ length x.before + length x.block
    size = ap length x.joined ∙ length-append x.before x.block

    window : take (length x.before) held ≡ x.before
    window = let l : length x.before ≤ length x.before = omega arith in ap (take (length x.before)) x.joined ∙ (take-append-le (length x.before) x.before x.block l ∙ take_all (length x.before) x.before l)

    by_size : (v : Bool) → nat_le (length (print_request h)) (length x.before) ≡ v → length held - length (print_request h) < 4096
    by_size = elim [
      | true ↦ λ e.
          let le : length (print_request h) ≤ length x.before = grind (arith, nat_tests, e) in
          let r = reads_window (length x.before) held h rest b.reads le in
          let P : List ℕ → Type 0 = λ w. ReadsRequest w h (take (length x.before - length (print_request h)) rest) in
          absurd (x.none h _ (record { reads = subst P window r; few_fields = b.few_fields; short = b.short }))
      | false ↦ λ e.
          let gt : length x.before < length (print_request h) = grind (arith, nat_tests, e) in
          omega (arith, size, gt, x.short)
    ]

-- a head was held from the first, or it ends in the last block
pub got_short : (A C : Type 0) (old held : List ℕ) (m n : ℕ) → (A × (held ≡ old)) ⊎ (C × LastBlock held) → HasTree held m → m ≡ n → HasTree old n ⊎ (length held - n < 4096)
got_short A C old held m n f x e = ⊎_elim
    (λ (t : A × (held ≡ old)). inl (subst (λ (w : List ℕ). HasTree w n) t.1 (subst (λ (k : ℕ). HasTree held k) e x)))
    (λ (t : C × LastBlock held). inr (let s = ends_in_block held x.0 x.1 t.1 x.2 in omega (arith, s, x.3, e)))
    f

pub head_or_short : (old held after : List ℕ) (n : ℕ) → HasTree old n ⊎ (length held - n < 4096) → after ≡ drop n held → HasHead old ⊎ (length after < 4096)
head_or_short old held after n f e = ⊎_elim
    (λ (t : HasTree old n). inl (some_head old n t))
    (λ (t : length held - n < 4096). inr (omega (arith, t, ap length e, length-drop n held)))
    f

-- what is held is no more where it stays, or where its front is taken
pub no_more : (old held : List ℕ) → held ≡ old → length held ≤ length old
no_more old held e = omega (arith, ap length e)

pub no_more_than : (a b c : List ℕ) → a ≡ b → length c ≤ length a → length c ≤ length b
no_more_than a b c e few = omega (arith, ap length e, few)

pub fewer : (old held after : List ℕ) (n : ℕ) → held ≡ old → after ≡ drop n held → length after ≤ length old
fewer old held after n e d = omega (arith, ap length e, ap length d, length-drop n held)

-- what is held stays within the bound where a block was read behind less than a head
pub held_bound : (old held new : ℕ) → held < 16384 → new ≤ held + 4096 → new ≤ max old ((16384 - 1) + 4096)
held_bound old held new few grew = let r = le-max_right old 20479 in omega (arith, few, grew, r)

-- ---- what was found is so of the rest

-- the head is taken from the front of the rest
pub finds_got : (old held after : List ℕ) (left left' : Option (List ℕ)) (n : ℕ) (a : Head) (h : RequestHead) (rest : List ℕ) → prepend_known held left' ≡ prepend_known old left → BeginsWith held h rest → n ≡ length (print_request h)
    → a ≡ head_of h → after ≡ drop n held → Told (λ b c. HeadOf b a c) (prepend_known old left) (prepend_known after left')
finds_got old held after left None n a h rest e b i p d = subst (λ (z : Option (List ℕ)). Told (λ b c. HeadOf b a c) z None) e tt
finds_got old held after left (Some bytes) n a h rest e b i p d =
    let tail : after ≡ rest = d ∙ (ap (drop n) b.reads.1 ∙ drop_front n (print_request h) rest (sym i)) in
    let whole : BeginsWith (held ++ bytes) h (after ++ bytes) = record {
      reads = (b.reads.0, ap (λ w. w ++ bytes) b.reads.1 ∙ (append_assoc (print_request h) rest bytes ∙ ap (λ w. print_request h ++ (w ++ bytes)) (sym tail)));
      few_fields = b.few_fields;
      short = b.short;
    } in
    subst (λ (z : Option (List ℕ)). Told (λ b c. HeadOf b a c) z (Some (after ++ bytes))) e (record { tree = h; begins = whole; says = p })
  where
    drop_front : (n : ℕ) (xs ys : List ℕ) → length xs ≡ n → drop n (xs ++ ys) ≡ ys
    drop_front n xs ys e = subst (λ (k : ℕ). drop k (xs ++ ys) ≡ ys) e (grind (arith, common_steps))

pub finds_bad : (old held : List ℕ) (left left' : Option (List ℕ)) → prepend_known held left' ≡ prepend_known old left → held ≢ [] → NoHeadIn held left' → Told (λ b c. (b ≢ []) × HasNoHead b × (c ≡ b)) (prepend_known old left) (prepend_known held left')
finds_bad old held left None e h none = subst (λ (z : Option (List ℕ)). Told (λ b c. (b ≢ []) × HasNoHead b × (c ≡ b)) z None) e tt
finds_bad old held left (Some bytes) e h none =
    subst (λ (z : Option (List ℕ)). Told (λ b c. (b ≢ []) × HasNoHead b × (c ≡ b)) z (Some (held ++ bytes))) e (some held h, no_head (held ++ bytes) none, refl)
  where
    some : (xs : List ℕ) → xs ≢ [] → xs ++ bytes ≢ []
    some [] h = absurd (h refl)
    some (x ∷ xs) h = λ e. cc

-- what is behind a head is an end of the rest
pub rest_after : (old held after : List ℕ) (left left' : Option (List ℕ)) (n : ℕ) → prepend_known held left' ≡ prepend_known old left → after ≡ drop n held → IsBehind (prepend_known old left) (prepend_known after left')
rest_after old held after left left' n e d =
    (take n held, sym e ∙ (ap (λ w. prepend_known w left') (sym (take-append-drop n held)) ∙ (sym (prepend_more left' (take n held) (drop n held)) ∙ ap (λ w. prepend_known (take n held) (prepend_known w left')) (sym d))))

pub rest_same : (a b : Option (List ℕ)) → a ≡ b → IsBehind b a
rest_same a b e = ([], sym e ∙ prepend_nothing a)
