-- Shelf lists, and what a stepped shelf has given.
use Rattle.std.proofs.Common.{◌≡◌, ℕ, zero, suc, ◌+◌, ◌-◌, ◌≤◌, ◌<◌, min, Bool, true, false, List, [], ◌∷◌, ◌++◌, length, get_or, take, drop, Option, Some, None, nat_lt, refl, sym, ap, ◌∙◌, subst, arith, add-one, append-nil}
use Rattle.std.proofs.lemmas.Bool.Decides.{nat_tests}
use Rattle.std.proofs.lemmas.List.{length-append, take-append-drop, take_more, take_all, get_or_default}
use Rattle.std.proofs.Math.Seq.{take-add}
use Rattle.edr_edition.specs.Values.{EditionValue}
use Rattle.edr_edition.specs.Shelves.{AreNumberedFrom, IsShelfList, IsStocked, BeginsSeen, EndsWith, TakenGrew, IsNext, SteppedValue, given, no_edition, edition_after, first_numbers, taken_of, stepped}
use Rattle.edr_base.specs.Limits.{count_limit}

-- ---- lists that ascend

pub one_stands : (editions : List EditionValue) (edition : EditionValue) → editions ≡ edition ∷ [] → IsStocked editions
one_stands editions edition is = subst IsStocked (sym is) ((edition.number, (refl, tt)), omega arith)

numbered_more : (number : ℕ) (front : List EditionValue) (last next : EditionValue) → AreNumberedFrom number (front ++ last ∷ []) → next.number ≡ last.number + 1
    → AreNumberedFrom number ((front ++ last ∷ []) ++ next ∷ [])
numbered_more number [] last next ascends is = (ascends.0, (is ∙ ap (λ n. n + 1) ascends.0, tt))
numbered_more number (edition ∷ front) last next ascends is = (ascends.0, numbered_more (number + 1) front last next ascends.1 is)

next_ascends : (number : ℕ) (seen front : List EditionValue) (last next : EditionValue) → AreNumberedFrom number seen → seen ≡ front ++ last ∷ [] → next.number ≡ last.number + 1
    → AreNumberedFrom number (seen ++ next ∷ [])
next_ascends number seen front last next ascends ends is =
    subst (λ (editions : List EditionValue). AreNumberedFrom number (editions ++ next ∷ [])) (sym ends)
    (numbered_more number front last next (subst (AreNumberedFrom number) ends ascends) is)

pub next_stands : (seen after : List EditionValue) (next : EditionValue) → IsStocked seen → IsNext seen next → after ≡ seen ++ next ∷ [] → IsStocked after
next_stands seen after next stands follows is =
    subst IsStocked (sym is)
    ((stands.0.0, next_ascends stands.0.0 seen follows.1.0 follows.0 next stands.0.1 follows.1.1 follows.2), omega (arith, length-append seen (next ∷ [])))

-- an edition that is put behind others, or alone, by what it is handed out as
pub put_behind : (seen after : List EditionValue) (next shared : EditionValue) → after ≡ seen ++ shared ∷ [] → shared ≡ next → after ≡ seen ++ next ∷ []
put_behind seen after next shared put same = put ∙ ap (λ edition. seen ++ edition ∷ []) same

pub put_alone : (none after : List EditionValue) (first shared : EditionValue) → after ≡ none ++ shared ∷ [] → none ≡ [] → shared ≡ first → after ≡ first ∷ []
put_alone none after first shared put empty same = put ∙ (ap (λ (editions : List EditionValue). editions ++ shared ∷ []) empty ∙ ap (λ edition. edition ∷ []) same)

first_numbered : (number answered : ℕ) (editions : List EditionValue) → AreNumberedFrom number editions → AreNumberedFrom number (take answered editions)
first_numbered number zero editions ascends = tt
first_numbered number (suc answered) [] ascends = tt
first_numbered number (suc answered) (edition ∷ editions) ascends = (ascends.0, first_numbered (number + 1) answered editions ascends.1)

pub first_ascend : (answered : ℕ) (editions : List EditionValue) → IsShelfList editions → IsShelfList (take answered editions)
first_ascend answered editions ascends = (ascends.0, first_numbered ascends.0 answered editions ascends.1)

-- the edition at the last place is the last
pub ends_at : (editions : List EditionValue) (place : ℕ) (edition : EditionValue) → place + 1 ≡ length editions → edition ≡ get_or editions place edition → EndsWith editions edition
ends_at editions place edition last is =
    (take place editions, sym (take_all (place + 1) editions (omega (arith, last))) ∙ (take_more editions place edition (omega (arith, last)) ∙ ap (λ e. take place editions ++ e ∷ []) (sym is)))

-- ---- what was given

first_grow : (before after : ℕ) (editions : List EditionValue) → before ≤ after → BeginsSeen (take before editions) (take after editions)
first_grow before after editions least =
    let sum : before + (after - before) ≡ after = omega (arith, least) in
    (take (after - before) (drop before editions), ap (λ n. take n editions) (sym sum) ∙ take-add before (after - before) editions)

pub given_grows : (before after : SteppedValue) → after.editions ≡ before.editions → before.answered ≤ after.answered → BeginsSeen (given before) (given after)
given_grows before after same least =
    subst (λ (editions : List EditionValue). BeginsSeen (given before) (take after.answered editions)) (sym same) (first_grow before.answered after.answered before.editions least)

-- the edition at the place that is answered next
pub answered_at : (editions : List EditionValue) (answered place : ℕ) (edition : EditionValue) → place ≡ min answered (length editions - 1) → 0 < length editions → edition ≡ get_or editions place edition
    → edition ≡ edition_after answered editions
answered_at editions answered place edition is some at =
    at ∙ (get_or_default editions place edition no_edition (omega (arith, is, some)) ∙ ap (λ n. get_or editions n no_edition) is)

-- all editions begin with themselves
pub all_within : (editions : List EditionValue) → BeginsSeen editions editions
all_within editions = ([], sym (append-nil editions))

-- what was given is the first of all
pub given_within : (shelf : SteppedValue) → BeginsSeen (given shelf) shelf.editions
given_within shelf = (drop shelf.answered shelf.editions, sym (take-append-drop shelf.answered shelf.editions))

-- ---- what was taken

abbrev told : ℕ → List EditionValue → Option (List ℕ)
told answered editions = taken_of (record { editions = editions; answered = answered })

told_some : (answered : ℕ) (editions : List EditionValue) → answered < count_limit → told answered editions ≡ Some (first_numbers answered editions)
told_some answered editions less = let is : nat_lt answered count_limit ≡ true = grind (arith, nat_tests, less) in rw is refl

told_none : (answered : ℕ) (editions : List EditionValue) → nat_lt answered count_limit ≡ false → told answered editions ≡ None
told_none answered editions is = rw is refl

told_grows : (before after number : ℕ) (editions : List EditionValue) → (after < count_limit → after ≡ before + 1) → number ≡ (edition_after before editions).number
    → TakenGrew (told before editions) (told after editions) (number ∷ [])
told_grows before after number editions next is = by_test (nat_lt after count_limit) refl
  where
    by_test : (test : Bool) → nat_lt after count_limit ≡ test → TakenGrew (told before editions) (told after editions) (number ∷ [])
    by_test = elim [
      | true ↦ λ tested.
          let less : after < count_limit = grind (arith, nat_tests, tested) in
          let one_more : after ≡ suc before = next less ∙ add-one before in
          let was = told_some before editions (omega (arith, less, one_more)) in
          let now : told after editions ≡ Some (first_numbers before editions ++ number ∷ []) =
          told_some after editions less ∙ (ap (λ n. Some (first_numbers n editions)) one_more ∙ ap (λ n. Some (first_numbers before editions ++ n ∷ [])) (sym is)) in
          let from : Option (List ℕ) → Type 0 = λ known. TakenGrew known (told after editions) (number ∷ []) in
          let to : Option (List ℕ) → Type 0 = λ known. TakenGrew (Some (first_numbers before editions)) known (number ∷ []) in
          subst from (sym was) (subst to (sym now) refl)
      | false ↦ λ tested.
          let to : Option (List ℕ) → Type 0 = λ known. TakenGrew (told before editions) known (number ∷ []) in
          subst to (sym (told_none after editions tested)) tt
    ]

pub taken_grows : (before after : SteppedValue) (edition : EditionValue) → after ≡ stepped before → edition ≡ edition_after before.answered before.editions
    → TakenGrew (taken_of before) (taken_of after) (edition.number ∷ [])
taken_grows before after edition step is =
    let next : after.answered < count_limit → after.answered ≡ before.answered + 1 = λ less. let count = ap (λ (shelf : SteppedValue). shelf.answered) step in omega (arith, less, count) in
    subst (λ (editions : List EditionValue). TakenGrew (taken_of before) (told after.answered editions) (edition.number ∷ [])) (sym (ap (λ (shelf : SteppedValue). shelf.editions) step))
    (told_grows before.answered after.answered edition.number before.editions next (ap (λ (e : EditionValue). e.number) is))
