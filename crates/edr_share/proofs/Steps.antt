-- Each kind of step keeps the rule.
use Rattle.std.proofs.Common.{◌≡◌, ◌≢◌, ℕ, ◌+◌, List, [], ◌∷◌, ◌++◌, length, length-append, Bool, true, false, set, refl, sym, ap, subst, ⊎_elim, ◌∙◌, arith, append-nil, Global, fold}
use mathlib.Core.List.{append_assoc}
use mathlib.Core.Option.{some}
use lib.ListN.{get_elem?}
use Rattle.std.specs.Arc.{arc_value}
use Rattle.std.specs.declared.sync.Arc.{Arc}
use Rattle.crossbeam_utils.specs.Register.{Admits, TurnsAt}
use Rattle.atomic_table.proofs.Lists.{at_set, at_snoc}
use Rattle.edr_edition.specs.declared.editions.Edition.{Edition}
use Rattle.edr_edition.specs.Values.{EditionValue}
use Rattle.edr_edition.specs.Shelves.{AreNumberedFrom, IsShelfList, BeginsSeen, EndsWith, IsNext}
use Rattle.edr_share.specs.declared.shown.Shown.{Shown}
use Rattle.edr_share.specs.declared.rule.View.{View}
use Rattle.edr_share.specs.Values.{IsShelfLog}
use Rattle.edr_share.specs.Rule.{Fits, Keeps, newcomer, Sees, Opens, Grows}

-- ---- lists of editions

pub all_seen : (editions : List EditionValue) → BeginsSeen editions editions
all_seen editions = ([], sym (append-nil editions))

none_seen : (editions : List EditionValue) → BeginsSeen [] editions
none_seen editions = (editions, refl)

begins_on : (seen log longer : List EditionValue) → BeginsSeen seen log → BeginsSeen log longer → BeginsSeen seen longer
begins_on seen log longer first then = (first.0 ++ then.0, then.1 ∙ (ap (λ es. es ++ then.0) first.1 ∙ append_assoc seen first.0 then.0))

pub list_of_log : (editions : List EditionValue) → IsShelfLog editions → IsShelfList editions
list_of_log editions is = (is.first, is.numbered)

not_empty : (editions : List EditionValue) (edition : EditionValue) → editions ++ edition ∷ [] ≢ []
not_empty [] edition = λ is. cc
not_empty (first ∷ editions) edition = λ is. cc

numbered_on : (number : ℕ) (editions : List EditionValue) (edition : EditionValue) → AreNumberedFrom number editions → edition.number ≡ number + length editions
    → AreNumberedFrom number (editions ++ edition ∷ [])
numbered_on number [] edition ascends is = (omega (arith, is), tt)
numbered_on number (first ∷ editions) edition ascends is = (ascends.0, numbered_on (number + 1) editions edition ascends.1 (omega (arith, is)))

-- the last has the number of its place
number_of_last : (number : ℕ) (front : List EditionValue) (last : EditionValue) → AreNumberedFrom number (front ++ last ∷ []) → last.number ≡ number + length front
number_of_last number [] last ascends = let first : last.number ≡ number = ascends.0 in omega (arith, first)
number_of_last number (first ∷ front) last ascends = let behind = number_of_last (number + 1) front last ascends.1 in omega (arith, behind)

-- a log of one edition
log_of : (edition : EditionValue) → IsShelfLog (edition ∷ [])
log_of edition = record { some = not_empty [] edition; first = edition.number; numbered = (refl, tt) }

-- the log with one edition more
pub log_on : (log : List EditionValue) (next : EditionValue) → IsShelfLog log → IsNext log next → IsShelfLog (log ++ next ∷ [])
log_on log next is follows =
    let front = follows.1.0 in
    let last = number_of_last is.first front follows.0 (subst (AreNumberedFrom is.first) follows.1.1 is.numbered) in
    let long : length log ≡ length front + 1 = ap length follows.1.1 ∙ length-append front (follows.0 ∷ []) in
    let number : next.number ≡ is.first + length log = omega (arith, follows.2, last, long) in
    record { some = not_empty log next; first = is.first; numbered = numbered_on is.first log next is.numbered number }

-- ---- what the steps have in common

not_both : (b : Bool) → b ≡ true → b ≡ false → ⊥
not_both b p q = cc

-- one view changes, and each other one fits as well
changed : (shown next : Shown) (log longer : List EditionValue) (publisher publishes seat : ℕ) (after : View) (views : List View)
    → Fits next longer publishes seat after
    → ((other : ℕ) (view : View) → ¬ (other ≡ seat) → Fits shown log publisher other view → Fits next longer publishes other view)
    → ((other : ℕ) (view : View) → get_elem? views other ≡ some view → Fits shown log publisher other view)
    → (other : ℕ) (view : View) → get_elem? (set views seat after) other ≡ some view → Fits next longer publishes other view
changed shown next log longer publisher publishes seat after views mine others each other view at = ⊎_elim
    (λ (same : (other ≡ seat) × (after ≡ view)). subst (λ (v : View). Fits next longer publishes other v) same.1 (subst (λ (s : ℕ). Fits next longer publishes s after) (sym same.0) mine))
    (λ (apart : (other ≢ seat) × (get_elem? views other ≡ some view)). others other view apart.0 (each other view apart.1))
    (at_set views seat other after view at)

abbrev pub Handle : Type 0
Handle = Arc Edition Global

abbrev state_of : Shown → EditionValue × Bool
state_of shown = (arc_value shown.latest, shown.begun)

abbrev applied : EditionValue × Bool → Handle → EditionValue × Bool
applied state next = (arc_value next, true)

-- ---- a take

pub looks : (seat : ℕ) (view : View) (shown : Shown) → TurnsAt Keeps seat view shown shown Sees
looks seat view shown views keeps at =
    let mine = keeps.each seat view at in
    let after : View = record { seen = keeps.log; publishes = view.publishes } in (
      after,
      record {
        log = keeps.log;
        publisher = keeps.publisher;
        is_log = keeps.is_log;
        last = keeps.last;
        first = keeps.first;
        each = changed shown shown keeps.log keeps.log keeps.publisher keeps.publisher seat after views
            (record { seen = all_seen keeps.log; alone = mine.alone; whole = λ _. refl; begun = mine.begun })
            (λ other u apart fits. fits) keeps.each;
      },
      record { is_log = keeps.is_log; last = keeps.last; grows = mine.seen },
    )

-- ---- the making of a view

fits_newcomer : (shown : Shown) (log : List EditionValue) (publisher seat : ℕ) → Fits shown log publisher seat newcomer
fits_newcomer shown log publisher seat = record {
  seen = none_seen log;
  alone = λ (is : false ≡ true). absurd (not_both false is refl);
  whole = λ (is : false ≡ true). absurd (not_both false is refl);
  begun = λ (is : false ≡ true). absurd (not_both false is refl);
}

pub admits : Admits Keeps newcomer
admits shown views keeps = record {
  log = keeps.log;
  publisher = keeps.publisher;
  is_log = keeps.is_log;
  last = keeps.last;
  first = keeps.first;
  each = λ seat view at. ⊎_elim (λ (old : get_elem? views seat ≡ some view). keeps.each seat view old)
      (λ (new : newcomer ≡ view). subst (λ (v : View). Fits shown keeps.log keeps.publisher seat v) new (fits_newcomer shown keeps.log keeps.publisher seat))
      (at_snoc views newcomer view seat at);
}

nobody : (seat : ℕ) (view : View) → get_elem? [] seat ≡ some view → ⊥
nobody seat view at = cc

-- the first view
pub starts : (shown : Shown) → shown.begun ≡ false → Keeps shown (newcomer ∷ [])
starts shown shut = admits shown [] (record {
  log = arc_value shown.latest ∷ [];
  publisher = 0;
  is_log = log_of (arc_value shown.latest);
  last = ([], refl);
  first = λ _. refl;
  each = λ seat view at. absurd (nobody seat view at);
})

-- ---- the opening

pub opens : (seat : ℕ) (view : View) (shown next : Shown) (first : Handle) (operations : List Handle) → operations ≡ first ∷ [] → state_of next ≡ fold applied (state_of shown) operations
    → shown.begun ≡ false → arc_value first ≡ arc_value shown.latest → TurnsAt Keeps seat view shown next Opens
opens seat view shown next first operations one is shut same views keeps at =
    let is' : state_of next ≡ (arc_value first, true) = is ∙ ap (λ os. fold applied (state_of shown) os) one in
    let latest : arc_value next.latest ≡ arc_value shown.latest = ap (λ (p : EditionValue × Bool). p.0) is' ∙ same in
    let begun : next.begun ≡ true = ap (λ (p : EditionValue × Bool). p.1) is' in
    let after : View = record { seen = keeps.log; publishes = true } in (
      after,
      record {
        log = keeps.log;
        publisher = seat;
        is_log = keeps.is_log;
        last = subst (λ (e : EditionValue). EndsWith keeps.log e) (sym latest) keeps.last;
        first = λ not. absurd (not_both next.begun begun not);
        each = changed shown next keeps.log keeps.log keeps.publisher seat seat after views
            (record { seen = all_seen keeps.log; alone = λ _. refl; whole = λ _. refl; begun = λ _. begun })
            (λ other u apart fits. record { seen = fits.seen; alone = λ p. absurd (not_both shown.begun (fits.begun p) shut); whole = fits.whole; begun = λ _. begun }) keeps.each;
      },
      record { log = keeps.first shut ∙ ap (λ (e : EditionValue). e ∷ []) (sym latest); publishes = refl },
    )

-- ---- a publish

pub publishes : (seat : ℕ) (view : View) (shown next : Shown) (edition : Handle) (operations : List Handle) → operations ≡ edition ∷ []
    → state_of next ≡ fold applied (state_of shown) operations → view.publishes ≡ true → IsNext view.seen (arc_value edition) → TurnsAt Keeps seat view shown next Grows
publishes seat view shown next edition operations one is may number views keeps at =
    let mine = keeps.each seat view at in
    let is' : state_of next ≡ (arc_value edition, true) = is ∙ ap (λ os. fold applied (state_of shown) os) one in
    let latest : arc_value next.latest ≡ arc_value edition = ap (λ (p : EditionValue × Bool). p.0) is' in
    let begun : next.begun ≡ true = ap (λ (p : EditionValue × Bool). p.1) is' in
    let log' : List EditionValue = view.seen ++ arc_value next.latest ∷ [] in
    let more : BeginsSeen keeps.log log' = (arc_value next.latest ∷ [], ap (λ (l : List EditionValue). l ++ arc_value next.latest ∷ []) (mine.whole may)) in
    let number' : IsNext view.seen (arc_value next.latest) = subst (IsNext view.seen) (sym latest) number in
    let after : View = record { seen = log'; publishes = true } in (
      after,
      record {
        log = log';
        publisher = keeps.publisher;
        is_log = log_on view.seen (arc_value next.latest) (subst IsShelfLog (sym (mine.whole may)) keeps.is_log) number';
        last = (view.seen, refl);
        first = λ not. absurd (not_both next.begun begun not);
        each = changed shown next keeps.log log' keeps.publisher keeps.publisher seat after views
            (record { seen = all_seen log'; alone = λ _. mine.alone may; whole = λ _. refl; begun = λ _. begun })
            (λ other u apart fits. record {
              seen = begins_on u.seen keeps.log log' fits.seen more;
              alone = fits.alone;
              whole = λ p. absurd (apart (fits.alone p ∙ sym (mine.alone may)));
              begun = λ _. begun;
            }) keeps.each;
      },
      record { log = refl; publishes = refl },
    )
