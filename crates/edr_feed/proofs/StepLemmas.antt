-- What a line makes, row by row.
use Rattle.std.proofs.Common.{◌≡◌, ◌⊎◌, ℕ, ◌+◌, ◌<◌, ◌≤◌, min, List, [], ◌∷◌, ◌++◌, length, take, Option, None, Some, Result, Ok, Err, inl, inr, refl, sym, ap, ◌∙◌, subst, arith, length-take}
use Rattle.std.specs.Prelude.{IfSome}
use Rattle.std.proofs.lemmas.Bool.Decides.{leb_tells}
use Rattle.std.proofs.lemmas.List.{take_all}
use Rattle.serde_json.specs.Data.{Data}
use Rattle.edr_base.specs.Limits.{line_limit}
use Rattle.edr_draft.specs.declared.changes.Change.{Change as DraftChange}
use Rattle.edr_draft.specs.declared.changes.ChangeFault.{ChangeFault}
use Rattle.edr_draft.specs.Changes.{IsRefused}
use Rattle.edr_feed.specs.declared.entries.Entry.{Entry}
use Rattle.edr_feed.specs.declared.entries.Entry.TheVariants as entries
use Rattle.edr_feed.specs.declared.faults.LineFault.{LineFault}
use Rattle.edr_feed.specs.declared.faults.LineFault.TheVariants.{LineTooLong, NotJson, NotFeedLine, Cov, Change, OutOfMemory}
use Rattle.edr_feed.specs.declared.faults.FeedFault.{FeedFault}
use Rattle.edr_feed.specs.declared.faults.FeedFault.TheVariants as feed
use Rattle.edr_feed.specs.declared.refusals.FeedRefusal.{FeedRefusal}
use Rattle.edr_feed.specs.Faults.{at_line}
use Rattle.edr_feed.specs.Refusals.{refusal_of, line_of}
use Rattle.edr_feed.specs.Forms.{HasForm}
use Rattle.edr_feed.specs.FormParts.{FailsIn}
use Rattle.edr_feed.specs.Steps.{Progress, at_start, EntryMakes, LineRows, EachLineRows}
use Rattle.edr_feed.specs.Readings.{SaysNothing, Says, IsNotDone, DoesEntry, InnerAt, IsAtFault, DoesLine, GoesOn}
use Rattle.edr_feed.proofs.FormLaws.{one_coverage}

-- ---- a line

-- a tree whose coverage stands for nothing stands for no entry
no_form : (tree : Data) (fault : _) → FailsIn tree fault → (entry : Entry) → ¬ (HasForm tree entry)
no_form tree fault fails entry form =
    let some = (one_coverage tree fails.coverage fails.holds).stands.0 (entry, form) in
    fails.nothing some.0 some.1

-- a line that says nothing is at fault
pub nothing_said : (line : List ℕ) (old : Progress) (fault : LineFault) → SaysNothing line fault → (number : ℕ) → IsAtFault number line old (at_line number fault)
nothing_said line old LineTooLong says number = record { own = tt; refused = inr (λ within. absurd (omega arith), refl); inner = tt }
nothing_said line old NotJson says number = record { own = tt; refused = inl (says.0.0, inr (says.0.1, inr (says.1, refl))); inner = tt }
nothing_said line old NotFeedLine says number = record {
  own = tt;
  refused = inl (says.0.0, inr (says.0.1, inl (says.1, says.2, inr (says.3, refl))));
  inner = tt;
}
nothing_said line old (Cov fault) says number =
    let fails = says.3 in
    record {
      own = tt;
      refused = inl (says.0.0, inr (says.0.1, inl (says.1, says.2, inl (inr (fails.coverage, fails.holds), inr (no_form says.1 fault fails, refl)))));
      inner = (refl, record { tree = says.1; is_tree = says.2; coverage = fails.coverage; holds = fails.holds; fails = fails.fails });
    }
nothing_said line old (Change fault) says number = absurd says
nothing_said line old OutOfMemory says number = record { own = tt; refused = tt; inner = tt }

-- a change that is refused makes nothing
refused_makes : (old : Progress) (change : DraftChange) (fault : ChangeFault) → IsRefused old.draft change fault → (new : Progress) → ¬ (EntryMakes old (entries.Change change) new)
refused_makes old change fault refused new makes = makes.1.can fault refused.applies

not_done : (line : List ℕ) (old : Progress) (entry : Entry) (fault : LineFault) → Says line (Ok (Some entry)) → IsNotDone old entry fault → (number : ℕ)
    → IsAtFault number line old (at_line number fault)
not_done line old entry LineTooLong says none number = absurd none
not_done line old entry NotJson says none number = absurd none
not_done line old entry NotFeedLine says none number = absurd none
not_done line old entry (Cov fault) says none number = absurd none
not_done line old entry (Change fault) says none number =
    let makes = subst (λ (e : Entry). (new : Progress) → ¬ (EntryMakes old e new)) (sym none.1) (refused_makes old none.0 fault none.2) in
    record {
      own = tt;
      refused = inl (says.0.0, inr (says.0.1, inl (says.1, says.2, inl (inl (entry, says.3), inl (entry, says.3, inr (makes, refl))))));
      inner = (
        refl,
        record {
          tree = says.1;
          is_tree = says.2;
          change = none.0;
          has_form = subst (λ (e : Entry). HasForm says.1 e) none.1 says.3;
          refused = none.2;
        },
      );
    }
not_done line old entry OutOfMemory says none number = record { own = tt; refused = tt; inner = tt }

-- a line whose entry is done is done
pub entry_done : {T : Type 0} (line : List ℕ) (old new : Progress) (entry : Entry) (result : Result T LineFault) → Says line (Ok (Some entry)) → DoesEntry old entry result new
    → DoesLine line old result new
entry_done line old new entry (Ok u) says done =
    λ number. inl (says.0.0, inr (says.0.1, inl (says.1, says.2, inl (inl (entry, says.3), inl (entry, says.3, inl (new, done, refl))))))
entry_done line old new entry (Err fault) says none = not_done line old entry fault says none

-- ---- the line that a fault names

named_at : (number : ℕ) (fault : LineFault) → IfSome (line_of (at_line number fault)) (λ line. number ≤ line)
named_at number LineTooLong = omega arith
named_at number NotJson = omega arith
named_at number NotFeedLine = omega arith
named_at number (Cov fault) = omega arith
named_at number (Change fault) = omega arith
named_at number OutOfMemory = tt

pub line_named : (number : ℕ) (fault : LineFault) (named : FeedFault) → named ≡ at_line number fault → IfSome (line_of named) (λ line. number ≤ line)
line_named number fault named is = subst (λ (f : FeedFault). IfSome (line_of f) (λ line. number ≤ line)) (sym is) (named_at number fault)

-- a line that isn't before a later one
pub from_some : (number later : ℕ) (line : Option ℕ) → number ≤ later → IfSome line (λ l. later ≤ l) → IfSome line (λ l. number ≤ l)
from_some number later None up on = tt
from_some number later (Some line) up on = omega (arith, up, on)

-- what goes on from a later line goes on from one before it
pub goes_from : {T : Type 0} (number later : ℕ) (result : Result T FeedFault) (next : ℕ) → number ≤ later → GoesOn later result next → GoesOn number result next
goes_from number later (Ok u) next up on = omega (arith, up, on)
goes_from number later (Err fault) next up on = from_some number later (line_of fault) up on

-- ---- a line that is kept in part

pub if_some : {T : Type 0} (P Q : T → Type 0) (o : Option T) → ((x : T) → P x → Q x) → IfSome o P → IfSome o Q
if_some P Q None step h = tt
if_some P Q (Some x) step h = step x h

-- all of it, or more than the limit of it
kept_or_long : (line kept : List ℕ) → kept ≡ take (line_limit + 1) line → (kept ≡ line) ⊎ ((line_limit < length kept) × (line_limit < length line))
kept_or_long line kept e = elim (leb_tells (length line) (line_limit + 1)) [
  | inl p ↦ inl (e ∙ take_all (line_limit + 1) line p.1)
  | inr p ↦ let n : length kept ≡ min (line_limit + 1) (length line) = ap length e ∙ length-take (line_limit + 1) line in inr (omega arith, omega arith)
]

-- a line that is too long isn't looked at any further
long_rows : (number : ℕ) (line kept : List ℕ) (old : Progress) (answer : Result Progress FeedRefusal) → line_limit < length kept → line_limit < length line
    → LineRows number kept old answer → LineRows number line old answer
long_rows number line kept old answer a b (inl h) = let within = h.0 in absurd (omega arith)
long_rows number line kept old answer a b (inr h) = inr (λ within. absurd (omega arith), h.1)

long_inner : (number : ℕ) (line kept : List ℕ) (old : Progress) (fault : FeedFault) → line_limit < length kept
    → IfSome (refusal_of fault) (λ refusal. LineRows number kept old (Err refusal)) → InnerAt number line old fault
long_inner number line kept old feed.ReadFault long h = tt
long_inner number line kept old feed.TooLong long h = tt
long_inner number line kept old (feed.LineTooLong place) long h = tt
long_inner number line kept old (feed.NotJson place) long h = tt
long_inner number line kept old (feed.NotFeedLine place) long h = tt
long_inner number line kept old (feed.Cov place fault) long (inl h) = let within = h.0 in absurd (omega arith)
long_inner number line kept old (feed.Cov place fault) long (inr h) = let e = h.1 in cc
long_inner number line kept old (feed.Change place fault) long (inl h) = let within = h.0 in absurd (omega arith)
long_inner number line kept old (feed.Change place fault) long (inr h) = let e = h.1 in cc
long_inner number line kept old feed.NothingPublished long h = tt
long_inner number line kept old feed.OutOfMemory long h = tt

-- what is kept of a line tells what it makes
pub rows_front : (number : ℕ) (line kept : List ℕ) (old : Progress) (answer : Result Progress FeedRefusal) → kept ≡ take (line_limit + 1) line
    → LineRows number kept old answer → LineRows number line old answer
rows_front number line kept old answer e rows = elim (kept_or_long line kept e) [
  | inl same ↦ subst (λ (w : List ℕ). LineRows number w old answer) same rows
  | inr long ↦ long_rows number line kept old answer long.0 long.1 rows
]

-- and its fault
pub fault_front : (number : ℕ) (line kept : List ℕ) (old : Progress) (fault : FeedFault) → kept ≡ take (line_limit + 1) line
    → IsAtFault number kept old fault → IsAtFault number line old fault
fault_front number line kept old fault e at = elim (kept_or_long line kept e) [
  | inl same ↦ subst (λ (w : List ℕ). IsAtFault number w old fault) same at
  | inr long ↦ record {
    own = at.own;
    refused = if_some (λ refusal. LineRows number kept old (Err refusal)) (λ refusal. LineRows number line old (Err refusal)) (refusal_of fault)
        (λ refusal. long_rows number line kept old (Err refusal) long.0 long.1) at.refused;
    inner = long_inner number line kept old fault long.0 at.refused;
  }
]

-- ---- lines

-- more lines after some
pub lines_append : (lines more : List (List ℕ)) (number : ℕ) (old now : Progress) (answer : Result Progress FeedRefusal) → EachLineRows number lines old (Ok now)
    → EachLineRows (number + length lines) more now answer → EachLineRows number (lines ++ more) old answer
lines_append [] more number old now answer made next =
    let same : now ≡ old = cc in
    let none : number + 0 ≡ number = omega arith in
    subst (λ (p : Progress). EachLineRows number more p answer) same (subst (λ (n : ℕ). EachLineRows n more now answer) none next)
lines_append (line ∷ lines) more number old now answer (inl made) next =
    let count : number + length (line ∷ lines) ≡ (number + 1) + length lines = omega arith in
    inl (made.0, made.1, lines_append lines more (number + 1) made.0 now answer made.2 (subst (λ (n : ℕ). EachLineRows n more now answer) count next))
lines_append (line ∷ lines) more number old now answer (inr made) next = let e = made.2 in cc

-- a line that is done, after some
pub lines_done : (lines : List (List ℕ)) (line : List ℕ) (number : ℕ) (now next : Progress) → number ≡ length lines + 1 → EachLineRows 1 lines at_start (Ok now)
    → LineRows number line now (Ok next) → EachLineRows 1 (lines ++ line ∷ []) at_start (Ok next)
lines_done lines line number now next count made rows =
    let same : number ≡ 1 + length lines = omega arith in
    lines_append lines (line ∷ []) 1 at_start now (Ok next) made (inl (next, subst (λ (n : ℕ). LineRows n line now (Ok next)) same rows, refl))

-- a line that is refused, after some
pub lines_refused : (lines behind : List (List ℕ)) (line : List ℕ) (number : ℕ) (now : Progress) (refusal : FeedRefusal) → number ≡ length lines + 1
    → EachLineRows 1 lines at_start (Ok now) → LineRows number line now (Err refusal) → EachLineRows 1 (lines ++ line ∷ behind) at_start (Err refusal)
lines_refused lines behind line number now refusal count made rows =
    let same : number ≡ 1 + length lines = omega arith in
    lines_append lines (line ∷ behind) 1 at_start now (Err refusal) made (inr (refusal, subst (λ (n : ℕ). LineRows n line now (Err refusal)) same rows, refl))
