-- Feeds of inputs that may not be told.
use Rattle.std.proofs.Common.{◌≡◌, ◌≢◌, ℕ, List, [], ◌++◌, Option, None, Some, Result, Err, ap, sym, subst, ◌∙◌, append-nil}
use Rattle.std.specs.Prelude.{IfSome}
use Rattle.std.specs.Io.KnownBytes.{prepend_known, IsAtEnd}
use Rattle.edr_edition.specs.Values.{EditionValue}
use Rattle.edr_feed.specs.declared.faults.FeedFault.{FeedFault}
use Rattle.edr_feed.specs.declared.faults.FeedFault.TheVariants.{ReadFault}
use Rattle.edr_feed.specs.declared.refusals.FeedRefusal.{FeedRefusal}
use Rattle.edr_feed.specs.Refusals.{refusal_of}
use Rattle.edr_feed.specs.Feeds.{FeedStands, FeedStandsIn, LeavesBehind, LeavesBehindIn, InnerStandsIn}
use Rattle.edr_feed.specs.Readings.{IsOwn, HasFault, IsFaultOf}
use Rattle.edr_feed.proofs.StepLemmas.{if_some}

-- all of an input was read
all_is : (bytes rest : List ℕ) → rest ≡ [] → bytes ++ rest ≡ bytes
all_is bytes rest end = ap (λ w. bytes ++ w) end ∙ append-nil bytes

pub whole_stands : (old new : Option (List ℕ)) (bytes : List ℕ) (answer : Result (List EditionValue) FeedRefusal) → old ≡ prepend_known bytes new → IsAtEnd new
    → FeedStands bytes answer → FeedStandsIn old answer
whole_stands old None bytes answer e end f = subst (λ (z : Option (List ℕ)). FeedStandsIn z answer) (sym e) (bytes, f)
whole_stands old (Some rest) bytes answer e end f =
    subst (λ (z : Option (List ℕ)). FeedStandsIn z answer) (sym e) (subst (λ (w : List ℕ). FeedStands w answer) (sym (all_is bytes rest end)) f)

pub whole_leaves : (old new : Option (List ℕ)) (bytes : List ℕ) (behind : ℕ) → old ≡ prepend_known bytes new → IsAtEnd new
    → LeavesBehind bytes behind → LeavesBehindIn old behind
whole_leaves old None bytes behind e end l = subst (λ (z : Option (List ℕ)). LeavesBehindIn z behind) (sym e) (bytes, l)
whole_leaves old (Some rest) bytes behind e end l =
    subst (λ (z : Option (List ℕ)). LeavesBehindIn z behind) (sym e) (subst (λ (w : List ℕ). LeavesBehind w behind) (sym (all_is bytes rest end)) l)

-- what a fault says of an input
pub record HasFaultIn (told : Option (List ℕ)) (fault : FeedFault) : Type 0 where
  pub own : IsOwn fault
  pub refused : IfSome (refusal_of fault) (λ refusal. FeedStandsIn told (Err refusal))
  pub inner : InnerStandsIn told fault

-- the input is told
in_told : (bytes : List ℕ) (fault : FeedFault) → HasFault bytes fault → HasFaultIn (Some bytes) fault
in_told bytes fault has = record { own = has.own; refused = has.refused; inner = has.inner }

-- or isn't
in_untold : (bytes : List ℕ) (fault : FeedFault) → HasFault bytes fault → HasFaultIn None fault
in_untold bytes fault has = record {
  own = has.own;
  refused = if_some (λ refusal. FeedStands bytes (Err refusal)) (λ refusal. FeedStandsIn None (Err refusal)) (refusal_of fault) (λ refusal f. (bytes, f)) has.refused;
  inner = (bytes, has.inner);
}

-- the fault of all of an input
pub whole_fault : (old new : Option (List ℕ)) (bytes : List ℕ) (fault : FeedFault) → old ≡ prepend_known bytes new → IsAtEnd new → HasFault bytes fault → HasFaultIn old fault
whole_fault old None bytes fault e end has = subst (λ (z : Option (List ℕ)). HasFaultIn z fault) (sym e) (in_untold bytes fault has)
whole_fault old (Some rest) bytes fault e end has =
    subst (λ (z : Option (List ℕ)). HasFaultIn z fault) (sym e)
    (in_told (bytes ++ rest) fault (subst (λ (w : List ℕ). HasFault w fault) (sym (all_is bytes rest end)) has))

-- the fault of a beginning of an input
pub front_fault : (old new : Option (List ℕ)) (bytes : List ℕ) (fault : FeedFault) → old ≡ prepend_known bytes new → IsFaultOf bytes fault → HasFaultIn old fault
front_fault old None bytes fault e has = subst (λ (z : Option (List ℕ)). HasFaultIn z fault) (sym e) (in_untold (bytes ++ []) fault (has []))
front_fault old (Some rest) bytes fault e has = subst (λ (z : Option (List ℕ)). HasFaultIn z fault) (sym e) (in_told (bytes ++ rest) fault (has rest))

-- a fault of a feed isn't one of its source
pub not_read : (fault : FeedFault) → IsOwn fault → fault ≢ ReadFault
not_read fault own e = subst IsOwn e own
