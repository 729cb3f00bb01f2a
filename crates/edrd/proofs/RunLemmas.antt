-- What a run rests on: the feed in its file, and doors that are closed one by one.
use Rattle.std.proofs.Common.{◌≡◌, ◌+◌, ◌<◌, ◌⊎◌, ◌∙◌, ℕ, Bool, true, false, inl, inr, List, [], ◌∷◌, length, Err, None, Some, IfSome, refl, ap, subst, arith}
use Rattle.std.specs.Prelude.{All, IsSomeAnd, Result, slice_index_or, sum_by}
use Rattle.std.specs.declared.option.Option.{Option}
use Rattle.std.proofs.lemmas.List.Sums.{sum_by-cons}
use Rattle.std.proofs.lemmas.List.Elements.{All-head, All-tail}
use Rattle.edr_base.specs.Limits.{feed_limit}
use Rattle.edr_base.specs.Calls.{ReadsAtMost, buffer_size}
use Rattle.edr_base.specs.Outside.{Rose}
use Rattle.edr_edition.specs.Values.{EditionValue}
use Rattle.edr_feed.specs.Feeds.{FeedStandsIn, LeavesBehindIn}
use Rattle.edr_feed.specs.declared.faults.FeedFault.{FeedFault}
use Rattle.edr_feed.specs.declared.faults.FeedFault.TheVariants as faults
use Rattle.edr_feed.specs.declared.refusals.FeedRefusal.{FeedRefusal}
use Rattle.edr_feed.specs.Refusals.{refusal_of}
use Rattle.edr_program.specs.FileReads.{IsFileRead}
use Rattle.edrd.specs.Feeding.{IsCause, ending_of}
use Rattle.edrd.specs.Doors.{IsNew}
use Rattle.edrd.specs.Serving.{HasEnded}
use Rattle.edrd.specs.Closing.{MayClose}
use Rattle.edrd.specs.declared.doors.DoorsAsked.{DoorsAsked}

-- ---- the feed

-- what stands in the file that was opened stands in the file of that name
pub stands_opened : (content left : Option (List ℕ)) (answer : Result (List EditionValue) FeedRefusal) → IfSome content (λ told. left ≡ Some told)
    → FeedStandsIn left answer → FeedStandsIn content answer
stands_opened None None answer h x = x
stands_opened None (Some bytes) answer h x = (bytes, x)
stands_opened (Some told) left answer h x = subst (λ (z : Option (List ℕ)). FeedStandsIn z answer) h x

pub leaves_opened : (content left : Option (List ℕ)) (behind : ℕ) → IfSome content (λ told. left ≡ Some told) → LeavesBehindIn left behind → LeavesBehindIn content behind
leaves_opened None None behind h x = x
leaves_opened None (Some bytes) behind h x = (bytes, x)
leaves_opened (Some told) left behind h x = subst (λ (z : Option (List ℕ)). LeavesBehindIn z behind) h x

pub fault_cause : (fault : FeedFault) (content left : Option (List ℕ)) (before after : ℕ) (idle : Bool) → IfSome content (λ told. left ≡ Some told)
    → IfSome (refusal_of fault) (λ refusal. FeedStandsIn left (Err refusal)) → (fault ≡ faults.ReadFault → Rose before after × (idle ≡ false))
    → IsCause (ending_of fault) content before after idle
fault_cause faults.ReadFault content left before after idle h x read = read refl
fault_cause faults.TooLong content left before after idle h x read = stands_opened content left _ h x
fault_cause (faults.LineTooLong line) content left before after idle h x read = stands_opened content left _ h x
fault_cause (faults.NotJson line) content left before after idle h x read = stands_opened content left _ h x
fault_cause (faults.NotFeedLine line) content left before after idle h x read = stands_opened content left _ h x
fault_cause (faults.Cov line fault) content left before after idle h x read = stands_opened content left _ h x
fault_cause (faults.Change line fault) content left before after idle h x read = stands_opened content left _ h x
fault_cause faults.NothingPublished content left before after idle h x read = stands_opened content left _ h x
fault_cause faults.OutOfMemory content left before after idle h x read = tt

-- no more was read of a file that is open
pub file_read : (idle : Bool) (content left now : Option (List ℕ)) → idle ≡ false → IfSome content (λ told. left ≡ Some told)
    → ReadsAtMost (feed_limit + buffer_size) left now → IsFileRead idle content now
file_read true content left now e h r = absurd cc
file_read false None left now e h r = tt
file_read false (Some told) left now e h r = subst (λ (list : Option (List ℕ)). ReadsAtMost (feed_limit + buffer_size) list now) h r

-- ---- the doors

-- there is room for one more that is closed
pub room_for : (last : Option DoorsAsked) (closed before all left : ℕ) → IsSomeAnd last (λ asked. before + all ≡ asked.count) → closed + left ≡ before + all
    → 0 < left → IsSomeAnd last (λ asked. closed < asked.count)
room_for None closed before all left room same some = room
room_for (Some asked) closed before all left room same some = omega (arith, room, same, some)

-- the first of a list, and the others
pub door_first : {A : Type 0} (P : A → Type 0) (old new : List A) (door : A) → All P old → old ≡ door ∷ new → P door
door_first P old new door all is = All-head P door new (subst (All P) is all)

pub door_others : {A : Type 0} (P : A → Type 0) (old new : List A) (door : A) → All P old → old ≡ door ∷ new → All P new
door_others P old new door all is = All-tail P door new (subst (All P) is all)

-- what the first of a list adds to a sum
pub door_sum : {A : Type 0} (f : A → ℕ) (old new : List A) (door : A) → old ≡ door ∷ new → sum_by f old ≡ f door + sum_by f new
door_sum f old new door is = ap (sum_by f) is ∙ sum_by-cons f door new

-- nothing came through new doors
none_of : {A : Type 0} (f : A → ℕ) (doors : List A) → All (λ door. f door ≡ 0) doors → sum_by f doors ≡ 0
none_of f [] all = refl
none_of f (door ∷ doors) all =
    let one : f door ≡ 0 = All-head (λ d. f d ≡ 0) door doors all in
    let rest = none_of f doors (All-tail (λ d. f d ≡ 0) door doors all) in
    omega (arith, one, rest, sum_by-cons f door doors)

-- what was counted since
pub sum_given : {A : Type 0} (f : A → ℕ) (old new : List A) (total : ℕ) → All (λ door. f door ≡ 0) old → sum_by f new ≡ sum_by f old + total
    → sum_by f new ≡ total
sum_given f old new total all is = let none = none_of f old all in omega (arith, none, is)

-- ---- doors that were opened, and served to their ends

module _ {A : Type 0} (given finished faulted faults : A → ℕ) (over : A → Bool) where
  pub are_open : (doors : List A) → All (IsNew over given finished faulted faults) doors → All (λ door. over door ≡ false) doors
  are_open doors all = λ i d l. (all i d l).open_

  may_close : (before after : A) → IsNew over given finished faulted faults before → HasEnded given finished faults over before after → MayClose given finished faults over after
  may_close before after new ended = record {
    ended = by ended.ended;
    served = let g : given before ≡ 0 = new.given_is in let f : finished before ≡ 0 = new.finished_is in omega (arith, g, f, ended.given_is, ended.finished_is);
  }
    where
      by : (over after ≡ true) ⊎ Rose (faults before) (faults after) → (over after ≡ true) ⊎ (0 < faults after)
      by (inl e) = inl e
      by (inr rose) = inr (let none : faults before ≡ 0 = new.faults_are in omega (arith, none, rose))

  pub may_close_all : (old new : List A) → All (IsNew over given finished faulted faults) old → length new ≡ length old
      → ((i : ℕ) (d : A) → i < length old → HasEnded given finished faults over (slice_index_or old i d) (slice_index_or new i d))
      → All (MayClose given finished faults over) new
  may_close_all old new all same ended =
      λ i d l. let below : i < length old = omega (arith, l, same) in may_close (slice_index_or old i d) (slice_index_or new i d) (all i d below) (ended i d below)
