-- The feed that is made, as it is read.
use Rattle.std.proofs.Common.{◌≡◌, ℕ, List, subst, ap, ◌∙◌, None, Some}
use Rattle.std.specs.Prelude.{Result, Ok, Err, IfSome}
use Rattle.std.specs.declared.option.Option.{Option}
use Rattle.edr_edition.specs.Values.{EditionValue}
use Rattle.edr_feed.specs.Feeds.{FeedStands, FeedStandsIn}
use Rattle.edr_make.specs.Made.{made}
use Rattle.edr_feed.specs.declared.refusals.FeedRefusal.{FeedRefusal}
use Rattle.edr_edition.specs.Shelves.{EndsWith}
use Rattle.edr_work.specs.declared.faults.WorkFault.{WorkFault}
use Rattle.edr_work.specs.declared.faults.WorkFault.TheVariants.{NotFeed, Refused, OutOfMemory}
use Rattle.edr_work.specs.Working.{MatchWork}
use Rattle.edr_work.specs.Counting.{MatchLines, MatchMade}
use Rattle.edr_work.specs.Faults.{of_refusal}

-- what stands in a source of these bytes stands for them
pub stands_for : (left : Option (List ℕ)) (bytes : List ℕ) (number : ℕ) (answer : Result (List EditionValue) FeedRefusal) → left ≡ Some bytes → bytes ≡ made number
    → FeedStandsIn left answer → FeedStands (made number) answer
stands_for left bytes number answer told is stands = subst (λ (l : Option (List ℕ)). FeedStandsIn l answer) (told ∙ ap Some is) stands

pub fault_for : (left : Option (List ℕ)) (bytes : List ℕ) (number : ℕ) (found : Option FeedRefusal) → left ≡ Some bytes → bytes ≡ made number
    → IfSome found (λ refusal. FeedStandsIn left (Err refusal)) → MatchMade (Err (of_refusal found)) number
fault_for left bytes number None told is stands = tt
fault_for left bytes number (Some refusal) told is stands = stands_for left bytes number (Err refusal) told is stands

-- the lines of the last of these editions are those of the run
pub work_is : (result : Result (List ℕ) WorkFault) (number : ℕ) (editions seen : List EditionValue) (edition : EditionValue) → MatchLines result edition
    → FeedStands (made number) (Ok editions) → seen ≡ editions → EndsWith seen edition → MatchWork result number
work_is (Ok text) number editions seen edition lines feed same last = (edition, record { editions = editions; feed = feed; last = subst (λ (list : List EditionValue). EndsWith list edition) same last }, lines)
work_is (Err (NotFeed refusal)) number editions seen edition lines feed same last = absurd lines
work_is (Err (Refused refusal)) number editions seen edition lines feed same last =
    (edition, record { editions = editions; feed = feed; last = subst (λ (list : List EditionValue). EndsWith list edition) same last }, lines)
work_is (Err OutOfMemory) number editions seen edition lines feed same last = tt
