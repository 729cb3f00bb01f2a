-- The rule of a shelf that threads share: it holds at every moment, in whatever order their steps come.
-- The log is the list of all editions that were published, whose numbers go on by one from that of the first. It stands in the rule alone: what the threads share is its last edition.
use Rattle.std.specs.Prelude.{◌≡◌, ℕ, List, [], ◌∷◌, ◌++◌, true, false}
use Rattle.std.specs.Arc.{arc_value}
use mathlib.Core.Option.{some}
use lib.ListN.{get_elem?}
use Rattle.edr_edition.specs.Values.{EditionValue}
use Rattle.edr_edition.specs.Shelves.{BeginsSeen, EndsWith}
use Rattle.edr_share.specs.Values.{IsShelfLog}
use Rattle.edr_share.specs.declared.shown.Shown.{Shown}
use Rattle.edr_share.specs.declared.rule.View.{View}

-- a handle at this seat: the log begins with what it has seen; if it publishes, it alone does, and it has seen the whole log
pub record Fits (shown : Shown) (log : List EditionValue) (publisher seat : ℕ) (view : View) : Type 0 where
  pub seen : BeginsSeen view.seen log
  pub alone : view.publishes ≡ true → seat ≡ publisher
  pub whole : view.publishes ≡ true → view.seen ≡ log
  pub begun : view.publishes ≡ true → shown.begun ≡ true

-- there is a log, it ends with the edition that is shown, and each handle's view fits it
pub record Keeps (shown : Shown) (views : List View) : Type 0 where
  pub log : List EditionValue
  pub publisher : ℕ
  pub is_log : IsShelfLog log
  pub last : EndsWith log (arc_value shown.latest)
  pub first : shown.begun ≡ false → log ≡ arc_value shown.latest ∷ []
  pub each : (seat : ℕ) (view : View) → get_elem? views seat ≡ some view → Fits shown log publisher seat view

-- ---- the kinds of step

-- a handle that is made has seen nothing
abbrev pub newcomer : View
newcomer = record { seen = []; publishes = false }

-- a take: what the reader has seen is then a log that ends with the edition that is shown, and begins with what it had seen
pub record Sees (before : View) (shown next : Shown) (after : View) : Type 0 where
  pub is_log : IsShelfLog after.seen
  pub last : EndsWith after.seen (arc_value next.latest)
  pub grows : BeginsSeen before.seen after.seen

-- the opening: the publisher has seen the log, which is the edition that is shown and no other, and may publish from then on
pub record Opens (before : View) (shown next : Shown) (after : View) : Type 0 where
  pub log : after.seen ≡ arc_value next.latest ∷ []
  pub publishes : after.publishes ≡ true

-- a publish: the publisher has seen the log, which is longer by the edition that is shown then
pub record Grows (before : View) (shown next : Shown) (after : View) : Type 0 where
  pub log : after.seen ≡ before.seen ++ arc_value next.latest ∷ []
  pub publishes : after.publishes ≡ true
