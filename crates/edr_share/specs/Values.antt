-- A shared shelf's publisher, its readers' handles, and what is told between them, as contracts see them.
use Rattle.std.specs.Prelude.{◌≡◌, ◌≢◌, ℕ, List, [], Bool}
use Rattle.atomic_table.specs.Seated.{TableId}
use Rattle.edr_edition.specs.Values.{EditionValue}
use Rattle.edr_edition.specs.Shelves.{AreNumberedFrom, EndsWith}

-- The origin of each says which shelf it is of: the table that the publisher of that shelf and its readers were made with.

-- a publisher: all editions that it has published, in order; and whether it is closed, so that it publishes nothing any more
pub record PublisherValue : Type 0 where
  pub log : List EditionValue
  pub closed : Bool
  pub origin : TableId

-- a reader's handle: the editions that were seen through it, in order; and its floor, the least number that it answers
pub record SharedValue : Type 0 where
  pub seen : List EditionValue
  pub floor : ℕ
  pub origin : TableId

-- what a publisher told: the number of the last edition that it had published
pub record ToldValue : Type 0 where
  pub number : ℕ
  pub origin : TableId

-- a reader's handle through which nothing was seen yet
abbrev pub unread : TableId → SharedValue
unread origin = record { seen = []; floor = 0; origin = origin }

-- a log: one edition at least, and their numbers go on by one
pub record IsShelfLog (log : List EditionValue) : Type 0 where
  pub some : log ≢ []
  pub first : ℕ
  pub numbered : AreNumberedFrom first log

-- the log ends with an edition of this number
pub record EndsAt (log : List EditionValue) (number : ℕ) : Type 0 where
  pub last : EditionValue
  pub ends : EndsWith log last
  pub is : number ≡ last.number
