-- Editions in the order in which they are published.
use Rattle.std.specs.Prelude.{◌≡◌, ◌≢◌, ℕ, zero, suc, ◌+◌, ◌-◌, ◌<◌, min, nat_lt, cond, List, [], ◌∷◌, ◌++◌, length, take, slice_index_or, Option, None, Some, ⊤}
use Rattle.edr_edition.specs.Values.{EditionValue}
use Rattle.edr_base.specs.Limits.{count_limit}

-- the numbers ascend by one from that number on
abbrev pub AreNumberedFrom : ℕ → List EditionValue → Type 0
AreNumberedFrom number [] = ⊤
AreNumberedFrom number (edition ∷ editions) = (edition.number ≡ number) × AreNumberedFrom (number + 1) editions

-- a shelf list: the numbers ascend by one
abbrev pub IsShelfList : List EditionValue → Type 0
IsShelfList editions = (first : ℕ) × AreNumberedFrom first editions

-- a shelf list that isn't empty
abbrev pub IsStocked : List EditionValue → Type 0
IsStocked editions = IsShelfList editions × (0 < length editions)

-- a log: a shelf list that isn't empty and begins with number 1
pub record IsLog (editions : List EditionValue) : Type 0 where
  pub some : editions ≢ []
  pub numbered : AreNumberedFrom 1 editions

-- ---- what a take says

-- the editions that were seen before are the first of those that are seen after
abbrev pub BeginsSeen : List EditionValue → List EditionValue → Type 0
BeginsSeen before after = (more : List EditionValue) × (after ≡ before ++ more)

-- the edition is the last that is seen
abbrev pub EndsWith : List EditionValue → EditionValue → Type 0
EndsWith seen edition = (front : List EditionValue) × (seen ≡ front ++ edition ∷ [])

-- the numbers that were taken, where they are told after, were told before and grew by these
abbrev pub TakenGrew : Option (List ℕ) → Option (List ℕ) → List ℕ → Type 0
TakenGrew before None numbers = ⊤
TakenGrew None (Some after) numbers = ⊥
TakenGrew (Some before) (Some after) numbers = after ≡ before ++ numbers

-- the edition's number is one more than that of the last that is seen
abbrev pub IsNext : List EditionValue → EditionValue → Type 0
IsNext seen next = (last : EditionValue) × EndsWith seen last × (next.number ≡ last.number + 1)

-- ---- a shelf that gives one edition after another

-- its editions, and how many takes it answered; it counts no further than to 2 ^ 64 - 1
pub record SteppedValue : Type 0 where
  pub editions : List EditionValue
  pub answered : ℕ

-- what it has given, up to the last answer
abbrev pub given : SteppedValue → List EditionValue
given shelf = take shelf.answered shelf.editions

abbrev pub no_edition : EditionValue
no_edition = record { number = 0; collections = [] }

-- the edition that it answers after so many answers: the next, or the last again where none is left
abbrev pub edition_after : ℕ → List EditionValue → EditionValue
edition_after answered editions = slice_index_or editions (min answered (length editions - 1)) no_edition

-- the numbers of its first answers
abbrev pub first_numbers : ℕ → List EditionValue → List ℕ
first_numbers zero editions = []
first_numbers (suc answered) editions = first_numbers answered editions ++ (edition_after answered editions).number ∷ []

-- the numbers of all its answers, told as long as they are counted
abbrev pub taken_of : SteppedValue → Option (List ℕ)
taken_of shelf = cond (nat_lt shelf.answered count_limit) (Some (first_numbers shelf.answered shelf.editions)) None

-- the shelf after one more answer
abbrev pub stepped : SteppedValue → SteppedValue
stepped shelf = record { editions = shelf.editions; answered = min (shelf.answered + 1) count_limit }
