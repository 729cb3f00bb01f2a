-- Replies that are kept from one request to the next.
use Rattle.std.specs.Prelude.{◌≡◌, ◌⊎◌, ℕ, ◌≤◌, ◌==◌, Bool, false, if◌then◌else◌, List, [], length, All, Option, None, Some, Ok}
use Rattle.edr_cache.specs.Limits.{kept_limit}
use Rattle.edr_cache.specs.Pairs.{Pair, Held, held, with_body}
use Rattle.edr_edition.specs.Values.{EditionValue}
use Rattle.edr_query.specs.Targets.{IsTarget}
use Rattle.edr_query.specs.declared.pages.Page.TheVariants.{Ask}
use Rattle.edr_query.specs.Values.{QueryValue}
use Rattle.edr_describe.specs.Answers.{IsTextOf}

-- what is kept: the edition that it is from, where there is one, and bodies by their targets, the most recently used first
pub record KeptValue : Type 0 where
  pub edition : Option EditionValue
  pub bodies : Held

abbrev pub kept_of : Option EditionValue → Held → KeptValue
kept_of edition bodies = record { edition = edition; bodies = bodies }

-- ---- what holds of it always

-- the target asks for data, and the body is the text of them
pub record IsDataOf (edition : EditionValue) (pair : Pair) : Type 0 where
  pub query : QueryValue
  pub asked : IsTarget pair.0 (Ok (Ask query))
  pub text : IsTextOf edition (Ask query) pair.1

-- each body is what the edition answers to its target, and without an edition there is none
abbrev pub AreDataOf : Option EditionValue → List Pair → Type 0
AreDataOf None pairs = pairs ≡ []
AreDataOf (Some edition) pairs = All (IsDataOf edition) pairs

-- it may be kept for the target
abbrev pub MayBeKept : Option EditionValue → Pair → Type 0
MayBeKept None pair = ⊥
MayBeKept (Some edition) pair = IsDataOf edition pair

-- ---- what changes it

abbrev pub has_number : ℕ → Option EditionValue → Bool
has_number number None = false
has_number number (Some edition) = edition.number == number

-- an edition was taken: where its number is another than that of what is kept, that is given up
abbrev pub turned_to : EditionValue → KeptValue → KeptValue
turned_to edition kept = if has_number edition.number kept.edition then kept else kept_of (Some edition) (held [] kept.bodies.capacity)

-- a body is put for a target, where it isn't too long and memory isn't wanting
abbrev pub Puts : List ℕ → List ℕ → Held → Held → Type 0
Puts body target before after =
    (after ≡ before) ⊎ ((length body ≤ kept_limit) × (after ≡ held (with_body before.capacity target body before.pairs) before.capacity))
