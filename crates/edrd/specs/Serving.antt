-- What serving the connections of acceptors does.
use Rattle.std.specs.Prelude.{◌≡◌, ◌⊎◌, ℕ, ◌+◌, Bool, true, not, List}
use Rattle.edr_base.specs.Outside.{Rose}
use Rattle.edr_edition.specs.Values.{EditionValue}
use Rattle.edr_edition.specs.Shelves.{AreNumberedFrom}
use Rattle.edr_share.specs.Values.{EndsAt}

-- the numbers of editions go on by one from the last of a log
pub record Continues (log rest : List EditionValue) : Type 0 where
  pub number : ℕ
  pub ends : EndsAt log number
  pub numbered : AreNumberedFrom (number + 1) rest

-- an acceptor is ended: as many connections were handed back as were handed out, and no more come, or an accept failed
module _ {A : Type 0} (given finished faults : A → ℕ) (over : A → Bool) where
  pub record HasEnded (before after : A) : Type 0 where
    pub more : ℕ
    pub given_is : given after ≡ given before + more
    pub finished_is : finished after ≡ finished before + more
    pub ended : (over after ≡ true) ⊎ Rose (faults before) (faults after)

-- more connections may come
abbrev pub is_left : {A : Type 0} → (A → Bool) → A → Bool
is_left over acceptor = not (over acceptor)
