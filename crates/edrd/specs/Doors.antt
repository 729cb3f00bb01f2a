-- Doors through which connections come.
use Rattle.std.specs.Prelude.{◌≡◌, ℕ, Bool, false}

-- a door through which nothing came yet
module _ {A : Type 0} (over : A → Bool) (given finished faulted faults : A → ℕ) where
  pub record IsNew (door : A) : Type 0 where
    pub open_ : over door ≡ false
    pub given_is : given door ≡ 0
    pub finished_is : finished door ≡ 0
    pub faulted_is : faulted door ≡ 0
    pub faults_are : faults door ≡ 0
