-- Truth values of which some more were set.
use Rattle.std.proofs.Common.{◌≡◌, ℕ, ◌<◌, ◌≢◌, Bool, true, false, List, length, get_or, ap, sym, ◌∙◌, inl, inr}
use Rattle.std.specs.Prelude.{◌||◌, ◌⊎◌}
use Rattle.std.proofs.Math.ListN.{set}
use Rattle.std.proofs.lemmas.Bool.{cases_eq, or_right}
use Rattle.std.proofs.lemmas.List.{length-set, get_or-set_same, get_or-set_other}

-- as many, and set are those that were set and those that pass a test
pub record Joined (test : ℕ → Bool) (old new : List Bool) : Type 0 where
  pub full : length new ≡ length old
  pub set : (k : ℕ) → k < length old → get_or new k false ≡ (get_or old k false || test k)

-- a test that passes no number more
pub join_same : (test more : ℕ → Bool) (old new : List Bool) → Joined test old new → ((k : ℕ) → k < length old → more k ≡ test k) → Joined more old new
join_same test more old new before same = record { full = before.full; set = λ k inside. before.set k inside ∙ ap (λ b. get_or old k false || b) (sym (same k inside)) }

-- one that passes one number more, which was set
module _ (test more : ℕ → Bool) (old new : List Bool) (place : ℕ) (before : Joined test old new) (inside : place < length new) (passes : more place ≡ true)
    (same : (k : ℕ) → k ≢ place → more k ≡ test k) where
  after : (k : ℕ) → k < length old → (k ≡ place) ⊎ (k ≢ place) → get_or (set new place true) k false ≡ (get_or old k false || more k)
  after k below (inl e) =
      ap (λ n. get_or (set new place true) n false) e ∙ get_or-set_same new place true false inside ∙ sym (or_right (get_or old k false) (more k) (ap more e ∙ passes))
  after k below (inr differs) = get_or-set_other new place k true false differs ∙ before.set k below ∙ ap (λ b. get_or old k false || b) (sym (same k differs))

  pub join_more : Joined more old (set new place true)
  join_more = record { full = length-set new place true ∙ before.full; set = λ k below. after k below (cases_eq k place) }
