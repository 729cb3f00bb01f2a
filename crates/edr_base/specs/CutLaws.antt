-- Laws of cuts: the mark stands in a text that is cut, and there is one cut.
use Rattle.std.proofs.Common.{◌≡◌, ℕ, suc, ap₂, sym, refl, List, [], ◌∷◌, ◌++◌, length}
use Rattle.std.specs.List.{Contains}
use Rattle.std.proofs.Math.Nat.{zero-lt-suc, suc-le-suc_iff}
use Rattle.edr_base.specs.SplitLaws.{same_first, same_rest}

pub Contains-first : (c : ℕ) (text : List ℕ) (mark : ℕ) → c ≡ mark → Contains (c ∷ text) mark
Contains-first c text mark e = (0, zero-lt-suc (length text), e)

pub Contains-rest : (c : ℕ) (text : List ℕ) (mark : ℕ) → Contains text mark → Contains (c ∷ text) mark
Contains-rest c text mark h = (suc h.0, suc-le-suc_iff.1 h.1, h.2)

-- the mark stands between two texts
pub Contains-between : (mark : ℕ) (front back : List ℕ) → Contains (front ++ mark ∷ back) mark
Contains-between mark [] back = Contains-first mark back mark refl
Contains-between mark (c ∷ front) back = Contains-rest c (front ++ mark ∷ back) mark (Contains-between mark front back)

-- there is one cut
pub cut_unique : (mark : ℕ) (a b c d : List ℕ) → ¬ (Contains a mark) → ¬ (Contains c mark) → a ++ mark ∷ b ≡ c ++ mark ∷ d → (a ≡ c) × (b ≡ d)
cut_unique mark [] b [] d p q e = (refl, same_rest mark mark b d e)
cut_unique mark [] b (y ∷ c) d p q e = absurd (q (Contains-first y c mark (sym (same_first mark y b (c ++ mark ∷ d) e))))
cut_unique mark (x ∷ a) b [] d p q e = absurd (p (Contains-first x a mark (same_first x mark (a ++ mark ∷ b) d e)))
cut_unique mark (x ∷ a) b (y ∷ c) d p q e =
    let rest = cut_unique mark a b c d (λ h. p (Contains-rest x a mark h)) (λ h. q (Contains-rest y c mark h)) (same_rest x y (a ++ mark ∷ b) (c ++ mark ∷ d) e) in
    (ap₂ (λ h t. h ∷ t) (same_first x y (a ++ mark ∷ b) (c ++ mark ∷ d) e) rest.0, rest.1)
