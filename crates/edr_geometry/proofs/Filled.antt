-- A part of some truth values that was filled.
use Rattle.std.proofs.Common.{◌≡◌, ℕ, ◌+◌, ◌-◌, ◌≤◌, Bool, true, false, ◌||◌, List, length, get_or, drop, replicate, ap, sym, ◌∙◌, arith, inl, inr, get_or-take, get_or-drop}
use Rattle.std.proofs.lemmas.Bool.{cases_lt}
use Rattle.std.proofs.lemmas.Bool.Decides.{nat_tests}
use Rattle.std.proofs.lemmas.List.{get_or-replicate, length-replicate}
use Rattle.std.proofs.lemmas.Slice.{take-put_mid_below, drop-put_mid, between-put_mid}
use borrow.Rule.Slice.PartMut.{put_mid}
use Rattle.edr_geometry.specs.Ranges.{lies_in}
use Rattle.edr_geometry.specs.Rows.{Joins}
use Rattle.edr_geometry.proofs.CutLemmas.{or_none, or_true}

module _ (from end : ℕ) (old ws : List Bool) (order : from ≤ end) (inside : end ≤ length old) (is : ws ≡ replicate (end - from) true) where
  abbrev new : List Bool
  new = put_mid from (end - from) old ws

  long : length ws ≡ end - from
  long = ap (λ (l : List Bool). length l) is ∙ length-replicate (end - from) true

  out : (k : ℕ) → lies_in (from, end) k ≡ false → get_or new k false ≡ get_or old k false → get_or new k false ≡ (get_or old k false || lies_in (from, end) k)
  out k none same = same ∙ sym (or_none (get_or old k false)) ∙ ap (λ b. get_or old k false || b) (sym none)

  pub filled : Joins old new (lies_in (from, end))
  filled k below = elim (cases_lt k from) [
    | inl lt ↦ out k (let none : lies_in (from, end) k ≡ false = grind (arith, nat_tests) in none)
        (sym (get_or-take from new k false lt) ∙ ap (λ (l : List Bool). get_or l k false) (take-put_mid_below from (end - from) old ws from (omega arith) (omega (arith, order, inside))) ∙ get_or-take from old k false lt)
    | inr ge ↦ elim (cases_lt k end) [
      | inr past ↦ out k (let none : lies_in (from, end) k ≡ false = grind (arith, nat_tests) in none)
          (let at : end + (k - end) ≡ k = omega (arith, past) in
          ap (λ n. get_or new n false) (sym at) ∙ sym (get_or-drop end new (k - end) false)
          ∙ ap (λ (l : List Bool). get_or l (k - end) false) (drop-put_mid from (end - from) old ws end (omega (arith, order)) (omega (arith, order, inside)) long)
          ∙ get_or-drop end old (k - end) false ∙ ap (λ n. get_or old n false) at)
      | inl lt ↦
          (let at : from + (k - from) ≡ k = omega (arith, ge) in
          let some : lies_in (from, end) k ≡ true = grind (arith, nat_tests) in
          let set : get_or new k false ≡ true =
          (ap (λ n. get_or new n false) (sym at) ∙ sym (get_or-drop from new (k - from) false) ∙ sym (get_or-take (end - from) (drop from new) (k - from) false (omega (arith, ge, lt)))
          ∙ ap (λ (l : List Bool). get_or l (k - from) false) (between-put_mid from (end - from) old ws end (omega (arith, order, inside)) long)
          ∙ ap (λ (l : List Bool). get_or l (k - from) false) is
          ∙ get_or-replicate (end - from) (k - from) true false (omega (arith, ge, lt))) in
          set ∙ sym (or_true (get_or old k false)) ∙ ap (λ b. get_or old k false || b) (sym some))
    ]
  ]
