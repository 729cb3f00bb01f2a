-- A tree that isn't empty, as the items before the one at its top, it, and those behind it.
use Rattle.std.proofs.Common.{◌≡◌, ◌<◌, ℕ, suc, ◌+◌, ◌-◌, List, [], get_or, drop, ◌∷◌, ◌++◌, length, length-append, append_assoc, Option, Some, Result, Ok, Err, IfOk, refl, sym, ap, ◌∙◌, subst, arith}
use Rattle.std.proofs.Math.ListN.{get_or-append}
use Rattle.std.proofs.Math.Seq.{get_or-append_seam, get_or-append_right}
use Rattle.std.specs.Arc.{arc_value}
use Rattle.std.specs.declared.sync.Arc.{Arc}
use Rattle.std.specs.declared.alloc.Global.{Global}
use Rattle.edr_ids.specs.declared.trees.Branch.{Branch}
use Rattle.edr_ids.specs.Ids.{AscendBy}
use Rattle.edr_ids.specs.Trees.{items_of}
use Rattle.edr_ids.proofs.PartedLists.{Parts, parts_ascend}

pub record AtBranch {T : Type 0} (key : T → List ℕ) (items before : List T) (item : T) (behind : List T) : Type 0 where
  pub is : items ≡ before ++ item ∷ behind
  pub parts : Parts key before item behind
  pub before_shorter : length before < length items
  pub behind_shorter : length behind < length items

-- the items of a tree that has a branch
pub branch_is : {T : Type 0} (items : List T) (top : Option (Arc (Branch T) Global)) (shared : Arc (Branch T) Global) (branch : Branch T)
    → items_of top ≡ items → top ≡ Some shared → branch ≡ arc_value shared → items ≡ branch.before ++ arc_value branch.item ∷ branch.behind
branch_is {T} items top shared branch view_is is same =
    sym view_is ∙ ap items_of is ∙ ap (λ (b : Branch T). b.before ++ arc_value b.item ∷ b.behind) (sym same)

pub at_branch : {T : Type 0} (key : T → List ℕ) (items : List T) (top : Option (Arc (Branch T) Global)) (shared : Arc (Branch T) Global) (branch : Branch T)
    → items_of top ≡ items → top ≡ Some shared → branch ≡ arc_value shared → AscendBy key items → AtBranch key items branch.before (arc_value branch.item) branch.behind
at_branch key items top shared branch view_is is same up =
    let e = branch_is items top shared branch view_is is same in
    let long : length items ≡ length (branch.before ++ arc_value branch.item ∷ branch.behind) = ap length e in
    record {
      is = e;
      parts = parts_ascend key branch.before (arc_value branch.item) branch.behind (subst (AscendBy key) e up);
      before_shorter = omega (arith, long, length-append branch.before (arc_value branch.item ∷ branch.behind));
      behind_shorter = omega (arith, long, length-append branch.before (arc_value branch.item ∷ branch.behind));
    }

-- equal branches have equal items, and as many
pub same_items : {T : Type 0} {branch made : Branch T} → branch ≡ made → branch.before ++ arc_value branch.item ∷ branch.behind ≡ made.before ++ arc_value made.item ∷ made.behind
same_items {T} is = ap (λ (b : Branch T). b.before ++ arc_value b.item ∷ b.behind) is

pub same_count : {T : Type 0} {branch made : Branch T} → branch ≡ made → made.len ≡ length made.before + length made.behind + 1 → branch.len ≡ length branch.before + length branch.behind + 1
same_count {T} is counted = subst (λ (b : Branch T). b.len ≡ length b.before + length b.behind + 1) (sym is) counted

-- parts that are equal to others
pub parts_are : {T : Type 0} {items before before' : List T} {item item' : T} {behind behind' : List T} → items ≡ before ++ item ∷ behind → before' ≡ before → item' ≡ item → behind' ≡ behind
    → items ≡ before' ++ item' ∷ behind'
parts_are is front middle back = cc

-- a tree whose items are equal to others
pub followed_is : {T E : Type 0} (r : Result (List T) E) (list whole : List T) → IfOk r (λ tree. tree ≡ list) → list ≡ whole → IfOk r (λ tree. tree ≡ whole)
followed_is (Err e) list whole made is = tt
followed_is (Ok tree) list whole made is = made ∙ is

-- ---- the items of a tree whose sides are turned
-- a side behind another item
pub behind_is : {T : Type 0} (before inner outer behind : List T) (item top : T) → behind ≡ inner ++ top ∷ outer → (before ++ item ∷ inner) ++ top ∷ outer ≡ before ++ item ∷ behind
behind_is before inner outer behind item top is = append_assoc before (item ∷ inner) (top ∷ outer) ∙ ap (λ list. before ++ item ∷ list) (sym is)

-- ---- the first item, and the others
pub first_is : {T : Type 0} (items more : List T) (first : T) → items ≡ first ∷ more → items ≡ first ∷ drop 1 items
first_is items more first is = is ∙ ap (λ list. first ∷ list) (sym (ap (drop 1) is))

pub others_behind : {T : Type 0} (items before : List T) (item : T) (behind : List T) → items ≡ before ++ item ∷ behind → length before ≡ 0 → behind ≡ drop 1 items
others_behind items [] item behind is none = sym (ap (drop 1) is)
others_behind items (x ∷ xs) item behind is none = absurd (omega (arith, none))

pub others_before : {T : Type 0} (items before rest : List T) → items ≡ before ++ rest → ¬ (length before ≡ 0) → drop 1 before ++ rest ≡ drop 1 items
others_before items [] rest is some = absurd (some refl)
others_before items (x ∷ xs) rest is some = sym (ap (drop 1) is)

-- ---- the item at a place

module _ {T : Type 0} (items before : List T) (item : T) (behind : List T) (place : ℕ) (d : T) (is : items ≡ before ++ item ∷ behind) where
  pub at_before : place < length before → get_or before place d ≡ get_or items place d
  at_before inside = sym (ap (λ list. get_or list place d) is ∙ get_or-append before (item ∷ behind) d place inside)

  pub at_item : place ≡ length before → item ≡ get_or items place d
  at_item here = sym (ap (λ list. get_or list place d) is ∙ (ap (λ n. get_or (before ++ item ∷ behind) n d) here ∙ get_or-append_seam before item behind d))

  pub at_behind : length before < place → get_or behind (place - length before - 1) d ≡ get_or items place d
  at_behind far =
      let next : place - length before ≡ suc (place - length before - 1) = omega (arith, far) in
      sym (ap (λ list. get_or list place d) is ∙ (get_or-append_right before (item ∷ behind) place d (omega (arith, far)) ∙ ap (λ n. get_or (item ∷ behind) n d) next))
