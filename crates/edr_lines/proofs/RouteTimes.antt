-- The times of a route never fall: m never falls along a line, nor does the nearest place where numbers don't.
use Rattle.std.proofs.Common.{◌≡◌, ℕ, zero, suc, ◌+◌, ◌<◌, ◌≤◌, Bool, true, false, cond, List, [], ◌∷◌, length, refl, sym, subst, arith, Some, None, IfSome, ℤ, ◌≤ℤ◌}
use Rattle.std.specs.declared.option.Option.{Option}
use Rattle.std.specs.Prelude.{map}
use Rattle.std.proofs.lemmas.Int.{ints}
use Rattle.edr_base.specs.declared.places.Position.{Position}
use Rattle.edr_axes.specs.Axes.{value_at, IsAscending}
use Rattle.edr_axes.specs.AxisLaws.{ascending_at_most}
use Rattle.edr_wkt.specs.Faults.{NeverFalls}
use Rattle.covjson_value.specs.Coverages.{NeverFall}
use Rattle.edr_select.specs.declared.plans.GridNode.{GridNode}
use Rattle.edr_select.specs.ListLaws.{Each, each-map}
use Rattle.edr_lines.specs.Vertices.{same_step, there, once}
use Rattle.edr_lines.proofs.Neighbours.{each_once}

-- ---- vertices in the order of their m

abbrev InOrder : List Position → Type 0
InOrder [] = Unit {0}
InOrder (p ∷ ps) = Each (λ (q : Position). p.m ≤ℤ q.m) ps × InOrder ps

later_too : (m n : ℤ) (ps : List Position) → m ≤ℤ n → Each (λ (q : Position). n ≤ℤ q.m) ps → Each (λ (q : Position). m ≤ℤ q.m) ps
later_too m n [] le each = tt
later_too m n (q ∷ ps) le each = (above m n q.m le each.0, later_too m n ps le each.1)
  where
    above : (a b c : ℤ) → a ≤ℤ b → b ≤ℤ c → a ≤ℤ c
    above a b c x y = omega (arith, ints)

pub in_order : (ps : List Position) → NeverFalls ps → InOrder ps
in_order [] h = tt
in_order (p ∷ []) h = (tt, tt)
in_order (p ∷ (q ∷ ps)) h = let later = in_order (q ∷ ps) h.1 in ((h.0, later_too p.m q.m ps h.0 later.0), later)

-- ---- nodes in the order of their times

abbrev pub Rising : List GridNode → Type 0
Rising [] = Unit {0}
Rising (n ∷ nodes) = Each (λ (m : GridNode). n.t ≤ m.t) nodes × Rising nodes

module _ (step : Position → Option GridNode) (place : ℤ → ℕ) (rises : (c d : ℤ) → c ≤ℤ d → place c ≤ place d) (at : (v : Position) → IfSome (step v) (λ (n : GridNode). n.t ≡ place v.m)) where
  each_later : (m : ℤ) (vs : List Position) → Each (λ (v : Position). m ≤ℤ v.m) vs → Each (λ (n : GridNode). place m ≤ n.t) (there (map step vs))
  each_later m [] each = tt
  each_later m (v ∷ vs) each = here (step v) (at v) (each_later m vs each.1)
    where
      here : (o : Option GridNode) → IfSome o (λ (n : GridNode). n.t ≡ place v.m) → Each (λ (n : GridNode). place m ≤ n.t) (there (map step vs))
          → Each (λ (n : GridNode). place m ≤ n.t) (there (o ∷ map step vs))
      here None is later = later
      here (Some n) is later = (omega (arith, is, rises m v.m each.0), later)

  pub there_rises : (vs : List Position) → InOrder vs → Rising (there (map step vs))
  there_rises [] h = tt
  there_rises (v ∷ vs) h = here (step v) (at v) (there_rises vs h.1)
    where
      here : (o : Option GridNode) → IfSome o (λ (n : GridNode). n.t ≡ place v.m) → Rising (there (map step vs)) → Rising (there (o ∷ map step vs))
      here None is later = later
      here (Some n) is later = (subst (λ k. Each (λ (m : GridNode). k ≤ m.t) (there (map step vs))) (sym is) (each_later v.m vs h.0), later)

pub once_rises : (nodes : List GridNode) → Rising nodes → Rising (once nodes)
once_rises [] h = tt
once_rises (n ∷ []) h = h
once_rises (n ∷ (m ∷ nodes)) h =
    let later = once_rises (m ∷ nodes) h.1 in
    let above = each_once (λ (k : GridNode). n.t ≤ k.t) (m ∷ nodes) h.0 in
    elim (same_step n m) as (λ b. Rising (cond b (once (m ∷ nodes)) (n ∷ once (m ∷ nodes)))) [ true ↦ later | false ↦ (above, later) ]

-- ---- places that never fall

abbrev NotFalling : List ℕ → Type 0
NotFalling [] = Unit {0}
NotFalling (k ∷ ks) = Each (λ j. k ≤ j) ks × NotFalling ks

times_of_nodes : (nodes : List GridNode) → Rising nodes → NotFalling (map (λ (n : GridNode). n.t) nodes)
times_of_nodes [] h = tt
times_of_nodes (n ∷ nodes) h = (each-map (λ j. n.t ≤ j) (λ (m : GridNode). m.t) nodes h.0, times_of_nodes nodes h.1)

-- one time for all
one_time : (t : ℕ) (nodes : List GridNode) → NotFalling (map (λ (n : GridNode). t) nodes)
one_time t [] = tt
one_time t (n ∷ nodes) = (same nodes, one_time t nodes)
  where
    same : (nodes : List GridNode) → Each (λ j. t ≤ j) (map (λ (n : GridNode). t) nodes)
    same [] = tt
    same (n ∷ nodes) = (omega arith, same nodes)

pub turn_times : (has : Bool) (t : ℕ) (nodes : List GridNode) → (has ≡ true → Rising nodes) → NotFalling (map (λ (n : GridNode). cond has n.t t) nodes)
turn_times true t nodes h = times_of_nodes nodes (h refl)
turn_times false t nodes h = one_time t nodes

-- their values never fall
pub never_fall : (ts : List ℤ) → IsAscending ts → (ks : List ℕ) → Each (λ k. k < length ts) ks → NotFalling ks → NeverFall (map (value_at ts) ks)
never_fall ts ascend [] inside h place l = absurd (omega arith)
never_fall ts ascend (k ∷ []) inside h place l = absurd (omega arith)
never_fall ts ascend (k ∷ (j ∷ ks)) inside h zero l = ascending_at_most ts ascend k j h.0.0 inside.1.0
never_fall ts ascend (k ∷ (j ∷ ks)) inside h (suc place) l =
    subst (λ m. value_at (map (value_at ts) (k ∷ (j ∷ ks))) (suc place) ≤ℤ value_at (map (value_at ts) (k ∷ (j ∷ ks))) m) (next place)
    (never_fall ts ascend (j ∷ ks) inside.1 h.1 place (omega arith))
  where
    next : (n : ℕ) → suc (n + 1) ≡ suc n + 1
    next n = omega arith
