-- How far a box spreads, and what it adds to how far others do.
use Rattle.std.proofs.Common.{◌≡◌, ℕ, ◌<◌, Bool, true, false, List, length, get_or, replicate, refl, ap, ap₂, sym, ◌∙◌, subst, arith}
use Rattle.std.specs.Prelude.{◌&&◌, ◌||◌, None, Some}
use Rattle.std.specs.List.{list_any, range_with_len}
use Rattle.std.proofs.lemmas.Bool.{false_from_ne_true, and_parts}
use Rattle.std.proofs.lemmas.List.{get_or-replicate, length-replicate}
use Rattle.edr_corridor.specs.declared.boxes.SegmentBox.{SegmentBox}
use Rattle.edr_geometry.specs.Ranges.{lies_in}
use Rattle.edr_corridor.specs.Boxes.{box_takes}
use Rattle.edr_select.specs.ListLaws.{both, passes_at, any_range}
use Rattle.edr_lines.specs.declared.spreads.Extent.{Extent}
use Rattle.edr_lines.specs.Taken.{Counts, NodeTest, either, some_at_time, some_at_level}
use Rattle.edr_lines.specs.Corridors.{CorridorValue}
use Rattle.edr_lines.specs.Boxes.{box_passes, some_asked, has_node, some_at, IsExtentOf, NonePasses, MatchPlane, SpreadValue, IsSpreadOf, SetAsked, joined_extent}
use Rattle.edr_lines.proofs.Ends.{any_none, plane_same, plane_with}
use Rattle.edr_lines.proofs.Tests.{some_of, PairAt, pair_at, some_pair, Agree, spread_same, either_at_time, either_at_level, either_at}

-- ---- of no node

none_of : (a b : ℕ) → some_of (λ j k. false) a b ≡ false
none_of a b = any_none (λ j. list_any (λ k. false) (range_with_len 0 b)) a (λ j low. any_none (λ k. false) b (λ k high. refl))

pub nothing_spreads : (n : Counts) (times levels : List Bool) → times ≡ replicate n.times false → levels ≡ replicate n.levels false
    → IsSpreadOf n (λ t z y x. false) (record { times = times; levels = levels; extent = None })
nothing_spreads n times levels t l = record {
  times_full = ap (λ (xs : List Bool). length xs) t ∙ length-replicate n.times false;
  levels_full = ap (λ (xs : List Bool). length xs) l ∙ length-replicate n.levels false;
  times = λ k inside. ap (λ (xs : List Bool). get_or xs k false) t ∙ get_or-replicate n.times k false false inside
      ∙ sym (any_none (λ z. some_of (λ y x. false) n.rows n.columns) n.levels (λ z level. none_of n.rows n.columns));
  levels = λ k inside. ap (λ (xs : List Bool). get_or xs k false) l ∙ get_or-replicate n.levels k false false inside
      ∙ sym (any_none (λ z. some_of (λ y x. false) n.rows n.columns) n.times (λ z level. none_of n.rows n.columns));
  extent = λ y x row column. none_of n.times n.levels;
}

-- ---- of a box

-- what is said of a node that a box takes and that is asked
record PassesBox (c : CorridorValue) (box : SegmentBox) (t z y x : ℕ) : Type 0 where
  pub time : get_or c.times t false ≡ true
  pub level : get_or c.levels z false ≡ true
  pub at : lies_in box.times t ≡ true
  pub high : lies_in box.levels z ≡ true
  pub node : has_node box y x ≡ true

module _ (c : CorridorValue) (box : SegmentBox) where
  parts : (t z y x : ℕ) → box_passes c box t z y x ≡ true → PassesBox c box t z y x
  parts t z y x h =
      let asked = (and_parts (get_or c.times t false && get_or c.levels z false) (box_takes box t z y x) h).0 in
      let taken = (and_parts (get_or c.times t false && get_or c.levels z false) (box_takes box t z y x) h).1 in
      let lower = (and_parts (lies_in box.times t) (lies_in box.levels z && has_node box y x) taken).1 in
      record {
        time = (and_parts (get_or c.times t false) (get_or c.levels z false) asked).0;
        level = (and_parts (get_or c.times t false) (get_or c.levels z false) asked).1;
        at = (and_parts (lies_in box.times t) (lies_in box.levels z && has_node box y x) taken).0;
        high = (and_parts (lies_in box.levels z) (has_node box y x) lower).0;
        node = (and_parts (lies_in box.levels z) (has_node box y x) lower).1;
      }

  whole : (t z y x : ℕ) → PassesBox c box t z y x → box_passes c box t z y x ≡ true
  whole t z y x p = ap₂ (λ a b. a && b) (ap₂ (λ a b. a && b) p.time p.level) (ap₂ (λ a b. a && b) p.at (ap₂ (λ a b. a && b) p.high p.node))

  -- a place of a range that is asked
  record AskedAt (asked : List Bool) (range : ℕ × ℕ) : Type 0 where
    pub place : ℕ
    pub inside : place < length asked
    pub lies : lies_in range place ≡ true
    pub is : get_or asked place false ≡ true

  asked_at : (asked : List Bool) (range : ℕ × ℕ) → some_asked asked range ≡ true → AskedAt asked range
  asked_at asked range h =
      let p = passes_at (λ place. lies_in range place && get_or asked place false) 0 (length asked) h in
      record {
        place = p.place;
        inside = omega (arith, p.high);
        lies = (and_parts (lies_in range p.place) (get_or asked p.place false) p.passes).0;
        is = (and_parts (lies_in range p.place) (get_or asked p.place false) p.passes).1;
      }

  some_here : (asked : List Bool) (range : ℕ × ℕ) (k : ℕ) → k < length asked → lies_in range k ≡ true → get_or asked k false ≡ true → some_asked asked range ≡ true
  some_here asked range k inside lies is =
      any_range (λ place. lies_in range place && get_or asked place false) 0 (length asked) k (omega arith) (omega (arith, inside)) (ap₂ (λ a b. a && b) lies is)

  -- nothing is asked of it, or it has no node
  module _ (n : Counts) (times : length c.times ≡ n.times) (levels : length c.levels ≡ n.levels) where
    pub no_times : some_asked c.times box.times ≡ false → Agree n (λ t z y x. false) (box_passes c box)
    no_times none t z y x at level row column = sym (false_from_ne_true (box_passes c box t z y x) (λ h.
        let p = parts t z y x h in
        let some = some_here c.times box.times t (omega (arith, times, at)) p.at p.time in
        let both_are : true ≡ false = sym some ∙ none in cc))

    pub no_levels : some_asked c.levels box.levels ≡ false → Agree n (λ t z y x. false) (box_passes c box)
    no_levels none t z y x at level row column = sym (false_from_ne_true (box_passes c box t z y x) (λ h.
        let p = parts t z y x h in
        let some = some_here c.levels box.levels z (omega (arith, levels, level)) p.high p.level in
        let both_are : true ≡ false = sym some ∙ none in cc))

    pub no_nodes : NonePasses n (has_node box) → Agree n (λ t z y x. false) (box_passes c box)
    no_nodes none t z y x at level row column = sym (false_from_ne_true (box_passes c box t z y x) (λ h.
        let p = parts t z y x h in
        let both_are : true ≡ false = sym p.node ∙ none y x row column in cc))

    -- its times, its levels and its nodes
    module _ (some_time : some_asked c.times box.times ≡ true) (some_level : some_asked c.levels box.levels ≡ true) (extent : Extent) (e : IsExtentOf n (has_node box) extent) where
      node : PairAt (has_node box) n.rows n.columns
      node =
          let x = passes_at (λ x. has_node box extent.top x) 0 n.columns e.rows.first_passes in
          let top : extent.top < n.rows = omega (arith, e.rows.inside, e.rows.low extent.bottom e.rows.inside e.rows.last_passes) in
          record { one = extent.top; other = x.place; low = top; high = omega (arith, x.high); passes = x.passes }

      pub time_is : (t : ℕ) → some_at_time n (box_passes c box) t ≡ (lies_in box.times t && get_or c.times t false)
      time_is t =
          both (some_at_time n (box_passes c box) t) (lies_in box.times t && get_or c.times t false)
          (λ h.
          let z = passes_at (λ z. some_of (box_passes c box t z) n.rows n.columns) 0 n.levels h in
          let p = pair_at (box_passes c box t z.place) n.rows n.columns z.passes in
          let all = parts t z.place p.one p.other p.passes in
          ap₂ (λ a b. a && b) all.at all.time)
          (λ h.
          let level = asked_at c.levels box.levels some_level in
          any_range (λ z. some_of (box_passes c box t z) n.rows n.columns) 0 n.levels level.place (omega arith) (omega (arith, levels, level.inside))
          (some_pair (box_passes c box t level.place) n.rows n.columns node.one node.other node.low node.high
          (whole t level.place node.one node.other (record {
            time = (and_parts (lies_in box.times t) (get_or c.times t false) h).1;
            level = level.is;
            at = (and_parts (lies_in box.times t) (get_or c.times t false) h).0;
            high = level.lies;
            node = node.passes;
          }))))

      pub level_is : (z : ℕ) → some_at_level n (box_passes c box) z ≡ (lies_in box.levels z && get_or c.levels z false)
      level_is z =
          both (some_at_level n (box_passes c box) z) (lies_in box.levels z && get_or c.levels z false)
          (λ h.
          let t = passes_at (λ t. some_of (box_passes c box t z) n.rows n.columns) 0 n.times h in
          let p = pair_at (box_passes c box t.place z) n.rows n.columns t.passes in
          let all = parts t.place z p.one p.other p.passes in
          ap₂ (λ a b. a && b) all.high all.level)
          (λ h.
          let time = asked_at c.times box.times some_time in
          any_range (λ t. some_of (box_passes c box t z) n.rows n.columns) 0 n.times time.place (omega arith) (omega (arith, times, time.inside))
          (some_pair (box_passes c box time.place z) n.rows n.columns node.one node.other node.low node.high
          (whole time.place z node.one node.other (record {
            time = time.is;
            level = (and_parts (lies_in box.levels z) (get_or c.levels z false) h).1;
            at = time.lies;
            high = (and_parts (lies_in box.levels z) (get_or c.levels z false) h).0;
            node = node.passes;
          }))))

      pub node_is : (y x : ℕ) → some_at n (box_passes c box) y x ≡ has_node box y x
      node_is y x =
          both (some_at n (box_passes c box) y x) (has_node box y x)
          (λ h. let p = pair_at (λ t z. box_passes c box t z y x) n.times n.levels h in let all = parts p.one p.other y x p.passes in all.node)
          (λ h.
          let time = asked_at c.times box.times some_time in let level = asked_at c.levels box.levels some_level in
          some_pair (λ t z. box_passes c box t z y x) n.times n.levels time.place level.place (omega (arith, times, time.inside)) (omega (arith, levels, level.inside))
          (whole time.place level.place y x (record { time = time.is; level = level.is; at = time.lies; high = level.lies; node = h })))

      -- with what others take
      pub box_added : (takes : NodeTest) (old new : SpreadValue) → IsSpreadOf n takes old → SetAsked c.times box.times old.times new.times
          → SetAsked c.levels box.levels old.levels new.levels → new.extent ≡ Some (joined_extent old.extent extent) → IsSpreadOf n (either takes (box_passes c box)) new
      box_added takes old new s ts ls is = record {
        times_full = ts.full ∙ s.times_full;
        levels_full = ls.full ∙ s.levels_full;
        times = λ t at. ts.set t (omega (arith, s.times_full, at)) ∙ ap₂ (λ a b. a || b) (s.times t at) (sym (time_is t)) ∙ sym (either_at_time n takes (box_passes c box) t);
        levels = λ z level. ls.set z (omega (arith, s.levels_full, level)) ∙ ap₂ (λ a b. a || b) (s.levels z level) (sym (level_is z)) ∙ sym (either_at_level n takes (box_passes c box) z);
        extent = subst (MatchPlane n (some_at n (either takes (box_passes c box)))) (sym is)
            (plane_same n (λ y x. some_at n takes y x || has_node box y x) (some_at n (either takes (box_passes c box)))
            (λ y x row column. sym (either_at n takes (box_passes c box) y x ∙ ap (λ b. some_at n takes y x || b) (node_is y x))) (Some (joined_extent old.extent extent))
            (plane_with n (some_at n takes) (has_node box) old.extent extent s.extent e));
      }

    -- a box that takes nothing adds nothing
    pub nothing_added : (takes : NodeTest) (spread : SpreadValue) → Agree n (λ t z y x. false) (box_passes c box) → IsSpreadOf n takes spread → IsSpreadOf n (either takes (box_passes c box)) spread
    nothing_added takes spread none s =
        spread_same n takes (either takes (box_passes c box)) (λ t z y x at level row column. or_nothing (takes t z y x) (box_passes c box t z y x) (none t z y x at level row column)) spread s
      where
        or_nothing : (a b : Bool) → false ≡ b → a ≡ (a || b)
        or_nothing true b h = refl
        or_nothing false b h = h
