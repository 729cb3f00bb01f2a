-- The planes of a stack that are set where a box takes a node: level by level, and time by time.
use Rattle.std.proofs.Common.{◌≡◌, ℕ, ◌+◌, ◌-◌, ◌*◌, ◌<◌, ◌≤◌, ◌≢◌, Bool, true, false, List, length, get_or, take, drop, eqb, refl, ap, ap₂, sym, ◌∙◌, arith, inl, inr}
use Rattle.std.proofs.Math.Bool.{or-false}
use Rattle.std.specs.Prelude.{◌&&◌, ◌||◌, nat_lt}
use Rattle.std.proofs.lemmas.Bool.{eq-eqb, cases_eq, lt-ltb, le-ltb, ne_eqb, and_left, and_right, cases_lt}
use Rattle.std.proofs.lemmas.Bool.Decides.{nat_tests}
use borrow.Rule.Slice.PartMut.{put_mid}
use Rattle.edr_corridor.specs.declared.boxes.SegmentBox.{SegmentBox}
use Rattle.edr_geometry.specs.Ranges.{lies_in}
use Rattle.edr_corridor.specs.Boxes.{box_takes}
use Rattle.edr_select.specs.Stacks.{SidesValue, plane_size, time_at, level_at}
use Rattle.edr_lines.specs.Bits.{InBox, PlaneSet, LevelTest, LevelSet, LevelsSet, TimeSet, TimesSet, node_number, level_number, time_number, time_size, takes_below}
use Rattle.edr_lines.specs.Boxes.{has_node}
use Rattle.edr_lines.specs.Taken.{NodeTest}
use Rattle.edr_lines.proofs.Blocks.{block_end, block_full, block_set}
use Rattle.edr_lines.proofs.SetPlanes.{or_none, in_columns, in_rows}

-- ---- places

node_inside : (sides : SidesValue) (y x : ℕ) → InBox sides y x → node_number sides y x < plane_size sides
node_inside sides y x n = omega (arith, block_end (y - sides.row) sides.rows sides.columns (in_rows sides y x n), in_columns sides y x n)

level_inside : (sides : SidesValue) (j y x : ℕ) → j < length sides.levels → InBox sides y x → level_number sides j y x < time_size sides
level_inside sides j y x among n = omega (arith, block_end j (length sides.levels) (plane_size sides) among, node_inside sides y x n)

-- ---- one of some

-- at the number alone, where a test passes or not
one_passes : (j number : ℕ) (lies : ℕ → Bool) (b : Bool) → lies number ≡ true → (eqb j number && b) ≡ (eqb j number && (lies j && b))
one_passes j number lies b is = elim (cases_eq j number) [
  | inl e ↦ ap (λ c. eqb j number && (c && b)) (sym (ap lies e ∙ is))
  | inr differs ↦ (let other : eqb j number ≡ false = ne_eqb j number differs in
      ap (λ c. c && b) other ∙ sym (ap (λ c. c && (lies j && b)) other))
]

-- numbers below a count that pass, and one more
one_more : (j count : ℕ) (a b : Bool) → ((a || (nat_lt j count && b)) || (eqb j count && b)) ≡ (a || (nat_lt j (count + 1) && b))
one_more j count a b = elim (cases_eq j count) [
  | inl e ↦ ap₂ (λ c d. (a || (c && b)) || (d && b)) (not_below j count e) (eq-eqb j count e) ∙ last a b ∙ sym (ap (λ c. a || (c && b)) (below j count e))
  | inr differs ↦ ap (λ c. (a || (nat_lt j count && b)) || (c && b)) (ne_eqb j count differs) ∙ or-false (a || (nat_lt j count && b))
      ∙ ap (λ c. a || (c && b)) (same j count differs)
]
  where
    not_below : (j count : ℕ) → j ≡ count → nat_lt j count ≡ false
    not_below j count e = grind (arith, nat_tests)

    below : (j count : ℕ) → j ≡ count → nat_lt j (count + 1) ≡ true
    below j count e = grind (arith, nat_tests)

    same : (j count : ℕ) → j ≢ count → nat_lt j count ≡ nat_lt j (count + 1)
    same j count differs = grind (arith, nat_tests)

    last : (a b : Bool) → ((a || (false && b)) || (true && b)) ≡ (a || b)
    last true b = refl
    last false b = refl

-- numbers of which none passes before the first, and none from a count on
nothing_below : (j first : ℕ) (lies b : Bool) → (j < first → lies ≡ false) → (nat_lt j first && (lies && b)) ≡ false
nothing_below j first lies b none = elim (cases_lt j first) [
  | inl lt ↦ and_right (nat_lt j first) (lies && b) (and_left lies b (none lt))
  | inr ge ↦ and_left (nat_lt j first) (lies && b) (le-ltb j first ge)
]

nothing_above : (j count : ℕ) (lies b : Bool) → (count ≤ j → lies ≡ false) → (nat_lt j count && (lies && b)) ≡ (lies && b)
nothing_above j count lies b none = elim (cases_lt j count) [
  | inl lt ↦ ap (λ c. c && (lies && b)) (lt-ltb j count lt)
  | inr ge ↦ and_right (nat_lt j count) (lies && b) (and_left lies b (none ge)) ∙ sym (and_left lies b (none ge))
]

-- ---- level by level

-- the planes of the first levels were set
pub record LevelsBelow (sides : SidesValue) (test : LevelTest) (count : ℕ) (old new : List Bool) : Type 0 where
  pub full : length new ≡ length old
  pub set : (j y x : ℕ) → j < length sides.levels → InBox sides y x
      → get_or new (level_number sides j y x) false ≡ (get_or old (level_number sides j y x) false || (nat_lt j count && test (level_at sides j) y x))

module _ (sides : SidesValue) where
  -- of the levels before one none lies in the range of a box
  pub no_levels : (box : SegmentBox) (first : ℕ) → ((j : ℕ) → j < length sides.levels → j < first → lies_in box.levels (level_at sides j) ≡ false) → (planes : List Bool)
      → LevelsBelow sides (takes_below box) first planes planes
  no_levels box first none planes = record {
    full = refl;
    set = λ j y x among n. or_none (get_or planes (level_number sides j y x) false) (nat_lt j first && takes_below box (level_at sides j) y x)
        (nothing_below j first (lies_in box.levels (level_at sides j)) (has_node box y x) (none j among));
  }

  pub level_more : (test : LevelTest) (count : ℕ) (old mid new : List Bool) → LevelsBelow sides test count old mid → LevelSet sides test count mid new → LevelsBelow sides test (count + 1) old new
  level_more test count old mid new p l = record {
    full = l.full ∙ p.full;
    set = λ j y x among n. l.set j y x among n ∙ ap (λ b. b || (eqb j count && test (level_at sides j) y x)) (p.set j y x among n)
        ∙ one_more j count (get_or old (level_number sides j y x) false) (test (level_at sides j) y x);
  }

  -- nor of those from another on
  pub all_levels : (box : SegmentBox) (count : ℕ) (old new : List Bool) → ((j : ℕ) → j < length sides.levels → count ≤ j → lies_in box.levels (level_at sides j) ≡ false)
      → LevelsBelow sides (takes_below box) count old new → LevelsSet sides (takes_below box) old new
  all_levels box count old new none p = record {
    full = p.full;
    set = λ j y x among n. p.set j y x among n
        ∙ ap (λ b. get_or old (level_number sides j y x) false || b) (nothing_above j count (lies_in box.levels (level_at sides j)) (has_node box y x) (none j among));
  }

  module _ (box : SegmentBox) (number : ℕ) where
    -- a level that lies in the range of the box
    pub level_set : number < length sides.levels → lies_in box.levels (level_at sides number) ≡ true → (planes ws : List Bool) → length planes ≡ time_size sides
        → PlaneSet sides (has_node box) (take (number * plane_size sides + plane_size sides - number * plane_size sides) (drop (number * plane_size sides) planes)) ws
        → LevelSet sides (takes_below box) number planes (put_mid (number * plane_size sides) (number * plane_size sides + plane_size sides - number * plane_size sides) planes ws)
    level_set here is planes ws full p = record {
      full = block_full planes ws (plane_size sides) (length sides.levels) number full here p.full;
      set = λ j y x among n.
          block_set planes ws (plane_size sides) (length sides.levels) number full here p.full j (node_number sides y x) (node_inside sides y x n) (has_node box y x) (p.set y x n)
          ∙ ap (λ b. get_or planes (level_number sides j y x) false || b) (one_passes j number (λ k. lies_in box.levels (level_at sides k)) (has_node box y x) is);
    }

-- ---- time by time

-- the planes of the first times were set
pub record TimesBelow (sides : SidesValue) (test : NodeTest) (count : ℕ) (old new : List Bool) : Type 0 where
  pub full : length new ≡ length old
  pub set : (i j y x : ℕ) → i < length sides.times → j < length sides.levels → InBox sides y x
      → get_or new (time_number sides i j y x) false ≡ (get_or old (time_number sides i j y x) false || (nat_lt i count && test (time_at sides i) (level_at sides j) y x))

module _ (sides : SidesValue) where
  pub no_times : (box : SegmentBox) (first : ℕ) → ((i : ℕ) → i < length sides.times → i < first → lies_in box.times (time_at sides i) ≡ false) → (mask : List Bool)
      → TimesBelow sides (box_takes box) first mask mask
  no_times box first none mask = record {
    full = refl;
    set = λ i j y x at among n. or_none (get_or mask (time_number sides i j y x) false) (nat_lt i first && box_takes box (time_at sides i) (level_at sides j) y x)
        (nothing_below i first (lies_in box.times (time_at sides i)) (takes_below box (level_at sides j) y x) (none i at));
  }

  pub time_more : (test : NodeTest) (count : ℕ) (old mid new : List Bool) → TimesBelow sides test count old mid → TimeSet sides test count mid new → TimesBelow sides test (count + 1) old new
  time_more test count old mid new p l = record {
    full = l.full ∙ p.full;
    set = λ i j y x at among n. l.set i j y x at among n ∙ ap (λ b. b || (eqb i count && test (time_at sides i) (level_at sides j) y x)) (p.set i j y x at among n)
        ∙ one_more i count (get_or old (time_number sides i j y x) false) (test (time_at sides i) (level_at sides j) y x);
  }

  pub all_times : (box : SegmentBox) (count : ℕ) (old new : List Bool) → ((i : ℕ) → i < length sides.times → count ≤ i → lies_in box.times (time_at sides i) ≡ false)
      → TimesBelow sides (box_takes box) count old new → TimesSet sides (box_takes box) old new
  all_times box count old new none p = record {
    full = p.full;
    set = λ i j y x at among n. p.set i j y x at among n
        ∙ ap (λ b. get_or old (time_number sides i j y x) false || b) (nothing_above i count (lies_in box.times (time_at sides i)) (takes_below box (level_at sides j) y x) (none i at));
  }

  module _ (box : SegmentBox) (number : ℕ) where
    pub time_set : number < length sides.times → lies_in box.times (time_at sides number) ≡ true → (mask ws : List Bool) → length mask ≡ length sides.times * time_size sides
        → LevelsSet sides (takes_below box) (take (number * time_size sides + time_size sides - number * time_size sides) (drop (number * time_size sides) mask)) ws
        → TimeSet sides (box_takes box) number mask (put_mid (number * time_size sides) (number * time_size sides + time_size sides - number * time_size sides) mask ws)
    time_set here is mask ws full p = record {
      full = block_full mask ws (time_size sides) (length sides.times) number full here p.full;
      set = λ i j y x at among n.
          block_set mask ws (time_size sides) (length sides.times) number full here p.full i (level_number sides j y x) (level_inside sides j y x among n) (takes_below box (level_at sides j) y x) (p.set j y x among n)
          ∙ ap (λ b. get_or mask (time_number sides i j y x) false || b) (one_passes i number (λ k. lies_in box.times (time_at sides k)) (takes_below box (level_at sides j) y x) is);
    }
