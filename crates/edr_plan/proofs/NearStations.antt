-- The stations near a line lie in the box about it, and what a corridor takes is near its line.
use Rattle.std.proofs.Common.{All, Bool, Contains, List, Some, [], ap, arith, false, inl, inr, int_le, pos, refl, sym, true, ℕ, ℤ, ◌*ℤ◌, ◌+ℤ◌, ◌-ℤ◌, ◌||◌, ◌∙◌, ◌∷◌, ◌≡◌, ◌≤ℤ◌}
use Rattle.std.specs.Prelude.{◌&&◌}
use Rattle.std.proofs.lemmas.Bool.{and_from, and_parts, or_cases}
use Rattle.std.proofs.lemmas.Int.{ints}
use Rattle.covjson_value.specs.Samples.{node}
use Rattle.edr_axes.specs.Axes.{distance, value_at}
use Rattle.edr_base.specs.declared.places.Position.{Position}
use Rattle.edr_base.specs.declared.places.Spot.{Spot}
use Rattle.edr_corridor.specs.BoxLaws.{NearPlacesAreWithin}
use Rattle.edr_corridor.specs.Boxes.{level_at}
use Rattle.edr_corridor.specs.Segments.{any_segment, segment_takes, takes_between, takes_height, within_half}
use Rattle.edr_edition.specs.Values.{CollectionValue}
use Rattle.edr_geometry.specs.Planar.{near_segment, spot_of}
use Rattle.edr_query.specs.Values.{QueryValue}
use Rattle.edr_select.specs.Lines.{segments_of}
use Rattle.edr_select.specs.ListLaws.{all_member, member_here, member_later}
use Rattle.edr_select.specs.Wanted.{takes_level, takes_time}
use Rattle.edr_station.specs.Boxes.{is_inside}
use Rattle.edr_station.specs.Stations.{StationValue, station_at}
use Rattle.edr_wkt.specs.Geometries.{line_of}
use Rattle.edr_wkt.specs.declared.geometry.Geometry.{Geometry}
use Rattle.edr_plan.specs.CorridorPlans.{CorridorValue, IsAlong, IsNearBox, is_near, takes_along}
use Rattle.edr_plan.specs.StationPlaces.{has_some, is_taken}
use Rattle.edr_plan.proofs.EachTaken.{along_is, third_true}
use Rattle.edr_plan.proofs.StationCells.{taken_at}

-- ---- segments

-- a segment that passes, by its ends
record Passes (test : Position → Position → Bool) (line : List Position) : Type 0 where
  start : Position
  end : Position
  start_in : Contains line start
  end_in : Contains line end
  passes : test start end ≡ true

passes_some : (test : Position → Position → Bool) (line : List Position) → any_segment test line ≡ true → Passes test line
passes_some test [] h = cc
passes_some test (p ∷ []) h = cc
passes_some test (p ∷ r ∷ line) h =
    elim (or_cases (test p r) (any_segment test (r ∷ line)) h) [
      | inl here ↦ record { start = p; end = r; start_in = member_here p (r ∷ line); end_in = member_later p r (r ∷ line) (member_here r line); passes = here }
      | inr later ↦ let f = passes_some test (r ∷ line) later in
          record { start = f.start; end = f.end; start_in = member_later p f.start (r ∷ line) f.start_in; end_in = member_later p f.end (r ∷ line) f.end_in; passes = f.passes }
    ]

or_left : (b d : Bool) → b ≡ true → (b || d) ≡ true
or_left b d e = ap (λ b. b || d) e

or_right : (b d : Bool) → d ≡ true → (b || d) ≡ true
or_right true d e = refl
or_right false d e = e

any_weaker : (test other : Position → Position → Bool) → ((a b : Position) → test a b ≡ true → other a b ≡ true) → (line : List Position)
    → any_segment test line ≡ true → any_segment other line ≡ true
any_weaker test other implies [] h = cc
any_weaker test other implies (p ∷ []) h = cc
any_weaker test other implies (p ∷ r ∷ line) h =
    elim (or_cases (test p r) (any_segment test (r ∷ line)) h) [
      | inl here ↦ or_left (other p r) (any_segment other (r ∷ line)) (implies p r here)
      | inr later ↦ or_right (other p r) (any_segment other (r ∷ line)) (any_weaker test other implies (r ∷ line) later)
    ]

-- ---- near a segment

-- at most half a whole away from the numbers from one to the other, and these so far inside a range, is in the range
within_range : (low high one other whole distance v : ℤ) → whole ≤ℤ (distance +ℤ distance) → low ≤ℤ (one -ℤ distance) → low ≤ℤ (other -ℤ distance)
    → (one +ℤ distance) ≤ℤ high → (other +ℤ distance) ≤ℤ high → within_half one other whole v ≡ true → (int_le low v && int_le v high) ≡ true
within_range low high one other whole distance v most a b c d h =
    let parts = and_parts (int_le (pos 2 *ℤ one -ℤ whole) (pos 2 *ℤ v) || int_le (pos 2 *ℤ other -ℤ whole) (pos 2 *ℤ v))
    (int_le (pos 2 *ℤ v) (pos 2 *ℤ one +ℤ whole) || int_le (pos 2 *ℤ v) (pos 2 *ℤ other +ℤ whole)) h in
    and_from _ _
    (elim (or_cases (int_le (pos 2 *ℤ one -ℤ whole) (pos 2 *ℤ v)) (int_le (pos 2 *ℤ other -ℤ whole) (pos 2 *ℤ v)) parts.0) [
      | inl e ↦ from_low low one whole distance v most a e
      | inr e ↦ from_low low other whole distance v most b e
    ])
    (elim (or_cases (int_le (pos 2 *ℤ v) (pos 2 *ℤ one +ℤ whole)) (int_le (pos 2 *ℤ v) (pos 2 *ℤ other +ℤ whole)) parts.1) [
      | inl e ↦ to_high high one whole distance v most c e
      | inr e ↦ to_high high other whole distance v most d e
    ])
  where
    at_most : (m n : ℤ) → m ≤ℤ n → int_le m n ≡ true
    at_most m n h = grind (arith, ints)

    from_low : (low end whole distance v : ℤ) → whole ≤ℤ (distance +ℤ distance) → low ≤ℤ (end -ℤ distance) → int_le (pos 2 *ℤ end -ℤ whole) (pos 2 *ℤ v) ≡ true → int_le low v ≡ true
    from_low low end whole distance v most far e = at_most low v (omega (arith, ints, most, far, e))

    to_high : (high end whole distance v : ℤ) → whole ≤ℤ (distance +ℤ distance) → (end +ℤ distance) ≤ℤ high → int_le (pos 2 *ℤ v) (pos 2 *ℤ end +ℤ whole) ≡ true → int_le v high ≡ true
    to_high high end whole distance v most far e = at_most v high (omega (arith, ints, most, far, e))

module _ (within : NearPlacesAreWithin) (line : Geometry) (width distance : ℤ) (lo hi : Spot) (from : pos 0 ≤ℤ width) (most : width ≤ℤ (distance +ℤ distance))
    (about : All (IsNearBox lo hi distance) (line_of line)) (stations : List StationValue) where
  -- a station that is near is in the box
  pub near_in : (k : ℕ) → is_near line width stations k ≡ true → is_inside lo hi (station_at stations k) ≡ true
  near_in k h =
      let s : StationValue = station_at stations k in
      let spot : Spot = record { x = s.x; y = s.y } in
      let f = passes_some (λ a b. near_segment spot (spot_of a) (spot_of b) width) (line_of line) h in
      let near = within spot (spot_of f.start) (spot_of f.end) width from f.passes in
      let one = all_member (IsNearBox lo hi distance) (line_of line) f.start about f.start_in in
      let other = all_member (IsNearBox lo hi distance) (line_of line) f.end about f.end_in in
      and_from _ _ (within_range lo.x hi.x f.start.x f.end.x width distance s.x most one.left other.left one.right other.right near.0)
      (within_range lo.y hi.y f.start.y f.end.y width distance s.y most one.low other.low one.high other.high near.1)

-- ---- what is taken is near

pub taken_near : (c : CollectionValue) (q : QueryValue) (corridor : CorridorValue) → IsAlong q corridor → (k : ℕ) → is_taken c q k ≡ true
    → is_near corridor.line corridor.width c.stations k ≡ true
taken_near c q corridor along k h =
    let s : StationValue = station_at c.stations k in
    let at = taken_at s (takes_along q corridor s) (sym (ap (has_some s) (along_is c q k corridor along)) ∙ h) in
    let spot : Spot = record { x = s.x; y = s.y } in
    let v = segments_of q corridor.line corridor.width corridor.height in
    let n = node (Some (value_at s.ts at.time)) (level_at s.zs at.level) s.y s.x in
    any_weaker (segment_takes v (takes_time q.times n.t) (takes_level q.levels n.z) n.t n.z spot) (λ a b. near_segment spot (spot_of a) (spot_of b) corridor.width)
    (λ a b e. third_true (takes_between v.has_m n.t a.m b.m (takes_time q.times n.t)) (takes_height v.has_z n.z a.z b.z v.height v.level (takes_level q.levels n.z))
    (near_segment spot (spot_of a) (spot_of b) corridor.width) e) (line_of corridor.line) at.taken
