-- Lines that people can draw, by computing.
use Rattle.std.specs.Prelude.{◌≡◌, refl, ℕ, ℤ, pos, negsuc, Bool, true, false, List, [], ◌∷◌, map, None, Some}
use Rattle.std.specs.List.{flat_map}
use Rattle.edr_base.specs.declared.places.Position.{Position}
use Rattle.edr_geometry.specs.Masks.{spot_at}
use Rattle.edr_corridor.specs.Values.{SegmentsValue}
use Rattle.edr_corridor.specs.Segments.{within_half, in_corridor, wants, at_segment}
use Rattle.edr_geometry.specs.Ranges.{lies_in}
use Rattle.edr_corridor.specs.Boxes.{GridAxes, have_place, takes_node, wants_node}

-- 2024-01-01T00:00:00Z, and an hour later
abbrev t0 : ℤ
t0 = pos 1704067200

abbrev t1 : ℤ
t1 = pos 1704070800

abbrev position : ℤ → ℤ → ℤ → ℤ → Position
position x y z m = record { x = x; y = y; z = z; m = m }

abbrev at : ℤ → ℤ → Position
at x y = position x y (pos 0) (pos 0)

abbrev at_time : ℤ → ℤ → ℤ → Position
at_time x y m = position x y (pos 0) m

abbrev at_level : ℤ → ℤ → ℤ → Position
at_level x y z = position x y z (pos 0)

-- a line without z and m, with m, with z, and without z about a level that is asked
abbrev plain : List Position → ℕ → SegmentsValue
plain line width = record { line = line; has_z = false; has_m = false; width = pos width; level = None; height = None }

abbrev in_time : List Position → ℕ → SegmentsValue
in_time line width = record { line = line; has_z = false; has_m = true; width = pos width; level = None; height = None }

abbrev in_space : List Position → ℕ → ℕ → SegmentsValue
in_space line width height = record { line = line; has_z = true; has_m = false; width = pos width; level = None; height = Some (pos height) }

abbrev about : List Position → ℕ → ℤ → ℕ → SegmentsValue
about line width level height = record { line = line; has_z = false; has_m = false; width = pos width; level = Some level; height = Some (pos height) }

-- the nodes of the x 0, 100, 200 and the y 0, 100, row by row
abbrev wanted_at : SegmentsValue → ℤ → List Bool
wanted_at s t = flat_map (λ y. map (λ x. wants s t None (spot_at y x)) (pos 0 ∷ pos 100 ∷ pos 200 ∷ [])) (pos 0 ∷ pos 100 ∷ [])

-- the levels 0, 10, 20 above a place
abbrev levels_at : SegmentsValue → List Bool
levels_at s = map (λ z. wants s t0 (Some z) (spot_at (pos 0) (pos 0))) (pos 0 ∷ pos 10 ∷ pos 20 ∷ [])

abbrev none_of_six : List Bool
none_of_six = false ∷ false ∷ false ∷ false ∷ false ∷ false ∷ []

-- ---- places: LINESTRING(0 50,200 50)

abbrev between_rows : List Position
between_rows = at (pos 0) (pos 50) ∷ at (pos 200) (pos 50) ∷ []

half_the_width_on_both_sides : wanted_at (plain between_rows 100) t1 ≡ true ∷ true ∷ true ∷ true ∷ true ∷ true ∷ []
half_the_width_on_both_sides = refl

a_metre_narrower : wanted_at (plain between_rows 99) t1 ≡ none_of_six
a_metre_narrower = refl

-- LINESTRING(0 0,0 100,100 100): one segment or the other
round_a_corner : wanted_at (plain (at (pos 0) (pos 0) ∷ at (pos 0) (pos 100) ∷ at (pos 100) (pos 100) ∷ []) 0) t0 ≡ true ∷ false ∷ false ∷ true ∷ true ∷ false ∷ []
round_a_corner = refl

-- ---- times: LINESTRINGM(0 0 1704067200,200 0 1704070800)

abbrev along_a_row : SegmentsValue
along_a_row = in_time (at_time (pos 0) (pos 0) t0 ∷ at_time (pos 200) (pos 0) t1 ∷ []) 0

from_the_first_time : wanted_at along_a_row t0 ≡ true ∷ true ∷ true ∷ false ∷ false ∷ false ∷ []
from_the_first_time = refl

to_the_last_time : wanted_at along_a_row t1 ≡ true ∷ true ∷ true ∷ false ∷ false ∷ false ∷ []
to_the_last_time = refl

a_second_later : wanted_at along_a_row (pos 1704070801) ≡ none_of_six
a_second_later = refl

-- LINESTRINGM(100 0 1704067201,150 -1000 1704067202,150 -2000 1704070801): the first segment meets a node and no time, the second a time and no node
abbrev apart : List Position
apart = at_time (pos 100) (pos 0) (pos 1704067201) ∷ at_time (pos 150) (negsuc 999) (pos 1704067202) ∷ at_time (pos 150) (negsuc 1999) (pos 1704070801) ∷ []

place_and_time_apart : wanted_at (in_time apart 100) t1 ≡ none_of_six
place_and_time_apart = refl

its_places_alone : wanted_at (plain apart 100) t1 ≡ false ∷ true ∷ false ∷ false ∷ false ∷ false ∷ []
its_places_alone = refl

-- LINESTRINGM(0 0 1704067200,100 0 1704067201,200 100 1704070800): each segment has times of its own
times_of_each : wanted_at (in_time (at_time (pos 0) (pos 0) t0 ∷ at_time (pos 100) (pos 0) (pos 1704067201) ∷ at_time (pos 200) (pos 100) t1 ∷ []) 0) t1
    ≡ false ∷ true ∷ false ∷ false ∷ false ∷ true ∷ []
times_of_each = refl

-- ---- levels: LINESTRING(0 0,0 0), and twice a height about level 10

abbrev upright : List Position
upright = at (pos 0) (pos 0) ∷ at (pos 0) (pos 0) ∷ []

about_a_level : levels_at (about upright 0 (pos 10) 20) ≡ true ∷ true ∷ true ∷ []
about_a_level = refl

a_metre_lower : levels_at (about upright 0 (pos 10) 19) ≡ false ∷ true ∷ false ∷ []
a_metre_lower = refl

every_level : levels_at (plain upright 0) ≡ true ∷ true ∷ true ∷ []
every_level = refl

-- LINESTRING Z(0 0 5,0 0 8) of height 5: twice a level lies from 5 to 21
height_about_z : levels_at (in_space (at_level (pos 0) (pos 0) (pos 5) ∷ at_level (pos 0) (pos 0) (pos 8) ∷ []) 0 5) ≡ false ∷ true ∷ false ∷ []
height_about_z = refl

odd_heights : map (within_half (pos 5) (pos 8) (pos 5)) (pos 2 ∷ pos 3 ∷ pos 10 ∷ pos 11 ∷ []) ≡ false ∷ true ∷ true ∷ false ∷ []
odd_heights = refl

-- downwards
z_downwards : levels_at (in_space (at_level (pos 0) (pos 0) (pos 20) ∷ at_level (pos 0) (pos 0) (pos 0) ∷ []) 0 0) ≡ true ∷ true ∷ true ∷ []
z_downwards = refl

no_level_no_z : wants (in_space (at_level (pos 0) (pos 0) (pos 5) ∷ at_level (pos 0) (pos 0) (pos 8) ∷ []) 0 5) t0 None (spot_at (pos 0) (pos 0)) ≡ false
no_level_no_z = refl

-- LINESTRING Z(0 0 0,100 0 0,100 100 20) of height 0: level and place by one segment
level_and_place_apart : map (λ z. wants (in_space (at_level (pos 0) (pos 0) (pos 0) ∷ at_level (pos 100) (pos 0) (pos 0) ∷ at_level (pos 100) (pos 100) (pos 20) ∷ []) 0 0) t0 (Some z) (spot_at (pos 0) (pos 0)))
    (pos 0 ∷ pos 10 ∷ pos 20 ∷ []) ≡ true ∷ false ∷ false ∷ []
level_and_place_apart = refl

-- ---- what is asked: times where the line has no m, levels where no height goes about a level

times_are_asked : in_corridor (plain upright 0) false true (Some t0) None (spot_at (pos 0) (pos 0)) ≡ false
times_are_asked = refl

m_is_not_asked : in_corridor along_a_row false true (Some t0) None (spot_at (pos 0) (pos 0)) ≡ true
m_is_not_asked = refl

levels_are_asked : in_corridor (plain upright 0) true false (Some t0) (Some (pos 10)) (spot_at (pos 0) (pos 0)) ≡ false
levels_are_asked = refl

-- ---- boxes

from_the_first_to_before_the_end : map (lies_in (1, 3)) (0 ∷ 1 ∷ 2 ∷ 3 ∷ []) ≡ false ∷ true ∷ true ∷ false ∷ []
from_the_first_to_before_the_end = refl

-- the third and the fourth column of the second row, and the second and third row of the first column
rows_of_rectangles : flat_map (λ y. map (have_place (record { rows = (1, 2); columns = (2, 4) } ∷ (record { rows = (1, 3); columns = (0, 1) } ∷ [])) y) (0 ∷ 1 ∷ 2 ∷ 3 ∷ [])) (0 ∷ 1 ∷ 2 ∷ 3 ∷ [])
    ≡ false ∷ false ∷ false ∷ false ∷ true ∷ false ∷ true ∷ true ∷ true ∷ false ∷ false ∷ false ∷ false ∷ false ∷ false ∷ false ∷ []
rows_of_rectangles = refl

-- of two segments each takes its own nodes, and together they take those that are wanted
abbrev axes : GridAxes
axes = record { ts = t0 ∷ t1 ∷ []; zs = None; ys = pos 0 ∷ pos 100 ∷ []; xs = pos 0 ∷ pos 100 ∷ pos 200 ∷ [] }

abbrev corner : SegmentsValue
corner = plain (at (pos 0) (pos 0) ∷ at (pos 0) (pos 100) ∷ at (pos 100) (pos 100) ∷ []) 0

first_segment : map (λ x. at_segment (takes_node corner axes 0 0 1 x) corner.line 0) (0 ∷ 1 ∷ 2 ∷ []) ≡ true ∷ false ∷ false ∷ []
first_segment = refl

second_segment : map (λ x. at_segment (takes_node corner axes 0 0 1 x) corner.line 1) (0 ∷ 1 ∷ 2 ∷ []) ≡ true ∷ true ∷ false ∷ []
second_segment = refl

no_third_segment : map (λ x. at_segment (takes_node corner axes 0 0 1 x) corner.line 2) (0 ∷ 1 ∷ 2 ∷ []) ≡ false ∷ false ∷ false ∷ []
no_third_segment = refl

both_segments : map (wants_node corner axes 0 0 1) (0 ∷ 1 ∷ 2 ∷ []) ≡ true ∷ true ∷ false ∷ []
both_segments = refl
