-- Segments of a line, one by one and all together.
use Rattle.std.proofs.Common.{◌≡◌, ℕ, zero, suc, ◌+◌, ◌<◌, ◌≤◌, arith, add-one, sym, Bool, true, false, ◌&&◌, ◌||◌, List, [], ◌∷◌, length, get_or, refl, ap, ap₂, ◌∙◌, Option, None, Some, ℤ}
use Rattle.std.specs.Prelude.{slice_get, is_some}
use Rattle.std.specs.List.{list_any}
use Rattle.std.proofs.lemmas.List.{get_or_default}
use Rattle.std.proofs.lemmas.Bool.{or_left, or_right, or_from}
use Rattle.edr_base.specs.declared.places.Position.{Position}
use Rattle.edr_base.specs.declared.places.Spot.{Spot}
use Rattle.edr_geometry.specs.Planar.{spot_of, near_segment}
use Rattle.edr_corridor.specs.Values.{SegmentsValue}
use Rattle.edr_corridor.specs.Segments.{takes_between, takes_height, segment_takes, any_segment, at_segment}
use Rattle.edr_corridor.specs.Boxes.{takes_node, box_takes}
use Rattle.edr_corridor.specs.declared.segment.Segment.{Segment}
use Rattle.edr_corridor.specs.declared.segment.Rule.{Rule}
use Rattle.edr_corridor.specs.Parts.{IsSegmentAt, has_time, has_height}
use Rattle.edr_corridor.specs.BoxLaws.{is_about, BoxesAreWanted, CorridorsAreCut}

-- ---- one segment of many

-- the segment of a number goes from the position of that number to the next
pub ends_at : (test : Position → Position → Bool) (line : List Position) (number : ℕ) (d : Position) → suc number < length line → at_segment test line number ≡ test (get_or line number d) (get_or line (suc number) d)
ends_at test [] number d h = absurd (omega arith)
ends_at test (p ∷ []) number d h = absurd (omega arith)
ends_at test (p ∷ (q ∷ line)) zero d h = refl
ends_at test (p ∷ (q ∷ line)) (suc number) d h = ends_at test (q ∷ line) number d (omega arith)

-- its ends are read, each with a default of its own
pub at_ends : (test : Position → Position → Bool) (line : List Position) (number : ℕ) (a b : Position) → number + 1 < length line → a ≡ get_or line number a → b ≡ get_or line (number + 1) b → at_segment test line number ≡ test a b
at_ends test line number a b h start end =
    let next : get_or line (suc number) a ≡ get_or line (number + 1) b = ap (λ k. get_or line k a) (sym (add-one number)) ∙ get_or_default line (number + 1) a b h in
    ends_at test line number a (omega (arith, h)) ∙ ap₂ test (sym start) (next ∙ sym end)

-- what the segment of a number takes, by its own ends and rule
pub taken_at : (s : SegmentsValue) (number : ℕ) (segment : Segment) (t z : Option ℤ) (spot : Spot) → IsSegmentAt s number segment
    → at_segment (segment_takes s true true t z spot) s.line number ≡ (has_time segment t && (has_height segment z && near_segment spot (spot_of segment.start) (spot_of segment.end) segment.rule.width))
taken_at s number segment t z spot is =
    is.ends_are (segment_takes s true true t z spot)
    ∙ ap (λ (rule : Rule). takes_between rule.has_m t segment.start.m segment.end.m true && (takes_height rule.has_z z segment.start.z segment.end.z rule.height rule.level true && near_segment spot (spot_of segment.start) (spot_of segment.end) rule.width)) (sym is.rule_is)

-- a segment passes a test where one passes it
pub some_passes : (test : Position → Position → Bool) (line : List Position) (number : ℕ) → at_segment test line number ≡ true → any_segment test line ≡ true
some_passes test [] number h = h
some_passes test (p ∷ []) number h = h
some_passes test (p ∷ (q ∷ line)) zero h = or_left (test p q) (any_segment test (q ∷ line)) h
some_passes test (p ∷ (q ∷ line)) (suc number) h = or_right (test p q) (any_segment test (q ∷ line)) (some_passes test (q ∷ line) number h)

pub none_passes : (test : Position → Position → Bool) (line : List Position) (count : ℕ) → length line ≤ count + 1 → ((number : ℕ) → number < count → at_segment test line number ≡ false) → any_segment test line ≡ false
none_passes test [] count many h = refl
none_passes test (p ∷ []) count many h = refl
none_passes test (p ∷ (q ∷ line)) zero many h = absurd (omega arith)
none_passes test (p ∷ (q ∷ line)) (suc count) many h =
    or_from (test p q) (any_segment test (q ∷ line)) (h zero (omega arith)) (none_passes test (q ∷ line) count (omega arith) (λ number k. h (suc number) (omega arith)))

-- some item of a list passes where each answers for its segment
any_by_each : {A : Type 0} (f : A → Bool) (test : Position → Position → Bool) (line : List Position) (items : List A) → length items + 1 ≡ length line
    → ((number : ℕ) (item : A) → slice_get items number ≡ Some item → f item ≡ at_segment test line number) → list_any f items ≡ any_segment test line
any_by_each f test [] items many each = absurd (omega arith)
any_by_each f test (p ∷ []) [] many each = refl
any_by_each f test (p ∷ []) (a ∷ items) many each = absurd (omega arith)
any_by_each f test (p ∷ (q ∷ line)) [] many each = absurd (omega arith)
any_by_each f test (p ∷ (q ∷ line)) (a ∷ items) many each =
    ap₂ (λ a b. a || b) (each zero a refl) (any_by_each f test (q ∷ line) items (omega arith) (λ number item is. each (suc number) item is))

pub boxes_wanted : BoxesAreWanted
boxes_wanted s axes boxes are t z y x node =
    any_by_each (λ taken. box_takes taken t z y x) (takes_node s axes t z y x) s.line boxes are.count (λ number taken is. are.each number taken is t z y x node)

-- ---- what is asked

and_true : (a : Bool) → a ≡ (a && true)
and_true true = refl
and_true false = refl

time_cut : (has_m asked : Bool) (t first last : ℤ) → takes_between has_m (Some t) first last asked ≡ (takes_between has_m (Some t) first last true && (has_m || asked))
time_cut true asked t first last = and_true (takes_between true (Some t) first last true)
time_cut false asked t first last = refl

level_cut : (has_z asked : Bool) (z : Option ℤ) (one other : ℤ) (height single : Option ℤ)
    → takes_height has_z z one other height single asked ≡ (takes_height has_z z one other height single true && ((has_z || (is_some single && is_some height)) || asked))
level_cut true asked z one other height single = (grind arith)
level_cut false asked None one other None None = refl
level_cut false asked None one other None (Some only) = refl
level_cut false asked None one other (Some height) None = refl
level_cut false asked None one other (Some height) (Some only) = refl
level_cut false asked (Some level) one other None None = refl
level_cut false asked (Some level) one other None (Some only) = refl
level_cut false asked (Some level) one other (Some height) None = refl
level_cut false asked (Some level) one other (Some height) (Some only) = and_true (takes_height false (Some level) one other (Some height) (Some only) true)

regroup : (t m h a n : Bool) → ((t && m) && ((h && a) && n)) ≡ (((t && (h && n)) && m) && a)
regroup t m h a n = grind arith

or_cut : (x y m a : Bool) → (((x && m) && a) || ((y && m) && a)) ≡ (((x || y) && m) && a)
or_cut x y m a = grind arith

any_cut : (f g : Position → Position → Bool) (m a : Bool) → ((p q : Position) → f p q ≡ ((g p q && m) && a)) → (line : List Position) → any_segment f line ≡ ((any_segment g line && m) && a)
any_cut f g m a each [] = refl
any_cut f g m a each (p ∷ []) = refl
any_cut f g m a each (p ∷ (q ∷ line)) = ap₂ (λ x y. x || y) (each p q) (any_cut f g m a each (q ∷ line)) ∙ or_cut (g p q) (any_segment g (q ∷ line)) m a

pub corridors_cut : CorridorsAreCut
corridors_cut s times levels t z spot =
    any_cut (segment_takes s times levels (Some t) z spot) (segment_takes s true true (Some t) z spot) (s.has_m || times) (is_about s || levels)
    (λ p q. ap₂ (λ a b. a && (b && near_segment spot (spot_of p) (spot_of q) s.width)) (time_cut s.has_m times t p.m q.m) (level_cut s.has_z levels z p.z q.z s.height s.level)
    ∙ regroup (takes_between s.has_m (Some t) p.m q.m true) (s.has_m || times) (takes_height s.has_z z p.z q.z s.height s.level true) (is_about s || levels) (near_segment spot (spot_of p) (spot_of q) s.width))
    s.line
