-- Faults of geometries: at most one is the first that applies, and none does where there is none.
use Rattle.std.proofs.Common.{◌≡◌, ◌<◌, ◌≤◌, length, refl, ap, arith}
use Rattle.std.specs.List.{AllByRecursion}
use Rattle.edr_base.specs.FirstThatApplies.{IsLeast, NoneApplies}
use Rattle.edr_base.specs.Limits.{position_limit}
use Rattle.edr_base.specs.FirstLaws.{least_rank}
use Rattle.edr_wkt.specs.declared.geometry.Geometry.{Geometry}
use Rattle.edr_wkt.specs.declared.faults.WktFault.{WktFault}
use Rattle.edr_wkt.specs.declared.faults.WktFault.TheVariants.{NotWkt, TooManyPositions, OutOfRange, OpenRing, DecreasingM, OutOfMemory}
use Rattle.edr_wkt.specs.Checks.{IsFound}
use Rattle.edr_wkt.specs.Geometries.{positions_of, rings_of, line_of}
use Rattle.edr_wkt.specs.Faults.{IsInRange, IsClosed, IsBadAt, FallsAt, Applies, rank, IsFaultless}
use Rattle.edr_wkt.proofs.CheckLemmas.{not_bad, not_falls}

-- ---- none applies

pub faultless_none : (g : Geometry) → IsFaultless g → NoneApplies (Applies g)
faultless_none g s NotWkt h = h
faultless_none g s TooManyPositions h = omega (arith, s.few, h)
faultless_none g s (OutOfRange place) h = not_bad IsInRange (positions_of g) place s.in_range h.applies
faultless_none g s (OpenRing place) h = not_bad IsClosed (rings_of g) place s.closed h.applies
faultless_none g s (DecreasingM place) h = not_falls (line_of g) place s.rising h.applies
faultless_none g s OutOfMemory h = h

-- ---- what the checks find is the first that applies

before_many : (g : Geometry) (other : WktFault) → rank other < 1 → ¬ (Applies g other)
before_many g NotWkt low h = h
before_many g other low h = omega (arith, low)

before_range : (g : Geometry) → length (positions_of g) ≤ position_limit → (other : WktFault) → rank other < 2 → ¬ (Applies g other)
before_range g few NotWkt low h = h
before_range g few TooManyPositions low h = omega (arith, few, h)
before_range g few other low h = omega (arith, low)

before_rings : (g : Geometry) → length (positions_of g) ≤ position_limit → AllByRecursion IsInRange (positions_of g) → (other : WktFault) → rank other < 3 → ¬ (Applies g other)
before_rings g few in_range (OutOfRange place) low h = not_bad IsInRange (positions_of g) place in_range h.applies
before_rings g few in_range NotWkt low h = h
before_rings g few in_range TooManyPositions low h = omega (arith, few, h)
before_rings g few in_range other low h = omega (arith, low)

before_falls : (g : Geometry) → length (positions_of g) ≤ position_limit → AllByRecursion IsInRange (positions_of g) → AllByRecursion IsClosed (rings_of g) → (other : WktFault) → rank other < 4 → ¬ (Applies g other)
before_falls g few in_range closed (OpenRing place) low h = not_bad IsClosed (rings_of g) place closed h.applies
before_falls g few in_range closed (OutOfRange place) low h = not_bad IsInRange (positions_of g) place in_range h.applies
before_falls g few in_range closed NotWkt low h = h
before_falls g few in_range closed TooManyPositions low h = omega (arith, few, h)
before_falls g few in_range closed other low h = omega (arith, low)

pub found_least : (fault : WktFault) (g : Geometry) → IsFound fault g → IsLeast rank (Applies g) fault
found_least NotWkt g f = absurd f
found_least TooManyPositions g f = record { applies = f; none_before = before_many g }
found_least (OutOfRange place) g f = record { applies = f.1; none_before = before_range g f.0 }
found_least (OpenRing place) g f = record { applies = f.2; none_before = before_rings g f.0 f.1 }
found_least (DecreasingM place) g f = record { applies = f.3; none_before = before_falls g f.0 f.1 f.2 }
found_least OutOfMemory g f = absurd f

-- ---- there is one

same_rank : (g : Geometry) (a b : WktFault) → Applies g a → Applies g b → rank a ≡ rank b → a ≡ b
same_rank g NotWkt b x y e = absurd x
same_rank g OutOfMemory b x y e = absurd x
same_rank g a NotWkt x y e = absurd y
same_rank g a OutOfMemory x y e = absurd y
same_rank g TooManyPositions TooManyPositions x y e = refl
same_rank g (OutOfRange p) (OutOfRange q) x y e = ap OutOfRange (least_rank (λ place. place) (IsBadAt IsInRange (positions_of g)) p q x y)
same_rank g (OpenRing p) (OpenRing q) x y e = ap OpenRing (least_rank (λ place. place) (IsBadAt IsClosed (rings_of g)) p q x y)
same_rank g (DecreasingM p) (DecreasingM q) x y e = ap DecreasingM (least_rank (λ place. place) (FallsAt (line_of g)) p q x y)
same_rank g a b x y e = absurd (omega (arith, e))

pub least-unique : (g : Geometry) (a b : WktFault) → IsLeast rank (Applies g) a → IsLeast rank (Applies g) b → a ≡ b
least-unique g a b x y = same_rank g a b x.applies y.applies (least_rank rank (Applies g) a b x y)
