-- Geometries that are read or written are in the plane.
use Rattle.std.proofs.Common.{List, [], ◌∷◌, ◌++◌, flat_map, subst}
use Rattle.std.specs.List.{AllByRecursion}
use Rattle.std.proofs.lemmas.List.Concat.{flat_map-cons}
use Rattle.std.proofs.lemmas.List.Elements.{All-from_recursion}
use Rattle.edr_base.specs.declared.places.Position.{Position}
use Rattle.edr_wkt.specs.declared.geometry.Polygon.{Polygon}
use Rattle.edr_wkt.specs.Faults.{IsInRange}
use Rattle.edr_geometry.specs.Limits.{IsPlaced, IsPlacedRing, IsPlacedPolygon, GeometriesArePlaced}

all_parts : {A : Type 0} (P : A → Type 0) (xs ys : List A) → AllByRecursion P (xs ++ ys) → AllByRecursion P xs × AllByRecursion P ys
all_parts P [] ys h = (tt, h)
all_parts P (x ∷ xs) ys h = let rest = all_parts P xs ys h.1 in ((h.0, rest.0), rest.1)

all_kept : {A : Type 0} (P Q : A → Type 0) → ((x : A) → P x → Q x) → (xs : List A) → AllByRecursion P xs → AllByRecursion Q xs
all_kept P Q keeps [] h = tt
all_kept P Q keeps (x ∷ xs) h = (keeps x h.0, all_kept P Q keeps xs h.1)

all_inner : {A B : Type 0} (P : B → Type 0) (f : A → List B) (xs : List A) → AllByRecursion P (flat_map f xs) → AllByRecursion (λ x. AllByRecursion P (f x)) xs
all_inner P f [] h = tt
all_inner {A} {B} P f (x ∷ xs) h =
    let Q : List B → Type 0 = λ l. AllByRecursion P l in
    let parts = all_parts P (f x) (flat_map f xs) (subst Q (flat_map-cons f x xs) h) in
    (parts.0, all_inner P f xs parts.1)

ring_placed : (ring : List Position) → AllByRecursion IsInRange ring → IsPlacedRing ring
ring_placed ring h = All-from_recursion IsPlaced ring (all_kept IsInRange IsPlaced (λ p in_range. record { x = in_range.x; y = in_range.y }) ring h)

polygon_placed : (polygon : Polygon) → AllByRecursion IsInRange (flat_map (λ r. r) polygon.rings) → IsPlacedPolygon polygon
polygon_placed polygon h =
    All-from_recursion IsPlacedRing polygon.rings (all_kept (λ r. AllByRecursion IsInRange r) IsPlacedRing ring_placed polygon.rings (all_inner IsInRange (λ r. r) polygon.rings h))

pub placed : GeometriesArePlaced
placed multi has_z has_m polygons geometry =
    All-from_recursion IsPlacedPolygon polygons
    (all_kept (λ g. AllByRecursion IsInRange (flat_map (λ r. r) g.rings)) IsPlacedPolygon polygon_placed polygons
    (all_inner IsInRange (λ g. flat_map (λ r. r) g.rings) polygons geometry.faultless.in_range))
