-- The targets that are tried ask for queries: their paths have the parts of no page that describes.
use Rattle.std.proofs.Common.{arith, ◌≡◌, ◌⊎◌, inl, inr, ℕ, ◌<◌, ◌==◌, List, [], ◌∷◌, map, length, refl, ap, sym, subst, ◌∙◌, Some, codes}
use Rattle.std.specs.List.{slice_split}
use Rattle.percent_encoding.specs.Percent.{percent_decode}
use Rattle.edr_query.specs.Paths.{behind_slash, HasParts, parts_of, path_in}
use Rattle.edr_query.specs.declared.addresses.Address.{Address}
use Rattle.edr_query.specs.declared.addresses.Address.TheVariants as to
use Rattle.edr_query.specs.declared.pages.Page.TheVariants.{Landing, Conformance, Collections, Collection, Instances, Instance, Locations, Ask}
use Rattle.edr_work.specs.Lines.{cube_target, position_target, location_target, corridor_target}
use Rattle.edr_work.specs.Counting.{AsksForQuery}

some_same : {V : Type 0} (a b : V) → Some a ≡ Some b → a ≡ b
some_same a b e = cc

-- the parts of a path that is cut so
parts_are : (path : List ℕ) (raw parts : List (List ℕ)) → behind_slash (slice_split (λ byte. byte == 47) path) ≡ Some raw → HasParts path parts → parts ≡ map percent_decode raw
parts_are path raw parts e has = sym has.decoded ∙ ap (map percent_decode) (some_same has.raw raw (sym has.cut ∙ e))

-- the first byte of the third part
abbrev byte_in : List (List ℕ) → ℕ
byte_in [] = 0
byte_in (one ∷ []) = 0
byte_in (one ∷ two ∷ []) = 0
byte_in (one ∷ two ∷ [] ∷ parts) = 0
byte_in (one ∷ two ∷ (byte ∷ bytes) ∷ parts) = byte

-- how many parts, and the first byte of the third, tell of a query: behind an id no `instances` and no `locations` ends the path, and behind
-- two no `instances` stands between them
abbrev IsTelling : ℕ → ℕ → Type 0
IsTelling count byte = ((count ≡ 3) × ((byte < 105) ⊎ (108 < byte))) ⊎ ((count ≡ 4) × (105 < byte))

abbrev Known : List ℕ → ℕ → ℕ → Type 0
Known target count byte = (parts : List (List ℕ)) → HasParts (path_in target) parts → (length parts ≡ count) × (byte_in parts ≡ byte)

names : (target : List ℕ) (one other : Address) → one ≡ other → HasParts (path_in target) (parts_of one) → HasParts (path_in target) (parts_of other)
names target one other e has = subst (λ address. HasParts (path_in target) (parts_of address)) e has

asks : (target : List ℕ) (count byte : ℕ) → IsTelling count byte → Known target count byte → AsksForQuery target
asks target count byte telling known (Ask query) is = tt
asks target count byte telling known Landing is =
    let k = known (parts_of to.Landing) (names target is.address to.Landing is.page_is is.path) in omega (arith, telling, k)
asks target count byte telling known Conformance is =
    let k = known (parts_of to.Conformance) (names target is.address to.Conformance is.page_is is.path) in omega (arith, telling, k)
asks target count byte telling known Collections is =
    let k = known (parts_of to.Collections) (names target is.address to.Collections is.page_is is.path) in omega (arith, telling, k)
asks target count byte telling known (Collection c) is =
    let k = known (parts_of (to.Collection c)) (names target is.address (to.Collection c) is.page_is is.path) in omega (arith, telling, k)
asks target count byte telling known (Instances c) is =
    let k = known (parts_of (to.Instances c)) (names target is.address (to.Instances c) is.page_is is.path) in omega (arith, telling, k)
asks target count byte telling known (Instance c i) is =
    let k = known (parts_of (to.Instance c i)) (names target is.address (to.Instance c i) is.page_is is.path) in omega (arith, telling, k)
asks target count byte telling known (Locations c) is =
    let k = known (parts_of (to.Locations c)) (names target is.address (to.Locations c) is.page_is is.path) in omega (arith, telling, k)

-- what is known of parts that a path is cut in so
known_by : (target : List ℕ) (raw : List (List ℕ)) (count byte : ℕ) → behind_slash (slice_split (λ byte. byte == 47) (path_in target)) ≡ Some raw
    → length (map percent_decode raw) ≡ count → byte_in (map percent_decode raw) ≡ byte → Known target count byte
known_by target raw count byte cut long third parts has =
    let e = parts_are (path_in target) raw parts cut has in (ap length e ∙ long, ap byte_in e ∙ third)

cube_known : Known cube_target 3 99
unfolding percent_decode
cube_known = known_by cube_target (codes "collections" ∷ codes "grid" ∷ codes "cube" ∷ []) 3 99 refl refl refl

position_known : Known position_target 3 112
unfolding percent_decode
position_known = known_by position_target (codes "collections" ∷ codes "grid" ∷ codes "position" ∷ []) 3 112 refl refl refl

location_known : Known location_target 4 108
unfolding percent_decode
location_known = known_by location_target (codes "collections" ∷ codes "sites" ∷ codes "locations" ∷ codes "s07" ∷ []) 4 108 refl refl refl

corridor_known : Known corridor_target 3 99
unfolding percent_decode
corridor_known = known_by corridor_target (codes "collections" ∷ codes "grid" ∷ codes "corridor" ∷ []) 3 99 refl refl refl

pub cube_asks : AsksForQuery cube_target
cube_asks = asks cube_target 3 99 (inl (refl, inl (omega arith))) cube_known

pub position_asks : AsksForQuery position_target
position_asks = asks position_target 3 112 (inl (refl, inr (omega arith))) position_known

pub location_asks : AsksForQuery location_target
location_asks = asks location_target 4 108 (inr (refl, omega arith)) location_known

pub corridor_asks : AsksForQuery corridor_target
corridor_asks = asks corridor_target 3 99 (inl (refl, inl (omega arith))) corridor_known
