-- The written path of an address whose ids are parts names it, and which bytes are escaped.
use Rattle.std.proofs.Common.{◌≡◌, ℕ, List, [], ◌∷◌, All, true, refl, Some, None, codes}
use Rattle.std.specs.Prelude.{not}
use Rattle.std.proofs.lemmas.Bool.{agree_below, agree_below_at}
use Rattle.std.proofs.lemmas.List.Elements.{All-nil, All-cons, All-head, All-tail}
use Rattle.percent_encoding.specs.AsciiSet.{should_percent_encode}
use Rattle.edr_query.specs.declared.addresses.TheConstants.{ID_SET}
use Rattle.edr_query.specs.declared.addresses.Address.{Address}
use Rattle.edr_query.specs.declared.addresses.Address.TheVariants.{Landing, Conformance, Collections, Collection, Instances, Instance, Locations, Location, Query}
use Rattle.edr_query.specs.Paths.{kind_text, parts_of, ids_of, IsPart, IsPath, path_text, WrittenPathsReadBack, is_unreserved, EscapesAllOthers}
use Rattle.edr_query.proofs.SpelledPaths.{written_path}
use Rattle.edr_query.proofs.SpelledTexts.{conformance_part, collections_part, instances_part, locations_part, kind_part}

one : (p : List ℕ) → IsPart p → All IsPart (p ∷ [])
one p h = All-cons IsPart p [] h (All-nil IsPart)

more : (p : List ℕ) (ps : List (List ℕ)) → IsPart p → All IsPart ps → All IsPart (p ∷ ps)
more p ps h all = All-cons IsPart p ps h all

first : (p : List ℕ) (ps : List (List ℕ)) → All IsPart (p ∷ ps) → IsPart p
first p ps all = All-head IsPart p ps all

second : (p q : List ℕ) (ps : List (List ℕ)) → All IsPart (p ∷ q ∷ ps) → IsPart q
second p q ps all = All-head IsPart q ps (All-tail IsPart p (q ∷ ps) all)

-- a collection, and what stands below it
below : (c : List ℕ) (ps : List (List ℕ)) → IsPart c → All IsPart ps → All IsPart (codes "collections" ∷ c ∷ ps)
below c ps h all = more (codes "collections") (c ∷ ps) collections_part (more c ps h all)

pub parts_from_ids : (a : Address) → All IsPart (ids_of a) → All IsPart (parts_of a)
parts_from_ids Landing all = All-nil IsPart
parts_from_ids Conformance all = one (codes "conformance") conformance_part
parts_from_ids Collections all = one (codes "collections") collections_part
parts_from_ids (Collection c) all = below c [] (first c [] all) (All-nil IsPart)
parts_from_ids (Instances c) all = below c (codes "instances" ∷ []) (first c [] all) (one (codes "instances") instances_part)
parts_from_ids (Instance c i) all = below c (codes "instances" ∷ i ∷ []) (first c (i ∷ []) all) (more (codes "instances") (i ∷ []) instances_part (one i (second c i [] all)))
parts_from_ids (Locations c) all = below c (codes "locations" ∷ []) (first c [] all) (one (codes "locations") locations_part)
parts_from_ids (Location c s) all = below c (codes "locations" ∷ s ∷ []) (first c (s ∷ []) all) (more (codes "locations") (s ∷ []) locations_part (one s (second c s [] all)))
parts_from_ids (Query kind c None) all = below c (kind_text kind ∷ []) (first c [] all) (one (kind_text kind) (kind_part kind))
parts_from_ids (Query kind c (Some i)) all =
    below c (codes "instances" ∷ i ∷ kind_text kind ∷ []) (first c (i ∷ []) all)
    (more (codes "instances") (i ∷ kind_text kind ∷ []) instances_part (more i (kind_text kind ∷ []) (second c i [] all) (one (kind_text kind) (kind_part kind))))

root_named : IsPath (path_text Landing) Landing
root_named = record { raw = []; cut = refl; decoded = refl; each = All-nil IsPart }

pub paths_back : WrittenPathsReadBack
paths_back Landing all = root_named
paths_back Conformance all = written_path Conformance (codes "conformance", [], refl) (parts_from_ids Conformance all)
paths_back Collections all = written_path Collections (codes "collections", [], refl) (parts_from_ids Collections all)
paths_back (Collection c) all = written_path (Collection c) (codes "collections", c ∷ [], refl) (parts_from_ids (Collection c) all)
paths_back (Instances c) all = written_path (Instances c) (codes "collections", c ∷ codes "instances" ∷ [], refl) (parts_from_ids (Instances c) all)
paths_back (Instance c i) all = written_path (Instance c i) (codes "collections", c ∷ codes "instances" ∷ i ∷ [], refl) (parts_from_ids (Instance c i) all)
paths_back (Locations c) all = written_path (Locations c) (codes "collections", c ∷ codes "locations" ∷ [], refl) (parts_from_ids (Locations c) all)
paths_back (Location c s) all = written_path (Location c s) (codes "collections", c ∷ codes "locations" ∷ s ∷ [], refl) (parts_from_ids (Location c s) all)
paths_back (Query kind c None) all = written_path (Query kind c None) (codes "collections", c ∷ kind_text kind ∷ [], refl) (parts_from_ids (Query kind c None) all)
paths_back (Query kind c (Some i)) all = written_path (Query kind c (Some i)) (codes "collections", c ∷ codes "instances" ∷ i ∷ kind_text kind ∷ [], refl) (parts_from_ids (Query kind c (Some i)) all)

-- ---- the bytes that are escaped

bytes_table : agree_below (should_percent_encode ID_SET) (λ b. not (is_unreserved b)) 256 ≡ true
unfolding should_percent_encode
bytes_table = refl

pub others_escaped : EscapesAllOthers
others_escaped byte small = agree_below_at (should_percent_encode ID_SET) (λ b. not (is_unreserved b)) 256 byte bytes_table small
