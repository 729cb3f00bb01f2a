-- Parts written one behind another are the written path.
use Rattle.std.proofs.Common.{◌≡◌, ℕ, List, [], ◌∷◌, ◌++◌, refl, sym, ◌∙◌, append-nil, append_assoc, Some, None}
use Rattle.std.specs.List.{flat_map}
use Rattle.edr_query.specs.declared.addresses.Address.{Address}
use Rattle.edr_query.specs.declared.addresses.Address.TheVariants.{Landing, Conformance, Collections, Collection, Instances, Instance, Locations, Location, Query}
use Rattle.edr_query.specs.Paths.{parts_of, part_text, path_text}
use Rattle.edr_query.specs.PathReads.{with_part, with_parts, with_address}

parts_more : (path : List ℕ) (parts : List (List ℕ)) → with_parts path parts ≡ path ++ flat_map part_text parts
unfolding with_part
parts_more path [] = sym (append-nil path)
parts_more path (p ∷ ps) = parts_more (with_part path p) ps ∙ append_assoc path (part_text p) (flat_map part_text ps)

pub written_is : (a : Address) → with_address [] a ≡ path_text a
written_is Landing = refl
written_is Conformance = parts_more [] (parts_of Conformance)
written_is Collections = parts_more [] (parts_of Collections)
written_is (Collection c) = parts_more [] (parts_of (Collection c))
written_is (Instances c) = parts_more [] (parts_of (Instances c))
written_is (Instance c i) = parts_more [] (parts_of (Instance c i))
written_is (Locations c) = parts_more [] (parts_of (Locations c))
written_is (Location c s) = parts_more [] (parts_of (Location c s))
written_is (Query kind c None) = parts_more [] (parts_of (Query kind c None))
written_is (Query kind c (Some i)) = parts_more [] (parts_of (Query kind c (Some i)))
