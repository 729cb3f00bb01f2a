-- The parts of an address, and the address of parts.
use Rattle.std.proofs.Common.{◌≡◌, ℕ, List, [], ◌∷◌, refl, ap, ◌∙◌, ⊎_elim, Some, None, codes}
use Rattle.std.specs.declared.option.Option.{Option}
use Rattle.edr_query.specs.declared.addresses.QueryKind.{QueryKind}
use Rattle.edr_query.specs.declared.addresses.QueryKind.TheVariants.{Position, Radius, Area, Cube, Trajectory, Corridor}
use Rattle.edr_query.specs.declared.addresses.Address.{Address}
use Rattle.edr_query.specs.declared.addresses.Address.TheVariants.{Landing, Conformance, Collections, Collection, Instances, Instance, Locations, Location, Query}
use Rattle.edr_query.specs.Paths.{kind_text, parts_of}
use Rattle.edr_query.specs.PathReads.{kind_in, query_of, named_page, id_page, instance_page, collection_page, address_in}
use Rattle.edr_query.proofs.ListLemmas.{some_same, none_some, choice, when_text}

kind_back : (kind : QueryKind) → kind_in (kind_text kind) ≡ Some kind
kind_back Position = refl
kind_back Radius = refl
kind_back Area = refl
kind_back Cube = refl
kind_back Trajectory = refl
kind_back Corridor = refl

named_back : (c : List ℕ) (kind : QueryKind) → named_page c (kind_text kind) ≡ Some (Query kind c None)
named_back c Position = refl
named_back c Radius = refl
named_back c Area = refl
named_back c Cube = refl
named_back c Trajectory = refl
named_back c Corridor = refl

-- the address of the parts of an address
pub address_back : (a : Address) → address_in (parts_of a) ≡ Some a
address_back Landing = refl
address_back Conformance = refl
address_back Collections = refl
address_back (Collection c) = refl
address_back (Instances c) = refl
address_back (Instance c i) = refl
address_back (Locations c) = refl
address_back (Location c s) = refl
address_back (Query kind c None) = named_back c kind
address_back (Query kind c (Some i)) = ap (query_of c (Some i)) (kind_back kind)

kind_sound : (name : List ℕ) (kind : QueryKind) → kind_in name ≡ Some kind → name ≡ kind_text kind
kind_sound name kind e =
    ⊎_elim (λ h. h.0 ∙ ap kind_text h.1) (λ e.
    ⊎_elim (λ h. h.0 ∙ ap kind_text h.1) (λ e.
    ⊎_elim (λ h. h.0 ∙ ap kind_text h.1) (λ e.
    ⊎_elim (λ h. h.0 ∙ ap kind_text h.1) (λ e.
    ⊎_elim (λ h. h.0 ∙ ap kind_text h.1) (λ e.
    ⊎_elim (λ h. h.0 ∙ ap kind_text h.1) (λ e. absurd (none_some kind e))
    (choice name (codes "corridor") Corridor kind _ e))
    (choice name (codes "trajectory") Trajectory kind _ e))
    (choice name (codes "cube") Cube kind _ e))
    (choice name (codes "area") Area kind _ e))
    (choice name (codes "radius") Radius kind _ e))
    (choice name (codes "position") Position kind _ e)

query_sound : (c : List ℕ) (i : Option (List ℕ)) (o : Option QueryKind) (a : Address) → query_of c i o ≡ Some a → (kind : QueryKind) × (o ≡ Some kind) × (Query kind c i ≡ a)
query_sound c i None a e = absurd (none_some a e)
query_sound c i (Some kind) a e = (kind, refl, some_same (Query kind c i) a e)

abbrev front : List ℕ → List (List ℕ) → List (List ℕ)
front c parts = codes "collections" ∷ c ∷ parts

named_sound : (c name : List ℕ) (a : Address) → named_page c name ≡ Some a → front c (name ∷ []) ≡ parts_of a
named_sound c name a e =
    ⊎_elim (λ h. ap (λ n. front c (n ∷ [])) h.0 ∙ ap parts_of h.1) (λ e.
    ⊎_elim (λ h. ap (λ n. front c (n ∷ [])) h.0 ∙ ap parts_of h.1) (λ e.
    (let q = query_sound c None (kind_in name) a e in
    ap (λ n. front c (n ∷ [])) (kind_sound name q.0 q.1) ∙ ap parts_of q.2))
    (choice name (codes "locations") (Locations c) a _ e))
    (choice name (codes "instances") (Instances c) a _ e)

id_sound : (c name id : List ℕ) (a : Address) → id_page c name id ≡ Some a → front c (name ∷ id ∷ []) ≡ parts_of a
id_sound c name id a e =
    ⊎_elim (λ h. ap (λ n. front c (n ∷ id ∷ [])) h.0 ∙ ap parts_of h.1) (λ e.
    ⊎_elim (λ h. ap (λ n. front c (n ∷ id ∷ [])) h.0 ∙ ap parts_of h.1) (λ e. absurd (none_some a e))
    (choice name (codes "locations") (Location c id) a _ e))
    (choice name (codes "instances") (Instance c id) a _ e)

instance_sound : (c name id last : List ℕ) (a : Address) → instance_page c name id last ≡ Some a → front c (name ∷ id ∷ last ∷ []) ≡ parts_of a
instance_sound c name id last a e =
    let h = when_text name (codes "instances") (query_of c (Some id) (kind_in last)) a e in
    let q = query_sound c (Some id) (kind_in last) a h.1 in
    ap (λ n. front c (n ∷ id ∷ last ∷ [])) h.0 ∙ ap (λ n. front c (codes "instances" ∷ id ∷ n ∷ [])) (kind_sound last q.0 q.1) ∙ ap parts_of q.2

collection_sound : (c : List ℕ) (parts : List (List ℕ)) (a : Address) → collection_page c parts ≡ Some a → front c parts ≡ parts_of a
collection_sound c [] a e = ap parts_of (some_same (Collection c) a e)
collection_sound c (name ∷ []) a e = named_sound c name a e
collection_sound c (name ∷ id ∷ []) a e = id_sound c name id a e
collection_sound c (name ∷ id ∷ last ∷ []) a e = instance_sound c name id last a e
collection_sound c (name ∷ id ∷ last ∷ more ∷ parts) a e = absurd (none_some a e)

-- parts that have an address are those of the address
pub address_sound : (parts : List (List ℕ)) (a : Address) → address_in parts ≡ Some a → parts ≡ parts_of a
address_sound [] a e = ap parts_of (some_same Landing a e)
address_sound (name ∷ []) a e =
    ⊎_elim (λ h. ap (λ n. n ∷ []) h.0 ∙ ap parts_of h.1) (λ e.
    ⊎_elim (λ h. ap (λ n. n ∷ []) h.0 ∙ ap parts_of h.1) (λ e. absurd (none_some a e))
    (choice name (codes "collections") Collections a _ e))
    (choice name (codes "conformance") Conformance a _ e)
address_sound (name ∷ c ∷ parts) a e =
    let h = when_text name (codes "collections") (collection_page c parts) a e in
    ap (λ n. n ∷ c ∷ parts) h.0 ∙ collection_sound c parts a h.1
