-- The parts of a path.
use Rattle.std.proofs.Common.{◌≡◌, ◌≢◌, ℕ, ◌==◌, List, [], ◌∷◌, map, All, refl, ap, sym, ◌∙◌, Some, None}
use Rattle.std.specs.List.{Contains, slice_split, onto_first}
use Rattle.std.proofs.lemmas.List.Splits.{slice_split-cons_no}
use Rattle.percent_encoding.specs.Percent.{percent_decode}
use Rattle.edr_base.specs.Cuts.{IsCut}
use Rattle.edr_query.specs.declared.addresses.Address.{Address}
use Rattle.edr_query.specs.Paths.{without_empty_last, behind_slash, IsPart, HasParts, IsPath, parts_of}
use Rattle.edr_query.specs.PathReads.{raw_in, parts_in, HasNoAddress, address_in}
use Rattle.edr_query.proofs.ListLemmas.{some_same, none_some, split_some, split_cut, split_whole, ne_slash}
use Rattle.edr_query.proofs.AddressLemmas.{address_back, address_sound}

abbrev split : List ℕ → List (List ℕ)
split text = slice_split (λ byte. byte == 47) text

keeps_more : (part x : List ℕ) (xs : List (List ℕ)) → without_empty_last (part ∷ x ∷ xs) ≡ part ∷ without_empty_last (x ∷ xs)
keeps_more [] x xs = refl
keeps_more (c ∷ cs) x xs = refl

keeps_at : (part : List ℕ) (parts : List (List ℕ)) (x : List ℕ) (xs : List (List ℕ)) → parts ≡ x ∷ xs → without_empty_last (part ∷ parts) ≡ part ∷ without_empty_last parts
keeps_at part parts x xs e =
    ap (λ l. without_empty_last (part ∷ l)) e ∙ keeps_more part x xs ∙ ap (λ l. part ∷ without_empty_last l) (sym e)

keeps : (part text : List ℕ) → without_empty_last (part ∷ split text) ≡ part ∷ raw_in text
keeps part text = let s = split_some (λ byte. byte == 47) text in keeps_at part (split text) s.0 s.1 s.2

-- the first part, and those behind the slash
pub raw_cut : (rest front back : List ℕ) → IsCut 47 rest front back → raw_in rest ≡ front ∷ raw_in back
raw_cut rest front back cut = ap without_empty_last (split_cut 47 rest front back refl cut) ∙ keeps front back

last_at : (rest : List ℕ) → rest ≢ [] → without_empty_last (rest ∷ []) ≡ rest ∷ []
last_at [] h = absurd (h refl)
last_at (c ∷ cs) h = refl

-- a part at the end
pub raw_last : (rest : List ℕ) → ¬ (Contains rest 47) → rest ≢ [] → raw_in rest ≡ rest ∷ []
raw_last rest none some = ap without_empty_last (split_whole 47 rest none) ∙ last_at rest some

behind_at : (parts : List (List ℕ)) (x : List ℕ) (xs : List (List ℕ)) → parts ≡ x ∷ xs → behind_slash ([] ∷ parts) ≡ Some (without_empty_last parts)
behind_at parts x xs e = ap (λ l. behind_slash ([] ∷ l)) e ∙ ap (λ l. Some (without_empty_last l)) (sym e)

pub behind : (path inner : List ℕ) → path ≡ 47 ∷ inner → behind_slash (split path) ≡ Some (raw_in inner)
behind path inner e =
    let s = split_some (λ byte. byte == 47) inner in
    ap (λ t. behind_slash (split t)) e ∙ behind_at (split inner) s.0 s.1 s.2

not_behind_at : (c : ℕ) (parts : List (List ℕ)) (x : List ℕ) (xs : List (List ℕ)) → parts ≡ x ∷ xs → behind_slash (onto_first c parts) ≡ None
not_behind_at c parts x xs e = ap (λ l. behind_slash (onto_first c l)) e

pub not_behind : (path : List ℕ) → ((rest : List ℕ) → ¬ (path ≡ 47 ∷ rest)) → behind_slash (split path) ≡ None
not_behind [] h = refl
not_behind (c ∷ cs) h =
    let s = split_some (λ byte. byte == 47) cs in
    ap behind_slash (slice_split-cons_no (λ byte. byte == 47) c cs (ne_slash c (λ e. h cs (ap (λ b. b ∷ cs) e)))) ∙ not_behind_at c (split cs) s.0 s.1 s.2

-- ---- what the calls answer

-- a path has its parts in one way
pub parts_same : (path : List ℕ) (a b : List (List ℕ)) → HasParts path a → HasParts path b → a ≡ b
parts_same path a b x y = sym x.decoded ∙ ap (map percent_decode) (some_same x.raw y.raw (sym x.cut ∙ y.cut)) ∙ y.decoded

pub no_slash : (path : List ℕ) → ((rest : List ℕ) → ¬ (path ≡ 47 ∷ rest)) → HasNoAddress path
no_slash path h a is = none_some is.raw (sym (not_behind path h) ∙ is.cut)

-- the parts of what stands behind the slash are those of the path
parts_inner : (path inner : List ℕ) (parts : List (List ℕ)) → path ≡ 47 ∷ inner → HasParts path parts → parts_in inner ≡ parts
parts_inner path inner parts e has = ap (map percent_decode) (some_same (raw_in inner) has.raw (sym (behind path inner e) ∙ has.cut)) ∙ has.decoded

-- ---- the first part

pub first_cut : (text front back : List ℕ) → IsCut 47 text front back → parts_in text ≡ percent_decode front ∷ parts_in back
first_cut text front back cut = ap (map percent_decode) (raw_cut text front back cut)

pub first_whole : (text : List ℕ) → ¬ (Contains text 47) → text ≢ [] → parts_in text ≡ percent_decode text ∷ parts_in []
first_whole text none some = ap (map percent_decode) (raw_last text none some)

-- ---- the address

-- the path names no other address than that of its parts
pub address_is : (path inner : List ℕ) (a : Address) → path ≡ 47 ∷ inner → IsPath path a → address_in (parts_in inner) ≡ Some a
address_is path inner a e is = ap address_in (parts_inner path inner (parts_of a) e is) ∙ address_back a

pub no_address : (path inner : List ℕ) → path ≡ 47 ∷ inner → address_in (parts_in inner) ≡ None → HasNoAddress path
no_address path inner e none a is = none_some a (sym none ∙ address_is path inner a e is)

pub an_address : (path inner : List ℕ) (a : Address) → path ≡ 47 ∷ inner → address_in (parts_in inner) ≡ Some a → All IsPart (parts_of a) → IsPath path a
an_address path inner a e is all = record { raw = raw_in inner; cut = behind path inner e; decoded = address_sound (parts_in inner) a is; each = all }
