-- Parts of JSON that are equal come from equal values.
use Rattle.std.proofs.Common.{◌≡◌, ℕ, true, false, bytes_eq, ℤ, pos, negsuc, List, [], ◌∷◌, length, map, zip, All, Option, Some, None, IfSome, option_map, refl, ap, ap₂, sym, arith}
use Rattle.std.specs.Prelude.{⊤}
use Rattle.std.proofs.lemmas.List.Elements.{All-head, All-tail}
use Rattle.std.proofs.lemmas.Slice.Eq.{bytes_eq-Decides}
use Rattle.serde_json.specs.Data.{Data, Members, no_members, member}
use Rattle.serde_json.specs.View.{items_of}
use Rattle.covjson_value.specs.Trees.{member_if, array_of, members_in_order, integer}
use Rattle.covjson_value.proofs.InOrder.{Pair}

-- equal data come from equal values, of those that P holds of
abbrev pub Tells : {V D : Type 0} → (V → Type 0) → (V → D) → Type 0
Tells {V} P data_of = (one other : V) → P one → P other → data_of one ≡ data_of other → one ≡ other

-- where nothing is asked of the values
pub any_given : {V : Type 0} (given : Option V) → IfSome given (λ _. ⊤)
any_given None = tt
any_given (Some value) = tt

pub any_listed : {V : Type 0} (values : List V) → All (λ _. ⊤) values
any_listed values k d inside = tt

pub integer_tells : (one other : ℤ) → integer one ≡ integer other → one ≡ other
integer_tells (pos m) (pos n) e = cc
integer_tells (pos m) (negsuc n) e = cc
integer_tells (negsuc m) (pos n) e = cc
integer_tells (negsuc m) (negsuc n) e = cc

pub option_tells : {V D : Type 0} (P : V → Type 0) (data_of : V → D) → Tells P data_of → (one other : Option V) → IfSome one P → IfSome other P → option_map data_of one ≡ option_map data_of other → one ≡ other
option_tells P data_of tells None None h k e = refl
option_tells P data_of tells None (Some w) h k e = cc
option_tells P data_of tells (Some v) None h k e = cc
option_tells P data_of tells (Some v) (Some w) h k e = ap Some (tells v w h k (cc))

-- ---- arrays

pub map_tells : {V D : Type 0} (P : V → Type 0) (data_of : V → D) → Tells P data_of → (vs ws : List V) → All P vs → All P ws → map data_of vs ≡ map data_of ws → vs ≡ ws
map_tells P data_of tells [] [] h k e = refl
map_tells P data_of tells [] (w ∷ ws) h k e = cc
map_tells P data_of tells (v ∷ vs) [] h k e = cc
map_tells P data_of tells (v ∷ vs) (w ∷ ws) h k e =
    let first = tells v w (All-head P v vs h) (All-head P w ws k) (cc) in
    let rest = map_tells P data_of tells vs ws (All-tail P v vs h) (All-tail P w ws k) (cc) in
    cc

items_tell : (ds es : List Data) → items_of ds ≡ items_of es → ds ≡ es
items_tell [] [] e = refl
items_tell [] (f ∷ es) e = cc
items_tell (d ∷ ds) [] e = cc
items_tell (d ∷ ds) (f ∷ es) e = let rest = items_tell ds es (cc) in cc

pub array_of_tells : {V : Type 0} (P : V → Type 0) (data_of : V → Data) → Tells P data_of → (vs ws : List V) → All P vs → All P ws → array_of data_of vs ≡ array_of data_of ws → vs ≡ ws
array_of_tells P data_of tells vs ws h k e = map_tells P data_of tells vs ws h k (items_tell (map data_of vs) (map data_of ws) (cc))

-- ---- objects

-- the first member, if there is one, has another name
abbrev StartsApart : List ℕ → Members → Type 0
StartsApart key no_members = ⊤
StartsApart key (member other d ms) = bytes_eq key other ≡ false

pub record IsApart (key : List ℕ) (ms : Members) : Type 0 where
  pub apart : StartsApart key ms

pub none_apart : (key : List ℕ) → IsApart key no_members
none_apart key = record { apart = tt }

pub member_apart : (key other : List ℕ) (d : Data) (rest : Members) → bytes_eq key other ≡ false → IsApart key (member other d rest)
member_apart key other d rest h = record { apart = h }

pub member_if_apart : (key other : List ℕ) (given : Option Data) (rest : Members) → bytes_eq key other ≡ false → IsApart key rest → IsApart key (member_if other given rest)
member_if_apart key other None rest here h = h
member_if_apart key other (Some d) rest here h = record { apart = here }

not_first : (key : List ℕ) (d : Data) (ms rest : Members) → StartsApart key rest → member key d ms ≡ rest → ⊥
not_first key d ms no_members h e = cc
not_first key d ms (member other f rest) h e =
    let same : key ≡ other = cc in
    let yes : bytes_eq key other ≡ true = (bytes_eq-Decides key other).1 same in
    cc

-- a member that may be left out, and what follows it: both are told where its name doesn't follow
pub member_if_tells : (key : List ℕ) (one other : Option Data) (rest more : Members) → IsApart key rest → IsApart key more → member_if key one rest ≡ member_if key other more → (one ≡ other) × (rest ≡ more)
member_if_tells key None None rest more h k e = (refl, e)
member_if_tells key None (Some f) rest more h k e = absurd (not_first key f more rest h.apart (sym e))
member_if_tells key (Some d) None rest more h k e = absurd (not_first key d rest more k.apart e)
member_if_tells key (Some d) (Some f) rest more h k e = (cc, cc)

-- what follows the same member, left out or not
pub rest_tells : (key : List ℕ) (given : Option Data) (rest more : Members) → member_if key given rest ≡ member_if key given more → rest ≡ more
rest_tells key None rest more e = e
rest_tells key (Some d) rest more e = cc

-- members in order tell their pairs
pub pairs_tell : (pairs others : List Pair) → members_in_order pairs ≡ members_in_order others → pairs ≡ others
pairs_tell [] [] e = refl
pairs_tell [] (q ∷ qs) e = cc
pairs_tell (p ∷ ps) [] e = cc
pairs_tell (p ∷ ps) (q ∷ qs) e =
    let pair : List ℕ → Data → Pair = λ key d. (key, d) in
    let key : p.0 ≡ q.0 = cc in
    let value : p.1 ≡ q.1 = cc in
    let first : p ≡ q = ap₂ pair key value in
    let rest = pairs_tell ps qs (cc) in
    cc

pub zip_tells : (keys : List (List ℕ)) (ds es : List Data) → length ds ≡ length keys → length es ≡ length keys → zip keys ds ≡ zip keys es → ds ≡ es
zip_tells [] [] [] h k e = refl
zip_tells [] [] (f ∷ es) h k e = absurd (omega arith)
zip_tells [] (d ∷ ds) es h k e = absurd (omega arith)
zip_tells (key ∷ keys) [] es h k e = absurd (omega arith)
zip_tells (key ∷ keys) (d ∷ ds) [] h k e = absurd (omega arith)
zip_tells (key ∷ keys) (d ∷ ds) (f ∷ es) h k e =
    let pair : Pair = (key, d) in
    let other : Pair = (key, f) in
    let same : pair ≡ other = cc in
    let first : d ≡ f = ap (λ (p : Pair). p.1) same in
    let rest = zip_tells keys ds es (omega arith) (omega arith) (cc) in
    cc
