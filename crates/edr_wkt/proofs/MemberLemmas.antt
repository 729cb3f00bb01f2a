-- Members of a list of positions, rings and polygons: there is one at the front of a text, and it is no longer than the text.
use Rattle.std.proofs.Common.{◌≡◌, ℕ, subst, ◌<◌, ◌≤◌, Bool, true, false, List, [], ◌∷◌, ◌++◌, length, refl, sym, ap, arith, ℤ, inl, inr}
use Rattle.std.proofs.Common.{Option, None, Some, MatchOption}
use Rattle.std.proofs.lemmas.List.{length-append}
use Rattle.std.proofs.lemmas.Bool.{false≢true}
use Rattle.edr_base.specs.declared.places.Position.{Position}
use Rattle.edr_base.specs.NumberParts.{NonePass}
use Rattle.edr_base.specs.SplitLaws.{IsSplit-unique}
use Rattle.edr_base.specs.NumberLaws.{numeral-none_pass, numeral-some}
use Rattle.edr_wkt.specs.declared.geometry.Polygon.{Polygon}
use Rattle.edr_wkt.specs.Grammar.{is_end, IsMark, IsNumber, IsNumberIf, IsPosition, AreItems, IsMember, IsRing, IsPolygon}
use Rattle.edr_wkt.specs.Reads.{not_blank, HasNoNumber, HasNoPosition, HasNoClosed, HasNoMember}
use Rattle.edr_wkt.proofs.WordLemmas.{mark-split, mark-unique, number-split, outside_end}
use Rattle.edr_wkt.proofs.PositionLemmas.{position-unique}
use Rattle.edr_wkt.proofs.ListLemmas.{IsUnique, IsShorter, list-unique, list-shorter}

no-bracket : (word rest : List ℕ) (x : List ℕ) → 0 < length word → NonePass is_end word → word ++ rest ≡ 40 ∷ x → ⊥
no-bracket [] rest x h none e = omega (arith, h)
no-bracket (c ∷ word) rest x h none e = let c_is : c ≡ 40 = cc in let P : ℕ → Type 0 = λ w. is_end w ≡ false in false≢true (sym (subst P c_is none.0))

-- no number begins with a bracket
pub number-bracket : (text inside : List ℕ) → IsMark 40 text inside → HasNoNumber text
number-bracket text inside mark v r n =
    let cut = number-split text v r n in
    let e = (IsSplit-unique not_blank text _ _ _ _ cut.0 (mark-split 40 text inside refl mark)).1 in
    no-bracket n.numeral r inside (numeral-some n.numeral v n.is_numeral) (numeral-none_pass is_end n.numeral v outside_end n.is_numeral) e

pub position-bracket : (z m : Bool) (text inside : List ℕ) → IsMark 40 text inside → HasNoPosition z m text
position-bracket z m text inside mark p r a = number-bracket text inside mark p.x a.after_x a.x

pub unique_position : (z m : Bool) → IsUnique (IsPosition z m)
unique_position z m = record { one = λ text x y r s a b. position-unique z m text x y r s a b }

heads : (p q : Position) → p ∷ [] ≡ q ∷ [] → p ≡ q
heads p q e = cc

member-unique : (multi z m : Bool) (text : List ℕ) (x y : Position) (r s : List ℕ) → IsMember multi z m text x r → IsMember multi z m text y s → (x ≡ y) × (r ≡ s)
member-unique false z m text x y r s a b = position-unique z m text x y r s a b
member-unique true z m text x y r s (inl a) (inl b) = position-unique z m text x y r s a b
member-unique true z m text x y r s (inl a) (inr b) = absurd (position-bracket z m text b.0 b.1 x r a)
member-unique true z m text x y r s (inr a) (inl b) = absurd (position-bracket z m text a.0 a.1 y s b)
member-unique true z m text x y r s (inr a) (inr b) =
    let same = list-unique (IsPosition z m) (unique_position z m) text (x ∷ []) (y ∷ []) r s a b in
    (heads x y same.0, same.1)

pub unique_member : (multi z m : Bool) → IsUnique (IsMember multi z m)
unique_member multi z m = record { one = λ text x y r s a b. member-unique multi z m text x y r s a b }

pub unique_ring : (z m : Bool) → IsUnique (IsRing z m)
unique_ring z m = record { one = λ text x y r s a b. list-unique (IsPosition z m) (unique_position z m) text x y r s a.0 b.0 }

polygon-same : (p q : Polygon) → p.rings ≡ q.rings → p ≡ q
polygon-same p q e = let f : (List (List Position)) → Polygon = λ l. record { rings = l } in ap f e

pub unique_polygon : (z m : Bool) → IsUnique (IsPolygon z m)
unique_polygon z m = record { one = λ text x y r s a b. let same = list-unique (IsRing z m) (unique_ring z m) text x.rings y.rings r s a b in (polygon-same x y same.0, same.1) }

number-shorter : (text : List ℕ) (v : ℤ) (rest : List ℕ) → IsNumber text v rest → length rest ≤ length text
number-shorter text v rest n = omega (arith, ap length n.text_is, length-append n.blanks (n.numeral ++ rest), length-append n.numeral rest)

number_if-shorter : (has : Bool) (text : List ℕ) (v : ℤ) (rest : List ℕ) → IsNumberIf has text v rest → length rest ≤ length text
number_if-shorter true text v rest n = number-shorter text v rest n
number_if-shorter false text v rest n = omega (arith, ap length n.1)

pub shorter_position : (z m : Bool) → IsShorter (IsPosition z m)
shorter_position z m = record
    { le = λ text p rest a. omega (arith, number-shorter text p.x a.after_x a.x, number-shorter a.after_x p.y a.after_y a.y, number_if-shorter z a.after_y p.z a.after_z a.z, number_if-shorter m a.after_z p.m rest a.m) }

member-shorter : (multi z m : Bool) (text : List ℕ) (p : Position) (rest : List ℕ) → IsMember multi z m text p rest → length rest ≤ length text
member-shorter false z m text p rest a = (shorter_position z m).le text p rest a
member-shorter true z m text p rest (inl a) = (shorter_position z m).le text p rest a
member-shorter true z m text p rest (inr a) = list-shorter (IsPosition z m) (shorter_position z m) text (p ∷ []) rest a

pub shorter_member : (multi z m : Bool) → IsShorter (IsMember multi z m)
shorter_member multi z m = record { le = λ text p rest a. member-shorter multi z m text p rest a }

pub shorter_ring : (z m : Bool) → IsShorter (IsRing z m)
shorter_ring z m = record { le = λ text ps rest a. list-shorter (IsPosition z m) (shorter_position z m) text ps rest a.0 }

pub shorter_polygon : (z m : Bool) → IsShorter (IsPolygon z m)
shorter_polygon z m = record { le = λ text p rest a. list-shorter (IsRing z m) (shorter_ring z m) text p.rings rest a }

-- a position and then its closing bracket
pub closed-none : (z m : Bool) (text : List ℕ) → HasNoPosition z m text → HasNoClosed z m text
closed-none z m text none p rest h = none p h.0 h.1

pub closed-no_mark : (z m : Bool) (text after : List ℕ) (p : Position) → IsPosition z m text p after → ((r : List ℕ) → ¬ (IsMark 41 after r)) → HasNoClosed z m text
closed-no_mark z m text after p is none q rest h =
    let P : List ℕ → Type 0 = λ l. IsMark 41 l rest in
    none rest (subst P (position-unique z m text q p h.0 after h.1 is).1 h.2)

pub member-open_none : (z m : Bool) (text inside : List ℕ) → IsMark 40 text inside → HasNoClosed z m inside → HasNoMember true z m text
member-open_none z m text inside mark none p rest (inl a) = position-bracket z m text inside mark p rest a
member-open_none z m text inside mark none p rest (inr a) =
    let P : List ℕ → Type 0 = λ l. AreItems (IsPosition z m) l (p ∷ []) rest in
    none p rest (subst P (mark-unique 40 40 text a.0 inside refl refl a.1 mark).1 a.2)

pub member-bare_none : (z m : Bool) (text : List ℕ) → ((r : List ℕ) → ¬ (IsMark 40 text r)) → HasNoPosition z m text → HasNoMember true z m text
member-bare_none z m text mark none p rest (inl a) = none p rest a
member-bare_none z m text mark none p rest (inr a) = mark a.0 a.1

pub match-map : {X : Type 0} (o : Option X) (P P' : Type 0) (Q Q' : X → Type 0) → (P → P') → ((x : X) → Q x → Q' x) → MatchOption o P Q → MatchOption o P' Q'
match-map None P P' Q Q' f g h = f h
match-map (Some x) P P' Q Q' f g h = g x h
