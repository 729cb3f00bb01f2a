-- Numbers and positions: there is one at the front of a text.
use Rattle.std.proofs.Common.{◌≡◌, ℕ, subst, ◌<◌, ◌≤◌, Bool, true, false, List, refl, sym, ◌∙◌, arith, ℤ, pos, ◌<ℤ◌, ◌≤ℤ◌}
use Rattle.std.specs.Int.RustNames.{unsigned_abs}
use Rattle.std.proofs.lemmas.Bool.Decides.{nat_tests}
use Rattle.std.proofs.lemmas.Int.{ints}
use Rattle.edr_base.specs.declared.places.Position.{Position}
use Rattle.edr_base.specs.NumberLaws.{numeral-unique}
use Rattle.edr_wkt.specs.Kept.{kept_number}
use Rattle.edr_wkt.specs.Grammar.{IsNumber, IsNumberIf, IsPosition}
use Rattle.edr_wkt.specs.Reads.{HasNoNumber, BeginsWithNumber, HasNoNumberIf, BeginsWithNumberIf, HasNoPosition, BeginsWithPosition}
use Rattle.edr_wkt.proofs.WordLemmas.{number-split, number-word}

pub number-unique : (text : List ℕ) (v w : ℤ) (r s : List ℕ) → IsNumber text v r → IsNumber text w s → (v ≡ w) × (r ≡ s)
number-unique text v w r s m n =
    let cut = number-split text v r m in
    let e = number-word text m.blanks _ m.numeral r w s cut.0 cut.1 n in
    (numeral-unique m.numeral v w m.is_numeral e.0, sym e.1)

pub number_if-unique : (has : Bool) (text : List ℕ) (v w : ℤ) (r s : List ℕ) → IsNumberIf has text v r → IsNumberIf has text w s → (v ≡ w) × (r ≡ s)
number_if-unique true text v w r s m n = number-unique text v w r s m n
number_if-unique false text v w r s m n = (m.0 ∙ sym n.0, sym m.1 ∙ n.1)

abbrev at : ℤ → ℤ → ℤ → ℤ → Position
at x y z m = record { x = x; y = y; z = z; m = m }

same-at : (p q : Position) → p.x ≡ q.x → p.y ≡ q.y → p.z ≡ q.z → p.m ≡ q.m → p ≡ q
same-at p q ex ey ez em = let e : at p.x p.y p.z p.m ≡ at q.x q.y q.z q.m = rw (ex, ey, ez, em) refl in e

IsNumber-along : (text text' : List ℕ) (v : ℤ) (r : List ℕ) → text ≡ text' → IsNumber text v r → IsNumber text' v r
IsNumber-along text text' v r e n = let P : List ℕ → Type 0 = λ l. IsNumber l v r in subst P e n

pub IsNumberIf-along : (has : Bool) (text text' : List ℕ) (v : ℤ) (r : List ℕ) → text ≡ text' → IsNumberIf has text v r → IsNumberIf has text' v r
IsNumberIf-along has text text' v r e n = let P : List ℕ → Type 0 = λ l. IsNumberIf has l v r in subst P e n

-- the parts of a position are those that stand at the front
pub position-unique : (z m : Bool) (text : List ℕ) (p q : Position) (r s : List ℕ) → IsPosition z m text p r → IsPosition z m text q s → (p ≡ q) × (r ≡ s)
position-unique z m text p q r s a b =
    let ex = number-unique text p.x q.x a.after_x b.after_x a.x b.x in
    let ey = number-unique b.after_x p.y q.y a.after_y b.after_y (IsNumber-along _ _ _ _ ex.1 a.y) b.y in
    let ez = number_if-unique z b.after_y p.z q.z a.after_z b.after_z (IsNumberIf-along z _ _ _ _ ey.1 a.z) b.z in
    let em = number_if-unique m b.after_z p.m q.m r s (IsNumberIf-along m _ _ _ _ ez.1 a.m) b.m in
    (same-at p q ex.0 ey.0 ez.0 em.0, em.1)

pub no_x : (z m : Bool) (text : List ℕ) → HasNoNumber text → HasNoPosition z m text
no_x z m text none p r a = none p.x a.after_x a.x

pub no_y : (z m : Bool) (text : List ℕ) (x : ℤ) (after_x : List ℕ) → IsNumber text x after_x → HasNoNumber after_x → HasNoPosition z m text
no_y z m text x after_x nx none p r a =
    let ex = number-unique text p.x x a.after_x after_x a.x nx in
    none p.y a.after_y (IsNumber-along _ _ _ _ ex.1 a.y)

pub no_z : (z m : Bool) (text : List ℕ) (x y : ℤ) (after_x after_y : List ℕ) → IsNumber text x after_x → IsNumber after_x y after_y → HasNoNumberIf z after_y → HasNoPosition z m text
no_z z m text x y after_x after_y nx ny none p r a =
    let ex = number-unique text p.x x a.after_x after_x a.x nx in
    let ey = number-unique after_x p.y y a.after_y after_y (IsNumber-along _ _ _ _ ex.1 a.y) ny in
    none p.z a.after_z (IsNumberIf-along z _ _ _ _ ey.1 a.z)

pub no_m : (z m : Bool) (text : List ℕ) (x y w : ℤ) (after_x after_y after_z : List ℕ) → IsNumber text x after_x → IsNumber after_x y after_y → IsNumberIf z after_y w after_z → HasNoNumberIf m after_z → HasNoPosition z m text
no_m z m text x y w after_x after_y after_z nx ny nz none p r a =
    let ex = number-unique text p.x x a.after_x after_x a.x nx in
    let ey = number-unique after_x p.y y a.after_y after_y (IsNumber-along _ _ _ _ ex.1 a.y) ny in
    let ez = number_if-unique z after_y p.z w a.after_z after_z (IsNumberIf-along z _ _ _ _ ey.1 a.z) nz in
    none p.m r (IsNumberIf-along m _ _ _ _ ez.1 a.m)

pub position-from : (has_z has_m : Bool) (text after_x after_y after_z rest : List ℕ) (x y z m : ℤ) → BeginsWithNumber text x after_x → BeginsWithNumber after_x y after_y
    → BeginsWithNumberIf has_z after_y z after_z → BeginsWithNumberIf has_m after_z m rest → BeginsWithPosition has_z has_m text (at x y z m) rest
position-from has_z has_m text after_x after_y after_z rest x y z m nx ny nz nm = (
  at nx.0 ny.0 nz.0 nm.0,
  record { after_x = after_x; after_y = after_y; after_z = after_z; x = nx.1; y = ny.1; z = nz.1; m = nm.1 },
  same-at _ _ nx.2 ny.2 nz.2 nm.2,
)

pub kept_number-inside : (z : ℤ) → pos (unsigned_abs z) ≤ℤ pos 253402300799 → kept_number z ≡ z
kept_number-inside z h = let le : unsigned_abs z ≤ 253402300799 = omega (arith, ints, h) in grind (arith, nat_tests)

pub kept_number-outside : (z : ℤ) → pos 253402300799 <ℤ pos (unsigned_abs z) → kept_number z ≡ pos 253402300800
kept_number-outside z h = let lt : 253402300799 < unsigned_abs z = omega (arith, ints, h) in grind (arith, nat_tests)
