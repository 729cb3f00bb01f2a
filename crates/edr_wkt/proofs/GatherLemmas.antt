-- What a loop over the items of a list has gathered.
use Rattle.std.proofs.Common.{◌≡◌, ℕ, subst, ◌+◌, ◌<◌, ◌≤◌, min, Bool, false, List, [], ◌∷◌, ◌++◌, length, map, refl, sym, ap, ap₂, ◌∙◌, arith}
use Rattle.std.proofs.Common.{Result, Ok, Err}
use Rattle.std.specs.List.{sum_by}
use Rattle.std.specs.Prelude.{IsErr}
use Rattle.std.specs.Result.{IsErrAnd}
use Rattle.std.proofs.lemmas.Result.{err_from_is_err_and}
use Rattle.std.proofs.lemmas.List.{length_push, map_push}
use Rattle.std.proofs.lemmas.List.Sums.{sum_by_push}
use Rattle.edr_base.specs.declared.places.Position.{Position}
use Rattle.edr_wkt.specs.declared.geometry.Polygon.{Polygon}
use Rattle.edr_wkt.specs.Geometries.{polygon_size}
use Rattle.edr_wkt.specs.Kept.{kept, kept_polygon, counted}
use Rattle.edr_base.specs.Names.{is_blank}
use Rattle.edr_wkt.specs.Grammar.{IsMark, IsMember, AreItems, IsList, IsPosition, IsRing, IsPolygon}
use Rattle.edr_wkt.specs.Reads.{ArePositions, HasNoMark, HasNoItem, HasNoItems, IsRead, AreRead}
use Rattle.edr_wkt.proofs.WordLemmas.{mark-unique}
use Rattle.edr_wkt.proofs.ListLemmas.{IsUnique, Continues, continues-start, continues-step, continues-end, list-unique}
use Rattle.edr_wkt.proofs.MemberLemmas.{unique_member, unique_position}

-- the positions of a list so far
pub record Gathers (multi has_z has_m : Bool) (text : List ℕ) (before after : ℕ) (read : List Position) (len : ℕ) (rest : List ℕ) : Type 0 where
  pub positions : List Position
  pub continues : Continues (IsMember multi has_z has_m) text positions rest
  pub len_is : len ≡ min (length positions) 4
  pub after_is : after ≡ counted before (length positions)
  pub read_is : after ≤ 10000 → read ≡ map kept positions

pub gathers-start : (multi z m : Bool) (text : List ℕ) (before : ℕ) → before ≤ 10001 → Gathers multi z m text before before [] 0 text
gathers-start multi z m text before h = record { positions = []; continues = continues-start (IsMember multi z m) text; len_is = refl; after_is = omega (arith, h); read_is = λ _. refl }

counted-more : (before n : ℕ) → counted (counted before n) 1 ≡ counted before (n + 1)
counted-more before n = omega arith

-- one position more
pub record Grown (multi has_z has_m : Bool) (text : List ℕ) (before after : ℕ) (read : List Position) (len : ℕ) (rest behind : List ℕ) : Type 0 where
  pub positions : List Position
  pub position : Position
  pub continues : Continues (IsMember multi has_z has_m) text positions rest
  pub member : IsMember multi has_z has_m rest position behind
  pub len_is : len ≡ min (length positions + 1) 4
  pub after_is : after ≡ counted before (length positions + 1)
  pub read_is : after ≤ 10000 → read ≡ map kept (positions ++ position ∷ [])

pub grown-from : (multi z m : Bool) (text : List ℕ) (before middle after : ℕ) (old new : List Position) (len longer : ℕ) (rest behind : List ℕ) (p q : Position)
    → Gathers multi z m text before middle old len rest → IsMember multi z m rest p behind → q ≡ kept p → after ≡ counted middle 1 → longer ≡ min (len + 1) 4
    → (after ≤ 10000 → new ≡ old ++ q ∷ []) → Grown multi z m text before after new longer rest behind
grown-from multi z m text before middle after old new len longer rest behind p q g member q_is after_is longer_is new_is = record {
  positions = g.positions;
  position = p;
  continues = g.continues;
  member = member;
  len_is = omega (arith, longer_is, g.len_is);
  after_is = omega (arith, after_is, g.after_is);
  read_is = λ h. new_is h ∙ ap₂ (λ a b. a ++ b ∷ []) (g.read_is (omega (arith, after_is, h))) q_is ∙ sym (map_push kept g.positions p);
}

pub gathers-next : (multi z m : Bool) (text : List ℕ) (before after : ℕ) (read : List Position) (len : ℕ) (rest behind next : List ℕ) → Grown multi z m text before after read len rest behind → IsMark 44 behind next
    → Gathers multi z m text before after read len next
gathers-next multi z m text before after read len rest behind next g mark = record {
  positions = g.positions ++ g.position ∷ [];
  continues = continues-step (IsMember multi z m) text rest behind next g.positions g.position (unique_member multi z m) g.continues g.member mark;
  len_is = omega (arith, g.len_is, length_push g.positions g.position);
  after_is = omega (arith, g.after_is, length_push g.positions g.position);
  read_is = g.read_is;
}

pub gathers-end : (multi z m : Bool) (text : List ℕ) (before after : ℕ) (read : List Position) (len : ℕ) (rest behind end : List ℕ) → Grown multi z m text before after read len rest behind → IsMark 41 behind end
    → ArePositions multi z m text before after read len end
gathers-end multi z m text before after read len rest behind end g mark = record {
  positions = g.positions ++ g.position ∷ [];
  are_items = continues-end (IsMember multi z m) text rest behind end g.positions g.position g.continues g.member mark;
  len_is = omega (arith, g.len_is, length_push g.positions g.position);
  after_is = omega (arith, g.after_is, length_push g.positions g.position);
  read_is = g.read_is;
}

-- the items of a list so far
pub record Collects {A B : Type 0} (Item : List ℕ → A → List ℕ → Type 0) (size : A → ℕ) (keep : A → B) (text : List ℕ) (before after : ℕ) (read : List B) (rest : List ℕ) : Type 0 where
  pub items : List A
  pub continues : Continues Item text items rest
  pub after_is : after ≡ counted before (sum_by size items)
  pub read_is : after ≤ 10000 → read ≡ map keep items

pub collects-start : {A B : Type 0} (Item : List ℕ → A → List ℕ → Type 0) (size : A → ℕ) (keep : A → B) (text : List ℕ) (before : ℕ) → before ≤ 10001 → Collects Item size keep text before before [] text
collects-start Item size keep text before h = record { items = []; continues = continues-start Item text; after_is = omega (arith, h); read_is = λ _. refl }

-- one item more
pub record Added {A B : Type 0} (Item : List ℕ → A → List ℕ → Type 0) (size : A → ℕ) (keep : A → B) (text : List ℕ) (before after : ℕ) (read : List B) (rest behind : List ℕ) : Type 0 where
  pub items : List A
  pub item : A
  pub continues : Continues Item text items rest
  pub is_item : Item rest item behind
  pub after_is : after ≡ counted before (sum_by size (items ++ item ∷ []))
  pub read_is : after ≤ 10000 → read ≡ map keep (items ++ item ∷ [])

pub added-from : {A B : Type 0} (Item : List ℕ → A → List ℕ → Type 0) (size : A → ℕ) (keep : A → B) (text : List ℕ) (before middle after : ℕ) (old new : List B) (rest behind : List ℕ) (q : B)
    → Collects Item size keep text before middle old rest → IsRead Item size keep rest middle after q behind → (after ≤ 10000 → new ≡ old ++ q ∷ []) → Added Item size keep text before after new rest behind
added-from Item size keep text before middle after old new rest behind q c r new_is = record {
  items = c.items;
  item = r.item;
  continues = c.continues;
  is_item = r.is_item;
  after_is = omega (arith, r.after_is, c.after_is, sum_by_push size c.items r.item);
  read_is = λ h. new_is h ∙ ap₂ (λ a b. a ++ b ∷ []) (c.read_is (omega (arith, r.after_is, h))) (r.read_is h) ∙ sym (map_push keep c.items r.item);
}

pub collects-next : {A B : Type 0} (Item : List ℕ → A → List ℕ → Type 0) (size : A → ℕ) (keep : A → B) (text : List ℕ) (before after : ℕ) (read : List B) (rest behind next : List ℕ)
    → IsUnique Item → Added Item size keep text before after read rest behind → IsMark 44 behind next → Collects Item size keep text before after read next
collects-next Item size keep text before after read rest behind next u a mark = record
    { items = a.items ++ a.item ∷ []; continues = continues-step Item text rest behind next a.items a.item u a.continues a.is_item mark; after_is = a.after_is; read_is = a.read_is }

pub collects-end : {A B : Type 0} (Item : List ℕ → A → List ℕ → Type 0) (size : A → ℕ) (keep : A → B) (text : List ℕ) (before after : ℕ) (read : List B) (rest behind end : List ℕ)
    → Added Item size keep text before after read rest behind → IsMark 41 behind end → AreRead Item size keep text before after read end
collects-end Item size keep text before after read rest behind end a mark = record
    { items = a.items ++ a.item ∷ []; are_items = continues-end Item text rest behind end a.items a.item a.continues a.is_item mark; after_is = a.after_is; read_is = a.read_is }

-- with no mark behind it, or another one, a text has neither a comma nor a closing bracket there
pub none-mark : (text : List ℕ) (mark : ℕ) → HasNoMark text → is_blank mark ≡ false → (r : List ℕ) → ¬ (IsMark mark text r)
none-mark text mark none e r m = none mark r e m

pub other-mark : (text rest : List ℕ) (a b : ℕ) → is_blank a ≡ false → IsMark a text rest → (a ≡ b → ⊥) → is_blank b ≡ false → (r : List ℕ) → ¬ (IsMark b text r)
other-mark text rest a b e m apart f r n = apart (mark-unique a b text rest r e f m n).0

pub list-none_open : {A : Type 0} (Item : List ℕ → A → List ℕ → Type 0) (text : List ℕ) → ((r : List ℕ) → ¬ (IsMark 40 text r)) → (xs : List A) (rest : List ℕ) → ¬ (IsList Item text xs rest)
list-none_open Item text none xs rest h = none h.0 h.1

pub list-none : {A : Type 0} (Item : List ℕ → A → List ℕ → Type 0) (text inside : List ℕ) → IsMark 40 text inside → HasNoItems Item inside → (xs : List A) (rest : List ℕ) → ¬ (IsList Item text xs rest)
list-none Item text inside mark none xs rest h =
    let P : List ℕ → Type 0 = λ l. AreItems Item l xs rest in
    none xs rest (subst P (mark-unique 40 40 text h.0 inside refl refl h.1 mark).1 h.2)

pub ring-short : (z m : Bool) (text inside : List ℕ) (before after : ℕ) (read : List Position) (len : ℕ) (rest : List ℕ) → IsMark 40 text inside → ArePositions false z m inside before after read len rest → len < 4
    → HasNoItem (IsRing z m) text
ring-short z m text inside before after read len rest mark a short ps end h =
    let list : IsList (IsPosition z m) text a.positions rest = (inside, mark, a.are_items) in
    let same : ps ≡ a.positions = (list-unique (IsPosition z m) (unique_position z m) text ps a.positions end rest h.0 list).0 in
    omega (arith, h.1, ap length same, a.len_is)

pub ring-read : (z m : Bool) (text inside : List ℕ) (before after : ℕ) (read : List Position) (len : ℕ) (rest : List ℕ) → IsMark 40 text inside → ArePositions false z m inside before after read len rest → 4 ≤ len
    → IsRead (IsRing z m) length (map kept) text before after read rest
ring-read z m text inside before after read len rest mark a enough =
    record { item = a.positions; is_item = ((inside, mark, a.are_items), omega (arith, a.len_is)); after_is = a.after_is; read_is = a.read_is }

pub polygon-read : (z m : Bool) (text inside : List ℕ) (before after : ℕ) (read : List (List Position)) (rest : List ℕ) → IsMark 40 text inside → AreRead (IsRing z m) length (map kept) inside before after read rest
    → IsRead (IsPolygon z m) polygon_size kept_polygon text before after (record { rings = read }) rest
polygon-read z m text inside before after read rest mark a =
    let f : List (List Position) → Polygon = λ l. record { rings = l } in
    record { item = record { rings = a.items }; is_item = (inside, mark, a.are_items); after_is = a.after_is; read_is = λ h. ap f (a.read_is h) }

abbrev error : (T : Type 0) {E : Type 0} → E → Result T E
error T e = Err e

same-error : {T E : Type 0} (a b : E) → error T a ≡ error T b → a ≡ b
same-error a b e = cc

pub error-same : {T E : Type 0} {a b : E} → a ≡ b → error T a ≡ error T b
error-same {T} e = ap (error T) e

-- an error that is passed on is the one that came
pub passed_on : {T E : Type 0} (r : Result T E) (e : E) → IsErr r × IsErrAnd r (λ f. f ≡ e) → r ≡ Err e
passed_on {T} r e h = let p = err_from_is_err_and r h.1 in p.1 ∙ ap (error T) p.2

pub passed_back : {T U E : Type 0} (r : Result T E) (e f : E) → IsErr r × IsErrAnd r (λ g. g ≡ e) → r ≡ Err f → error U e ≡ error U f
passed_back {T} {U} r e f h is = ap (error U) (same-error {T = T} e f (sym (passed_on r e h) ∙ is))

-- an answer is no error
pub no_error : {T E : Type 0} (x : T) (e : E) → ¬ (Ok x ≡ error T e)
no_error x e same = cc
