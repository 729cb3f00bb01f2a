-- The cells of a frame, written piece by piece: the text, the writer and the tiles that were read.
use Rattle.std.proofs.Common.{◌≡◌, ℕ, ◌+◌, ◌<◌, ◌≤◌, List, [], ◌++◌, length, All, Option, ℤ, refl, ap, sym, ◌∙◌, subst, arith, append_assoc, append-nil, length-append, add-zero, add_assoc}
use Rattle.std.specs.Prelude.{Result, IsErr, min}
use Rattle.std.specs.Io.KnownBytes.{append_known}
use Rattle.std.specs.Prelude.{map, option_to_list}
use Rattle.std.proofs.lemmas.Grind.{flat_map-append}
use Rattle.std.proofs.lemmas.List.{length-map, map-append}
use Rattle.std.proofs.lemmas.List.Elements.{All-from_get_or, All-get_or}
use Rattle.edr_base.specs.Calls.{Front, Writes}
use Rattle.covjson_write.specs.Pieces.{values_from}
use Rattle.covjson_write.specs.Writers.{WriterValue, with_values}
use Rattle.covjson_write.specs.PieceLaws.{values_on}
use Rattle.edr_chunk.specs.declared.shapes.GridShape.{GridShape}
use Rattle.edr_chunk.specs.Tiles.{tiles, tile_of}
use Rattle.edr_edition.specs.Stores.{Subject}
use Rattle.edr_select.specs.declared.plans.GridNode.{GridNode}
use Rattle.edr_select.specs.Samples.{ascending_once}
use Rattle.edr_select.specs.Listings.{place_at, tiles_of_range}
use Rattle.edr_send.specs.Filling.{grid_of, Added, Adds}
use Rattle.edr_select.specs.Framings.{taken, cell_value}
use Rattle.edr_send.specs.Gathered.{AllBut}
use Rattle.edr_send.proofs.Additions.{adds_fault, adds_all, added_on}
use Rattle.edr_send.proofs.Ascending.{once_append, once_none}
use Rattle.edr_send.proofs.Parted.{first_of}
use Rattle.edr_send.proofs.RunSteps.{with_none, with_more}
use Rattle.edr_send.proofs.TextSteps.{all_but_same, all_but_on, all_but_front, all_but_all, all_but_none}

abbrev pub Cells : Type 0
Cells = List (Option GridNode)

abbrev pub tiles_in : GridShape → ℕ → Cells → List ℕ
tiles_in shape p cells = tiles_of_range shape (taken cells) p

abbrev pub once_in : GridShape → ℕ → Cells → List ℕ
once_in shape p cells = ascending_once (tiles shape) (tiles_in shape p cells)

abbrev pub text_from : ℕ → Subject → ℕ → Cells → List ℕ
text_from n subject p cells = values_from n (map (cell_value (grid_of subject.held) p) cells)

-- the tiles of some cells are tiles of the grid, and stand below those of others
pub record Apart (shape : GridShape) (p : ℕ) (xs ys : Cells) : Type 0 where
  pub bound : ℕ
  pub inside : All (λ k. k < tiles shape) (tiles_in shape p xs)
  pub below : All (λ k. k < bound) (tiles_in shape p xs)
  pub behind : All (λ k. bound ≤ k) (tiles_in shape p ys)

tiles-append : (shape : GridShape) (p : ℕ) (xs ys : Cells) → tiles_in shape p (xs ++ ys) ≡ tiles_in shape p xs ++ tiles_in shape p ys
tiles-append shape p xs ys =
    ap (λ (l : List GridNode). tiles_of_range shape l p) (flat_map-append option_to_list xs ys) ∙ map-append (λ (cell : GridNode). tile_of shape (place_at p cell)) (taken xs) (taken ys)

all_least : (a b : ℕ) (xs : List ℕ) → All (λ k. k < a) xs → All (λ k. k < b) xs → All (λ k. k < min b a) xs
all_least a b xs f g = All-from_get_or (λ k. k < min b a) xs 0 (λ i l. let one = All-get_or (λ k. k < a) xs i 0 l f in let other = All-get_or (λ k. k < b) xs i 0 l g in omega (arith, one, other))

all_from_least : (a b : ℕ) (xs : List ℕ) → All (λ k. b ≤ k) xs → All (λ k. min b a ≤ k) xs
all_from_least a b xs f = All-from_get_or (λ k. min b a ≤ k) xs 0 (λ i l. let one = All-get_or (λ k. b ≤ k) xs i 0 l f in omega (arith, one))

-- so theirs come first
once_apart : (shape : GridShape) (p : ℕ) (xs ys : Cells) → Apart shape p xs ys → once_in shape p (xs ++ ys) ≡ once_in shape p xs ++ once_in shape p ys
once_apart shape p xs ys a =
    ap (ascending_once (tiles shape)) (tiles-append shape p xs ys)
    ∙ once_append (tiles shape) (min a.bound (tiles shape)) (tiles_in shape p xs) (tiles_in shape p ys) (omega arith) (all_least (tiles shape) a.bound (tiles_in shape p xs) a.inside a.below)
    (all_from_least (tiles shape) a.bound (tiles_in shape p ys) a.behind)

-- of the others the first
apart_first : (shape : GridShape) (p : ℕ) (xs ys piece later : Cells) → ys ≡ piece ++ later → Apart shape p xs ys → Apart shape p xs piece
apart_first shape p xs ys piece later e a = record {
  bound = a.bound;
  inside = a.inside;
  below = a.below;
  behind = first_of (λ k. a.bound ≤ k) (tiles_in shape p piece) (tiles_in shape p later) (subst (λ (l : List ℕ). All (λ k. a.bound ≤ k) l) (ap (tiles_in shape p) e ∙ tiles-append shape p piece later) a.behind);
}

-- ---- how far cells are written

pub record Sent (shape : GridShape) (subject : Subject) (p : ℕ) (whole done rest : Cells) (w v : WriterValue) (a b : Option (List ℕ)) (old new : List ℕ) : Type 0 where
  pub parts : whole ≡ done ++ rest
  pub writer : v ≡ with_values w (length done)
  pub text : AllBut (text_from (w.values + length done) subject p rest) (text_from w.values subject p whole) a b
  pub reads : new ≡ old ++ once_in shape p done

module _ (shape : GridShape) (subject : Subject) (p : ℕ) (whole : Cells) (w : WriterValue) (a : Option (List ℕ)) (old : List ℕ) where
  -- nothing yet
  pub sent_none : (done rest : Cells) → done ≡ [] → rest ≡ whole → Sent shape subject p whole done rest w w a a old old
  sent_none done rest none all =
      subst (λ (d : Cells). Sent shape subject p whole d rest w w a a old old) (sym none)
      (subst (λ (r : Cells). Sent shape subject p whole [] r w w a a old old) (sym all)
      (record {
        parts = refl;
        writer = with_none w;
        text = all_but_same (text_from w.values subject p whole) (text_from (w.values + 0) subject p whole) (text_from w.values subject p whole) a a (ap (λ (n : ℕ). text_from n subject p whole) (sym (add-zero w.values)))
            (all_but_all (text_from w.values subject p whole) a);
        reads = sym (ap (λ (l : List ℕ). old ++ l) (once_none (tiles shape)) ∙ append-nil old);
      }))

  count_is : (v : WriterValue) (done : Cells) → v ≡ with_values w (length done) → v.values ≡ w.values + length done
  count_is v done e = ap (λ (u : WriterValue). u.values) e

  -- there is room for a piece of the rest
  pub sent_room : (done rest piece later : Cells) (v : WriterValue) (b : Option (List ℕ)) (new : List ℕ) → Sent shape subject p whole done rest w v a b old new → rest ≡ piece ++ later
      → w.values + length whole ≤ w.head.count → v.values + length piece ≤ v.head.count
  sent_room done rest piece later v b new s e room =
      let head : v.head.count ≡ w.head.count = ap (λ (u : WriterValue). u.head.count) s.writer in
      let long : length whole ≡ length done + (length piece + length later) = ap length s.parts ∙ length-append done rest ∙ ap (λ (r : Cells). length done + length r) e ∙ ap (λ (n : ℕ). length done + n) (length-append piece later) in
      omega (arith, head, long, count_is v done s.writer, room)

  text_next : (n m : ℕ) (rest piece later : Cells) → rest ≡ piece ++ later → m ≡ n + length piece → text_from n subject p rest ≡ text_from n subject p piece ++ text_from m subject p later
  text_next n m rest piece later e f =
      let f_of : Option GridNode → Option ℤ = cell_value (grid_of subject.held) p in
      ap (text_from n subject p) e ∙ ap (values_from n) (map-append f_of piece later) ∙ values_on n (map f_of piece) (map f_of later)
      ∙ ap (λ (k : ℕ). text_from n subject p piece ++ values_from k (map f_of later)) (ap (λ (k : ℕ). n + k) (length-map piece f_of) ∙ sym f)

  whole_next : (done next rest piece later : Cells) → whole ≡ done ++ rest → rest ≡ piece ++ later → next ≡ done ++ piece → whole ≡ next ++ later
  whole_next done next rest piece later e f g = e ∙ ap (λ (l : Cells). done ++ l) f ∙ sym (append_assoc done piece later) ∙ ap (λ (l : Cells). l ++ later) (sym g)

  -- a piece more
  pub sent_more : (done next rest piece later : Cells) (v u : WriterValue) (b c : Option (List ℕ)) (new last : List ℕ) (s : Subject) → Sent shape subject p whole done rest w v a b old new
      → rest ≡ piece ++ later → next ≡ done ++ piece → Apart shape p done rest → s ≡ subject
      → c ≡ append_known b (text_from v.values s p piece) → u ≡ with_values v (length piece) → last ≡ new ++ once_in shape p piece
      → Sent shape subject p whole next later w u a c old last
  sent_more done next rest piece later v u b c new last s f e g apart same wrote stands read =
      let n : ℕ = w.values + length done in
      let long : length next ≡ length done + length piece = ap length g ∙ length-append done piece in
      let m_is : w.values + length next ≡ n + length piece = ap (λ (k : ℕ). w.values + k) long ∙ sym (add_assoc w.values (length done) (length piece)) in
      record {
        parts = whole_next done next rest piece later f.parts e g;
        writer = stands ∙ with_more v w (length done) (length piece) f.writer ∙ ap (λ (k : ℕ). with_values w k) (sym long);
        text = all_but_on (text_from n subject p piece) (text_from (w.values + length next) subject p later) (text_from w.values subject p whole) a b c
            (all_but_same (text_from n subject p rest) (text_from n subject p piece ++ text_from (w.values + length next) subject p later) (text_from w.values subject p whole) a b
            (text_next n (w.values + length next) rest piece later e m_is) f.text)
            (wrote ∙ ap (λ (t : Subject). append_known b (text_from v.values t p piece)) same ∙ ap (λ (k : ℕ). append_known b (text_from k subject p piece)) (count_is v done f.writer));
        reads = added_on (once_in shape p done) (once_in shape p piece) (once_in shape p next) old new last f.reads read
            (ap (once_in shape p) g ∙ once_apart shape p done piece (apart_first shape p done rest piece later e apart));
      }

  -- a piece in part
  pub sent_front : (done rest piece later : Cells) (v : WriterValue) (b c : Option (List ℕ)) (new : List ℕ) (s : Subject) → Sent shape subject p whole done rest w v a b old new
      → rest ≡ piece ++ later → s ≡ subject → Front (text_from v.values s p piece) b c → Front (text_from w.values subject p whole) a c
  sent_front done rest piece later v b c new s f e same front =
      let n : ℕ = w.values + length done in
      all_but_front (text_from n subject p piece) (text_from (n + length piece) subject p later) (text_from w.values subject p whole) a b c
      (all_but_same (text_from n subject p rest) (text_from n subject p piece ++ text_from (n + length piece) subject p later) (text_from w.values subject p whole) a b
      (text_next n (n + length piece) rest piece later e refl) f.text)
      (subst (λ (k : ℕ). Front (text_from k subject p piece) b c) (count_is v done f.writer) (subst (λ (t : Subject). Front (text_from v.values t p piece) b c) same front))

  pub sent_begun : {T E : Type 0} (r : Result T E) (done next rest piece later : Cells) (v : WriterValue) (b : Option (List ℕ)) (new last : List ℕ) → IsErr r → Sent shape subject p whole done rest w v a b old new
      → rest ≡ piece ++ later → next ≡ done ++ piece → Apart shape p done rest → Apart shape p next later → Added (once_in shape p piece) new last
      → Adds r (once_in shape p whole) old last
  sent_begun r done next rest piece later v b new last is f e g apart behind added =
      adds_fault r (once_in shape p done) (once_in shape p piece) (once_in shape p later) (once_in shape p whole) old new last is f.reads
      (ap (once_in shape p) (whole_next done next rest piece later f.parts e g) ∙ once_apart shape p next later behind
      ∙ ap (λ (l : List ℕ). l ++ once_in shape p later) (ap (once_in shape p) g ∙ once_apart shape p done piece (apart_first shape p done rest piece later e apart)))
      added

  -- all
  whole_is : (done rest : Cells) → whole ≡ done ++ rest → rest ≡ [] → done ≡ whole
  whole_is done rest e none = sym (append-nil done) ∙ ap (λ (l : Cells). done ++ l) (sym none) ∙ sym e

  pub sent_text : {T E : Type 0} (r : Result T E) (done rest : Cells) (v : WriterValue) (b : Option (List ℕ)) (new : List ℕ) → Sent shape subject p whole done rest w v a b old new → rest ≡ []
      → Writes r (text_from w.values subject p whole) a b
  sent_text r done rest v b new f none =
      all_but_none r (text_from w.values subject p whole) a b
      (all_but_same (text_from (w.values + length done) subject p rest) [] (text_from w.values subject p whole) a b (ap (text_from (w.values + length done) subject p) none) f.text)

  pub sent_writer : (done rest : Cells) (v : WriterValue) (b : Option (List ℕ)) (new : List ℕ) → Sent shape subject p whole done rest w v a b old new → rest ≡ [] → v ≡ with_values w (length whole)
  sent_writer done rest v b new f none = f.writer ∙ ap (λ (l : Cells). with_values w (length l)) (whole_is done rest f.parts none)

  pub sent_reads : {T E : Type 0} (r : Result T E) (done rest : Cells) (v : WriterValue) (b : Option (List ℕ)) (new : List ℕ) → Sent shape subject p whole done rest w v a b old new → rest ≡ []
      → Adds r (once_in shape p whole) old new
  sent_reads r done rest v b new f none = adds_all r (once_in shape p done) (once_in shape p whole) old new (ap (once_in shape p) (whole_is done rest f.parts none)) f.reads
