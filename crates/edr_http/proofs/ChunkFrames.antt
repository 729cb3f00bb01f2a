-- The array that a piece is gathered in.
use Rattle.std.proofs.Common.{◌≡◌, ℕ, zero, suc, ◌+◌, ◌-◌, ◌/◌, ◌%◌, ◌≤◌, ◌<◌, true, false, length, length-append, length-drop, codes, List, [], ◌∷◌, ◌++◌, take, drop, sym, ap, ◌∙◌, refl, arith}
use mathlib.Core.List.{append_assoc}
use Rattle.std.specs.Fmt.{digits, digit_glyph}
use Rattle.std.proofs.lemmas.Fmt.{hex_one_digit, hex_two_digits}
use Rattle.std.proofs.lemmas.List.{take-append-drop, take-append-le, length-take-le, take_all, drop-drop, take-take}
use Rattle.std.proofs.Math.Seq.{take-add, drop-append-add}
use Rattle.std.proofs.lemmas.Bool.Decides.{nat_tests}
use Rattle.std.specs.Prelude.{nat_eq}
use Rattle.edr_http.specs.Chunks.{crlf, chunk, last_chunk, chunked}
use Rattle.edr_http.specs.ChunkLaws.{take_front, drop_front, chunked_one}
use Rattle.edr_http.specs.ChunkedSinkParts.{IsFrame, piece_in}

-- ---- sizes in hexadecimal

pub size_full : digits 16 false 4096 ≡ codes "1000"
unfolding digits
size_full = refl

size_three : (n : ℕ) → 256 ≤ n → n < 4096 → digits 16 false n ≡ digit_glyph false (n / 256) ∷ digit_glyph false (n / 16 % 16) ∷ digit_glyph false (n % 16) ∷ []
unfolding digits
size_three n large small =
    let a : nat_eq (n / 16) 0 ≡ false = let h : 0 < n / 16 = omega arith in grind (arith, nat_tests, h) in
    let b : nat_eq (n / 16 / 16) 0 ≡ false = let h : 0 < n / 16 / 16 = omega arith in grind (arith, nat_tests, h) in
    let c : nat_eq (n / 16 / 16 / 16) 0 ≡ true = let h : n / 16 / 16 / 16 ≡ 0 = omega arith in grind (arith, nat_tests, h) in
    let d : n / 16 / 16 % 16 ≡ n / 256 = omega arith in
    rw (a, b, c, d) refl

-- the digits of a size as they are computed
pub one_digit : (n last : ℕ) → n < 16 → last ≡ digit_glyph false (n % 16) → digits 16 false n ≡ last ∷ []
one_digit n last small l =
    let same : n ≡ n % 16 = omega arith in
    hex_one_digit false n small ∙ (ap (λ i. digit_glyph false i ∷ []) same ∙ ap (λ d. d ∷ []) (sym l))

pub two_digits : (n middle last : ℕ) → 16 ≤ n → n < 256 → middle ≡ digit_glyph false (n / 16 % 16) → last ≡ digit_glyph false (n % 16) → digits 16 false n ≡ middle ∷ last ∷ []
two_digits n middle last large small m l =
    let same : n / 16 ≡ n / 16 % 16 = omega arith in
    hex_two_digits false n large small ∙ (ap (λ i. digit_glyph false i ∷ digit_glyph false (n % 16) ∷ []) same
    ∙ (ap (λ d. d ∷ digit_glyph false (n % 16) ∷ []) (sym m) ∙ ap (λ d. middle ∷ d ∷ []) (sym l)))

pub three_digits : (n first middle last : ℕ) → 256 ≤ n → n < 4096 → first ≡ digit_glyph false (n / 256) → middle ≡ digit_glyph false (n / 16 % 16) → last ≡ digit_glyph false (n % 16)
    → digits 16 false n ≡ first ∷ middle ∷ last ∷ []
three_digits n first middle last large small f m l =
    size_three n large small ∙ (ap (λ d. d ∷ digit_glyph false (n / 16 % 16) ∷ digit_glyph false (n % 16) ∷ []) (sym f)
    ∙ (ap (λ d. first ∷ d ∷ digit_glyph false (n % 16) ∷ []) (sym m) ∙ ap (λ d. first ∷ middle ∷ d ∷ []) (sym l)))

-- ---- a chunk of a full piece

pub chunk_full : (p : List ℕ) → length p ≡ 4096 → chunk p ≡ codes "1000\r\n" ++ (p ++ crlf)
chunk_full p e = ap (λ k. digits 16 false k ++ (crlf ++ (p ++ crlf))) e ∙ ap (λ w. w ++ (crlf ++ (p ++ crlf))) size_full

pub chunk_length : (p : List ℕ) → length p ≡ 4096 → length (chunk p) ≡ 4104
chunk_length p e =
    let l : length (codes "1000\r\n" ++ (p ++ crlf)) ≡ 4104 = omega (arith, length-append (codes "1000\r\n") (p ++ crlf), length-append p crlf, e) in
    ap length (chunk_full p e) ∙ l

-- the array is a full piece's chunk, and the end of a body
pub frame_parts : (frame : List ℕ) → IsFrame frame → frame ≡ codes "1000\r\n" ++ (piece_in frame 4096 ++ codes "\r\n0\r\n\r\n")
frame_parts frame f =
    let rest : drop 6 frame ≡ piece_in frame 4096 ++ codes "\r\n0\r\n\r\n" =
    sym (take-append-drop 4096 (drop 6 frame)) ∙ ap (λ w. piece_in frame 4096 ++ w) (drop-drop 4096 6 frame ∙ f.end) in
    sym (take-append-drop 6 frame) ∙ (ap (λ w. w ++ drop 6 frame) f.size ∙ ap (λ w. codes "1000\r\n" ++ w) rest)

pub piece_length : (frame : List ℕ) (used : ℕ) → length frame ≡ 4109 → used ≤ 4096 → length (piece_in frame used) ≡ used
piece_length frame used l h = length-take-le used (drop 6 frame) (omega (arith, length-drop 6 frame, l, h))

pub frame_whole : (frame : List ℕ) → length frame ≡ 4109 → IsFrame frame → frame ≡ chunked (piece_in frame 4096)
frame_whole frame l f =
    let p : List ℕ = piece_in frame 4096 in
    let lp : length p ≡ 4096 = piece_length frame 4096 l (omega arith) in
    let end : List ℕ = last_chunk ++ crlf in
    frame_parts frame f
    ∙ sym (chunked_one p (omega (arith, lp)) (omega (arith, lp))
    ∙ (ap (λ w. w ++ end) (chunk_full p lp) ∙ (append_assoc (codes "1000\r\n") (p ++ crlf) end ∙ ap (λ w. codes "1000\r\n" ++ w) (append_assoc p crlf end))))

pub frame_chunk : (frame : List ℕ) (used : ℕ) → length frame ≡ 4109 → IsFrame frame → used ≡ 4096 → take 4104 frame ≡ chunk (piece_in frame used)
frame_chunk frame used l f u =
    let p : List ℕ = piece_in frame 4096 in
    let lp : length p ≡ 4096 = piece_length frame 4096 l (omega arith) in
    ap (take 4104) (frame_whole frame l f ∙ chunked_one p (omega (arith, lp)) (omega (arith, lp)))
    ∙ (take_front 4104 (chunk p) (last_chunk ++ crlf) (chunk_length p lp) ∙ ap (λ i. chunk (piece_in frame i)) (sym u))

-- ---- an array that begins

-- two texts put into an array
pub frame_new : (zeros a b : List ℕ) → length a ≡ 4109 → a ≡ codes "1000\r\n" ++ zeros → b ≡ take 4102 a ++ (codes "\r\n0\r\n\r\n" ++ drop 4109 a) → IsFrame b
frame_new zeros a b la ea eb =
    let lt : length (take 4102 a) ≡ 4102 = length-take-le 4102 a (omega (arith, la)) in
    let none : drop 4109 a ≡ [] = empty (drop 4109 a) (omega (arith, length-drop 4109 a, la)) in
    record {
      size = ap (take 6) eb ∙ (take-append-le 6 (take 4102 a) _ (omega (arith, lt)) ∙ (take-take 6 4102 a (omega arith) ∙ ap (take 6) ea));
      end = ap (drop 4102) eb ∙ (drop_front 4102 (take 4102 a) _ lt ∙ ap (λ w. codes "\r\n0\r\n\r\n" ++ w) none);
    }
  where
    empty : (xs : List ℕ) → length xs ≡ 0 → xs ≡ []
    empty [] e = refl
    empty (x ∷ xs) e = absurd (omega (arith, e))

-- ---- bytes put behind the piece, and a size put before it

-- what an array has once bytes are put behind the first of a piece
pub record IsPut (frame new xs : List ℕ) (used : ℕ) : Type 0 where
  pub size : take 6 new ≡ take 6 frame
  pub rest : drop 6 new ≡ (piece_in frame used ++ xs) ++ drop ((6 + used) + length xs) frame

pub put_behind : (frame new xs : List ℕ) (used : ℕ) → length frame ≡ 4109 → used ≤ 4096 → new ≡ take (6 + used) frame ++ (xs ++ drop ((6 + used) + length xs) frame) → IsPut frame new xs used
put_behind frame new xs used l h e =
    let size : List ℕ = take 6 frame in
    let rest : List ℕ = drop ((6 + used) + length xs) frame in
    let ls : length size ≡ 6 = length-take-le 6 frame (omega (arith, l)) in
    let parts : new ≡ size ++ (piece_in frame used ++ (xs ++ rest)) =
    e ∙ (ap (λ w. w ++ (xs ++ rest)) (take-add 6 used frame) ∙ append_assoc size (piece_in frame used) (xs ++ rest)) in
    record {
      size = ap (take 6) parts ∙ take_front 6 size _ ls;
      rest = ap (drop 6) parts ∙ (drop_front 6 size _ ls ∙ sym (append_assoc (piece_in frame used) xs rest));
    }

-- bytes are taken into the piece
pub fill_frame : (frame new xs : List ℕ) (used : ℕ) → length frame ≡ 4109 → used + length xs ≤ 4096 → IsFrame frame → new ≡ take (6 + used) frame ++ (xs ++ drop ((6 + used) + length xs) frame) → IsFrame new
fill_frame frame new xs used l h f e =
    let p = put_behind frame new xs used l (omega (arith, h)) e in
    let front : List ℕ = piece_in frame used ++ xs in
    let rest : List ℕ = drop ((6 + used) + length xs) frame in
    let lf : length front ≡ used + length xs = omega (arith, length-append (piece_in frame used) xs, piece_length frame used l (omega (arith, h))) in
    let k : ℕ = 4096 - (used + length xs) in
    let sum : length front + k ≡ 4096 = omega (arith, lf, h) in
    let total : ((6 + used) + length xs) + k ≡ 4102 = omega (arith, h) in
    record {
      size = p.size ∙ f.size;
      end = sym (drop-drop 4096 6 new) ∙ (ap (drop 4096) p.rest ∙ (ap (λ i. drop i (front ++ rest)) (sym sum)
          ∙ (drop-append-add front rest k ∙ (drop-drop k ((6 + used) + length xs) frame ∙ (ap (λ i. drop i frame) total ∙ f.end)))));
    }

pub fill_piece : (frame new xs : List ℕ) (used : ℕ) → length frame ≡ 4109 → used + length xs ≤ 4096 → new ≡ take (6 + used) frame ++ (xs ++ drop ((6 + used) + length xs) frame)
    → piece_in new (used + length xs) ≡ piece_in frame used ++ xs
fill_piece frame new xs used l h e =
    let p = put_behind frame new xs used l (omega (arith, h)) e in
    let lf : length (piece_in frame used ++ xs) ≡ used + length xs = omega (arith, length-append (piece_in frame used) xs, piece_length frame used l (omega (arith, h))) in
    ap (take (used + length xs)) p.rest ∙ take_front (used + length xs) (piece_in frame used ++ xs) _ lf

-- the size of a short piece stands in place of that of a full one
pub size_put : (at : ℕ) (frame new digits size : List ℕ) → ((rest w : List ℕ) → drop at (take at (codes "1000\r\n" ++ rest) ++ w) ≡ w) → size ≡ digits → at + length digits ≡ 4
    → take 6 frame ≡ codes "1000\r\n" → new ≡ take at frame ++ (digits ++ drop (at + length digits) frame) → drop at new ≡ size ++ (crlf ++ drop 6 frame)
size_put at frame new digits size begins s four f e =
    let parts : frame ≡ codes "1000\r\n" ++ drop 6 frame = sym (take-append-drop 6 frame) ∙ ap (λ w. w ++ drop 6 frame) f in
    let behind : drop (at + length digits) frame ≡ crlf ++ drop 6 frame = ap (λ i. drop i frame) four ∙ ap (drop 4) parts in
    ap (drop at) (e ∙ ap (λ w. take at w ++ (digits ++ drop (at + length digits) frame)) parts)
    ∙ (begins (drop 6 frame) (digits ++ drop (at + length digits) frame) ∙ (ap (λ w. digits ++ w) behind ∙ ap (λ w. w ++ (crlf ++ drop 6 frame)) (sym s)))

-- ---- the end of a body

-- of a piece that isn't full nothing was sent
pub no_part : (sent used : ℕ) → (0 < sent → used ≡ 4096) → used < 4096 → sent ≡ 0
no_part zero used w h = refl
no_part (suc b) used w h = let u = w (omega arith) in absurd (omega (arith, u, h))

-- what is left to send of a full piece
pub full_end : (frame : List ℕ) (used sent : ℕ) → length frame ≡ 4109 → IsFrame frame → used ≡ 4096 → sent ≤ 4109 → take (4109 - sent) (drop sent frame) ≡ drop sent (chunked (piece_in frame used))
full_end frame used sent l f u h =
    take_all (4109 - sent) (drop sent frame) (omega (arith, length-drop sent frame, l)) ∙ (ap (drop sent) (frame_whole frame l f) ∙ ap (λ i. drop sent (chunked (piece_in frame i))) (sym u))

-- of no piece
pub empty_end : (frame : List ℕ) (used sent : ℕ) → length frame ≡ 4109 → IsFrame frame → used ≡ 0 → sent ≡ 0 → take 5 (drop 4104 frame) ≡ drop sent (chunked (piece_in frame used))
empty_end frame used sent l f u h =
    let rest : drop 4104 frame ≡ codes "0\r\n\r\n" = sym (drop-drop 2 4102 frame) ∙ ap (drop 2) f.end in
    ap (take 5) rest ∙ (ap (λ i. drop i (chunked (piece_in frame 0))) (sym h) ∙ ap (λ i. drop sent (chunked (piece_in frame i))) (sym u))

-- of a short piece: its text stands within the array
pub short_end : (frame wide new size : List ℕ) (used sent at : ℕ) → length frame ≡ 4109 → IsFrame frame → 0 < used → used < 4096 → (0 < sent → used ≡ 4096)
    → IsPut frame wide (codes "\r\n0\r\n\r\n") used → size ≡ digits 16 false used → at + length size ≡ 4 → drop at new ≡ size ++ (crlf ++ drop 6 wide)
    → take ((used + 13) - at) (drop at new) ≡ drop sent (chunked (piece_in frame used))
short_end frame wide new size used sent at l f some small whole put s four e =
    let p : List ℕ = piece_in frame used in
    let end : List ℕ = last_chunk ++ crlf in
    let lp : length p ≡ used = piece_length frame used l (omega (arith, small)) in
    let none : sent ≡ 0 = no_part sent used whole small in
    let rest : List ℕ = drop ((6 + used) + 7) frame in
    let text : List ℕ = (size ++ (crlf ++ (p ++ crlf))) ++ end in
    let inner : crlf ++ drop 6 wide ≡ (crlf ++ (p ++ crlf)) ++ (end ++ rest) =
    ap (λ w. crlf ++ w) (put.rest ∙ (append_assoc p (crlf ++ end) rest ∙ sym (append_assoc p crlf (end ++ rest)))) in
    let parts : drop at new ≡ text ++ rest =
    e ∙ (ap (λ w. size ++ w) inner ∙ (sym (append_assoc size (crlf ++ (p ++ crlf)) (end ++ rest)) ∙ sym (append_assoc (size ++ (crlf ++ (p ++ crlf))) end rest))) in
    let lt : length text ≡ (used + 13) - at =
    omega (arith, length-append (size ++ (crlf ++ (p ++ crlf))) end, length-append size (crlf ++ (p ++ crlf)), length-append p crlf, lp, four) in
    let whole_text : text ≡ chunked p =
    ap (λ w. (w ++ (crlf ++ (p ++ crlf))) ++ end) (s ∙ ap (digits 16 false) (sym lp)) ∙ sym (chunked_one p (omega (arith, lp, some)) (omega (arith, lp, small))) in
    ap (take ((used + 13) - at)) parts ∙ (take_front ((used + 13) - at) text rest lt ∙ (whole_text ∙ ap (λ i. drop i (chunked p)) (sym none)))
