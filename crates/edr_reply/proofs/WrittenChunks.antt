-- Bodies in chunks as the server writes them.
use Rattle.std.proofs.Common.{◌≡◌, ℕ, zero, suc, ◌+◌, ◌*◌, ◌/◌, ◌%◌, ◌<◌, ◌≤◌, length, length-append, length-drop, List, [], ◌∷◌, ◌++◌, take, drop, codes, true, false, None, refl, sym, ap, ap₂, ◌∙◌, subst, arith, ⊎_elim, append-nil}
use Rattle.std.specs.Prelude.{All, nat_eq, IsTrue}
use Rattle.std.specs.Char.{is_ascii_hexdigit}
use Rattle.std.specs.Fmt.{digits, digit_glyph}
use Rattle.std.proofs.lemmas.Bool.Decides.{nat_tests, leb_tells}
use Rattle.std.proofs.lemmas.Fmt.{digits_is_IsNumeral, hex_one_digit, hex_two_digits}
use Rattle.std.proofs.lemmas.List.{take-append-drop, length-take}
use Rattle.std.proofs.lemmas.List.Elements.{All-nil, All-cons}
use mathlib.Core.List.{append_assoc}
use Rattle.httparse.specs.Grammar.{is_ows, ChunkLine, print_chunk_line, chunk_size}
use Rattle.edr_http.specs.Chunks.{crlf, chunk, first_chunks, chunks, last_chunk, chunked}
use Rattle.edr_reply.specs.Messages.{IsSizeLine, Chunk, IsChunk, print_chunk, print_chunks, joined, IsChunkedBody, body_limit}

-- ---- the digits of a size

abbrev is_hex : ℕ → Type 0
is_hex c = IsTrue (is_ascii_hexdigit c)

glyph_is_hex : (d : ℕ) → d < 16 → is_hex (digit_glyph false d)
glyph_is_hex d h = grind (arith, nat_tests, h)

record IsSize (ds : List ℕ) : Type 0 where
  some : 0 < length ds
  few : length ds ≤ 4
  hex : All is_hex ds

one_glyph : (a : ℕ) → a < 16 → IsSize (digit_glyph false a ∷ [])
one_glyph a h = record { some = omega arith; few = omega arith; hex = All-cons is_hex _ [] (glyph_is_hex a h) (All-nil is_hex) }

two_glyphs : (a b : ℕ) → a < 16 → b < 16 → IsSize (digit_glyph false a ∷ digit_glyph false b ∷ [])
two_glyphs a b h k = record {
  some = omega arith;
  few = omega arith;
  hex = All-cons is_hex _ (digit_glyph false b ∷ []) (glyph_is_hex a h) (All-cons is_hex _ [] (glyph_is_hex b k) (All-nil is_hex));
}

three_glyphs : (a b c : ℕ) → a < 16 → b < 16 → c < 16 → IsSize (digit_glyph false a ∷ digit_glyph false b ∷ digit_glyph false c ∷ [])
three_glyphs a b c h k l = record {
  some = omega arith;
  few = omega arith;
  hex = All-cons is_hex _ (digit_glyph false b ∷ digit_glyph false c ∷ []) (glyph_is_hex a h)
      (All-cons is_hex _ (digit_glyph false c ∷ []) (glyph_is_hex b k) (All-cons is_hex _ [] (glyph_is_hex c l) (All-nil is_hex)));
}

full_size : digits 16 false 4096 ≡ codes "1000"
unfolding digits
full_size = refl

four_glyphs : IsSize (codes "1000")
four_glyphs = record {
  some = omega arith;
  few = omega arith;
  hex = All-cons is_hex 49 (48 ∷ 48 ∷ 48 ∷ []) refl (All-cons is_hex 48 (48 ∷ 48 ∷ []) refl (All-cons is_hex 48 (48 ∷ []) refl (All-cons is_hex 48 [] refl (All-nil is_hex))));
}

size_of_three : (n : ℕ) → 256 ≤ n → n < 4096 → digits 16 false n ≡ digit_glyph false (n / 256) ∷ digit_glyph false (n / 16 % 16) ∷ digit_glyph false (n % 16) ∷ []
unfolding digits
size_of_three n large small =
    let a : nat_eq (n / 16) 0 ≡ false = let h : 0 < n / 16 = omega arith in grind (arith, nat_tests, h) in
    let b : nat_eq (n / 16 / 16) 0 ≡ false = let h : 0 < n / 16 / 16 = omega arith in grind (arith, nat_tests, h) in
    let c : nat_eq (n / 16 / 16 / 16) 0 ≡ true = let h : n / 16 / 16 / 16 ≡ 0 = omega arith in grind (arith, nat_tests, h) in
    let d : n / 16 / 16 % 16 ≡ n / 256 = omega arith in
    rw (a, b, c, d) refl

-- a piece has at most 4,096 bytes
size_is : (n : ℕ) → n ≤ 4096 → IsSize (digits 16 false n)
size_is n most =
    ⊎_elim (λ t. subst IsSize (sym (hex_one_digit false n (omega (arith, t.1)))) (one_glyph n (omega (arith, t.1)))) (λ u.
    ⊎_elim (λ t. subst IsSize (sym (hex_two_digits false n (omega (arith, u.1)) (omega (arith, t.1)))) (two_glyphs (n / 16) (n % 16) (omega (arith, t.1)) (omega arith))) (λ v.
    ⊎_elim (λ t. subst IsSize (sym (size_of_three n (omega (arith, v.1)) (omega (arith, t.1)))) (three_glyphs (n / 256) (n / 16 % 16) (n % 16) (omega (arith, t.1)) (omega arith) (omega arith))) (λ w.
    let full : n ≡ 4096 = omega (arith, most, w.1) in
    subst IsSize (sym (ap (digits 16 false) full ∙ full_size)) four_glyphs)
    (leb_tells (suc n) 4096)) (leb_tells (suc n) 256)) (leb_tells (suc n) 16)

-- ---- lines and chunks

abbrev line_of : ℕ → ChunkLine
line_of n = record { digits = digits 16 false n; pad = []; extension = None }

line_text : (n : ℕ) → print_chunk_line (line_of n) ≡ digits 16 false n ++ crlf
unfolding print_chunk_line
line_text n = ap (λ w. w ++ crlf) (append-nil (digits 16 false n ++ []) ∙ append-nil (digits 16 false n))

line_is : (n : ℕ) → n ≤ 4096 → IsSizeLine (line_of n)
line_is n most =
    let size = size_is n most in
    let few = size.few in
    record {
      reads = record { digits = (size.some, omega (arith, few), size.hex); pad = All-nil (λ b. IsTrue (is_ows b)); extension = tt };
      short = omega (arith, ap length (line_text n), length-append (digits 16 false n) crlf, few);
    }

line_size : (n : ℕ) → n ≤ 4096 → chunk_size (line_of n) ≡ n
line_size n most = (digits_is_IsNumeral 16 false (omega arith) (omega arith) n (omega (arith, most))).1

abbrev chunk_of : List ℕ → Chunk
chunk_of piece = record { line = line_of (length piece); piece = piece }

chunk_text : (piece : List ℕ) → print_chunk (chunk_of piece) ≡ chunk piece
chunk_text piece = ap (λ w. w ++ (piece ++ crlf)) (line_text (length piece)) ∙ append_assoc (digits 16 false (length piece)) crlf (piece ++ crlf)

chunk_is : (piece : List ℕ) → 0 < length piece → length piece ≤ 4096 → IsChunk (chunk_of piece)
chunk_is piece some few = record { is_line = line_is (length piece) few; size = line_size (length piece) few; some = some }

-- ---- the pieces of a body

abbrev pieces : ℕ → List ℕ → List Chunk
pieces zero body = []
pieces (suc n) body = chunk_of (take 4096 body) ∷ pieces n (drop 4096 body)

pieces_text : (n : ℕ) (body : List ℕ) → print_chunks (pieces n body) ≡ first_chunks n body
pieces_text zero body = refl
pieces_text (suc n) body = ap₂ (λ a b. a ++ b) (chunk_text (take 4096 body)) (pieces_text n (drop 4096 body))

pieces_joined : (n : ℕ) (body : List ℕ) → length body ≤ n * 4096 → joined (pieces n body) ≡ body
pieces_joined zero [] h = refl
pieces_joined zero (b ∷ body) h = absurd (omega (arith, h))
pieces_joined (suc n) body h =
    let fewer : length (drop 4096 body) ≤ n * 4096 = omega (arith, length-drop 4096 body, h) in
    ap (λ w. take 4096 body ++ w) (pieces_joined n (drop 4096 body) fewer) ∙ take-append-drop 4096 body

pieces_are : (n : ℕ) (body : List ℕ) → n * 4096 < length body + 4096 → All IsChunk (pieces n body)
pieces_are zero body h = All-nil IsChunk
pieces_are (suc n) body h =
    let some : 0 < length (take 4096 body) = omega (arith, length-take 4096 body, h) in
    let few : length (take 4096 body) ≤ 4096 = omega (arith, length-take 4096 body) in
    let next : n * 4096 < length (drop 4096 body) + 4096 = omega (arith, length-drop 4096 body, h) in
    All-cons IsChunk _ (pieces n (drop 4096 body)) (chunk_is (take 4096 body) some few) (pieces_are n (drop 4096 body) next)

last_line : print_chunk_line (line_of 0) ≡ last_chunk
unfolding print_chunk_line digits
last_line = refl

pub written_body : (body rest : List ℕ) → length body ≤ body_limit → IsChunkedBody (chunked body ++ rest) body rest
written_body body rest few =
    let n : ℕ = (length body + 4095) / 4096 in
    let all : length body ≤ n * 4096 = omega arith in
    let most : n * 4096 < length body + 4096 = omega arith in
    record {
      chunks = pieces n body;
      last = line_of 0;
      are_chunks = record { each = pieces_are n body most; within = omega (arith, ap length (pieces_joined n body all), few) };
      is_last = line_is 0 (omega arith);
      ends = line_size 0 (omega arith);
      bytes_are =
          append_assoc (chunks body) (last_chunk ++ crlf) rest
          ∙ (ap₂ (λ a b. a ++ b) (sym (pieces_text n body)) (append_assoc last_chunk crlf rest ∙ ap (λ w. w ++ (crlf ++ rest)) (sym last_line)));
      body_is = sym (pieces_joined n body all);
    }
