-- Chunks one after another: some bytes begin with them in one way, and break off in one way.
use Rattle.std.proofs.Common.{◌≡◌, ℕ, ◌+◌, ◌-◌, ◌≤◌, length, length-append, List, [], ◌∷◌, ◌++◌, refl, sym, ap, ap₂, ◌∙◌, subst, arith}
use Rattle.std.specs.Prelude.{All}
use Rattle.std.proofs.lemmas.List.Elements.{All-head, All-tail}
use Rattle.std.proofs.lemmas.Grind.{flat_map-append}
use mathlib.Core.List.{append_assoc}
use Rattle.httparse.specs.Grammar.{ChunkLine, print_chunk_line, chunk_size}
use Rattle.httparse.proofs.ChunkLemmas.{chunk_line_unique}
use Rattle.edr_http.specs.Chunks.{crlf}
use Rattle.edr_reply.specs.Messages.{IsSizeLine, Chunk, IsChunk, AreChunks, print_chunk, print_chunks, joined, IsChunkedBody, body_limit}
use Rattle.edr_reply.specs.BrokenParts.{BeginsWithLine, BreaksChunk, BreaksChunks}

-- texts of one length before others
pub front_same : (a b x y : List ℕ) → length a ≡ length b → a ++ x ≡ b ++ y → (a ≡ b) × (x ≡ y)
front_same [] [] x y l e = (refl, e)
front_same [] (d ∷ b) x y l e = absurd (omega (arith, l))
front_same (c ∷ a) [] x y l e = absurd (omega (arith, l))
front_same (c ∷ a) (d ∷ b) x y l e =
    let first : c ≡ d = cc in
    let others : a ++ x ≡ b ++ y = cc in
    let rest = front_same a b x y (omega (arith, l)) others in
    (ap₂ (λ h t. h ∷ t) first rest.0, rest.1)

-- some bytes begin with one line
pub line_one : (bytes : List ℕ) (l k : ChunkLine) (r q : List ℕ) → BeginsWithLine bytes l r → BeginsWithLine bytes k q → (l ≡ k) × (r ≡ q)
line_one bytes l k r q x y = chunk_line_unique bytes l k r q (x.0.reads, x.1) (y.0.reads, y.1)

-- a chunk before others: its line, its bytes and a line end
pub chunk_opens : (c : Chunk) (more : List ℕ) → print_chunk c ++ more ≡ print_chunk_line c.line ++ (c.piece ++ (crlf ++ more))
chunk_opens c more = append_assoc (print_chunk_line c.line) (c.piece ++ crlf) more ∙ ap (λ w. print_chunk_line c.line ++ w) (append_assoc c.piece crlf more)

begins_chunk : (bytes : List ℕ) (c : Chunk) (more : List ℕ) → IsChunk c → bytes ≡ print_chunk c ++ more → BeginsWithLine bytes c.line (c.piece ++ (crlf ++ more))
begins_chunk bytes c more is e = (is.is_line, e ∙ chunk_opens c more)

chunk_one : (c d : Chunk) (x y : List ℕ) → IsChunk c → IsChunk d → print_chunk c ++ x ≡ print_chunk d ++ y → (c ≡ d) × (x ≡ y)
chunk_one c d x y p q e =
    let lines = line_one (print_chunk c ++ x) c.line d.line _ _ (begins_chunk _ c x p refl) (begins_chunk _ d y q e) in
    let pieces = front_same c.piece d.piece (crlf ++ x) (crlf ++ y) (sym p.size ∙ (ap chunk_size lines.0 ∙ q.size)) lines.1 in
    (ap₂ (λ l w. record { line = l; piece = w }) lines.0 pieces.0, (front_same crlf crlf x y refl pieces.1).1)

-- ---- a chunk that is whole doesn't break off

pub whole_chunk : (room : ℕ) (bytes : List ℕ) (k : ℕ) (c : Chunk) (more : List ℕ) → BreaksChunk room bytes k → IsChunk c → length c.piece ≤ room → bytes ≡ print_chunk c ++ more → ⊥
whole_chunk room bytes k c more (BreaksChunk.at_line lacks p) is fits e =
    let beyond = lacks c.line _ (begins_chunk bytes c more is e) in
    omega (arith, beyond, is.size, fits)
whole_chunk room bytes k c more (BreaksChunk.at_piece line rest b few short p) is fits e =
    let same = line_one bytes line c.line rest _ b (begins_chunk bytes c more is e) in
    omega (arith, short, ap chunk_size same.0, is.size, ap length same.1, length-append c.piece (crlf ++ more))
whole_chunk room bytes k c more (BreaksChunk.at_end line piece rest b few l some lacks p) is fits e =
    let same = line_one bytes line c.line (piece ++ rest) _ b (begins_chunk bytes c more is e) in
    lacks more (front_same piece c.piece rest (crlf ++ more) (l ∙ (ap chunk_size same.0 ∙ is.size)) same.1).1
whole_chunk room bytes k c more (BreaksChunk.at_last line rest b zero lacks p) is fits e =
    let same = line_one bytes line c.line rest _ b (begins_chunk bytes c more is e) in
    omega (arith, zero, ap chunk_size same.0, is.size, is.some)

-- nor do the last line and the empty line behind it
pub whole_last : (room : ℕ) (bytes : List ℕ) (k : ℕ) (last : ChunkLine) (more : List ℕ) → BreaksChunk room bytes k → IsSizeLine last → chunk_size last ≡ 0 → bytes ≡ print_chunk_line last ++ (crlf ++ more) → ⊥
whole_last room bytes k last more (BreaksChunk.at_line lacks p) is none e =
    let beyond = lacks last _ (is, e) in
    omega (arith, beyond, none)
whole_last room bytes k last more (BreaksChunk.at_piece line rest b few short p) is none e =
    let same = line_one bytes line last rest _ b (is, e) in
    omega (arith, short, ap chunk_size same.0, none)
whole_last room bytes k last more (BreaksChunk.at_end line piece rest b few l some lacks p) is none e =
    let same = line_one bytes line last (piece ++ rest) _ b (is, e) in
    omega (arith, some, ap chunk_size same.0, none)
whole_last room bytes k last more (BreaksChunk.at_last line rest b zero lacks p) is none e =
    lacks more (line_one bytes line last rest _ b (is, e)).1

-- a chunk isn't the last line
last_or_chunk : (last : ChunkLine) (x : List ℕ) (c : Chunk) (more : List ℕ) → IsSizeLine last → chunk_size last ≡ 0 → IsChunk c → print_chunk_line last ++ x ≡ print_chunk c ++ more → ⊥
last_or_chunk last x c more is none chunk e =
    let same = line_one (print_chunk_line last ++ x) last c.line x _ (is, refl) (begins_chunk _ c more chunk e) in
    omega (arith, none, ap chunk_size same.0, chunk.size, chunk.some)

-- ---- the next chunk breaks off at one place

pub break_one : (room : ℕ) (bytes : List ℕ) (j k : ℕ) → BreaksChunk room bytes j → BreaksChunk room bytes k → j ≡ k
break_one room bytes j k (BreaksChunk.at_line lacks p) (BreaksChunk.at_line lacks' q) = p ∙ sym q
break_one room bytes j k (BreaksChunk.at_line lacks p) (BreaksChunk.at_piece line rest b few short q) =
    let beyond = lacks line rest b in absurd (omega (arith, beyond, few))
break_one room bytes j k (BreaksChunk.at_line lacks p) (BreaksChunk.at_end line piece rest b few l some lacks' q) =
    let beyond = lacks line _ b in absurd (omega (arith, beyond, few))
break_one room bytes j k (BreaksChunk.at_line lacks p) (BreaksChunk.at_last line rest b zero lacks' q) =
    let beyond = lacks line rest b in absurd (omega (arith, beyond, zero))
break_one room bytes j k (BreaksChunk.at_piece line rest b few short p) (BreaksChunk.at_line lacks q) =
    let beyond = lacks line rest b in absurd (omega (arith, beyond, few))
break_one room bytes j k (BreaksChunk.at_piece line rest b few short p) (BreaksChunk.at_piece line' rest' b' few' short' q) =
    p ∙ (ap (λ w. length (print_chunk_line w)) (line_one bytes line line' rest rest' b b').0 ∙ sym q)
break_one room bytes j k (BreaksChunk.at_piece line rest b few short p) (BreaksChunk.at_end line' piece rest' b' few' l some lacks q) =
    let same = line_one bytes line line' rest (piece ++ rest') b b' in
    absurd (omega (arith, short, l, ap chunk_size same.0, ap length same.1, length-append piece rest'))
break_one room bytes j k (BreaksChunk.at_piece line rest b few short p) (BreaksChunk.at_last line' rest' b' zero lacks q) =
    let same = line_one bytes line line' rest rest' b b' in
    absurd (omega (arith, short, zero, ap chunk_size same.0))
break_one room bytes j k (BreaksChunk.at_end line piece rest b few l some lacks p) (BreaksChunk.at_line lacks' q) =
    let beyond = lacks' line _ b in absurd (omega (arith, beyond, few))
break_one room bytes j k (BreaksChunk.at_end line' piece rest' b' few' l some lacks p) (BreaksChunk.at_piece line rest b few short q) =
    let same = line_one bytes line line' rest (piece ++ rest') b b' in
    absurd (omega (arith, short, l, ap chunk_size same.0, ap length same.1, length-append piece rest'))
break_one room bytes j k (BreaksChunk.at_end line piece rest b few l some lacks p) (BreaksChunk.at_end line' piece' rest' b' few' l' some' lacks' q) =
    let same = line_one bytes line line' (piece ++ rest) (piece' ++ rest') b b' in
    omega (arith, p, q, l, l', ap (λ w. length (print_chunk_line w)) same.0, ap chunk_size same.0)
break_one room bytes j k (BreaksChunk.at_end line piece rest b few l some lacks p) (BreaksChunk.at_last line' rest' b' zero lacks' q) =
    let same = line_one bytes line line' (piece ++ rest) rest' b b' in
    absurd (omega (arith, some, zero, ap chunk_size same.0))
break_one room bytes j k (BreaksChunk.at_last line rest b zero lacks p) (BreaksChunk.at_line lacks' q) =
    let beyond = lacks' line rest b in absurd (omega (arith, beyond, zero))
break_one room bytes j k (BreaksChunk.at_last line' rest' b' zero lacks p) (BreaksChunk.at_piece line rest b few short q) =
    let same = line_one bytes line line' rest rest' b b' in
    absurd (omega (arith, short, zero, ap chunk_size same.0))
break_one room bytes j k (BreaksChunk.at_last line' rest' b' zero lacks' p) (BreaksChunk.at_end line piece rest b few l some lacks q) =
    let same = line_one bytes line line' (piece ++ rest) rest' b b' in
    absurd (omega (arith, some, zero, ap chunk_size same.0))
break_one room bytes j k (BreaksChunk.at_last line rest b zero lacks p) (BreaksChunk.at_last line' rest' b' zero' lacks' q) =
    p ∙ (ap (λ w. length (print_chunk_line w)) (line_one bytes line line' rest rest' b b').0 ∙ sym q)

-- ---- two beginnings in chunks of the same bytes

-- the first goes on with a chunk where the other ends
record Longer (cs ds : List Chunk) (x y : List ℕ) : Type 0 where
  next : Chunk
  others : List Chunk
  chunks_are : cs ≡ ds ++ next ∷ others
  rest_is : y ≡ print_chunk next ++ (print_chunks others ++ x)

data Compared (cs ds : List Chunk) (x y : List ℕ) : Type 0 where
  same : cs ≡ ds → x ≡ y → Compared cs ds x y
  first : Longer cs ds x y → Compared cs ds x y
  other : Longer ds cs y x → Compared cs ds x y

both_longer : (c d : Chunk) (cs ds : List Chunk) (x y : List ℕ) → c ≡ d → Longer cs ds x y → Longer (c ∷ cs) (d ∷ ds) x y
both_longer c d cs ds x y e l = record { next = l.next; others = l.others; chunks_are = ap₂ (λ h t. h ∷ t) e l.chunks_are; rest_is = l.rest_is }

one_more : (c d : Chunk) (cs ds : List Chunk) (x y : List ℕ) → c ≡ d → Compared cs ds x y → Compared (c ∷ cs) (d ∷ ds) x y
one_more c d cs ds x y e (same p q) = same (ap₂ (λ h t. h ∷ t) e p) q
one_more c d cs ds x y e (first l) = first (both_longer c d cs ds x y e l)
one_more c d cs ds x y e (other l) = other (both_longer d c ds cs y x (sym e) l)

compare : (cs ds : List Chunk) (x y : List ℕ) → All IsChunk cs → All IsChunk ds → print_chunks cs ++ x ≡ print_chunks ds ++ y → Compared cs ds x y
compare [] [] x y p q e = same refl e
compare [] (d ∷ ds) x y p q e = other (record { next = d; others = ds; chunks_are = refl; rest_is = e ∙ append_assoc (print_chunk d) (print_chunks ds) y })
compare (c ∷ cs) [] x y p q e = first (record { next = c; others = cs; chunks_are = refl; rest_is = sym e ∙ append_assoc (print_chunk c) (print_chunks cs) x })
compare (c ∷ cs) (d ∷ ds) x y p q e =
    let joint : print_chunk c ++ (print_chunks cs ++ x) ≡ print_chunk d ++ (print_chunks ds ++ y) =
    sym (append_assoc (print_chunk c) (print_chunks cs) x) ∙ (e ∙ append_assoc (print_chunk d) (print_chunks ds) y) in
    let one = chunk_one c d _ _ (All-head IsChunk c cs p) (All-head IsChunk d ds q) joint in
    one_more c d cs ds x y one.0 (compare cs ds x y (All-tail IsChunk c cs p) (All-tail IsChunk d ds q) one.1)

all_behind : (ds cs : List Chunk) → All IsChunk (ds ++ cs) → All IsChunk cs
all_behind [] cs p = p
all_behind (d ∷ ds) cs p = all_behind ds cs (All-tail IsChunk d (ds ++ cs) p)

-- the chunk with which the first goes on is one, and fits the body
next_is : (cs ds : List Chunk) (x y : List ℕ) (l : Longer cs ds x y) → AreChunks cs → IsChunk l.next × (length l.next.piece ≤ body_limit - length (joined ds))
next_is cs ds x y l are =
    let all : All IsChunk (ds ++ l.next ∷ l.others) = subst (λ (z : List Chunk). All IsChunk z) l.chunks_are are.each in
    let whole : length (joined cs) ≡ length (joined ds) + (length l.next.piece + length (joined l.others)) =
    ap (λ z. length (joined z)) l.chunks_are
    ∙ (ap length (flat_map-append (λ (c : Chunk). c.piece) ds (l.next ∷ l.others))
    ∙ (length-append (joined ds) (l.next.piece ++ joined l.others)
    ∙ ap (λ n. length (joined ds) + n) (length-append l.next.piece (joined l.others)))) in
    (All-head IsChunk l.next l.others (all_behind ds (l.next ∷ l.others) all), omega (arith, whole, are.within))

-- ---- bodies in chunks

pub chunked_one : (bytes a b r q : List ℕ) → IsChunkedBody bytes a r → IsChunkedBody bytes b q → (a ≡ b) × (r ≡ q)
chunked_one bytes a b r q x y = by_order (compare x.chunks y.chunks _ _ x.are_chunks.each y.are_chunks.each (sym x.bytes_are ∙ y.bytes_are))
  where
    by_order : Compared x.chunks y.chunks (print_chunk_line x.last ++ (crlf ++ r)) (print_chunk_line y.last ++ (crlf ++ q)) → (a ≡ b) × (r ≡ q)
    by_order = elim [
      | same e f ↦
          let lines = line_one _ x.last y.last _ _ (x.is_last, refl) (y.is_last, f) in
          (x.body_is ∙ (ap joined e ∙ sym y.body_is), (front_same crlf crlf r q refl lines.1).1)
      | first l ↦ absurd (last_or_chunk y.last _ l.next _ y.is_last y.ends (next_is _ _ _ _ l x.are_chunks).0 l.rest_is)
      | other l ↦ absurd (last_or_chunk x.last _ l.next _ x.is_last x.ends (next_is _ _ _ _ l y.are_chunks).0 l.rest_is)
    ]

pub chunked_broken : (bytes a r : List ℕ) (k : ℕ) → BreaksChunks bytes k → IsChunkedBody bytes a r → ⊥
chunked_broken bytes a r k x y = by_order (compare x.chunks y.chunks _ _ x.are_chunks.each y.are_chunks.each (sym x.bytes_are ∙ y.bytes_are))
  where
    by_order : Compared x.chunks y.chunks x.rest (print_chunk_line y.last ++ (crlf ++ r)) → ⊥
    by_order = elim [
      | same e f ↦ whole_last _ x.rest x.within y.last r x.breaks y.is_last y.ends f
      | first l ↦ last_or_chunk y.last _ l.next _ y.is_last y.ends (next_is _ _ _ _ l x.are_chunks).0 l.rest_is
      | other l ↦ let next = next_is _ _ _ _ l y.are_chunks in whole_chunk _ x.rest x.within l.next _ x.breaks next.0 next.1 l.rest_is
    ]

pub chunks_break_one : (bytes : List ℕ) (j k : ℕ) → BreaksChunks bytes j → BreaksChunks bytes k → j ≡ k
chunks_break_one bytes j k x y = by_order (compare x.chunks y.chunks _ _ x.are_chunks.each y.are_chunks.each (sym x.bytes_are ∙ y.bytes_are))
  where
    by_order : Compared x.chunks y.chunks x.rest y.rest → j ≡ k
    by_order = elim [
      | same e f ↦
          let there : BreaksChunk (body_limit - length (joined y.chunks)) y.rest x.within =
          subst (λ (z : List ℕ). BreaksChunk (body_limit - length (joined y.chunks)) z x.within) f
          (subst (λ (z : List Chunk). BreaksChunk (body_limit - length (joined z)) x.rest x.within) e x.breaks) in
          x.place_is ∙ (ap₂ (λ z n. length (print_chunks z) + n) e (break_one _ y.rest x.within y.within there y.breaks) ∙ sym y.place_is)
      | first l ↦ let next = next_is _ _ _ _ l x.are_chunks in absurd (whole_chunk _ y.rest y.within l.next _ y.breaks next.0 next.1 l.rest_is)
      | other l ↦ let next = next_is _ _ _ _ l y.are_chunks in absurd (whole_chunk _ x.rest x.within l.next _ x.breaks next.0 next.1 l.rest_is)
    ]
