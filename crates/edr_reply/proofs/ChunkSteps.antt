-- One chunk after another, taken from the rest.
use Rattle.std.proofs.Common.{◌≡◌, ℕ, ◌+◌, ◌-◌, ◌*◌, ◌≤◌, ◌<◌, length, length-append, List, [], ◌∷◌, ◌++◌, sym, ap, subst, ◌∙◌, refl, Some, None, append-nil, arith}
use Rattle.std.specs.Prelude.{IfSome, All}
use Rattle.std.specs.declared.option.Option.{Option}
use Rattle.std.specs.Io.KnownBytes.{prepend_known}
use Rattle.std.proofs.lemmas.List.Elements.{All-nil, All-cons, All-append, All-head, All-tail}
use Rattle.std.proofs.lemmas.Grind.{flat_map-append}
use mathlib.Core.List.{append_assoc}
use Rattle.httparse.specs.Grammar.{print_chunk_line}
use Rattle.edr_base.specs.Calls.{ReadsAtMost}
use Rattle.edr_base.specs.KnownBytes.{prepend_nothing, took_on}
use Rattle.edr_http.specs.Chunks.{crlf}
use Rattle.edr_reply.specs.declared.lines.SizeLine.{SizeLine}
use Rattle.edr_reply.specs.declared.held.PartFault.{PartFault}
use Rattle.edr_reply.specs.declared.held.PartFault.TheVariants as part
use Rattle.edr_reply.specs.declared.messages.MessageFault.TheVariants as message
use Rattle.edr_reply.specs.Messages.{Chunk, IsChunk, print_chunk, print_chunks, joined, body_limit}
use Rattle.edr_reply.specs.BrokenParts.{LacksLine, LacksEnd, BreaksChunk, BreaksChunks}
use Rattle.edr_reply.specs.Taking.{TakesSome, TakesLine, TakesOnto, TakesNext, TakesLast, TakesChunks, at_place, most_of_chunk, latest_place, ChunkBreaks, ChunksBreak, IsCutChunk, IsCutChunks, Going}

-- what holds of the rest behind a text holds of all
pub behind : (x : List ℕ) (old mid : Option (List ℕ)) (P Q : List ℕ → Type 0) → old ≡ prepend_known x mid → IfSome mid P → ((rest : List ℕ) → P rest → Q (x ++ rest)) → IfSome old Q
behind x None mid P Q e p f = tt
behind x (Some bytes) None P Q e p f = absurd (untold e)
  where
    untold : Some bytes ≡ None → ⊥
    untold e = cc
behind x (Some bytes) (Some rest) P Q e p f = subst Q (sym (told e)) (f rest p)
  where
    told : Some bytes ≡ Some (x ++ rest) → bytes ≡ x ++ rest
    told e = cc

-- a reply breaks off where a part isn't there
pub broken_is : (fault : PartFault) (place at : ℕ) → at_place fault place ≡ message.Broken at → (fault ≡ part.Lacking) × (at ≡ place)
broken_is part.Lacking place at e = (refl, cc)
broken_is part.ReadFault place at e = absurd cc
broken_is part.OutOfMemory place at e = absurd cc

-- the source failed where it failed on a part
pub failed_is : (fault : PartFault) (place : ℕ) → at_place fault place ≡ message.ReadFault → fault ≡ part.ReadFault
failed_is part.Lacking place e = absurd cc
failed_is part.ReadFault place e = refl
failed_is part.OutOfMemory place e = absurd cc

-- ---- a chunk

pub last_breaks : (place at room : ℕ) (found : SizeLine) (old mid new : Option (List ℕ)) → TakesLine room found old mid → found.size ≡ 0 → IfSome mid LacksEnd → new ≡ mid → at ≡ place + found.len
    → ChunkBreaks place at room old new
last_breaks place at room found old mid new t none lacks e p = record {
  within = found.len;
  at_is = p;
  breaks = behind (print_chunk_line t.0) old mid LacksEnd (λ bytes. BreaksChunk room bytes found.len) t.5 lacks
      (λ rest h. BreaksChunk.at_last t.0 rest (t.1, refl) (sym t.3 ∙ none) h t.2);
  read = record { bytes = print_chunk_line t.0; read = t.5 ∙ ap (prepend_known (print_chunk_line t.0)) (sym e); within = omega (arith, t.2) };
}

pub piece_breaks : (place at room : ℕ) (found : SizeLine) (old mid new : Option (List ℕ)) → TakesLine room found old mid → room ≤ body_limit
    → IfSome mid (λ bytes. length bytes < found.size) → ReadsAtMost found.size mid new → at ≡ place + found.len → ChunkBreaks place at room old new
piece_breaks place at room found old mid new t small lacks read p = record {
  within = found.len;
  at_is = p;
  breaks = behind (print_chunk_line t.0) old mid (λ bytes. length bytes < found.size) (λ bytes. BreaksChunk room bytes found.len) t.5 lacks
      (λ rest h. BreaksChunk.at_piece t.0 rest (t.1, refl) (omega (arith, t.3, t.4)) (omega (arith, h, t.3)) t.2);
  read = record {
    bytes = print_chunk_line t.0 ++ read.bytes;
    read = took_on old mid new _ _ t.5 read.read;
    within = omega (arith, length-append (print_chunk_line t.0) read.bytes, read.within, t.2, t.4, small);
  };
}

pub end_breaks : (place at room : ℕ) (found : SizeLine) (body body' : List ℕ) (old mid far new : Option (List ℕ)) → TakesLine room found old mid → room ≤ body_limit → ¬ (found.size ≡ 0)
    → TakesOnto found.size body body' mid far → IfSome far LacksEnd → new ≡ far → at ≡ (place + found.len) + found.size → ChunkBreaks place at room old new
end_breaks place at room found body body' old mid far new t small some onto lacks e p =
    let whole : old ≡ prepend_known (print_chunk_line t.0 ++ onto.bytes) far = took_on old mid far _ _ t.5 onto.rest_is in
    record {
      within = found.len + found.size;
      at_is = omega (arith, p);
      breaks = behind (print_chunk_line t.0 ++ onto.bytes) old far LacksEnd (λ bytes. BreaksChunk room bytes (found.len + found.size)) whole lacks
          (λ rest h. BreaksChunk.at_end t.0 onto.bytes rest (t.1, append_assoc (print_chunk_line t.0) onto.bytes rest) (omega (arith, t.3, t.4)) (onto.count ∙ t.3)
          (omega (arith, t.3, some)) h (omega (arith, t.2, onto.count)));
      read = record {
        bytes = print_chunk_line t.0 ++ onto.bytes;
        read = whole ∙ ap (prepend_known (print_chunk_line t.0 ++ onto.bytes)) (sym e);
        within = omega (arith, length-append (print_chunk_line t.0) onto.bytes, onto.count, t.2);
      };
    }

-- ---- what was taken of it where the source failed

pub line_cut : (room : ℕ) (old new : Option (List ℕ)) → TakesSome (LacksLine room) old new → TakesSome (IsCutChunk room) old new
line_cut room old new s = record { bytes = s.bytes; read = s.read; holds = (0, BreaksChunk.at_line s.holds refl) }

pub last_cut : (room : ℕ) (found : SizeLine) (old mid new : Option (List ℕ)) → TakesLine room found old mid → found.size ≡ 0 → TakesSome LacksEnd mid new → TakesSome (IsCutChunk room) old new
last_cut room found old mid new t none s = record {
  bytes = print_chunk_line t.0 ++ s.bytes;
  read = took_on old mid new _ _ t.5 s.read;
  holds = (length (print_chunk_line t.0), BreaksChunk.at_last t.0 s.bytes (t.1, refl) (sym t.3 ∙ none) s.holds refl);
}

pub piece_cut : (room : ℕ) (found : SizeLine) (old mid new : Option (List ℕ)) → TakesLine room found old mid → TakesSome (λ bytes. length bytes < found.size) mid new → TakesSome (IsCutChunk room) old new
piece_cut room found old mid new t s =
    let few = s.holds in
    record {
      bytes = print_chunk_line t.0 ++ s.bytes;
      read = took_on old mid new _ _ t.5 s.read;
      holds = (length (print_chunk_line t.0), BreaksChunk.at_piece t.0 s.bytes (t.1, refl) (omega (arith, t.3, t.4)) (omega (arith, few, t.3)) refl);
    }

pub end_cut : (room : ℕ) (found : SizeLine) (body body' : List ℕ) (old mid far new : Option (List ℕ)) → TakesLine room found old mid → ¬ (found.size ≡ 0) → TakesOnto found.size body body' mid far
    → TakesSome LacksEnd far new → TakesSome (IsCutChunk room) old new
end_cut room found body body' old mid far new t some onto s = record {
  bytes = print_chunk_line t.0 ++ (onto.bytes ++ s.bytes);
  read = took_on old mid new _ _ t.5 (took_on mid far new _ _ onto.rest_is s.read);
  holds = (
    length (print_chunk_line t.0) + length onto.bytes,
    BreaksChunk.at_end t.0 onto.bytes s.bytes (t.1, refl) (omega (arith, t.3, t.4)) (onto.count ∙ t.3) (omega (arith, t.3, some)) s.holds refl,
  );
}

-- what was read of it where it isn't taken
pub piece_bounded : (room : ℕ) (found : SizeLine) (old mid new : Option (List ℕ)) → TakesLine room found old mid → room ≤ body_limit → ReadsAtMost found.size mid new → ReadsAtMost most_of_chunk old new
piece_bounded room found old mid new t small read =
    let short = t.1.short in
    record {
      bytes = print_chunk_line t.0 ++ read.bytes;
      read = took_on old mid new _ _ t.5 read.read;
      within = omega (arith, length-append (print_chunk_line t.0) read.bytes, read.within, short, t.4, small);
    }

pub end_bounded : (room : ℕ) (found : SizeLine) (body body' : List ℕ) (old mid far new : Option (List ℕ)) → TakesLine room found old mid → room ≤ body_limit → TakesOnto found.size body body' mid far → new ≡ far
    → ReadsAtMost most_of_chunk old new
end_bounded room found body body' old mid far new t small onto e =
    let short = t.1.short in
    record {
      bytes = print_chunk_line t.0 ++ onto.bytes;
      read = took_on old mid new _ _ t.5 (onto.rest_is ∙ ap (prepend_known onto.bytes) (sym e));
      within = omega (arith, length-append (print_chunk_line t.0) onto.bytes, onto.count, short, t.4, small);
    }

pub last_bounded : (body body' : List ℕ) (old new : Option (List ℕ)) → TakesLast body body' old new → ReadsAtMost most_of_chunk old new
last_bounded body body' old new t =
    let short = t.is_line.short in
    record { bytes = print_chunk_line t.line ++ crlf; read = t.rest_is; within = omega (arith, length-append (print_chunk_line t.line) crlf, short) }

-- a chunk that was taken
pub chunk_taken : (place room : ℕ) (found : SizeLine) (body body' : List ℕ) (old mid far new : Option (List ℕ)) → TakesLine room found old mid → room ≡ body_limit - length body → length body ≤ body_limit
    → ¬ (found.size ≡ 0) → TakesOnto found.size body body' mid far → far ≡ prepend_known crlf new → TakesNext place (((place + found.len) + found.size) + 2) body body' old new
chunk_taken place room found body body' old mid far new t is small some onto e =
    let chunk : Chunk = record { line = t.0; piece = onto.bytes } in
    let size : length (print_chunk chunk) ≡ length (print_chunk_line t.0) + (length onto.bytes + 2) =
    length-append (print_chunk_line t.0) (onto.bytes ++ crlf) ∙ ap (λ n. length (print_chunk_line t.0) + n) (length-append onto.bytes crlf) in
    record {
      chunk = chunk;
      is_chunk = record { is_line = t.1; size = sym t.3 ∙ sym onto.count; some = omega (arith, onto.count, some) };
      within = omega (arith, ap length onto.body_is, length-append body onto.bytes, onto.count, t.4, is, small);
      body_is = onto.body_is;
      rest_is = took_on old mid new _ _ t.5 (took_on mid far new _ _ onto.rest_is e);
      place_is = omega (arith, size, t.2, onto.count);
    }

-- ---- the chunks so far

pub going_none : (place : ℕ) (body : List ℕ) (rest : Option (List ℕ)) → length body ≡ 0 → Going place place body rest rest
going_none place [] rest e = record {
  chunks = [];
  are_chunks = record { each = All-nil IsChunk; within = omega arith };
  body_is = refl;
  rest_is = prepend_nothing rest;
  place_is = omega arith;
}
going_none place (b ∷ body) rest e = absurd (omega (arith, e))

pub going_more : (start place next : ℕ) (body body' : List ℕ) (old mid new : Option (List ℕ)) → Going start place body old mid → TakesNext place next body body' mid new → Going start next body' old new
going_more start place next body body' old mid new g t =
    let text : print_chunks (g.chunks ++ t.chunk ∷ []) ≡ print_chunks g.chunks ++ print_chunk t.chunk =
    flat_map-append print_chunk g.chunks (t.chunk ∷ []) ∙ ap (λ w. print_chunks g.chunks ++ w) (append-nil (print_chunk t.chunk)) in
    let pieces : joined (g.chunks ++ t.chunk ∷ []) ≡ joined g.chunks ++ t.chunk.piece =
    flat_map-append (λ (c : Chunk). c.piece) g.chunks (t.chunk ∷ []) ∙ ap (λ w. joined g.chunks ++ w) (append-nil t.chunk.piece) in
    let body_is : body' ≡ joined (g.chunks ++ t.chunk ∷ []) = t.body_is ∙ (ap (λ w. w ++ t.chunk.piece) g.body_is ∙ sym pieces) in
    record {
      chunks = g.chunks ++ t.chunk ∷ [];
      are_chunks = record {
        each = All-append IsChunk g.chunks (t.chunk ∷ []) g.are_chunks.each (All-cons IsChunk t.chunk [] t.is_chunk (All-nil IsChunk));
        within = omega (arith, ap length body_is, t.within);
      };
      body_is = body_is;
      rest_is = took_on old mid new _ _ g.rest_is t.rest_is ∙ ap (λ w. prepend_known w new) (sym text);
      place_is = omega (arith, t.place_is, g.place_is, ap length text, length-append (print_chunks g.chunks) (print_chunk t.chunk));
    }

pub going_last : (start place : ℕ) (body body' : List ℕ) (old mid new : Option (List ℕ)) → Going start place body old mid → TakesLast body body' mid new → TakesChunks body' old new
going_last start place body body' old mid new g t = record {
  bytes = print_chunks g.chunks ++ (print_chunk_line t.line ++ crlf);
  is_body = λ rest. record {
    chunks = g.chunks;
    last = t.line;
    are_chunks = g.are_chunks;
    is_last = t.is_line;
    ends = t.ends;
    bytes_are = append_assoc (print_chunks g.chunks) (print_chunk_line t.line ++ crlf) rest ∙ ap (λ w. print_chunks g.chunks ++ w) (append_assoc (print_chunk_line t.line) crlf rest);
    body_is = t.body_is ∙ g.body_is;
  };
  rest_is = took_on old mid new _ _ g.rest_is t.rest_is;
}

pub going_breaks : (start place at : ℕ) (body : List ℕ) (old mid new : Option (List ℕ)) → Going start place body old mid → ChunkBreaks place at (body_limit - length body) mid new → ChunksBreak start at old new
going_breaks start place at body old mid new g b = record {
  within = length (print_chunks g.chunks) + b.within;
  at_is = omega (arith, b.at_is, g.place_is);
  breaks = behind (print_chunks g.chunks) old mid (λ bytes. BreaksChunk (body_limit - length body) bytes b.within) (λ bytes. BreaksChunks bytes (length (print_chunks g.chunks) + b.within)) g.rest_is b.breaks
      (λ rest h. record {
        chunks = g.chunks;
        rest = rest;
        within = b.within;
        are_chunks = g.are_chunks;
        bytes_are = refl;
        breaks = subst (λ (w : List ℕ). BreaksChunk (body_limit - length w) rest b.within) g.body_is h;
        place_is = refl;
      });
  read = record {
    bytes = print_chunks g.chunks ++ b.read.bytes;
    read = took_on old mid new _ _ g.rest_is b.read.read;
    within = omega (arith, length-append (print_chunks g.chunks) b.read.bytes, b.read.within);
  };
}

pub going_cut : (start place : ℕ) (body : List ℕ) (old mid new : Option (List ℕ)) → Going start place body old mid → TakesSome (IsCutChunk (body_limit - length body)) mid new → TakesSome IsCutChunks old new
going_cut start place body old mid new g s = record {
  bytes = print_chunks g.chunks ++ s.bytes;
  read = took_on old mid new _ _ g.rest_is s.read;
  holds = (
    length (print_chunks g.chunks) + s.holds.0,
    record {
      chunks = g.chunks;
      rest = s.bytes;
      within = s.holds.0;
      are_chunks = g.are_chunks;
      bytes_are = refl;
      breaks = subst (λ (w : List ℕ). BreaksChunk (body_limit - length w) s.bytes s.holds.0) g.body_is s.holds.1;
      place_is = refl;
    },
  );
}

-- each chunk has a byte, a line end and its line
chunks_most : (chunks : List Chunk) → All IsChunk chunks → length (print_chunks chunks) ≤ length (joined chunks) * 16387
chunks_most [] all = omega arith
chunks_most (c ∷ cs) all =
    let is = All-head IsChunk c cs all in
    let short = is.is_line.short in
    let some = is.some in
    let others = chunks_most cs (All-tail IsChunk c cs all) in
    omega (arith, short, some, others, length-append (print_chunk c) (print_chunks cs), length-append (print_chunk_line c.line) (c.piece ++ crlf), length-append c.piece crlf, length-append c.piece (joined cs))

pub going_early : (start place : ℕ) (body : List ℕ) (old now : Option (List ℕ)) → start ≤ 16384 → Going start place body old now → place ≤ latest_place (length body)
going_early start place body old now early g =
    let most = chunks_most g.chunks g.are_chunks.each in
    omega (arith, most, early, g.place_is, ap length g.body_is)

pub going_bounded : (start place most : ℕ) (body : List ℕ) (old mid new : Option (List ℕ)) → Going start place body old mid → ReadsAtMost most mid new → ReadsAtMost (latest_place body_limit + most) old new
going_bounded start place most body old mid new g read =
    let all = chunks_most g.chunks g.are_chunks.each in
    let within = g.are_chunks.within in
    record {
      bytes = print_chunks g.chunks ++ read.bytes;
      read = took_on old mid new _ _ g.rest_is read.read;
      within = omega (arith, all, within, length-append (print_chunks g.chunks) read.bytes, read.within);
    }
