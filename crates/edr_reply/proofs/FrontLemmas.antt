-- What looking at the first bytes says of all of them.
use Rattle.std.proofs.Common.{map, ◌≡◌, ℕ, ◌+◌, ◌-◌, ◌<◌, ◌≤◌, List, ◌++◌, length, take, drop, sym, ◌∙◌, ap, arith, subst}
use Rattle.std.proofs.lemmas.List.{take-append-le, take_all, length-take-le, length-map}
use Rattle.std.proofs.Math.Seq.{take-append-add}
use Rattle.httparse.specs.Grammar.{ResponseHead, print_response, HasNoResponse, ChunkLine, print_chunk_line, chunk_size, HasNoChunkLine, NeverHasChunkLine}
use Rattle.httparse.specs.Spans.{ResponseOverflows, IsResponseWithin, IsResponseAt, IsResponseOf, IsChunkLineAt, AreFieldsAt, header_bytes, name_and_value}
use Rattle.httparse.specs.declared.spans.HeaderSpan.{HeaderSpan}
use Rattle.httparse.specs.declared.spans.ResponseSpans.{ResponseSpans}
use Rattle.httparse.proofs.GrammarLemmas.{response_prefix_free}
use Rattle.httparse.proofs.ChunkLemmas.{chunk_line_unique, ReadsChunkLine-append}
use Rattle.edr_http.specs.Chunks.{crlf}
use Rattle.edr_reply.specs.declared.heads.Opening.{Opening}
use Rattle.edr_reply.specs.declared.heads.FoundHead.TheVariants as head
use Rattle.edr_reply.specs.BrokenParts.{LacksHead, LacksLine, LacksEnd}
use Rattle.edr_reply.specs.Finding.{Opens, TellsHead}

-- a text at the front of some bytes and more is at the front of them, if they are as long
pub fits_front : (bytes more text rest : List ℕ) → bytes ++ more ≡ text ++ rest → length text ≤ length bytes → (back : List ℕ) × (bytes ≡ text ++ back)
fits_front bytes more text rest e short = (
  take (length bytes - length text) rest,
  let whole : length text + (length bytes - length text) ≡ length bytes = omega arith in
      let P : ℕ → Type 0 = λ n. take n (text ++ rest) ≡ text ++ take (length bytes - length text) rest in
      let itself : length bytes ≤ length bytes = omega arith in
      let front : take (length bytes) (bytes ++ more) ≡ bytes = take-append-le (length bytes) bytes more itself ∙ take_all (length bytes) bytes itself in
      sym front ∙ (ap (take (length bytes)) e ∙ subst P whole (take-append-add text rest (length bytes - length text))),
)

-- ---- lines

-- none in as many bytes as one may have
pub line_never : (room : ℕ) (bytes : List ℕ) → 16384 ≤ length bytes → HasNoChunkLine bytes → (more : List ℕ) → LacksLine room (bytes ++ more)
line_never room bytes full none more line rest b =
    let short = b.0.short in
    let front = fits_front bytes more (print_chunk_line line) rest b.1 (omega (arith, full, short)) in
    absurd (none line front.0 (b.0.reads, front.1))

-- none, whatever follows
pub line_invalid : (room : ℕ) (bytes : List ℕ) → NeverHasChunkLine bytes → (more : List ℕ) → LacksLine room (bytes ++ more)
line_invalid room bytes never more line rest b = absurd (never more line rest (b.0.reads, b.1))

-- none yet
pub line_none : (room : ℕ) (bytes : List ℕ) → HasNoChunkLine bytes → LacksLine room bytes
line_none room bytes none line rest b = absurd (none line rest (b.0.reads, b.1))

-- one that gives a size without room
pub line_beyond : (room : ℕ) (bytes : List ℕ) (len size : ℕ) (l : ChunkLine) → IsChunkLineAt bytes len size l → room < size → (more : List ℕ) → LacksLine room (bytes ++ more)
line_beyond room bytes len size l at beyond more line rest b =
    let same = chunk_line_unique (bytes ++ more) l line _ rest (ReadsChunkLine-append bytes l _ more at.reads) (b.0.reads, b.1) in
    omega (arith, beyond, at.size_is, ap chunk_size same.0)

-- ---- heads

pub head_never : (bytes : List ℕ) → 16384 ≤ length bytes → HasNoResponse bytes → (more : List ℕ) → LacksHead (bytes ++ more)
head_never bytes full none more head rest b =
    let short = b.0.short in
    let front = fits_front bytes more (print_response head) rest b.1 (omega (arith, full, short)) in
    none head front.0 (b.0.reads, front.1)

pub head_none : (bytes : List ℕ) → HasNoResponse bytes → LacksHead bytes
head_none bytes none head rest b = none head rest (b.0.reads, b.1)

pub head_crowded : (room : ℕ) (bytes : List ℕ) → room ≡ 64 → ResponseOverflows room bytes → (more : List ℕ) → LacksHead (bytes ++ more)
head_crowded room bytes e over more head rest b =
    let many = over more head rest (b.0.reads, b.1) in
    let few = b.0.few_fields in
    omega (arith, many, few, e)

-- one of another version
pub head_older : (bytes : List ℕ) (fields : List HeaderSpan) (spans : ResponseSpans) → IsResponseOf bytes fields spans → ¬ (spans.version ≡ 1) → (more : List ℕ) → LacksHead (bytes ++ more)
head_older bytes fields spans of other more head rest b =
    let same = response_prefix_free bytes more of.0 head _ rest of.1.reads (b.0.reads, b.1) in
    other (of.1.version ∙ (ap (λ (h : ResponseHead). h.minor) same.0 ∙ b.0.version))

-- as many fields as spans
fields_fit : (buf : List ℕ) (headers : List HeaderSpan) (count : ℕ) (h : ResponseHead) → length headers ≡ 64 → count ≤ length headers → AreFieldsAt buf headers count h.fields → length h.fields ≤ 64
fields_fit buf headers count h room fits e =
    let same : length (map (header_bytes buf) (take count headers)) ≡ length (map name_and_value h.fields) = ap length e in
    let a = length-map (take count headers) (header_bytes buf) in
    let b = length-map h.fields name_and_value in
    let t = length-take-le count headers fits in
    omega (arith, same, a, b, t, room)

pub head_got : (bytes : List ℕ) (fields : List HeaderSpan) (spans : ResponseSpans) (opening : Opening) → length bytes ≤ 16384 → length fields ≡ 64
    → IsResponseWithin bytes fields spans → IsResponseOf bytes fields spans → spans.version ≡ 1 → ((h : ResponseHead) → IsResponseAt bytes fields spans h → Opens h opening)
    → TellsHead bytes (head.Got opening)
head_got bytes fields spans opening few room within of one opens =
    let fits = within.section.len_fits in
    let len = of.1.len in (
      of.0,
      drop spans.len bytes,
      (
        record {
          reads = of.1.reads.0;
          version = sym of.1.version ∙ one;
          few_fields = fields_fit bytes fields spans.headers of.0 room within.section.count_fits of.1.fields;
          short = omega (arith, fits, len, few);
        },
        of.1.reads.1,
      ),
      opens of.0 of.1,
    )

-- ---- line ends

pub end_short : (bytes : List ℕ) → ((rest : List ℕ) → ¬ (bytes ≡ crlf ++ rest)) → LacksEnd bytes
end_short bytes none = none

pub end_never : (bytes : List ℕ) → 2 ≤ length bytes → ((rest : List ℕ) → ¬ (bytes ≡ crlf ++ rest)) → (more : List ℕ) → LacksEnd (bytes ++ more)
end_never bytes full none more rest e = let front = fits_front bytes more crlf rest e full in none front.0 front.1
