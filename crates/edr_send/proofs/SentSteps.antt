-- A reply is sent coverage by coverage and range by range: its text, and the numbers of the chunks.
use Rattle.std.proofs.Common.{◌≡◌, ℕ, zero, suc, ◌+◌, ◌<◌, ◌≤◌, List, [], ◌∷◌, ◌++◌, length, take, drop, get_or, All, Bool, true, false, refl, ap, sym, ◌∙◌, subst, arith, append_assoc, append-nil, drop-cons, length-drop, get_or-drop, add-zero}
use Rattle.std.specs.Prelude.{Result, Ok, Err, IsErr}
use Rattle.std.specs.List.{flat_map}
use Rattle.std.proofs.lemmas.List.{drop-drop}
use Rattle.std.proofs.lemmas.List.Elements.{All-nil, All-cons, All-get_or, All-weaker}
use Rattle.covjson_value.specs.declared.coverages.NdArray.{NdArray}
use Rattle.covjson_value.specs.declared.coverages.Coverage.{Coverage}
use Rattle.covjson_value.specs.declared.coverages.Document.{Document}
use Rattle.covjson_value.specs.declared.coverages.Document.TheVariants.{One, Many}
use Rattle.covjson_value.specs.Coverages.{IsRange, IsValid, IsValidDocument, coverages_in}
use Rattle.covjson_value.specs.Trees.{document_text}
use Rattle.covjson_value.specs.Domains.{count_of}
use Rattle.covjson_write.specs.declared.range_heads.RangeHead.{RangeHead}
use Rattle.covjson_write.specs.Laws.{DocumentOfPieces}
use Rattle.covjson_write.specs.Pieces.{is_later, coverage_begin, head_of, range_piece, ranges_from, coverage_piece, coverages_from, document_begin, document_end}
use Rattle.covjson_write.specs.Writers.{IsHead, with_ranges}
use Rattle.serde_json.specs.Written.{comma_if}
use Rattle.edr_select.specs.ReplyLaws.{told_by}
use Rattle.edr_send.specs.Sending.{Opens}
use Rattle.edr_send.specs.Filling.{Added, Adds}
use Rattle.edr_send.specs.SentReplies.{SentReply, ranges_at, HasRange, HasRanges, IsHeadOf, text_at, CanBeSent, IsReplyOf, AddedBut}
use Rattle.edr_send.proofs.Additions.{adds_all, adds_fault}

-- ---- numbers

pub added_but_all : (wanted a : List ℕ) → AddedBut wanted wanted a a
added_but_all wanted a = record { front = []; whole_is = refl; grew = sym (append-nil a) }

pub added_but_on : (xs ys wanted a b c : List ℕ) → AddedBut (xs ++ ys) wanted a b → c ≡ b ++ xs → AddedBut ys wanted a c
added_but_on xs ys wanted a b c f e = record {
  front = f.front ++ xs;
  whole_is = f.whole_is ∙ sym (append_assoc f.front xs ys);
  grew = e ∙ ap (λ (l : List ℕ). l ++ xs) f.grew ∙ append_assoc a f.front xs;
}

-- the rest told in another way
pub added_but_same : (xs ys wanted a b : List ℕ) → xs ≡ ys → AddedBut xs wanted a b → AddedBut ys wanted a b
added_but_same xs ys wanted a b e f = subst (λ (l : List ℕ). AddedBut l wanted a b) e f

pub added_but_none : {T E : Type 0} (r : Result T E) (rest wanted a b : List ℕ) → rest ≡ [] → AddedBut rest wanted a b → Adds r wanted a b
added_but_none r rest wanted a b none f =
    adds_all r f.front wanted a b (sym (append-nil f.front) ∙ ap (λ (l : List ℕ). f.front ++ l) (sym none) ∙ sym f.whole_is) f.grew

pub added_but_fault : {T E : Type 0} (r : Result T E) (xs ys wanted a b c : List ℕ) → IsErr r → AddedBut (xs ++ ys) wanted a b → Added xs b c → Adds r wanted a c
added_but_fault r xs ys wanted a b c is f added =
    adds_fault r f.front xs ys wanted a b c is f.grew (f.whole_is ∙ sym (append_assoc f.front xs ys)) added

-- those that were opened before, with those that are opened now, are all
pub opens_on : {T E : Type 0} (r : Result T E) (chunks wanted old new : List ℕ) → old ++ chunks ≡ wanted → Adds r chunks old new → Opens r wanted new
opens_on (Ok x) chunks wanted old new e f = record { all = f.all ∙ e; begun = ([], sym (f.all ∙ e) ∙ sym (append-nil new)) }
opens_on (Err x) chunks wanted old new e f = record {
  all = tt;
  begun = (
    f.begun.begins.0,
    sym e ∙ ap (λ (l : List ℕ). old ++ l) f.begun.begins.1 ∙ sym (append_assoc old f.begun.front f.begun.begins.0)
        ∙ ap (λ (l : List ℕ). l ++ f.begun.begins.0) (sym f.begun.grew),
  );
}

-- ---- the items from one on are that one and those behind it

next : (n : ℕ) → n + 1 ≡ suc n
next n = omega arith

row_from : {X : Type 0} (f : X → List ℕ) (d : X) → f d ≡ [] → (xs : List X) (i : ℕ) → flat_map f (drop i xs) ≡ f (get_or xs i d) ++ flat_map f (drop (suc i) xs)
row_from f d none [] zero = sym (ap (λ (l : List ℕ). l ++ []) none)
row_from f d none [] (suc i) = sym (ap (λ (l : List ℕ). l ++ []) none)
row_from f d none (x ∷ xs) zero = refl
row_from f d none (x ∷ xs) (suc i) = row_from f d none xs i

pub row_next : {X : Type 0} (f : X → List ℕ) (d : X) → f d ≡ [] → (xs : List X) (i : ℕ) → flat_map f (drop i xs) ≡ f (get_or xs i d) ++ flat_map f (drop (i + 1) xs)
row_next f d none xs i = row_from f d none xs i ∙ ap (λ (n : ℕ). f (get_or xs i d) ++ flat_map f (drop n xs)) (sym (next i))

pub ranges_next : (head : RangeHead) (ranges : List NdArray) (i : ℕ) (d : NdArray) → i < length ranges
    → ranges_from head i (drop i ranges) ≡ range_piece head i (get_or ranges i d).values ++ ranges_from head (i + 1) (drop (i + 1) ranges)
ranges_next head ranges i d l =
    ap (ranges_from head i) (drop-cons ranges i d l)
    ∙ ap (λ (n : ℕ). range_piece head i (get_or ranges i d).values ++ ranges_from head n (drop n ranges)) (sym (next i))

first_apart : (i : ℕ) (coverages : List Coverage) → coverages_from i coverages ≡ coverages_from i (take 1 coverages) ++ coverages_from (suc i) (drop 1 coverages)
first_apart i [] = refl
first_apart i (c ∷ coverages) = ap (λ (l : List ℕ). l ++ coverages_from (suc i) coverages) (sym (append-nil (coverage_piece i c)))

pub coverages_next : (sent : SentReply) (i : ℕ)
    → coverages_from i (drop i sent.coverages) ≡ text_at sent i ++ coverages_from (i + 1) (drop (i + 1) sent.coverages)
coverages_next sent i =
    first_apart i (drop i sent.coverages)
    ∙ ap (λ (cs : List Coverage). text_at sent i ++ coverages_from (suc i) cs) (drop-drop 1 i sent.coverages)
    ∙ ap (λ (n : ℕ). text_at sent i ++ coverages_from n (drop (i + 1) sent.coverages)) (sym (next i))

-- ---- the coverage of a number

module _ (head : Coverage) (sent : SentReply) (i : ℕ) (is : IsHeadOf head sent i) where
  pub head_inside : i < length sent.coverages
  head_inside = let long = ap length is in omega (arith, length-drop i sent.coverages, long)

  head_valid : CanBeSent sent → IsValid (with_ranges head (ranges_at sent i))
  head_valid can =
      let c : Coverage = with_ranges head (ranges_at sent i) in
      subst IsValid
      (ap (λ (n : ℕ). get_or sent.coverages n c) (sym (add-zero i)) ∙ sym (get_or-drop i sent.coverages 0 c) ∙ ap (λ (cs : List Coverage). get_or cs 0 c) is)
      (All-get_or IsValid sent.coverages i c head_inside can.valid)

  pub head_is : CanBeSent sent → IsHead head
  head_is can = record { ranges = ranges_at sent i; valid = head_valid can }

  pub head_ranges : CanBeSent sent → (ranges count : ℕ) → length head.parameters ≡ ranges → count_of head.domain ≡ count → HasRanges sent i ranges count
  head_ranges can ranges count e f =
      let valid = head_valid can in
      record {
        coverage = head_inside;
        ranges = valid.as_many ∙ e;
        chunks = few (can.told.ranges i) (valid.as_many ∙ e);
        values = All-weaker (IsRange head.domain) (λ range. length range.values ≡ count) (λ range r. r.count ∙ f) (ranges_at sent i) valid.ranges;
      }
    where
      few : {a b n : ℕ} → a ≤ b → b ≡ n → a ≤ n
      few l e = omega (arith, l, e)

  pub text_is : text_at sent i ≡ comma_if (is_later i) ++ (coverage_begin head ++ ranges_from (head_of head) 0 (ranges_at sent i))
  text_is =
      ap (λ (cs : List Coverage). coverages_from i (take 1 cs)) is
      ∙ append-nil (comma_if (is_later i) ++ (coverage_begin head ++ ranges_from (head_of head) 0 (ranges_at sent i)))

-- it has a range
pub some_ranges : (head : Coverage) → IsHead head → (n : ℕ) → length head.parameters ≡ n → 0 < n
some_ranges head is n e = let some = is.valid.some in omega (arith, some, e)

-- a range of it
pub range_of : (sent : SentReply) (i j ranges count : ℕ) → HasRanges sent i ranges count → j < ranges → HasRange sent i j count
range_of sent i j ranges count has l =
    let inside : j < length (ranges_at sent i) = omega (arith, has.ranges, l) in
    record {
      coverage = has.coverage;
      range = inside;
      values = All-get_or (λ range. length range.values ≡ count) (ranges_at sent i) j (record { values = [] }) inside has.values;
    }

-- ---- the document

valid_in : (d : Document) → IsValidDocument d → All IsValid (coverages_in d)
valid_in (One coverage) valid = All-cons IsValid coverage [] valid (All-nil IsValid)
valid_in (Many coverages) valid = valid

module _ (sent : SentReply) (opened : List ℕ) (d : Document) (wanted : List ℕ) (is : IsReplyOf sent opened d wanted) where
  pub can_be_sent : CanBeSent sent
  can_be_sent =
      let told = told_by sent.many sent.coverages d is.alone is.document_is in
      record { valid = subst (λ (cs : List Coverage). All IsValid cs) told.coverages_is (valid_in d is.valid); alone = is.alone; told = is.told }

  pub sent_text : DocumentOfPieces → document_begin sent.many ++ (coverages_from 0 sent.coverages ++ document_end sent.many) ≡ document_text d
  sent_text law =
      let told = told_by sent.many sent.coverages d is.alone is.document_is in
      ap (λ (cs : List Coverage). document_begin sent.many ++ (coverages_from 0 cs ++ document_end sent.many)) (sym told.coverages_is)
      ∙ ap (λ (m : Bool). document_begin m ++ (coverages_from 0 (coverages_in d) ++ document_end m)) (sym told.many_is)
      ∙ sym (law d is.valid)

-- ---- a document of one coverage

pub not_begun : (i count : ℕ) → count ≡ 1 → i < count → is_later i ≡ false
not_begun zero count one l = refl
not_begun (suc i) count one l = absurd (omega (arith, one, l))

pub some_begun : (i count : ℕ) → count ≡ 1 → count ≤ i → is_later i ≡ true
some_begun zero count one l = absurd (omega (arith, one, l))
some_begun (suc i) count one l = refl
