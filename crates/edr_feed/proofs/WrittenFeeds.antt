-- The text of entries is a feed of the editions that they publish.
use Rattle.std.proofs.Common.{◌≡◌, ◌≢◌, ℕ, suc, ◌+◌, ◌≤◌, List, [], ◌∷◌, ◌++◌, length, All, Ok, inl, inr, refl, sym, ap, ◌∙◌, subst, append_assoc, arith}
use Rattle.edr_base.specs.Limits.{line_limit, feed_limit}
use Rattle.edr_feed.specs.declared.entries.Entry.{Entry}
use Rattle.edr_feed.specs.Forms.{IsEntry}
use Rattle.edr_feed.specs.Lines.{lines_of}
use Rattle.edr_feed.specs.Steps.{Progress, at_start, EntryMakes, LineRows, EachLineRows}
use Rattle.edr_feed.specs.Written.{entry_data, entry_text, entries_text, IsShort, EntriesMake, WrittenLinesAreRead, WrittenFeedsAreRead}
use Rattle.edr_feed.proofs.FeedLines.{first_line}
use Rattle.edr_feed.proofs.FeedReadings.{read_within}

-- the line of an entry makes what the entry makes
line_made : WrittenLinesAreRead → (entry : Entry) → IsEntry entry → IsShort entry → (number : ℕ) (old new : Progress) → EntryMakes old entry new
    → LineRows number (entry_text entry) old (Ok new)
line_made lines entry is short number old new makes =
    let line = lines entry is in
    inl (short, inr (line.filled, inl (entry_data entry, line.is_json, inl (inl (entry, line.stands), inl (entry, line.stands, inl (new, makes, refl))))))

-- what follows the last line feed is blank
rest_made : (number : ℕ) (now : Progress) → LineRows number [] now (Ok now)
rest_made number now = inl (omega arith, inl (refl, refl))

all_here : {X : Type 0} (P : X → Type 0) (x : X) (xs : List X) → All P (x ∷ xs) → P x
all_here P x xs h = h 0 x (omega arith)

all_later : {X : Type 0} (P : X → Type 0) (x : X) (xs : List X) → All P (x ∷ xs) → All P xs
all_later P x xs h = λ k d inside. h (suc k) d (omega (arith, inside))

-- the lines of entries make what the entries make
lines_made : WrittenLinesAreRead → (entries : List Entry) → All IsEntry entries → All IsShort entries → (number : ℕ) (old new : Progress) → EntriesMake entries old new
    → EachLineRows number (lines_of (entries_text entries)) old (Ok new)
lines_made lines [] are short number old new makes = inl (old, rest_made number old, ap Ok makes)
lines_made lines (entry ∷ entries) are short number old new makes =
    let is = all_here IsEntry entry entries are in
    let next = makes.0 in
    let cut : lines_of (entries_text (entry ∷ entries)) ≡ entry_text entry ∷ lines_of (entries_text entries) =
    ap lines_of (append_assoc (entry_text entry) (10 ∷ []) (entries_text entries)) ∙ first_line (entry_text entry) (entries_text entries) (lines entry is).one_line in
    subst (λ (ls : List (List ℕ)). EachLineRows number ls old (Ok new)) (sym cut) (inl (
      next,
      line_made lines entry is (all_here IsShort entry entries short) number old next makes.1,
      lines_made lines entries (all_later IsEntry entry entries are) (all_later IsShort entry entries short) (number + 1) next new makes.2,
    ))

pub feeds_read : WrittenLinesAreRead → WrittenFeedsAreRead
feeds_read lines entries now are short within makes some =
    let text = entries_text entries in
    let made = subst (λ (ls : List (List ℕ)). EachLineRows 1 ls at_start (Ok now)) (sym (read_within text within)) (lines_made lines entries are short 1 at_start now makes) in
    (inl (now, made, inl (within, inl (some, refl))), (now, made, refl))
