-- How far a source is read where a line is at fault.
use Rattle.std.proofs.Common.{◌≡◌, ℕ, suc, ◌+◌, ◌-◌, ◌<◌, ◌≤◌, List, [], ◌∷◌, ◌++◌, length, take, All, Option, refl, sym, ap, ◌∙◌, subst, append_assoc, append-nil, length-append, arith}
use Rattle.std.specs.Prelude.{IfSome}
use Rattle.std.specs.Io.KnownBytes.{prepend_known}
use Rattle.std.proofs.lemmas.List.Concat.{flat_map-append}
use Rattle.std.proofs.Math.Seq.{take-append-add}
use Rattle.edr_base.specs.Calls.{buffer_size}
use Rattle.edr_feed.specs.declared.faults.FeedFault.{FeedFault}
use Rattle.edr_feed.specs.declared.reading.Reading.{Reading}
use Rattle.edr_feed.specs.Refusals.{line_of}
use Rattle.edr_feed.specs.Lines.{onto_first, lines_of, joined}
use Rattle.edr_feed.specs.Feeds.{ReadsToLine}
use Rattle.edr_feed.specs.Readings.{IsPlain, HasRead}
use Rattle.edr_feed.proofs.FeedLines.{plain_head, plain_tail, some_line, first_lines}
use Rattle.edr_feed.proofs.StepLemmas.{if_some}

-- lines whose first one is at least so long
record HaveFirst (many : ℕ) (lines : List (List ℕ)) : Type 0 where
  pub first : List ℕ
  pub rest : List (List ℕ)
  pub are : lines ≡ first ∷ rest
  pub long : many ≤ length first

-- a line that goes on doesn't get shorter
goes_on : (line more : List ℕ) → IsPlain line → HaveFirst (length line) (lines_of (line ++ more))
goes_on [] more plain = let some = some_line more in record { first = some.0; rest = some.1; are = some.2; long = omega arith }
goes_on (byte ∷ line) more plain =
    let tail = goes_on line more (plain_tail byte line plain) in
    let lines : lines_of ((byte ∷ line) ++ more) ≡ onto_first byte (lines_of (line ++ more)) = rw (plain_head byte line plain) refl in
    record { first = byte ∷ tail.first; rest = tail.rest; are = lines ∙ ap (onto_first byte) tail.are; long = omega (arith, tail.long) }

-- the lines up to one that goes on or comes later reach at least as far
pub reaches : (lines : List (List ℕ)) (line more : List ℕ) (number : ℕ) → All IsPlain lines → IsPlain line → length lines < number
    → length (joined lines ++ line) ≤ length (joined (take number (lines_of ((joined lines ++ line) ++ more))))
reaches lines line more number all plain low =
    let on = goes_on line more plain in
    let later = number - length lines - 1 in
    let place : number ≡ length lines + suc later = omega (arith, low) in
    let cut : lines_of ((joined lines ++ line) ++ more) ≡ lines ++ on.first ∷ on.rest =
    ap lines_of (append_assoc (joined lines) line more) ∙ (first_lines lines (line ++ more) all ∙ ap (λ ls. lines ++ ls) on.are) in
    let front : take number (lines_of ((joined lines ++ line) ++ more)) ≡ lines ++ on.first ∷ take later on.rest =
    ap (λ ls. take number ls) cut ∙ (ap (λ k. take k (lines ++ on.first ∷ on.rest)) place ∙ take-append-add lines (on.first ∷ on.rest) (suc later)) in
    let whole = ap joined front ∙ flat_map-append (λ (l : List ℕ). l ++ 10 ∷ []) lines (on.first ∷ take later on.rest) in
    omega (
      arith,
      ap length whole,
      on.long,
      length-append (joined lines) line,
      length-append (joined lines) (joined (on.first ∷ take later on.rest)),
      length-append (on.first ++ 10 ∷ []) (joined (take later on.rest)),
      length-append on.first (10 ∷ []),
    )

-- some bytes were read, and a piece more was taken
pub stops_in_piece : (old new : Option (List ℕ)) (bytes piece : List ℕ) (now : Reading) (fault : FeedFault) → old ≡ prepend_known (bytes ++ piece) new → HasRead bytes now → length piece ≤ buffer_size
    → IfSome (line_of fault) (λ line. now.number ≤ line) → IfSome (line_of fault) (λ line. ReadsToLine old new line)
stops_in_piece old new bytes piece now fault told h few on =
    if_some (λ line. now.number ≤ line) (λ line. ReadsToLine old new line) (line_of fault)
    (λ line later.
    let far = reaches h.lines h.line piece line h.plain h.plain_line (omega (arith, later, h.number)) in
    let front : length bytes ≤ length (joined (take line (lines_of (bytes ++ piece)))) =
    subst (λ (w : List ℕ). length w ≤ length (joined (take line (lines_of (w ++ piece))))) (sym h.bytes_are) far in
    record { bytes = bytes ++ piece; read = told; within = omega (arith, front, few, length-append bytes piece) })
    on

-- all bytes were read
pub stops_at_end : (old new : Option (List ℕ)) (bytes : List ℕ) (now : Reading) (fault : FeedFault) → old ≡ prepend_known bytes new → HasRead bytes now
    → IfSome (line_of fault) (λ line. now.number ≤ line) → IfSome (line_of fault) (λ line. ReadsToLine old new line)
stops_at_end old new bytes now fault told h on =
    stops_in_piece old new bytes [] now fault (told ∙ ap (λ w. prepend_known w new) (sym (append-nil bytes))) h (omega arith) on
