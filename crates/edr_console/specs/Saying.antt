-- What is said on the standard output: lines, one after another.
use Rattle.std.specs.Prelude.{◌≡◌, ◌==◌, ℕ, if◌then◌else◌, ◌++◌, List, [], ◌∷◌, map, codes, Result, IsErrOf, OnOk}
use Rattle.std.specs.declared.option.Option.{Option}
use Rattle.std.specs.Fmt.{decimal}
use Rattle.edr_base.specs.Outside.{Rose}
use Rattle.edr_base.specs.Calls.{Writes, IsFlushed}
use Rattle.edr_base.specs.declared.sending.SendFault.{SendFault}
use Rattle.edr_base.specs.declared.sending.SendFault.TheVariants.{WriteFault}
use Rattle.edr_edition.specs.Values.{EditionValue}

-- ---- the lines

-- a text, and a number behind it
abbrev pub number_line : List ℕ → ℕ → List ℕ
number_line text number = text ++ (decimal number ++ codes "\n")

-- a text, and a name behind it
abbrev pub named_line : List ℕ → List ℕ → List ℕ
named_line text name = text ++ (name ++ codes "\n")

abbrev pub listening_line : ℕ → List ℕ
listening_line port = number_line (codes "listening on 127.0.0.1:") port

abbrev pub edition_line : EditionValue → List ℕ
edition_line edition = number_line (codes "edition ") edition.number

-- how many connections were served, and how many of them ended by a fault
abbrev pub count_line : ℕ → ℕ → List ℕ
count_line served faulted = codes "connections " ++ (decimal served ++ number_line (codes ", faults ") faulted)

-- how many lines of the feed stand behind its last publish
abbrev pub behind_line : ℕ → List ℕ
behind_line behind = codes "feed: " ++ (decimal behind ++ codes " lines after the last publish\n")

abbrev pub behind_lines : ℕ → List (List ℕ)
behind_lines behind = if behind == 0 then [] else behind_line behind ∷ []

-- the port, the lines behind the last publish, where there are some, and the editions that are published
abbrev pub serving_lines : ℕ → ℕ → List EditionValue → List (List ℕ)
serving_lines port behind editions = listening_line port ∷ (behind_lines behind ++ map edition_line editions)

-- the file that can't be opened, and the port that can't be bound
abbrev pub open_line : List ℕ → List ℕ
open_line name = named_line (codes "open fault ") name

abbrev pub bind_line : ℕ → List ℕ
bind_line port = number_line (codes "bind fault ") port

-- ---- how they are said

-- what is told of the standard output
pub record OutputState : Type 0 where
  pub written : Option (List ℕ)
  pub flushed : Option ℕ
  pub faults : ℕ

abbrev pub output_state : {S : Type 0} → (S → Option (List ℕ)) → (S → Option ℕ) → (S → ℕ) → S → OutputState
output_state written flushed faults output = record { written = written output; flushed = flushed output; faults = faults output }

-- a line is written whole and flushed, or a beginning of it is written: then a fault was counted, or memory was wanting
pub record Says (line : List ℕ) (before after : OutputState) : Type 0 where
  pub outcome : Result (Unit {0}) SendFault
  pub writes : Writes outcome line before.written after.written
  pub settled : OnOk outcome (IsFlushed after.written after.flushed)
  pub cause : IsErrOf outcome WriteFault → Rose before.faults after.faults

-- each of the lines is said, in their order, whatever became of those before it
abbrev pub SaysAll : List (List ℕ) → OutputState → OutputState → Type 0
SaysAll [] before after = after ≡ before
SaysAll (line ∷ lines) before after = (next : OutputState) × Says line before next × SaysAll lines next after
