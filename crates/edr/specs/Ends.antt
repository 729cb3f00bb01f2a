-- How a run ends: its status, and what it leaves on each object. A table that goes by the ending may have a last row of any `ending`,
-- which is that of all without one of their own.
use Rattle.std.specs.Prelude.{◌≡◌, ◌⊎◌, ℕ, Bool, true, false, ◌++◌, ⊤, codes, List, [], IsNone, None, Some, option_map}
use Rattle.std.specs.declared.option.Option.{Option}
use Rattle.std.specs.Fmt.{decimal}
use Rattle.edr_base.specs.RefusalTable.{body_of}
use Rattle.edr_base.specs.Outside.{Aside, Asked as AskedOf}
use Rattle.edr_base.specs.Calls.{WrittenWhole, WrittenInPart}
use Rattle.edr_fetch.specs.Exchanges.{LinkMoment}
use Rattle.edr_program.specs.Lines.{feed_said, Tells}
use Rattle.edr.specs.declared.endings.Ending.{Ending}
use Rattle.edr.specs.declared.endings.Ending.TheVariants.{Done, Usage, NotFeed, ReadFault, WriteFault, OutOfMemory, Refused, NoDocument, ConnectFault, OpenFault, NoTable}
use Rattle.edr_import.specs.declared.refusals.TableRefusal.{TableRefusal}
use Rattle.edr_import.specs.declared.refusals.TableRefusal.TheVariants.{NotHeader, BadRecord, BadField, PlaceDiffers, SameSample, NoRecords, TooManyParameters, TooManySamples}
use Rattle.edr.specs.declared.endings.ImportRefusal.{ImportRefusal}
use Rattle.edr.specs.declared.endings.ImportRefusal.TheVariants as imports
use Rattle.edr.specs.declared.endings.DocumentRefusal.{DocumentRefusal}
use Rattle.edr.specs.declared.endings.DocumentRefusal.TheVariants.{TooLong, Cov, BadReply, NotData}
use Rattle.edr.specs.Commands.{Asked}
use Rattle.edr.specs.Helps.{usage}
use Rattle.edr.specs.Meanings.{Meaning, Inputs, Counts}

abbrev pub status_of : Ending → ℕ
status_of Done = 0
status_of Usage = 1
status_of (NotFeed refusal) = 2
status_of ReadFault = 3
status_of WriteFault = 4
status_of OutOfMemory = 5
status_of (Refused refusal) = 6
status_of (NoDocument refusal) = 7
status_of ConnectFault = 8
status_of OpenFault = 9
status_of (NoTable refusal) = 11

-- the name of why no document is read, and the status of a reply
abbrev pub name_of : DocumentRefusal → List ℕ
name_of TooLong = codes "TooLong"
name_of Cov = codes "Cov"
name_of BadReply = codes "BadReply"
name_of (NotData status) = codes "NotData " ++ decimal status

-- the name of why a table makes no feed, and the number of a record
abbrev pub table_name : TableRefusal → List ℕ
table_name NotHeader = codes "NotHeader"
table_name (BadRecord number) = codes "BadRecord record " ++ decimal number
table_name (BadField number column) = codes "BadField record " ++ decimal number
table_name (PlaceDiffers number) = codes "PlaceDiffers record " ++ decimal number
table_name (SameSample number) = codes "SameSample record " ++ decimal number
table_name NoRecords = codes "NoRecords"
table_name (TooManyParameters count) = codes "TooManyParameters"
table_name (TooManySamples count) = codes "TooManySamples"

abbrev pub import_name : ImportRefusal → List ℕ
import_name imports.TooLong = codes "TooLong"
import_name (imports.Refused refusal) = table_name refusal

-- what is said on errors
abbrev pub said_of : Ending → List ℕ
said_of Done = []
said_of Usage = usage
said_of (NotFeed refusal) = feed_said refusal
said_of ReadFault = codes "read fault"
said_of WriteFault = codes "write fault"
said_of OutOfMemory = codes "out of memory"
said_of (Refused refusal) = body_of refusal
said_of (NoDocument refusal) = codes "reply: " ++ name_of refusal
said_of ConnectFault = codes "connect fault"
said_of OpenFault = codes "open fault"
said_of (NoTable refusal) = codes "table: " ++ import_name refusal

-- the line of an ending, with what explains it: none where all was done
abbrev pub line_of : Ending → List ℕ → List ℕ
line_of Done explained = []
line_of ending explained = said_of ending ++ (explained ++ codes "\n")

-- what stands on the output where a read failed: nothing, or a beginning where a command writes before it has read all
abbrev pub ReadFaultLeaves : Bool → (List ℕ → Type 0) → Option (List ℕ) → Option (List ℕ) → Type 0
ReadFaultLeaves false Begun old new = new ≡ old
ReadFaultLeaves true Begun old new = (new ≡ old) ⊎ WrittenInPart Begun old new

-- what stands on the output: a text for which Whole holds, whole and flushed; a beginning of one for which Begun holds; or nothing
abbrev pub OutputEnds : Ending → Bool → (List ℕ → Type 0) → (List ℕ → Type 0) → Option (List ℕ) → Option (List ℕ) → Option ℕ → Type 0
OutputEnds Done early Whole Begun old new flushed = WrittenWhole Whole old new flushed
OutputEnds ReadFault early Whole Begun old new flushed = ReadFaultLeaves early Begun old new
OutputEnds WriteFault early Whole Begun old new flushed = WrittenInPart Begun old new
OutputEnds OutOfMemory early Whole Begun old new flushed = (new ≡ old) ⊎ WrittenInPart Begun old new
OutputEnds ending early Whole Begun old new flushed = new ≡ old

-- the words ask for nothing only where the run ends with the usage line
abbrev pub EndsByWords : Ending → Option Asked → Type 0
EndsByWords ending asked = IsNone asked → ending ≡ Usage

-- so it ends too where the word behind a command is none that it goes by, unless memory is wanting to read it
abbrev pub EndsByArgument : Ending → Meaning → Type 0
EndsByArgument ending meaning = meaning.is_no_word → (ending ≡ Usage) ⊎ (ending ≡ OutOfMemory)

-- the cause of an ending: nothing that can be done is asked for, a count that rose, or what was read
abbrev pub HasCause : Ending → Meaning → Inputs → Counts → Counts → Type 0
HasCause Done meaning given before after = ⊤
HasCause Usage meaning given before after = meaning.is_no_word
HasCause (NotFeed refusal) meaning given before after = meaning.is_no_feed given refusal
HasCause ReadFault meaning given before after = meaning.read_failed before after
HasCause WriteFault meaning given before after = meaning.write_failed before after
HasCause OutOfMemory meaning given before after = ⊤
HasCause (Refused refusal) meaning given before after = meaning.refuses given refusal
HasCause (NoDocument refusal) meaning given before after = meaning.is_no_document given refusal
HasCause ConnectFault meaning given before after = meaning.connect_failed before after
HasCause OpenFault meaning given before after = meaning.open_failed before after
HasCause (NoTable refusal) meaning given before after = meaning.is_no_table given refusal

-- where all was done, the input was read so far
abbrev pub IsReadByEnd : Ending → Type 0 → Type 0
IsReadByEnd Done Far = Far
IsReadByEnd ending Far = ⊤

-- what is so where a read failed
abbrev pub AtReadFault : Ending → Type 0 → Type 0
AtReadFault ReadFault So = So
AtReadFault ending So = ⊤

-- just this more was asked; with want of memory, whose status is 5, that or nothing
abbrev pub Asks : List AskedOf → ℕ → Option (List AskedOf) → Option (List AskedOf) → Type 0
Asks more status before after = (after ≡ option_map (λ asked. asked ++ more) before) ⊎ ((status ≡ 5) × (after ≡ before))

-- an object that the words don't use is as it was; of one that they use more was asked, just what they say
abbrev pub AskedBeside : {T : Type 0} → (T → Aside) → Option (List AskedOf) → ℕ → T → T → Type 0
AskedBeside aside None status old new = new ≡ old
AskedBeside aside (Some more) status old new = Asks more status (aside old).asked (aside new).asked

-- ---- a whole run

-- what is told of the objects at a moment
pub record Moment : Type 0 where
  pub left : Option (List ℕ)  -- what is still to come from the input
  pub written : Option (List ℕ)  -- what is written on the output
  pub flushed : Option ℕ  -- how much of it is flushed
  pub told : Option (List ℕ)  -- what is written on the errors
  pub link : LinkMoment
  pub counts : Counts
  pub errors : ℕ  -- the count of the errors

-- a whole run, by what the words ask for and what it means, over what there is to read; `explained` is said behind its line
pub record Ends (ending : Ending) (explained : List ℕ) (asked : Option Asked) (meaning : Meaning) (given : Inputs) (status : ℕ) (before after : Moment) : Type 0 where
  pub number : status ≡ status_of ending
  pub words : EndsByWords ending asked
  pub argument : EndsByArgument ending meaning
  pub input : meaning.reads given after.left before.written after.written
  pub ended : IsReadByEnd ending (meaning.has_read given after.left)
  pub waits : AtReadFault ending (meaning.waits given after.left before.written after.written after.flushed)
  pub output : OutputEnds ending meaning.is_early (meaning.gives given) (meaning.begins given) before.written after.written after.flushed
  pub cause : HasCause ending meaning given before.counts after.counts
  pub link : meaning.exchanges ending given before.counts.output after.counts.output before.link after.link
  pub explains : meaning.explains ending given explained
  pub line : Tells (line_of ending explained) before.told after.told before.errors after.errors
