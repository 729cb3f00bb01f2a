-- How a run ends: its status, what it says on the errors and on the standard output, and what became of the feed's files, of the doors, of the shelf's places and of the
-- gate. Each table goes by the ending; a last row of any `ending` is that of all which have none of their own.
use Rattle.std.specs.Prelude.{◌≡◌, ◌⊎◌, ℕ, ◌+◌, ◌-◌, min, Bool, true, false, ◌++◌, ⊤, codes, List, [], ◌∷◌, length, take, drop, Ok, Err, IsSome, IsSomeAnd, Some, option_map}
use Rattle.std.specs.declared.option.Option.{Option}
use Rattle.edr_base.specs.Outside.{Aside, Rose}
use Rattle.edr_base.specs.Limits.{count_limit}
use Rattle.edr_edition.specs.Values.{EditionValue}
use Rattle.edr_feed.specs.Feeds.{FeedStandsIn, LeavesBehindIn}
use Rattle.edr_program.specs.FileReads.{IsFileRead}
use Rattle.edr_program.specs.Lines.{feed_said, Tells}
use Rattle.edr_program.specs.Versions.{version_line}
use Rattle.edr_console.specs.Helps.{usage, help}
use Rattle.edr_console.specs.Saying.{OutputState, SaysAll, serving_lines, open_line, bind_line, count_line}
use Rattle.edrd.specs.declared.doors.DoorsAsked.{DoorsAsked}
use Rattle.edr_console.specs.declared.words.Settings.{Settings}
use Rattle.edr_console.specs.declared.words.Asked.{Asked}
use Rattle.edr_console.specs.declared.words.Asked.TheVariants.{Nothing, Help, Version, Serve}
use Rattle.edrd.specs.declared.endings.Ending.{Ending}
use Rattle.edrd.specs.declared.endings.Ending.TheVariants.{Done, Usage, NotFeed, ReadFault, OutOfMemory, OpenFault, BindFault, ShelfFault}

abbrev pub status_of : Ending → ℕ
status_of Done = 0
status_of Usage = 1
status_of (NotFeed refusal) = 2
status_of ReadFault = 3
status_of OutOfMemory = 5
status_of OpenFault = 9
status_of BindFault = 10
status_of ShelfFault = 11

-- what is said on errors
abbrev pub said_of : Ending → List ℕ
said_of Done = []
said_of Usage = usage
said_of (NotFeed refusal) = feed_said refusal
said_of ReadFault = codes "read fault"
said_of OutOfMemory = codes "out of memory"
said_of OpenFault = codes "open fault"
said_of BindFault = codes "bind fault"
said_of ShelfFault = codes "shelf fault"

-- the line of an ending: none where all was done
abbrev pub line_of : Ending → List ℕ
line_of Done = []
line_of ending = said_of ending ++ codes "\n"

-- ---- the objects at a moment

-- what is told of the doors
pub record DoorsState : Type 0 where
  pub last : Option DoorsAsked  -- what the last open with Ok asked for
  pub tried : Option (DoorsAsked × Bool)  -- what the last open asked for, and whether it answered Ok
  pub opens : ℕ
  pub closed : ℕ
  pub faults : ℕ
  pub port : ℕ  -- that the last open with Ok bound
  pub served : ℕ  -- how many connections came through the doors that were closed since
  pub faulted : ℕ  -- how many of them ended with a fault of their session

-- what is told of a gate
pub record GateState : Type 0 where
  pub seconds : ℕ
  pub granted : ℕ
  pub shut : Bool

pub record Moment : Type 0 where
  pub files : Aside
  pub file_faults : ℕ
  pub doors : DoorsState
  pub places : ℕ  -- the count of places that were refused

-- what the words ask of the doors
abbrev pub doors_asked : Settings → DoorsAsked
doors_asked settings = record { port = settings.port; count = settings.workers; connections = settings.connections; idle = settings.idle }

-- ---- by what is asked for

-- the editions of a feed that are served: all, or the last alone
abbrev pub served_of : Bool → List EditionValue → List EditionValue
served_of false editions = editions
served_of true editions = drop (length editions - 1) editions

-- editions were served: so many of them were published, the first, and one at each turn of the gate; the doors that were asked
-- for were opened once and are closed, as many as there were workers; and `lines` say so, how many lines of the feed stand behind its
-- last publish, and how many connections came
pub record AreServed (editions : List EditionValue) (behind : ℕ) (settings : Settings) (before after : DoorsState) (gate ended : GateState)
    (lines : List (List ℕ)) : Type 0 where
  pub opened : after.last ≡ Some (doors_asked settings)
  pub once : after.opens ≡ min (before.opens + 1) count_limit
  pub closed : after.closed ≡ settings.workers
  pub every : ended.seconds ≡ settings.every
  pub published : ℕ
  pub granted : ended.granted + 1 ≡ gate.granted + published
  pub whole : (published ≡ length editions) ⊎ (ended.shut ≡ true)
  pub said : lines ≡ serving_lines after.port behind (take published editions) ++ count_line after.served after.faulted ∷ []

-- the feed's file is a feed of these editions, and they were served
pub record IsServed (settings : Settings) (before after : Moment) (gate ended : GateState) (lines : List (List ℕ)) : Type 0 where
  pub editions : List EditionValue
  pub behind : ℕ
  pub feed : FeedStandsIn (before.files.content settings.feed) (Ok editions)
  pub left : LeavesBehindIn (before.files.content settings.feed) behind
  pub served : AreServed (served_of settings.last editions) behind settings before.doors after.doors gate ended lines

-- where memory was wanting: nothing is said, or the port, the lines behind the last publish, and some of the first editions
pub record IsServing (settings : Settings) (before after : Moment) (lines : List (List ℕ)) : Type 0 where
  pub editions : List EditionValue
  pub behind : ℕ
  pub feed : FeedStandsIn (before.files.content settings.feed) (Ok editions)
  pub left : LeavesBehindIn (before.files.content settings.feed) behind
  pub published : ℕ
  pub said : lines ≡ serving_lines after.doors.port behind (take published (served_of settings.last editions))

-- the cause of an ending, where `lines` are said on the standard output
abbrev pub HasCause : Ending → Settings → Moment → Moment → GateState → Option GateState → List (List ℕ) → Type 0
HasCause Done settings before after gate ended lines = IsSomeAnd ended (λ ended. IsServed settings before after gate ended lines)
HasCause Usage settings before after gate ended lines = ⊥
HasCause (NotFeed refusal) settings before after gate ended lines =
    FeedStandsIn (before.files.content settings.feed) (Err refusal) × (lines ≡ [])
HasCause ReadFault settings before after gate ended lines =
    Rose before.file_faults after.file_faults × (after.files.idle ≡ false) × (lines ≡ [])
HasCause OutOfMemory settings before after gate ended lines = (lines ≡ []) ⊎ IsServing settings before after lines
HasCause OpenFault settings before after gate ended lines =
    Rose before.file_faults after.file_faults × (after.files.idle ≡ true) × (lines ≡ open_line settings.feed ∷ [])
HasCause BindFault settings before after gate ended lines =
    Rose before.doors.faults after.doors.faults × (after.doors.tried ≡ Some (doors_asked settings, false)) × (after.doors.opens ≡ before.doors.opens)
    × (lines ≡ bind_line settings.port ∷ [])
HasCause ShelfFault settings before after gate ended lines = Rose before.places after.places × (lines ≡ [])

-- the same of all that words may ask for: where it is nothing the run ends with the usage line, but for want of memory
abbrev pub EndsBy : Ending → Asked → Moment → Moment → GateState → Option GateState → List (List ℕ) → Type 0
EndsBy ending Nothing before after gate ended lines = ((ending ≡ Usage) ⊎ (ending ≡ OutOfMemory)) × (lines ≡ [])
EndsBy ending Help before after gate ended lines = (ending ≡ Done) × (lines ≡ help ∷ [])
EndsBy ending Version before after gate ended lines = (ending ≡ Done) × (lines ≡ version_line (codes "edrd") ∷ [])
EndsBy ending (Serve settings) before after gate ended lines = HasCause ending settings before after gate ended lines

-- ---- what is left as it was

-- the words or the status say that the run didn't come to the shelf
abbrev pub LeavesPlaces : Asked → ℕ → Type 0
LeavesPlaces (Serve settings) status = (status ≡ 2) ⊎ (status ≡ 3) ⊎ (status ≡ 9)
LeavesPlaces asked status = ⊤

-- they say that it didn't come to the doors
abbrev pub LeavesDoors : Asked → ℕ → Type 0
LeavesDoors asked status = LeavesPlaces asked status ⊎ (status ≡ 11)

-- the gate comes back but for want of memory: as it was, or with the pause that is asked for and nothing granted
abbrev pub GateComesBack : Ending → Asked → GateState → Option GateState → Type 0
GateComesBack Done (Serve settings) gate ended = IsSome ended
GateComesBack OutOfMemory asked gate ended = ⊤
GateComesBack BindFault (Serve settings) gate ended = ended ≡ Some (record gate { seconds = settings.every })
GateComesBack ending asked gate ended = ended ≡ Some gate

-- just the feed's file was asked for; with want of memory, whose status is 5, that or nothing, and where the words don't ask to serve
-- the files are as they were
abbrev pub AsksFeed : {F : Type 0} → (F → Aside) → Asked → ℕ → F → F → Type 0
AsksFeed aside (Serve settings) status old new =
    ((aside new).asked ≡ option_map (λ asked. asked ++ (settings.feed, 0) ∷ []) (aside old).asked)
    ⊎ ((status ≡ 5) × ((aside new).asked ≡ (aside old).asked))
AsksFeed aside asked status old new = new ≡ old

-- ---- how much is read of the feed's file, however the run ends

-- the file that the words name, where they name one; with want of memory that, or the files are as they were
abbrev pub ReadsFeed : {F : Type 0} → (F → Aside) → (F → Option (List ℕ)) → Asked → ℕ → F → F → Type 0
ReadsFeed aside left (Serve settings) status old new =
    IsFileRead (aside new).idle ((aside old).content settings.feed) (left new) ⊎ ((status ≡ 5) × (new ≡ old))
ReadsFeed aside left asked status old new = ⊤

-- ---- a whole run

pub record Ends (ending : Ending) (asked : Asked) (status : ℕ) (before after : Moment) (gate : GateState) (ended : Option GateState)
    (told told' : Option (List ℕ)) (faults faults' : ℕ) (output output' : OutputState) : Type 0 where
  pub number : status ≡ status_of ending
  pub lines : List (List ℕ)
  pub said : SaysAll lines output output'
  pub cause : EndsBy ending asked before after gate ended lines
  pub back : GateComesBack ending asked gate ended
  pub line : Tells (line_of ending) told told' faults faults'
