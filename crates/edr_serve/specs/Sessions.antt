-- What serving the requests of a connection does.
use Rattle.std.specs.Prelude.{◌≡◌, ◌≢◌, ◌⊎◌, ℕ, ◌-◌, ◌≤◌, ◌==◌, if◌then◌else◌, List, [], ◌∷◌, ◌++◌, length, map, All, Option, None, Some, option_map, option_to_list, IfSome}
use Rattle.std.specs.Io.KnownBytes.{append_known}
use Rattle.edr_base.specs.Calls.{Front}
use Rattle.edr_edition.specs.Values.{EditionValue}
use Rattle.edr_http.specs.declared.heads.Head.{Head}
use Rattle.edr_http.specs.Heads.{Told, HeadOf, HasNoHead, block_size, most_held}
use Rattle.edr_edition.specs.Shelves.{BeginsSeen, EndsWith, TakenGrew}
use Rattle.edr_serve.specs.declared.ends.End.{End}
use Rattle.edr_serve.specs.declared.ends.End.TheVariants.{EndOfInput, ClosedByPeer, ClosedByRefusal, RequestLimit}
use Rattle.edr_serve.specs.declared.reports.OneReport.{OneReport}
use Rattle.edr_serve.specs.declared.reports.SessionReport.{SessionReport}
use Rattle.edr_serve.specs.Requests.{Request, IsFirstRequest, AreFirst, Requests, Begun, session_end}
use Rattle.edr_serve.specs.Replies.{readers, number_of, output, opened}

-- what answering changes: the bytes that are written, the editions seen, and the numbers of those taken
pub record State : Type 0 where
  pub written : Option (List ℕ)
  pub seen : List EditionValue
  pub taken : Option (List ℕ)

abbrev pub state : Option (List ℕ) → List EditionValue → Option (List ℕ) → State
state written seen taken = record { written = written; seen = seen; taken = taken }

-- ---- editions

-- editions were taken one after another, each the last that was seen then
abbrev pub Uses : List EditionValue → List EditionValue → List EditionValue → Type 0
Uses before [] after = BeginsSeen before after
Uses before (edition ∷ editions) after =
    (between : List EditionValue) × BeginsSeen before between × EndsWith between edition × Uses between editions after

-- the number of the last edition; 0 where there is none
abbrev pub last_number : List EditionValue → ℕ
last_number [] = 0
last_number (edition ∷ []) = edition.number
last_number (edition ∷ editions) = last_number editions

-- numbers that don't fall, from one to another
abbrev pub NeverFall : ℕ → List ℕ → ℕ → Type 0
NeverFall least [] greatest = least ≤ greatest
NeverFall least (number ∷ numbers) greatest = (least ≤ number) × NeverFall number numbers greatest

-- ---- answering some requests

-- they were answered, from these editions
pub record Answered (requests : List Request) (before after : State) (editions : List EditionValue) (numbers : List ℕ) (chunks : List (List ℕ)) : Type 0 where
  pub full : length editions ≡ readers requests
  pub bytes : after.written ≡ append_known before.written (output requests editions)
  pub chunks_are : chunks ≡ opened requests editions
  pub numbers_are : numbers ≡ map number_of editions
  pub uses : Uses before.seen editions after.seen
  pub order : NeverFall (last_number before.seen) numbers (last_number after.seen)
  pub taken : TakenGrew before.taken after.taken numbers

-- a beginning of their replies was written, from no more editions than they read
pub record BrokeOff (requests : List Request) (before after : State) : Type 0 where
  pub editions : List EditionValue
  pub few : length editions ≤ readers requests
  pub bytes : Front (output requests editions) before.written after.written
  pub uses : Uses before.seen editions after.seen
  pub order : NeverFall (last_number before.seen) (map number_of editions) (last_number after.seen)
  pub taken : TakenGrew before.taken after.taken (map number_of editions)

-- ---- a session of so many turns at most; `rest` is what is still to come, and `left` what the source still has of it when the
-- session is over

-- so much is read at most behind the requests of a session that ends so, or goes on: nothing at the end of the input, less than
-- one block behind a head, and less than a head and one block where there is no head
abbrev pub most_behind : Option End → ℕ
most_behind None = block_size - 1
most_behind (Some EndOfInput) = 0
most_behind (Some ClosedByPeer) = block_size - 1
most_behind (Some (ClosedByRefusal number)) = if number == 1 then most_held 0 else block_size - 1
most_behind (Some RequestLimit) = block_size - 1

-- no more bytes than so many
abbrev pub AtMost : ℕ → List ℕ → Type 0
AtMost most held = length held ≤ most

-- these requests were read, and behind them some bytes that are so: what the source still has follows those
pub record ReadsAhead (IsSo : List ℕ → Type 0) (turns : ℕ) (requests : List Request) (bytes left : List ℕ) : Type 0 where
  pub held : List ℕ
  pub read : AreFirst turns bytes requests (held ++ left)
  pub is : IsSo held

-- all requests of the rest were answered
pub record Session (turns : ℕ) (rest left : Option (List ℕ)) (before after : State) (report : SessionReport) : Type 0 where
  pub requests : List Request
  pub all : IfSome rest (λ bytes. Requests turns bytes requests)
  pub ahead : Told (λ bytes others. ReadsAhead (AtMost (most_behind (Some report.end))) turns requests bytes others) rest left
  pub editions : List EditionValue
  pub answered : Answered requests before after editions report.editions report.reads
  pub count : report.requests ≡ length requests
  pub end : report.end ≡ session_end requests

-- a fault came: some of them were answered, and behind those one was begun, or none
pub record Broken (turns : ℕ) (rest left : Option (List ℕ)) (before after : State) : Type 0 where
  pub requests : List Request
  pub last : List Request
  pub one : length last ≤ 1
  pub begun : IfSome rest (λ bytes. Begun turns bytes (requests ++ last))
  pub ahead : Told (λ bytes others. ReadsAhead (AtMost (most_held 0)) turns requests bytes others) rest left
  pub editions : List EditionValue
  pub between : State
  pub answered : Answered requests before between editions (map number_of editions) (opened requests editions)
  pub broke_off : BrokeOff last between after

-- a read failed: all requests that had come were answered, none of them ends the session, and no head was read behind them
pub record Waits (turns : ℕ) (rest left : Option (List ℕ)) (before after : State) : Type 0 where
  pub requests : List Request
  pub begun : IfSome rest (λ bytes. Begun turns bytes requests)
  pub open_ : session_end requests ≡ EndOfInput
  pub ahead : Told (λ bytes others. ReadsAhead (λ held. AtMost (most_held 0) held × HasNoHead held) turns requests bytes others) rest left
  pub editions : List EditionValue
  pub answered : Answered requests before after editions (map number_of editions) (opened requests editions)

-- ---- one request, which has so many turns left

-- the head at the front of the rest was taken
abbrev pub TakesHead : Option (List ℕ) → Option (List ℕ) → Type 0
TakesHead rest behind = Told (λ bytes others. (head : Head) × HeadOf bytes head others) rest behind

-- a fault came after it was begun, or before
pub record BrokenAtOne (turns : ℕ) (rest : Option (List ℕ)) (before after : State) : Type 0 where
  pub requests : List Request
  pub one : length requests ≤ 1
  pub begun : IfSome rest (λ bytes. Begun turns bytes requests)
  pub broke_off : BrokeOff requests before after

-- the chunks that a report of one request tells, as those of a session: a list where an edition was taken
abbrev pub chunks_in : OneReport → List (List ℕ)
chunks_in report = option_to_list (option_map (λ (number : ℕ). report.reads) report.edition)

-- it was answered, from the edition that is seen last now, where it reads one
pub record IsReplied (request : Request) (before after : State) (report : OneReport) : Type 0 where
  pub editions : List EditionValue
  pub answered : Answered (request ∷ []) before after editions (option_to_list report.edition) (chunks_in report)
  pub newest : All (EndsWith after.seen) editions
  pub unread : report.edition ≡ None → report.reads ≡ []
  pub end : report.end ≡ request.end

-- it was the first of the rest, and what is behind it is still to come
pub record Exchanged (turns : ℕ) (rest behind : Option (List ℕ)) (before after : State) (report : OneReport) : Type 0 where
  pub request : Request
  pub first : Told (λ bytes others. IsFirstRequest turns bytes request others) rest behind
  pub replied : IsReplied request before after report
  pub ends : report.end ≢ Some EndOfInput

-- the rest was empty, and nothing was done
pub record Nothing (rest behind : Option (List ℕ)) (before after : State) (report : OneReport) : Type 0 where
  pub at_end : Told (λ bytes others. (bytes ≡ []) × (others ≡ [])) rest behind
  pub same : after ≡ before
  pub report_is : report ≡ record { edition = None; reads = []; end = Some EndOfInput }

abbrev pub Served : ℕ → Option (List ℕ) → Option (List ℕ) → State → State → OneReport → Type 0
Served turns rest behind before after report = Nothing rest behind before after report ⊎ Exchanged turns rest behind before after report
