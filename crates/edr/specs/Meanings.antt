-- What each command does: one record for each, with what it reads, writes and asks for, and how it can end. One more command is one
-- more record, and a row of `meaning_of`.
use Rattle.std.specs.Prelude.{◌≡◌, ◌⊎◌, ℕ, ◌+◌, Bool, true, false, codes, List, [], ◌∷◌, IsNone, ⊤, Result, Ok, Err, None, Some, option_map, IfSome}
use Rattle.std.specs.declared.option.Option.{Option}
use Rattle.std.specs.Io.KnownBytes.{IsAtEnd}
use Rattle.edr_base.specs.declared.refusals.Refusal.{Refusal}
use Rattle.edr_base.specs.Outside.{Asked as AskedOf, Rose}
use Rattle.edr_base.specs.Limits.{feed_limit}
use Rattle.edr_base.specs.Calls.{ReadsAtMost, buffer_size}
use Rattle.edr_feed.specs.Feeds.{FeedStandsIn}
use Rattle.edr_feed.specs.declared.refusals.FeedRefusal.{FeedRefusal}
use Rattle.edr_edition.specs.Values.{EditionValue}
use Rattle.edr_describe.specs.Answers.{IsAnswerTo}
use Rattle.edr_export.specs.Exports.{IsTableTo}
use Rattle.edr_make.specs.Made.{made}
use Rattle.edr_work.specs.Working.{IsWork, IsMadeNoFeed, IsWorkRefused}
use Rattle.edr_reply.specs.Messages.{body_limit}
use Rattle.edr_fetch.specs.Requests.{request_of, request_text}
use Rattle.edr_fetch.specs.Exchanges.{LinkMoment}
use Rattle.edr_program.specs.FileReads.{IsFileRead}
use Rattle.edr_program.specs.Versions.{version_line}
use Rattle.edr.specs.declared.commands.Command.{Command}
use Rattle.edr.specs.declared.commands.Command.TheVariants.{Ask, Replay, Check, Make, Work, Show, Fetch, Import, Export, Help, Version}
use Rattle.edr.specs.declared.endings.Ending.{Ending}
use Rattle.edr_import.specs.Limits.{table_limit}
use Rattle.edr.specs.Tables.{IsFeedOfTable, IsNoTableIn}
use Rattle.edr.specs.declared.endings.ImportRefusal.{ImportRefusal}
use Rattle.edr.specs.declared.endings.DocumentRefusal.{DocumentRefusal}
use Rattle.edr.specs.Commands.{Asked}
use Rattle.edr.specs.Helps.{help}
use Rattle.edr.specs.Outputs.{IsTextOfFeed, told, IsAnswerFrom}
use Rattle.edr.specs.Replays.{IsReplayOf, IsReplayBegun, ReplayReads, ReplayWaits, IsServed}
use Rattle.edr.specs.Documents.{IsTableIn, IsNoDocumentIn, IsTableHeard, IsTableBegun, IsNoReplyHeard}
use Rattle.edr.specs.Links.{peer_of, LinkEnds}
use Rattle.edr.specs.Explaining.{IfAsked, ExplainsFeed, ExplainsDocument, ExplainsReply}

-- what there is to read, where it is told
pub record Inputs : Type 0 where
  pub input : Option (List ℕ)  -- what the input holds
  pub content : List ℕ → Option (List ℕ)  -- what the files hold, by their names
  pub incoming : Option (List ℕ)  -- what the peer of the link gives

-- the counts of faults of the objects, whether no file is open, and whether no peer is connected
pub record Counts : Type 0 where
  pub input : ℕ
  pub output : ℕ
  pub files : ℕ
  pub link : ℕ
  pub closed : Bool
  pub unconnected : Bool

-- what a command does. `left` is what it leaves of the input; `old` and `new` are what is written on the output before and after
pub record Meaning : Type 1 where
  pub is_no_word : Type 0  -- the word behind the command is none that it goes by
  -- what it writes
  pub gives : Inputs → List ℕ → Type 0  -- the text that is asked for
  pub begins : Inputs → List ℕ → Type 0  -- the text of which a beginning is written where a fault comes
  pub is_early : Bool  -- whether it writes before it has read all
  -- what it takes of the input
  pub takes_input : Bool  -- whether it takes anything
  pub reads : Inputs → (left old new : Option (List ℕ)) → Type 0  -- however it ends
  pub has_read : Inputs → (left : Option (List ℕ)) → Type 0  -- where all was done
  pub waits : Inputs → (left old new : Option (List ℕ)) (flushed : Option ℕ) → Type 0  -- where a read failed
  pub leaves : (status : ℕ) → Type 0  -- with this status it came neither to its input nor to its output
  -- what it asks of the files and of the link, and None where it doesn't touch them
  pub files : Option (List AskedOf)
  pub file : Inputs → (closed : Bool) (left : Option (List ℕ)) → Type 0  -- how its file is left, however it ends
  pub link : Option (List AskedOf)
  pub exchanges : Ending → Inputs → (output output' : ℕ) (before after : LinkMoment) → Type 0  -- how the link is left
  -- why it ends: a count that rose, or what was read
  pub read_failed : (before after : Counts) → Type 0
  pub write_failed : (before after : Counts) → Type 0
  pub open_failed : (before after : Counts) → Type 0
  pub connect_failed : (before after : Counts) → Type 0
  pub is_no_feed : Inputs → FeedRefusal → Type 0
  pub refuses : Inputs → Refusal → Type 0
  pub is_no_document : Inputs → DocumentRefusal → Type 0
  pub is_no_table : Inputs → ImportRefusal → Type 0
  pub explains : Ending → Inputs → (text : List ℕ) → Type 0  -- what is said behind the line of an ending

-- words that ask for nothing: nothing is read or written, and nothing fails
abbrev pub nothing : Meaning
nothing = record {
  is_no_word = ⊤;
  gives = λ given text. ⊥;
  begins = λ given text. ⊥;
  is_early = false;
  takes_input = false;
  reads = λ given left old new. left ≡ given.input;
  has_read = λ given left. ⊤;
  waits = λ given left old new flushed. ⊤;
  leaves = λ status. ⊤;
  files = None;
  file = λ given closed left. ⊤;
  link = None;
  exchanges = λ ending given output output' before after. ⊤;
  read_failed = λ before after. ⊥;
  write_failed = λ before after. ⊥;
  open_failed = λ before after. ⊥;
  connect_failed = λ before after. ⊥;
  is_no_feed = λ given refusal. ⊥;
  refuses = λ given refusal. ⊥;
  is_no_document = λ given refusal. ⊥;
  is_no_table = λ given refusal. ⊥;
  explains = λ ending given text. text ≡ [];
}

-- a command that writes a text, and reads nothing
abbrev pub writing : (Inputs → List ℕ → Type 0) → Meaning
writing Gives = record nothing {
  is_no_word = ⊥;
  gives = Gives;
  begins = Gives;
  has_read = λ given left. left ≡ given.input;
  leaves = λ status. ⊥;
  write_failed = λ before after. Rose before.output after.output;
}

-- one that reads the input to its end: at most so much of it, and what a read may have taken beside
abbrev pub reading : ℕ → (Inputs → List ℕ → Type 0) → Meaning
reading most Gives = record (writing Gives) {
  takes_input = true;
  reads = λ given left old new. ReadsAtMost (most + buffer_size) given.input left;
  has_read = λ given left. IsAtEnd left;
  read_failed = λ before after. Rose before.input after.input;
}

-- one that reads a feed
abbrev pub of_feed : (Inputs → List ℕ → Type 0) → Meaning
of_feed Gives = record (reading feed_limit Gives) { is_no_feed = λ given refusal. FeedStandsIn given.input (Err refusal) }

-- one that writes what the last edition of the feed answers to a target, as IsThe says
abbrev pub answering : (EditionValue → List ℕ → Result (List ℕ) Refusal → Type 0) → List ℕ → Meaning
answering IsThe target = record (of_feed (λ given text. IsAnswerFrom IsThe given.input target (Ok text))) {
  refuses = λ given refusal. IsAnswerFrom IsThe given.input target (Err refusal);
}

-- a file was opened, and a read of it failed
abbrev pub FileFailed : Counts → Counts → Type 0
FileFailed before after = Rose before.files after.files × (after.closed ≡ false)

-- a peer was connected to, and a read or a write failed
abbrev pub LinkFailed : Counts → Counts → Type 0
LinkFailed before after = Rose before.link after.link × (after.unconnected ≡ false)

-- one that serves the input as a connection, from the feed in the file of a name: it comes to its input once that is read
abbrev pub replaying : Bool → List ℕ → Meaning
replaying advances feed = record (writing (λ given. IsReplayOf advances (given.content feed) given.input)) {
  begins = λ given. IsReplayBegun advances (given.content feed) given.input;
  is_early = true;
  takes_input = true;
  reads = λ given. ReplayReads advances (given.content feed) given.input;
  has_read = λ given. IsServed given.input;
  waits = λ given. ReplayWaits advances (given.content feed) given.input;
  leaves = λ status. (status ≡ 2) ⊎ (status ≡ 9);
  files = Some ((feed, 0) ∷ []);
  file = λ given closed left. IsFileRead closed (given.content feed) left;
  read_failed = λ before after. Rose before.input after.input ⊎ FileFailed before after;
  open_failed = λ before after. Rose before.files after.files × (after.closed ≡ true);
  is_no_feed = λ given refusal. FeedStandsIn (given.content feed) (Err refusal);
}

-- one that asks the server that a URL names: it comes to its output once a reply of data was read
abbrev pub fetching : Bool → List ℕ → Meaning
fetching why url = record (writing (λ given. IsTableHeard given.incoming)) {
  is_no_word = IsNone (request_of url);
  begins = λ given. IsTableBegun given.incoming;
  leaves = λ status. (status ≡ 1) ⊎ (status ≡ 3) ⊎ (status ≡ 7) ⊎ (status ≡ 8);
  link = option_map peer_of (request_of url);
  exchanges = λ ending given output output' before after.
      IfSome (request_of url) (λ request. LinkEnds ending (request_text request) given.incoming output output' before after);
  read_failed = LinkFailed;
  write_failed = λ before after. Rose before.output after.output ⊎ LinkFailed before after;
  connect_failed = λ before after. Rose before.link after.link × (after.unconnected ≡ true);
  is_no_document = λ given. IsNoReplyHeard given.incoming;
  explains = λ ending given. IfAsked why (ExplainsReply ending given.incoming);
}

-- what a command does, with the word behind it
abbrev pub meaning_of : Command → List ℕ → Meaning
meaning_of Ask target = answering IsAnswerTo target
meaning_of (Replay advances) feed = replaying advances feed
meaning_of (Check summary why) argument =
    record (of_feed (λ given. IsTextOfFeed (told summary) given.input)) { explains = λ ending given. IfAsked why (ExplainsFeed ending given.input) }
meaning_of (Make number) argument = writing (λ given text. text ≡ made number)
meaning_of (Work number) argument =
    record (writing (λ given. IsWork number)) { is_no_feed = λ given. IsMadeNoFeed number; refuses = λ given. IsWorkRefused number }
meaning_of (Show why) argument = record (reading body_limit (λ given. IsTableIn given.input)) {
  is_no_document = λ given. IsNoDocumentIn given.input;
  explains = λ ending given. IfAsked why (ExplainsDocument ending given.input);
}
meaning_of (Fetch why) url = fetching why url
meaning_of Import argument = record (reading table_limit (λ given. IsFeedOfTable given.input)) { is_no_table = λ given. IsNoTableIn given.input }
meaning_of Export target = answering IsTableTo target
meaning_of Help argument = writing (λ given text. text ≡ help)
meaning_of Version argument = writing (λ given text. text ≡ version_line (codes "edr"))

-- what is asked for by words
abbrev pub meaning_by : Option Asked → Meaning
meaning_by None = nothing
meaning_by (Some asked) = meaning_of asked.command asked.argument
