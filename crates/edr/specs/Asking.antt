-- How a target is answered; for private clauses.
use Rattle.std.specs.Prelude.{ℕ, Bool, true, false, List, ⊤, Result, Err}
use Rattle.std.specs.declared.option.Option.{Option}
use Rattle.edr_base.specs.Outside.{Rose}
use Rattle.edr_base.specs.declared.refusals.Refusal.{Refusal}
use Rattle.edr_feed.specs.Feeds.{FeedStandsIn}
use Rattle.edr.specs.declared.endings.Ending.{Ending}
use Rattle.edr.specs.declared.endings.Ending.TheVariants.{Done, NotFeed, ReadFault, WriteFault, OutOfMemory, Refused}
use Rattle.edr_edition.specs.Values.{EditionValue}
use Rattle.edr_describe.specs.Answers.{IsAnswerTo}
use Rattle.edr_export.specs.Exports.{IsTableTo}
use Rattle.edr.specs.Outputs.{IsAnswerFrom}

-- the cause of an ending where a target is answered: the refusal of the target, or a count that rose
abbrev pub AnswerCause : Ending → (Result (List ℕ) Refusal → Type 0) → ℕ → ℕ → Type 0
AnswerCause Done IsThe before after = ⊤
AnswerCause WriteFault IsThe before after = Rose before after
AnswerCause OutOfMemory IsThe before after = ⊤
AnswerCause (Refused refusal) IsThe before after = IsThe (Err refusal)
AnswerCause ending IsThe before after = ⊥

-- what is answered: the answer itself, or the table of its values
abbrev pub AnswersAs : Bool → EditionValue → List ℕ → Result (List ℕ) Refusal → Type 0
AnswersAs false edition target answer = IsAnswerTo edition target answer
AnswersAs true edition target answer = IsTableTo edition target answer

-- the same where the feed is read before: the input is no feed, or a count rose
abbrev pub AskCause : Ending → Bool → List ℕ → Option (List ℕ) → ℕ → ℕ → ℕ → ℕ → Type 0
AskCause Done as_table target input read_before read_after written_before written_after = ⊤
AskCause (NotFeed refusal) as_table target input read_before read_after written_before written_after = FeedStandsIn input (Err refusal)
AskCause ReadFault as_table target input read_before read_after written_before written_after = Rose read_before read_after
AskCause WriteFault as_table target input read_before read_after written_before written_after = Rose written_before written_after
AskCause OutOfMemory as_table target input read_before read_after written_before written_after = ⊤
AskCause (Refused refusal) as_table target input read_before read_after written_before written_after = IsAnswerFrom (AnswersAs as_table) input target (Err refusal)
AskCause ending as_table target input read_before read_after written_before written_after = ⊥
