-- The line of an ending.
use Rattle.std.proofs.Common.{◌≡◌, ◌≢◌, ℕ, ◌≤◌, List, ◌++◌, codes, refl, sym, ap, ◌∙◌, append_assoc, Err, Some, IsErrOf, arith}
use Rattle.std.specs.declared.option.Option.{Option}
use Rattle.std.specs.Io.KnownBytes.{append_known}
use Rattle.edr_base.specs.Outside.{Rose}
use Rattle.edr_base.specs.Calls.{Front}
use Rattle.edr_base.specs.KnownBytes.{writes_on, writes_stop}
use Rattle.edr_base.specs.declared.sending.SendFault.{SendFault}
use Rattle.edr_base.specs.declared.sending.SendFault.TheVariants as sends
use Rattle.edr_program.specs.Lines.{Tells}
use Rattle.edr.specs.declared.endings.Ending.{Ending}
use Rattle.edr.specs.declared.endings.Ending.TheVariants.{Done, Usage, NotFeed, ReadFault, WriteFault, OutOfMemory, Refused, NoDocument, ConnectFault, OpenFault, NoTable}
use Rattle.edr_feed.specs.declared.refusals.FeedRefusal.{FeedRefusal}
use Rattle.edr.specs.Ends.{said_of, line_of}
use Rattle.edr.specs.Naming.{feed_in}

-- but for Done, the line is what is said, what explains it, and a line feed
pub line_of-said : (ending : Ending) (explained : List ℕ) → ending ≢ Done → line_of ending explained ≡ said_of ending ++ (explained ++ codes "\n")
line_of-said Done explained other = absurd (other refl)
line_of-said Usage explained other = refl
line_of-said (NotFeed refusal) explained other = refl
line_of-said ReadFault explained other = refl
line_of-said WriteFault explained other = refl
line_of-said OutOfMemory explained other = refl
line_of-said (Refused refusal) explained other = refl
line_of-said (NoDocument refusal) explained other = refl
line_of-said ConnectFault explained other = refl
line_of-said OpenFault explained other = refl
line_of-said (NoTable refusal) explained other = refl

-- what is said, cut before the line of the feed that it names
pub line_is : (front place said rest : List ℕ) → front ++ place ≡ said → front ++ (place ++ rest) ≡ said ++ rest
line_is front place said rest same = sym (append_assoc front place rest) ∙ ap (λ list. list ++ rest) same

-- only where a feed is refused is its refusal named
pub feed_named : (ending : Ending) (refusal : FeedRefusal) → feed_in ending ≡ Some refusal → ending ≡ NotFeed refusal
feed_named Done refusal e = absurd cc
feed_named Usage refusal e = absurd cc
feed_named (NotFeed found) refusal e = cc
feed_named ReadFault refusal e = absurd cc
feed_named WriteFault refusal e = absurd cc
feed_named OutOfMemory refusal e = absurd cc
feed_named (Refused found) refusal e = absurd cc
feed_named (NoDocument found) refusal e = absurd cc
feed_named ConnectFault refusal e = absurd cc
feed_named OpenFault refusal e = absurd cc
feed_named (NoTable found) refusal e = absurd cc

-- the first part of a line wasn't written whole
pub told_stop : (fault : SendFault) (front rest : List ℕ) (old new : Option (List ℕ)) (before after : ℕ) → Front front old new
    → (IsErrOf {T = Unit {0}} (Err fault) sends.WriteFault → Rose before after) → Tells (front ++ rest) old new before after
told_stop fault front rest old new before after part cause =
    record { outcome = Err fault; writes = writes_stop Unit fault old new front rest part; cause = cause }

-- it was, and the rest is told
pub told_on : (front rest : List ℕ) (old mid new : Option (List ℕ)) (before between after : ℕ) → mid ≡ append_known old front → before ≤ between
    → Tells rest mid new between after → Tells (front ++ rest) old new before after
told_on front rest old mid new before between after whole later told = record {
  outcome = told.outcome;
  writes = writes_on told.outcome old mid new front rest whole told.writes;
  cause = λ e. let rose = told.cause e in omega (arith, later, rose);
}
