-- What is written of an answer.
use Rattle.std.proofs.Common.{inl, inr, ℕ, false, List}
use Rattle.std.specs.declared.option.Option.{Option}
use Rattle.edr.specs.declared.endings.Ending.{Ending}
use Rattle.edr.specs.declared.endings.Ending.TheVariants.{Done, Usage, NotFeed, ReadFault, WriteFault, OutOfMemory, Refused, NoDocument, ConnectFault, OpenFault, NoTable}
use Rattle.edr.specs.Ends.{OutputEnds}

-- what is written is also a text of another kind, and what is begun one of a third
pub ends_as : (ending : Ending) (P Q R : List ℕ → Type 0) (old new : Option (List ℕ)) (flushed : Option ℕ)
    → ((text : List ℕ) → P text → Q text) → ((text : List ℕ) → P text → R text) → OutputEnds ending false P P old new flushed → OutputEnds ending false Q R old new flushed
ends_as Done P Q R old new flushed h k o = record { text = o.text; is = h o.text o.is; grew = o.grew; settled = o.settled }
ends_as Usage P Q R old new flushed h k o = o
ends_as (NotFeed refusal) P Q R old new flushed h k o = o
ends_as ReadFault P Q R old new flushed h k o = o
ends_as WriteFault P Q R old new flushed h k o = record { text = o.text; is = k o.text o.is; front = o.front }
ends_as OutOfMemory P Q R old new flushed h k (inl e) = inl e
ends_as OutOfMemory P Q R old new flushed h k (inr o) = inr (record { text = o.text; is = k o.text o.is; front = o.front })
ends_as (Refused refusal) P Q R old new flushed h k o = o
ends_as (NoDocument refusal) P Q R old new flushed h k o = o
ends_as ConnectFault P Q R old new flushed h k o = o
ends_as OpenFault P Q R old new flushed h k o = o
ends_as (NoTable refusal) P Q R old new flushed h k o = o

pub ends_with : (ending : Ending) (P Q : List ℕ → Type 0) (old new : Option (List ℕ)) (flushed : Option ℕ)
    → ((text : List ℕ) → P text → Q text) → OutputEnds ending false P P old new flushed → OutputEnds ending false Q Q old new flushed
ends_with ending P Q old new flushed h o = ends_as ending P Q Q old new flushed h h o
