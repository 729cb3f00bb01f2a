-- How much is read of a feed's file, however a run ends.
use Rattle.std.specs.Prelude.{ℕ, ◌+◌, Bool, true, false, List, Some, IfSome}
use Rattle.std.specs.declared.option.Option.{Option}
use Rattle.std.specs.Io.KnownBytes.{IsAtEnd}
use Rattle.edr_base.specs.Limits.{feed_limit}
use Rattle.edr_base.specs.Calls.{ReadsAtMost, buffer_size}

-- whether no file is open, what the file of the feed's name holds, and what is left to read: where it is open no more than so much was
-- read of what it holds, where that is told; else nothing is left to read
abbrev pub IsFileRead : Bool → Option (List ℕ) → Option (List ℕ) → Type 0
IsFileRead true content left = IsAtEnd left
IsFileRead false content left = IfSome content (λ bytes. ReadsAtMost (feed_limit + buffer_size) (Some bytes) left)
