-- The words behind commands, and what the line of an ending names; for private clauses.
use Rattle.std.specs.Prelude.{◌≡◌, ℕ, List, ◌++◌, IsUtf8, ⊤, None, Some}
use Rattle.std.specs.declared.option.Option.{Option}
use Rattle.std.specs.Fmt.{decimal}
use Rattle.edr_feed.specs.declared.refusals.FeedRefusal.{FeedRefusal}
use Rattle.edr.specs.declared.endings.Ending.{Ending}
use Rattle.edr.specs.declared.endings.Ending.TheVariants.{NotFeed}
use Rattle.edr.specs.declared.commands.Command.{Command}
use Rattle.edr.specs.declared.commands.Command.TheVariants.{Replay}

-- the word behind a command that names a file is UTF-8
abbrev pub IsNamed : Command → List ℕ → Type 0
IsNamed (Replay advances) feed = IsUtf8 feed
IsNamed command argument = ⊤

-- the refusal of a feed that an ending names
abbrev pub feed_in : Ending → Option FeedRefusal
feed_in (NotFeed refusal) = Some refusal
feed_in ending = None

-- a text and a number behind it, where there is one, are what is said
abbrev pub Says : List ℕ → Option ℕ → List ℕ → Type 0
Says text None said = text ≡ said
Says text (Some number) said = text ++ decimal number ≡ said
