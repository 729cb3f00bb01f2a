-- What the words ask for.
use Rattle.std.specs.Prelude.{ℕ, bytes_eq, codes, false, true, if◌then◌else◌, ◌&&◌, List, [], ◌∷◌, None, Some, option_map}
use Rattle.std.specs.declared.option.Option.{Option}
use Rattle.std.specs.Str.{is_utf8}
use Rattle.std.specs.Str.Parse.{digits_value}
use Rattle.edr_program.specs.Numbers.{is_number}
use Rattle.edr.specs.declared.commands.Command.{Command}
use Rattle.edr.specs.declared.commands.Command.TheVariants.{Ask, Replay, Check, Make, Work, Show, Fetch, Import, Export, Help, Version}

-- a command, and the word behind it that it goes by, where it has one
pub record Asked : Type 0 where
  pub command : Command
  pub argument : List ℕ

abbrev pub asks : Command → List ℕ → Option Asked
asks command argument = Some (record { command = command; argument = argument })

-- the command that a word asks for with a number behind it
abbrev pub numbered : List ℕ → List ℕ → Option Command
numbered word next =
    if is_number next then (
    if bytes_eq word (codes "make") then Some (Make (digits_value 10 next))
    else if bytes_eq word (codes "work") then Some (Work (digits_value 10 next))
    else None)
    else None

-- what the words ask for, and None where they are none of the commands'
abbrev pub asked_by : List (List ℕ) → Option Asked
asked_by [] = None
asked_by (word ∷ []) =
    if bytes_eq word (codes "check") then asks (Check false false) []
    else if bytes_eq word (codes "show") then asks (Show false) []
    else if bytes_eq word (codes "import") then asks Import []
    else if bytes_eq word (codes "--help") then asks Help []
    else if bytes_eq word (codes "--version") then asks Version []
    else None
asked_by (word ∷ next ∷ []) =
    if bytes_eq word (codes "ask") then asks Ask next
    else if bytes_eq word (codes "replay") && is_utf8 next then asks (Replay false) next
    else if bytes_eq word (codes "check") && bytes_eq next (codes "--summary") then asks (Check true false) []
    else if bytes_eq word (codes "check") && bytes_eq next (codes "--why") then asks (Check false true) []
    else if bytes_eq word (codes "show") && bytes_eq next (codes "--why") then asks (Show true) []
    else if bytes_eq word (codes "fetch") then asks (Fetch false) next
    else if bytes_eq word (codes "export") then asks Export next
    else option_map (λ command. record { command = command; argument = [] }) (numbered word next)
asked_by (word ∷ next ∷ more ∷ []) =
    if bytes_eq word (codes "replay") && is_utf8 next && bytes_eq more (codes "--advance") then asks (Replay true) next
    else if bytes_eq word (codes "check") && bytes_eq next (codes "--summary") && bytes_eq more (codes "--why") then asks (Check true true) []
    else if bytes_eq word (codes "fetch") && bytes_eq more (codes "--why") then asks (Fetch true) next
    else None
asked_by (word ∷ next ∷ more ∷ other ∷ words) = None
