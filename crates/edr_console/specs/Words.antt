-- What the words after the program's name ask for.
use Rattle.std.specs.Prelude.{ℕ, ◌&&◌, Bool, true, false, if◌then◌else◌, bytes_eq, nat_le, List, [], ◌∷◌, codes, option_and_then, option_map}
use Rattle.std.specs.declared.option.Option.{Option}
use Rattle.std.specs.Prelude.{None, Some}
use Rattle.std.specs.List.{list_all}
use Rattle.std.specs.Str.{is_utf8}
use Rattle.std.specs.Str.Parse.{digits_value}
use Rattle.clap.specs.Words.{App, Kinds, Row, Rule, Text, first_of, new_app, new_rule, with_rule}
use Rattle.clap.specs.Simple.{matches_of}
use Rattle.clap.specs.Faults.{fault_of}
use Rattle.clap.specs.declared.builder.action.ArgAction.TheVariants.{SetTrue}
use Rattle.edr_program.specs.Numbers.{is_number}
use Rattle.edr_console.specs.Limits.{port_limit, worker_limit, default_workers, pause_limit, default_pause, idle_limit, default_idle, request_limit, default_requests, connection_limit, endless}
use Rattle.edr_console.specs.declared.words.Settings.{Settings}
use Rattle.edr_console.specs.declared.words.Asked.{Asked}
use Rattle.edr_console.specs.declared.words.Asked.TheVariants.{Nothing, Help, Version, Serve}

-- ---- the command: one positional argument, the feed, six options of one value each, and a flag

abbrev pub feed_rule : Rule
feed_rule = record (new_rule (codes "feed")) { required = true }

abbrev pub port_rule : Rule
port_rule = record (new_rule (codes "port")) { long = Some (codes "port"); required = true }

abbrev pub option_rule : Text → Rule
option_rule name = record (new_rule name) { long = Some name }

abbrev pub flag_rule : Text → Rule
flag_rule name = record (new_rule name) { long = Some name; action = Some SetTrue }

abbrev pub feed_command : App
feed_command = with_rule (new_app (codes "edrd")) feed_rule

-- the command with what it needs
abbrev pub bare_command : App
bare_command = with_rule feed_command port_rule

-- with how it serves
abbrev pub serving_command : App
serving_command =
    with_rule (with_rule (with_rule bare_command (option_rule (codes "workers"))) (option_rule (codes "every"))) (option_rule (codes "connections"))

abbrev pub command : App
command = with_rule (with_rule (with_rule serving_command (option_rule (codes "idle"))) (option_rule (codes "requests"))) (flag_rule (codes "last"))

-- the words behind the name of the program
abbrev pub all_words : List (List ℕ) → List (List ℕ)
all_words words = codes "edrd" ∷ words

-- ---- what the words ask for

-- a number of digits between two limits
abbrev pub number_within : ℕ → ℕ → List ℕ → Option ℕ
number_within least most word =
    if is_number word && (nat_le least (digits_value 10 word) && nat_le (digits_value 10 word) most) then Some (digits_value 10 word) else None

-- the same of a word that may be left out
abbrev pub number_or : ℕ → ℕ → ℕ → Option (List ℕ) → Option ℕ
number_or other least most None = Some other
number_or other least most (Some word) = number_within least most word

-- whether a flag stands: a parse keeps the text `true` for it then
abbrev pub is_true : Option Text → Bool
is_true None = false
is_true (Some word) = bytes_eq word (codes "true")

-- what is asked for, of what a parse finds
abbrev pub settings_in : List Row → Option Settings
settings_in rows =
    option_and_then (λ f.
    option_and_then (λ p.
    option_and_then (λ w.
    option_and_then (λ e.
    option_and_then (λ c.
    option_and_then (λ i.
    option_map (λ r. record { feed = f; port = p; workers = w; every = e; connections = c; idle = i; requests = r; last = is_true (first_of (codes "last") rows) })
    (number_or default_requests 1 request_limit (first_of (codes "requests") rows)))
    (number_or default_idle 1 idle_limit (first_of (codes "idle") rows)))
    (number_or endless 0 connection_limit (first_of (codes "connections") rows)))
    (number_or default_pause 0 pause_limit (first_of (codes "every") rows)))
    (number_or default_workers 1 worker_limit (first_of (codes "workers") rows)))
    (option_and_then (number_within 0 port_limit) (first_of (codes "port") rows)))
    (first_of (codes "feed") rows)

-- nothing is asked for where a step of the parse fails
abbrev pub unless : Kinds → Option Settings → Option Settings
unless [] settings = settings
unless (kind ∷ kinds) settings = None

-- what texts ask for, the name of the program among them; None where the command doesn't take them, or a number lies outside
-- its limits
abbrev pub asked_of : App → List Text → Option Settings
asked_of app texts = unless (fault_of app texts) (settings_in (matches_of app texts))

-- what the command takes the words for: nothing where one isn't UTF-8
abbrev pub settings_by : List (List ℕ) → Option Settings
settings_by words = if list_all is_utf8 words then asked_of command (all_words words) else None

-- the words are this one alone
abbrev pub is_alone : List ℕ → List (List ℕ) → Bool
is_alone word [] = false
is_alone word (one ∷ []) = bytes_eq one word
is_alone word (one ∷ next ∷ words) = false

abbrev pub to_serve : Option Settings → Asked
to_serve None = Nothing
to_serve (Some settings) = Serve settings

-- what the words ask for
abbrev pub asked_by : List (List ℕ) → Asked
asked_by words =
    if is_alone (codes "--help") words then Help
    else if is_alone (codes "--version") words then Version
    else to_serve (settings_by words)
