-- What is so of all that words ask for, by which the daemon is proved.
use Rattle.std.specs.Prelude.{◌≤◌, ⊤, IsUtf8}
use Rattle.edr_console.specs.Limits.{request_limit, worker_limit}
use Rattle.edr_console.specs.declared.words.Settings.{Settings}
use Rattle.edr_console.specs.declared.words.Asked.{Asked}
use Rattle.edr_console.specs.declared.words.Asked.TheVariants.{Nothing, Help, Version, Serve}

pub record IsWithin (settings : Settings) : Type 0 where
  pub some : 1 ≤ settings.workers
  pub few : settings.workers ≤ worker_limit
  pub asked : 1 ≤ settings.requests
  pub bounded : settings.requests ≤ request_limit
  pub named : IsUtf8 settings.feed

abbrev pub AreWithin : Asked → Type 0
AreWithin (Serve settings) = IsWithin settings
AreWithin asked = ⊤

-- what is asked for takes memory
abbrev pub TakesMemory : Asked → Type 0
TakesMemory Nothing = ⊤
TakesMemory Help = ⊥
TakesMemory Version = ⊥
TakesMemory (Serve settings) = ⊤
