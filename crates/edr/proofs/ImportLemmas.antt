-- How a run ends that imports a table.
use Rattle.std.proofs.Common.{ℕ, ◌≤◌, List, length, Result}
use Rattle.std.specs.declared.option.Option.{Option}
use Rattle.edr_base.specs.Calls.{ReadsAll}
use Rattle.edr_import.specs.declared.refusals.TableRefusal.{TableRefusal}
use Rattle.edr_import.specs.Imports.{TableStands}
use Rattle.edr_import.specs.Limits.{table_limit}
use Rattle.edr.specs.declared.endings.Ending.{Ending}
use Rattle.edr.specs.declared.endings.Ending.TheVariants.{Done, Usage, NotFeed, ReadFault, WriteFault, OutOfMemory, Refused, NoDocument, ConnectFault, OpenFault, NoTable}
use Rattle.edr.specs.declared.endings.ImportRefusal.TheVariants as imports
use Rattle.edr.specs.Settling.{Settles}
use Rattle.edr.specs.Importing.{TableCause, ImportCause}
use Rattle.edr.specs.Tables.{IsNoTableBy}
use Rattle.edr.proofs.EndLemmas.{rose_earlier}
use Rattle.edr.proofs.ShowLemmas.{of_all}

pub settled_table : (ending : Ending) (IsThe : Result (List ℕ) TableRefusal → Type 0) (first before after : ℕ) (new : Option (List ℕ)) (flushed : Option ℕ) → first ≤ before
    → Settles ending before after new flushed → TableCause ending IsThe first after
settled_table Done IsThe first before after new flushed h s = tt
settled_table Usage IsThe first before after new flushed h s = absurd s
settled_table (NotFeed refusal) IsThe first before after new flushed h s = absurd s
settled_table ReadFault IsThe first before after new flushed h s = absurd s
settled_table WriteFault IsThe first before after new flushed h s = rose_earlier first before after h s
settled_table OutOfMemory IsThe first before after new flushed h s = tt
settled_table (Refused refusal) IsThe first before after new flushed h s = absurd s
settled_table (NoDocument refusal) IsThe first before after new flushed h s = absurd s
settled_table ConnectFault IsThe first before after new flushed h s = absurd s
settled_table OpenFault IsThe first before after new flushed h s = absurd s
settled_table (NoTable imports.TooLong) IsThe first before after new flushed h s = absurd s
settled_table (NoTable (imports.Refused refusal)) IsThe first before after new flushed h s = absurd s

-- the cause of the ending of a table that was read
pub import_caused : (ending : Ending) (bytes : List ℕ) (old new : Option (List ℕ)) (r r' before after : ℕ) → ReadsAll bytes table_limit old new → length bytes ≤ table_limit
    → TableCause ending (TableStands bytes) before after → ImportCause ending old r r' before after
import_caused Done bytes old new r r' before after read within c = tt
import_caused Usage bytes old new r r' before after read within c = absurd c
import_caused (NotFeed refusal) bytes old new r r' before after read within c = absurd c
import_caused ReadFault bytes old new r r' before after read within c = absurd c
import_caused WriteFault bytes old new r r' before after read within c = c
import_caused OutOfMemory bytes old new r r' before after read within c = tt
import_caused (Refused refusal) bytes old new r r' before after read within c = absurd c
import_caused (NoDocument refusal) bytes old new r r' before after read within c = absurd c
import_caused ConnectFault bytes old new r r' before after read within c = absurd c
import_caused OpenFault bytes old new r r' before after read within c = absurd c
import_caused (NoTable imports.TooLong) bytes old new r r' before after read within c = absurd c
import_caused (NoTable (imports.Refused refusal)) bytes old new r r' before after read within c = of_all (IsNoTableBy (imports.Refused refusal)) bytes table_limit old new read (within, c)
