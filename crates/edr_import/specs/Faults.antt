-- The faults of an import, where others lead to them.
use Rattle.edr_base.specs.declared.sending.SendFault.{SendFault}
use Rattle.edr_base.specs.declared.sending.SendFault.TheVariants as sending
use Rattle.edr_csv.specs.declared.observations.TableFault.{TableFault}
use Rattle.edr_csv.specs.declared.observations.TableFault.TheVariants as table
use Rattle.edr_import.specs.declared.refusals.TableRefusal.TheVariants.{NotHeader, BadRecord, BadField, PlaceDiffers, SameSample, NoRecords}
use Rattle.edr_import.specs.declared.refusals.ImportFault.{ImportFault}
use Rattle.edr_import.specs.declared.refusals.ImportFault.TheVariants as import

abbrev pub of_table : TableFault → ImportFault
of_table table.NotHeader = import.Refused NotHeader
of_table (table.BadRecord number) = import.Refused (BadRecord number)
of_table (table.BadField number column) = import.Refused (BadField number column)
of_table (table.PlaceDiffers number) = import.Refused (PlaceDiffers number)
of_table (table.SameSample number) = import.Refused (SameSample number)
of_table table.NoRecords = import.Refused NoRecords
of_table table.OutOfMemory = import.OutOfMemory

abbrev pub of_sending : SendFault → ImportFault
of_sending sending.WriteFault = import.WriteFault
of_sending sending.OutOfMemory = import.OutOfMemory
