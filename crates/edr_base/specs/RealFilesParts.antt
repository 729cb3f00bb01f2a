-- The files of a runtime.
use Rattle.std.specs.declared.option.Option.{Option}
use Rattle.std.specs.declared.io.traits.Read as Read
use Rattle.std.specs.declared.io.traits.Write as Write
use Rattle.std.specs.declared.io.traits.Seek as Seek
use Rattle.edr_base.specs.declared.real_files.RealFiles.{RealFiles}

-- the file that is open
abbrev pub file_of : {R F D : Type 0} {reads : Read.Ghosts F} {writes : Write.Ghosts F} {seeks : Seek.Ghosts F} {names : Read.Ghosts D}
    → RealFiles R F D reads writes seeks names → Option F
file_of files = files.file
