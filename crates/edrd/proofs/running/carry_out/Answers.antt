use Rattle.std.proofs.Common.{◌∙◌, [], ◌∷◌, ◌++◌, refl, sym, inl, codes}
use Rattle.edr_program.specs.Versions.{version_line}
use Rattle.edr_console.specs.Helps.{help}
use Rattle.edrd.specs.Shelving.{fault_lines}
use Rattle.edr_console.specs.declared.words.Asked.TheVariants.{Nothing, Help, Version, Serve}
use Rattle.edr_console.specs.SayingLaws.{says_alone, says_more}
use Rattle.edrd.specs.declared.endings.Ending.TheVariants.{Done, Usage}
use Rattle.edrd.proofs.EndLemmas.{memory_ends, memory_asks, memory_reads, asked_is}
use Rattle.edrd.proofs.running.carry_out.Goals as goal

pub returns-in-Err-clause-cause : goal.returns-in-Err-clause-cause
returns-in-Err-clause-cause g c = ([], refl, memory_ends _ _ _ _ _ c.in-Err.ensures.memory)

pub returns-in-Err-clause-files : goal.returns-in-Err-clause-files
returns-in-Err-clause-files g c = memory_asks g.F.Source.aside _ _

pub returns-in-Err-clause-file : goal.returns-in-Err-clause-file
returns-in-Err-clause-file g c = memory_reads g.F.Source.aside g.F.Source.left _ _

pub returns-in-Ok-Help-clause-cause : goal.returns-in-Ok-Help-clause-cause
returns-in-Ok-Help-clause-cause g c = (
  help ∷ [],
  says_alone help _ _ _ refl c.say_help.ensures.line,
  asked_is Done Help _ _ _ _ _ _ (sym c.in-Ok-Help.field-0-is ∙ c.in-Ok-Help.ensures.is) (refl, refl),
)

pub returns-in-Ok-Version-clause-cause : goal.returns-in-Ok-Version-clause-cause
returns-in-Ok-Version-clause-cause g c = (
  version_line (codes "edrd") ∷ [],
  says_alone (version_line (codes "edrd")) _ _ _ refl c.say_version.ensures.line,
  asked_is Done Version _ _ _ _ _ _ (sym c.in-Ok-Version.field-0-is ∙ c.in-Ok-Version.ensures.is) (refl, refl),
)

pub returns-in-Ok-Nothing-clause-cause : goal.returns-in-Ok-Nothing-clause-cause
returns-in-Ok-Nothing-clause-cause g c =
    ([], refl, asked_is Usage Nothing _ _ _ _ _ _ (sym c.in-Ok-Nothing.field-0-is ∙ c.in-Ok-Nothing.ensures.is) (inl refl, refl))

pub returns-clause-cause : goal.returns-clause-cause
returns-clause-cause g c =
    let cause = c.serve_file-ending.ensures.cause in (
      cause.0 ++ fault_lines c.serve_file-ending.result.0 c.in-Ok-Serve.settings,
      says_more _ _ _ _ _ cause.1 c.say_fault.ensures.lines,
      asked_is _ (Serve c.in-Ok-Serve.settings) _ _ _ _ _ _ (sym c.in-Ok-Serve.field-0-is ∙ c.in-Ok-Serve.ensures.is) cause.2,
    )
