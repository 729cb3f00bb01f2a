use Rattle.std.proofs.Common.{◌∙◌, [], ◌∷◌, sym, ap, rules}
use Rattle.edr_console.specs.Saying.{open_line, bind_line}
use Rattle.edr_console.specs.SayingLaws.{says_alone}
use Rattle.edrd.specs.Shelving.{fault_lines}
use Rattle.edrd.proofs.running.say_fault.Goals as goal

pub returns-in-OpenFault-clause-lines : goal.returns-in-OpenFault-clause-lines
returns-in-OpenFault-clause-lines g c =
    says_alone (open_line c.bytes.result.now) _ _ _
    (ap (λ ending. fault_lines ending c.args.settings.now) c.in-OpenFault.is ∙ ap (λ name. open_line name ∷ []) (sym c.bytes.ensures))
    c.say_named.ensures.line

pub returns-in-BindFault-clause-lines : goal.returns-in-BindFault-clause-lines
returns-in-BindFault-clause-lines g c =
    says_alone (bind_line c.from.result) _ _ _
    (ap (λ ending. fault_lines ending c.args.settings.now) c.in-BindFault.is ∙ ap (λ port. bind_line port ∷ []) (search rules))
    c.say_number.ensures.line
