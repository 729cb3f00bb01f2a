use Rattle.std.proofs.Common.{◌≡◌, [], if◌then◌else◌, sym, ap, ◌∙◌, arith}
use Rattle.std.proofs.lemmas.Bool.{lt-ltb}
use Rattle.std.specs.Arc.{arc_value}
use Rattle.edr_edition.specs.Values.{CollectionValue}
use Rattle.edr_edition.specs.Collections.{parameters_in}
use Rattle.edr_edition.proofs.collections.CollectionData.share_parameters.Goals as goal

pub returns-in_ok-try_clone-in-Some : goal.returns-in_ok-try_clone-in-Some
returns-in_ok-try_clone-in-Some c =
    let parameters = c.args.self.now.parameters in
    let shared : arc_value c.in_ok-try_clone-in-Some.field-0 ≡ parameters =
    c.in_ok-try_clone-in-Some.ensures ∙ (ap parameters_in (sym c.in-Some.is) ∙ ap (λ (collection : CollectionValue). collection.parameters) c.self.view_is) in
    shared ∙ ap (λ some. if some then parameters else []) (sym (lt-ltb 0 c.args.count (omega arith)))
