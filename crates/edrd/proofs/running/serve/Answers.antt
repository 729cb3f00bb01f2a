use Rattle.std.proofs.Common.{◌∙◌, List, [], ◌++◌, refl, ap, inl, rules}
use Rattle.edr_edition.specs.Values.{EditionValue}
use Rattle.edrd.specs.Ends.{served_of}
use Rattle.edrd.proofs.EndLemmas.{serve_paused}
use Rattle.edrd.proofs.running.serve.Goals as goal

pub returns-in-Err-OutOfMemory-clause-cause : goal.returns-in-Err-OutOfMemory-clause-cause
returns-in-Err-OutOfMemory-clause-cause g c = ([], refl, inl refl)

pub returns-clause-cause : goal.returns-clause-cause
returns-clause-cause g c =
    let cause = c.serve_through.ensures.cause 0 in
    let begun = c.begin_with-edition.ensures.served ∙ ap (served_of c.args.settings.now.last) c.into_vec.ensures in
    let whole = ap (λ (log : List EditionValue). log ++ c.begin_with-edition.result.1.items) c.in-Ok.ensures.publisher.0 ∙ begun in
    (cause.0, cause.1, serve_paused c.serve_through.result.0 c.args.settings.now _ _ _ _ 0 _ _ _ _ _ _ _ (search rules) whole c.serve_through.ensures.came cause.2)
