use Rattle.std.proofs.Common.{◌≡◌, [], drop, sym, ap, ◌∙◌, arith}
use Rattle.std.proofs.lemmas.List.{drop_all}
use Rattle.json.specs.Lex.{between, lex, punctuate}
use Rattle.edr_samples.specs.Plain.{place_of}
use Rattle.edr_samples.proofs.LexemeLemmas.{lex-nil}
use Rattle.edr_samples.proofs.PlaceLemmas.{at_end}
use Rattle.edr_samples.proofs.plain.Plain.is_done.Goals as goal

pub returns-then-self : goal.returns-then-self
returns-then-self c done =
    let a = c.self.inside in
    let d = a.text.now in
    let empty : drop a.at d ≡ [] = drop_all a.at d (omega (arith, c.if-self.true)) in
    sym c.self.view_is ∙ ap (punctuate (place_of a.place)) (ap (lex between) empty ∙ lex-nil) ∙ at_end (place_of a.place) (sym c.may_close.ensures ∙ done)
