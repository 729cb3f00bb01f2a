use Rattle.std.proofs.Common.{◌≡◌, true, drop, Some, w64, to_z, of_z, sym, ◌∙◌, subst, rules}
use Rattle.json.specs.Lex.{may_begin}
use Rattle.serde_json.specs.Find.{of_integer}
use Rattle.serde_json.specs.Read.{number_of}
use Rattle.edr_samples.specs.Plain.{place_of}
use Rattle.edr_samples.proofs.Steps.{whole_taken}
use Rattle.edr_samples.proofs.plain.Plain.take_whole.Goals as goal

pub returns : goal.returns
returns c =
    let a = c.self.inside in
    let d = a.text.now in
    let whole = c.in-Some.whole in
    let same : to_z w64 (of_z w64 whole) ≡ whole = search rules in
    let may : may_begin (place_of a.place) ≡ true = sym c.may_begin.ensures ∙ c.if-not-may_begin.false in
    let taken = whole_taken (place_of a.place) may (drop a.at d) (drop c.in-Some.end d) _ c.behind-at.ensures.same whole c.in-Some.ensures.number in
    (taken.0, subst (λ z. number_of taken.0 ≡ Some (of_integer z)) (sym same) taken.1, sym c.self.view_is ∙ taken.2)
