use Rattle.std.proofs.Common.{◌≡◌, true, drop, w32, to_z, of_z, sym, ◌∙◌, subst, rules}
use Rattle.json.specs.Lex.{may_begin}
use Rattle.edr_samples.specs.Codes.{sample_of}
use Rattle.edr_samples.specs.Tokens.{IsSample}
use Rattle.edr_samples.specs.Plain.{place_of}
use Rattle.edr_samples.proofs.Steps.{sample_taken}
use Rattle.edr_samples.proofs.plain.Plain.take_code.Goals as goal

pub returns : goal.returns
returns c =
    let a = c.self.inside in
    let d = a.text.now in
    let code = c.in-Some.code in
    let same : to_z w32 (of_z w32 code) ≡ code = search rules in
    let may : may_begin (place_of a.place) ≡ true = sym c.may_begin.ensures ∙ c.if-not-may_begin.false in
    let taken = sample_taken (place_of a.place) may (drop a.at d) (drop c.in-Some.end d) _ c.behind-at.ensures.same (sample_of code) c.in-Some.ensures.sample in
    (taken.0, subst (λ k. IsSample taken.0 (sample_of k)) (sym same) taken.1, sym c.self.view_is ∙ taken.2)
