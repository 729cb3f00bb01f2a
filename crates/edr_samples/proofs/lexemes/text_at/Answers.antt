use Rattle.std.proofs.Common.{◌≡◌, ◌+◌, ◌<◌, length, drop, sym, ◌∙◌, subst, arith}
use Rattle.json.specs.Token.{string}
use Rattle.json.specs.Lex.{token}
use Rattle.edr_samples.specs.Lexemes.{Gives}
use Rattle.edr_samples.proofs.Steps.{text_given}
use Rattle.edr_samples.proofs.lexemes.text_at.Goals as goal

pub returns-in-Ok-clause-text : goal.returns-in-Ok-clause-text
returns-in-Ok-clause-text c =
    let d = c.args.text.now in
    let from = c.args.from in
    let end = c.plain_end-end.result in
    let first : c.byte_at.result ≡ 34 = c.if-byte_at-ne34.false in
    let last : c.byte_at-2.result ≡ 34 = c.if-byte_at-ne34-2.false in
    let inside : from < length d = c.byte_at.ensures.inside (λ e. omega (arith, first, e)) in
    let within : end < length d = c.byte_at-2.ensures.inside (λ e. omega (arith, last, e)) in
    subst (λ s. Gives (drop from d) (token (string s)) (drop (end + 1) d)) (sym c.in-Ok.ensures.cases.0)
    (text_given d from end inside (sym c.byte_at.ensures.value ∙ first) c.plain_end-end.ensures.plain within (sym c.byte_at-2.ensures.value ∙ last))
