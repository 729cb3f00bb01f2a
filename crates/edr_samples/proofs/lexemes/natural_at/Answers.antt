use Rattle.std.proofs.Common.{◌≡◌, drop, pos, w64, to_z, sym, ◌∙◌, subst, rules}
use Rattle.edr_samples.specs.Lexemes.{GivesWhole}
use Rattle.edr_samples.proofs.LexemeLemmas.{gives_natural, ended_by}
use Rattle.edr_samples.proofs.lexemes.natural_at.Goals as goal

pub returns-then-is_delimiter-clause-number : goal.returns-then-is_delimiter-clause-number
returns-then-is_delimiter-clause-number c =
    let d = c.args.text.now in
    let n = c.in-Some.number in
    let rest = drop c.in-Some.end d in
    let same : pos n ≡ to_z w64 n = search rules in
    let ended = ended_by rest c.byte_at.result c.byte_at.ensures.value (sym c.is_delimiter.ensures ∙ c.if-is_delimiter.true) in
    subst (λ z. GivesWhole (drop c.args.from d) z rest) same (gives_natural n _ rest c.in-Some.ensures.few c.in-Some.ensures.digits ended)
