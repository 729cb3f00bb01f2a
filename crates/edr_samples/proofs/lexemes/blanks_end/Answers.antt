use Rattle.std.proofs.Common.{◌≡◌, ◌<◌, true, length, get_or, sym, ap, ◌∙◌, arith, rules}
use Rattle.std.proofs.lemmas.List.{drop_more}
use Rattle.json.specs.Word.{is_space}
use Rattle.json.specs.Lex.{between, lex}
use Rattle.edr_samples.proofs.LexemeLemmas.{lex-blank}
use Rattle.edr_samples.proofs.lexemes.blanks_end.Goals as goal

pub blanks-preserved : goal.blanks-preserved
blanks-preserved c =
    let d = c.args.text.now in
    let at = c.blanks.at in
    let inside : at < length d = search rules in
    let blank : is_space (get_or d at 0) ≡ true = sym c.is_blank.ensures ∙ c.if-is_blank.true in
    (omega (arith, inside), sym (ap (lex between) (drop_more d at 0 inside) ∙ lex-blank _ _ blank) ∙ c.blanks.invariant.1)
