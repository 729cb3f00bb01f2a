use Rattle.std.proofs.Common.{rules, ◌∙◌, subst, sym}
use Rattle.std.specs.Prelude.{IsUtf8}
use Rattle.edr_console.proofs.WordLemmas.{utf8_more, texts_more, utf8_none}
use Rattle.edr_console.proofs.words.texts_of.Goals as goal

pub returns-in-Err : goal.returns-in-Err
returns-in-Err c =
    let same = c.bytes.ensures ∙ c.word-item.is in
    utf8_none c.args.words.now c.loop-word.word-index c.word-item.result (search rules) (λ h. c.in-Err.ensures.cases.0 (subst IsUtf8 (sym same) h))

pub loop-word-preserved : goal.loop-word-preserved
loop-word-preserved c =
    let same = c.bytes.ensures ∙ c.word-item.is in (
      utf8_more c.args.words.now c.loop-word.word-index c.word-item.result (search rules) c.loop-word.invariant.0 (subst IsUtf8 same c.in-Ok.ensures.cases.1),
      texts_more c.args.words.now c.loop-word.word-index c.word-item.result c.loop-word.texts.items c.push-in-Ok.new.self.items c.in-Ok.text (search rules)
          c.loop-word.invariant.1 c.in_ok-push-in-Ok.ensures.items (c.in-Ok.ensures.cases.0 ∙ same),
    )
