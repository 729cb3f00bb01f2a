use Rattle.std.proofs.Common.{rules, tests, ◌==◌, codes}
use Rattle.std.proofs.lemmas.Iterator.Search.{any_from_yields_List}
use Rattle.std.proofs.lemmas.Iterator.Splits.{YieldsList-from_slice_split}
use Rattle.httparse.specs.Grammar.{trim_ows}
use Rattle.edr_http.specs.Checks.{is_word}
use Rattle.edr_http.proofs.checks.lists_close.Goals as goal

pub returns : goal.returns
returns c =
    any_from_yields_List (λ part. is_word (codes "close") (trim_ows part)) _ _ _ c.any.ensures.ran
    (YieldsList-from_slice_split _ (λ byte. byte == 44) c.args.value.now c.split.ensures.rest c.split.ensures.done c.split.ensures.closure (λ x r q k. search (rules, tests)))
    (λ x b q k. search (rules, tests))
