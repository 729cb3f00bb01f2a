use Rattle.std.proofs.Common.{◌++◌, codes, ap, ◌∙◌, sym}
use Rattle.std.proofs.lemmas.Result.{on_ok_weaker}
use Rattle.json.specs.Print.{quoted}
use Rattle.covjson_write.specs.HeadTexts.{unit_member}
use Rattle.covjson_write.proofs.HeadTextLemmas.{unit_put}
use Rattle.covjson_write.proofs.parameter_texts.push_unit.Goals as goal

pub returns : goal.returns
returns c =
    let start = c.args.text.now.items in
    on_ok_weaker c.push_bytes.result
    (λ last. unit_put _ start _ _ (c.in_ok-push_quoted.ensures ∙ ap (λ t. start ++ (codes ",\"unit\":{\"symbol\":" ++ quoted t)) c.bytes.ensures) last
    ∙ ap (λ unit. start ++ unit_member unit) (sym c.in-Some.is))
    c.push_bytes.ensures
