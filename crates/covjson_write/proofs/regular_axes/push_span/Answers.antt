use Rattle.std.proofs.Common.{◌++◌, ◌-◌, length, get_or, pos, FitsSigned, w64, ap, ◌∙◌, rules}
use Rattle.std.proofs.lemmas.Int.{to_z-of_z}
use Rattle.std.proofs.lemmas.Result.{on_ok_weaker}
use Rattle.serde_json.specs.Written.{compact_text}
use Rattle.covjson_value.specs.Trees.{integer}
use Rattle.covjson_write.proofs.HeadTextLemmas.{span_put}
use Rattle.covjson_write.proofs.regular_axes.push_span.Goals as goal

pub returns : goal.returns
returns c =
    let values = c.args.values.now in
    let first_fits : FitsSigned w64 (get_or values 0 (pos 0)) = search rules in
    let last_fits : FitsSigned w64 (get_or values (length values - 1) (pos 0)) = search rules in
    on_ok_weaker c.push_bytes-4.result
    (span_put values c.args.text.now.items _ _ _ _ _ _ _ c.in_ok-push_bytes.ensures c.in_ok-push_number.ensures c.in_ok-push_bytes-2.ensures
    (c.in_ok-push_integer.ensures ∙ ap (λ v. c.push_bytes-2.new.text.items ++ compact_text (integer v)) (to_z-of_z w64 (get_or values 0 (pos 0)) first_fits))
    c.in_ok-push_bytes-3.ensures
    (c.in_ok-push_integer-2.ensures ∙ ap (λ v. c.push_bytes-3.new.text.items ++ compact_text (integer v)) (to_z-of_z w64 (get_or values (length values - 1) (pos 0)) last_fits))) c.push_bytes-4.ensures
