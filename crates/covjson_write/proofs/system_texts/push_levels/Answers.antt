use Rattle.std.proofs.Common.{◌≡◌, ◌++◌, sym, ap, ◌∙◌, append-nil}
use Rattle.std.proofs.lemmas.Result.{on_ok_weaker}
use Rattle.serde_json.specs.Written.{compact_text}
use Rattle.covjson_value.specs.Trees.{vertical_data}
use Rattle.covjson_write.specs.HeadTexts.{name_member, later_if}
use Rattle.covjson_write.proofs.HeadTextLemmas.{vertical_put}
use Rattle.covjson_write.proofs.system_texts.push_levels.Goals as goal
use Rattle.covjson_write.proofs.system_texts.push_levels.Goals.{in-Some+in_ok-push_name, in_default}

pub returns : goal.returns
returns c =
    let start = c.args.text.now.items in
    let begun = c.push_bytes.new.text.items in
    let text = compact_text (vertical_data c.args.vertical.now) in
    let named_is : c.match-vertical.text.items ≡ begun ++ name_member c.args.vertical.now =
    elim c.match-vertical.branch [
      | in-Some+in_ok-push_name w ↦ ap (λ v. v.items) w.text-is ∙ w.in_ok-push_name.ensures ∙ ap (λ v. begun ++ name_member v) (sym w.in-Some.is)
      | in_default w ↦ ap (λ v. v.items) w.text-is ∙ sym (append-nil begun) ∙ ap (λ v. begun ++ name_member v) (sym w.in_default.is)
    ] in
    on_ok_weaker c.push_bytes-2.result
    (λ last. vertical_put c.args.vertical.now start _ _ _ c.in_ok-push_bytes.ensures named_is last ∙ ap (λ given. start ++ later_if given text) (sym c.if-not-has.false ∙ c.has.ensures))
    c.push_bytes-2.ensures
