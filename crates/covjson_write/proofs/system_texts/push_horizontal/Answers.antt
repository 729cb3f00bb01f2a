use Rattle.std.proofs.Common.{◌≡◌, ℕ, ◌==◌, true, false, List, [], ◌∷◌, ◌++◌, length, codes, refl, sym, ap, ◌∙◌, append-nil, arith}
use Rattle.std.proofs.lemmas.Bool.{false≢true}
use Rattle.std.proofs.lemmas.Bool.Decides.{nat_tests}
use Rattle.std.proofs.lemmas.Result.{on_ok_weaker}
use Rattle.json.specs.Print.{quoted}
use Rattle.covjson_value.specs.Trees.{text_if_some}
use Rattle.covjson_write.specs.HeadTexts.{name_member}
use Rattle.covjson_write.proofs.HeadTextLemmas.{horizontal_put}
use Rattle.covjson_write.proofs.system_texts.push_horizontal.Goals as goal
use Rattle.covjson_write.proofs.system_texts.push_horizontal.Goals.{then-not-is_empty+in_ok-push_name, else-not-is_empty}

named : (crs : List ℕ) → false ≡ (length crs == 0) → codes "\"id\":" ++ (quoted crs ++ codes ",") ≡ name_member (text_if_some crs)
named [] some = absurd (false≢true some)
named (byte ∷ bytes) some = refl

unnamed : (crs : List ℕ) → true ≡ (length crs == 0) → [] ≡ name_member (text_if_some crs)
unnamed [] none = refl
unnamed (byte ∷ bytes) none = grind (arith, nat_tests)

pub returns : goal.returns
returns c =
    let crs = c.args.crs.now in
    let begun = c.push_bytes.new.text.items in
    let counted = c.is_empty.ensures ∙ ap (λ (t : List ℕ). length t == 0) c.bytes.ensures in
    let named_is : c.if-not-is_empty.text.items ≡ begun ++ name_member (text_if_some crs) =
    elim c.if-not-is_empty.branch [
      | then-not-is_empty+in_ok-push_name w ↦ ap (λ v. v.items) w.text-is ∙ w.in_ok-push_name.ensures ∙ ap (λ t. begun ++ t) (named crs (sym w.if-not-is_empty.true ∙ counted))
      | else-not-is_empty w ↦ ap (λ v. v.items) w.text-is ∙ sym (append-nil begun) ∙ ap (λ t. begun ++ t) (unnamed crs (sym w.if-not-is_empty.false ∙ counted))
    ] in
    on_ok_weaker c.push_bytes-2.result (horizontal_put crs c.args.text.now.items _ _ _ c.in_ok-push_bytes.ensures named_is) c.push_bytes-2.ensures
