use Rattle.std.proofs.Common.{◌≡◌, ◌∙◌, ◌<◌, ◌++◌, [], ◌∷◌, length, get_or, map, None, arith, rules}
use Rattle.std.proofs.lemmas.List.{get_or_default}
use Rattle.serde_json.specs.View.{items_of}
use Rattle.edr_samples.specs.Tokens.{sample_data}
use Rattle.covjson_checks.specs.Answers.{each_from}
use Rattle.covjson_checks.specs.Members.{whole_within}
use Rattle.covjson_checks.specs.CheckLaws.{at_more}
use Rattle.covjson_checks.proofs.members.wholes_of_samples.Goals as goal

pub loop-place-preserved : goal.loop-place-preserved
loop-place-preserved c =
    let xs = c.args.samples.now in
    let i = c.loop-place.place in
    let x = c.get.result in
    let found = c.loop-place.found.items in
    let answer_at = whole_within c.args.member c.args.limit in
    let inside : i < length xs = omega arith in
    let is : x ≡ get_or xs i x = c.get.ensures ∙ get_or_default xs i None x inside in
    let pushed : c.push.new.self.items ≡ found ++ c.in_ok-whole.whole ∷ [] = search rules in
    at_more answer_at sample_data xs i x found c.push.new.self.items c.in_ok-whole.whole (each_from answer_at 0 (items_of (map sample_data xs))) inside is c.in_ok-whole.ensures pushed c.loop-place.invariant
