use Rattle.std.proofs.Common.{◌≡◌, Some, ap, ◌∙◌, sym}
use Rattle.serde_json.specs.Read.{read}
use Rattle.covjson_value.specs.Trees.{coverage_data}
use Rattle.covjson_value.proofs.TellingCoverages.{coverage_tells}
use Rattle.covjson_value.proofs.laws.texts_tell_coverages.Goals as goal

pub returns : goal.returns
returns c = λ coverage other valid valid_too same.
    let one_read = (c.texts_read_back.ensures coverage valid).1 in
    let other_read = (c.texts_read_back.ensures other valid_too).1 in
    let both : Some (coverage_data coverage) ≡ Some (coverage_data other) = sym one_read ∙ ap read same ∙ other_read in
    coverage_tells c.texts_tell_times.ensures coverage other valid valid_too (cc)
