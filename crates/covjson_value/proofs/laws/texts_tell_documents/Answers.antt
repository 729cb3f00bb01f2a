use Rattle.std.proofs.Common.{◌≡◌, Some, ap, ◌∙◌, sym}
use Rattle.serde_json.specs.Read.{read}
use Rattle.covjson_value.specs.Trees.{document_data}
use Rattle.covjson_value.proofs.TellingDocuments.{document_tells}
use Rattle.covjson_value.proofs.laws.texts_tell_documents.Goals as goal

pub returns : goal.returns
returns c = λ document other valid valid_too same.
    let one_read = (c.document_texts_read_back.ensures document valid).1 in
    let other_read = (c.document_texts_read_back.ensures other valid_too).1 in
    let both : Some (document_data document) ≡ Some (document_data other) = sym one_read ∙ ap read same ∙ other_read in
    document_tells c.texts_tell_times.ensures document other valid valid_too (cc)
