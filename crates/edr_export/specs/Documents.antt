-- For private clauses: the document of a query, held whole.
use Rattle.std.specs.Prelude.{◌≡◌, ⊤, Result, Ok, Err, None, Some}
use Rattle.covjson_value.specs.declared.coverages.Document.{Document}
use Rattle.covjson_value.specs.Coverages.{IsValidDocument}
use Rattle.edr_edition.specs.Values.{EditionValue}
use Rattle.edr_edition.specs.Stores.{Subject, subject_of}
use Rattle.edr_query.specs.Values.{QueryValue}
use Rattle.edr_query.specs.declared.pages.Page.TheVariants.{Ask}
use Rattle.edr_select.specs.Refusals.{IsFirstRefusal}
use Rattle.edr_select.specs.Documents.{document}
use Rattle.edr_serve.specs.declared.answering.AnswerFault.{AnswerFault}
use Rattle.edr_serve.specs.declared.answering.AnswerFault.TheVariants.{Refused, WriteFault, OutOfMemory}

-- no refusal applies to the query, and this is its document
pub record IsDocumentOf (edition : EditionValue) (query : QueryValue) (held : Document) : Type 0 where
  pub none : IsFirstRefusal edition (Ask query) None
  pub subject : Subject
  pub named : subject_of edition query.collection query.instance ≡ Some subject
  pub held_is : held ≡ document subject query
  pub valid : IsValidDocument held

-- the document, or the first refusal; it is free where memory is wanting
abbrev pub MatchDocument : Result Document AnswerFault → EditionValue → QueryValue → Type 0
MatchDocument (Ok held) edition query = IsDocumentOf edition query held
MatchDocument (Err (Refused refusal)) edition query = IsFirstRefusal edition (Ask query) (Some refusal)
MatchDocument (Err WriteFault) edition query = ⊥
MatchDocument (Err OutOfMemory) edition query = ⊤
