-- What an edition answers to a page and to a target: a text, or the first refusal that applies (OGC 19-086r6, sections 7 and 8).
use Rattle.std.specs.Prelude.{◌≡◌, ◌⊎◌, ℕ, List, Result, Ok, Err, Option, None, Some, option_map}
use Rattle.serde_json.specs.Written.{compact_text}
use Rattle.edr_base.specs.declared.refusals.Refusal.{Refusal}
use Rattle.covjson_value.specs.Trees.{document_text}
use Rattle.edr_edition.specs.Values.{EditionValue}
use Rattle.edr_edition.specs.Stores.{Subject, subject_of}
use Rattle.edr_query.specs.Values.{QueryValue}
use Rattle.edr_query.specs.Targets.{IsTarget}
use Rattle.edr_query.specs.declared.pages.Page.{Page}
use Rattle.edr_query.specs.declared.pages.Page.TheVariants.{Ask}
use Rattle.edr_select.specs.Refusals.{IsFirstRefusal}
use Rattle.edr_select.specs.Documents.{document}
use Rattle.edr_describe.specs.Descriptions.{description}

-- the text of the document that a query gets, where there is what it names
abbrev pub data_text : EditionValue → QueryValue → Option (List ℕ)
data_text edition query =
    option_map (λ (subject : Subject). document_text (document subject query)) (subject_of edition query.collection query.instance)

-- the text of a page: data, or a description
abbrev pub page_text : EditionValue → Page → Option (List ℕ)
page_text edition (Ask query) = data_text edition query
page_text edition other = option_map compact_text (description edition other)

-- no refusal applies to the page, and this is its text
pub record IsTextOf (edition : EditionValue) (page : Page) (text : List ℕ) : Type 0 where
  pub none : IsFirstRefusal edition page None
  pub text_is : page_text edition page ≡ Some text

-- the answer to a page
abbrev pub IsAnswer : EditionValue → Page → Result (List ℕ) Refusal → Type 0
IsAnswer edition page (Ok text) = IsTextOf edition page text
IsAnswer edition page (Err refusal) = IsFirstRefusal edition page (Some refusal)

-- the target asks for a page, and this is the answer to it
pub record IsAnswerOfPage (edition : EditionValue) (target : List ℕ) (answer : Result (List ℕ) Refusal) : Type 0 where
  pub page : Page
  pub asked : IsTarget target (Ok page)
  pub answered : IsAnswer edition page answer

-- the target itself is refused
pub record IsRefusalOfTarget (target : List ℕ) (answer : Result (List ℕ) Refusal) : Type 0 where
  pub refusal : Refusal
  pub refused : IsTarget target (Err refusal)
  pub is : answer ≡ Err refusal

-- the answer to a target: that to the page that it asks for, or the refusal of the target itself
abbrev pub IsAnswerTo : EditionValue → List ℕ → Result (List ℕ) Refusal → Type 0
IsAnswerTo edition target answer = IsAnswerOfPage edition target answer ⊎ IsRefusalOfTarget target answer
