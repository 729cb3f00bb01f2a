-- The table that an edition answers to a target: the values of a query's document, or the first refusal that applies.
use Rattle.std.specs.Prelude.{◌≡◌, ◌⊎◌, ℕ, List, Result, Ok, Err, None, Some}
use Rattle.edr_base.specs.declared.refusals.Refusal.{Refusal}
use Rattle.edr_base.specs.declared.refusals.Refusal.TheVariants.{NoSuchPage}
use Rattle.edr_edition.specs.Values.{EditionValue}
use Rattle.edr_edition.specs.Stores.{Subject, subject_of}
use Rattle.edr_query.specs.Values.{QueryValue}
use Rattle.edr_query.specs.Targets.{IsTarget}
use Rattle.edr_query.specs.declared.pages.Page.{Page}
use Rattle.edr_query.specs.declared.pages.Page.TheVariants.{Ask}
use Rattle.edr_select.specs.Refusals.{IsFirstRefusal}
use Rattle.edr_select.specs.Documents.{document}
use Rattle.edr_csv.specs.Tables.{IsTable, table_text}
use Rattle.edr_csv.specs.Rows.{document_records}

-- no refusal applies to the query, and the text is the table of its document, in which `csv` reads the header and exactly the
-- values that aren't missing
pub record IsTableOf (edition : EditionValue) (query : QueryValue) (text : List ℕ) : Type 0 where
  pub none : IsFirstRefusal edition (Ask query) None
  pub subject : Subject
  pub named : subject_of edition query.collection query.instance ≡ Some subject
  pub text_is : text ≡ table_text (document_records (document subject query))
  pub reads_back : IsTable text (document_records (document subject query))

abbrev pub IsQueryTable : EditionValue → QueryValue → Result (List ℕ) Refusal → Type 0
IsQueryTable edition query (Ok text) = IsTableOf edition query text
IsQueryTable edition query (Err refusal) = IsFirstRefusal edition (Ask query) (Some refusal)

-- the table of a page, or why it has none: a page that describes has no table
abbrev pub IsTableFor : EditionValue → Page → Result (List ℕ) Refusal → Type 0
IsTableFor edition (Ask query) answer = IsQueryTable edition query answer
IsTableFor edition other answer = answer ≡ Err NoSuchPage

-- the table of the page that the target asks for, or the refusal of the target itself
abbrev pub IsTableTo : EditionValue → List ℕ → Result (List ℕ) Refusal → Type 0
IsTableTo edition target answer =
    ((page : Page) × IsTarget target (Ok page) × IsTableFor edition page answer)
    ⊎ ((refusal : Refusal) × IsTarget target (Err refusal) × (answer ≡ Err refusal))
