-- Coverages and documents, or the first check that fails, as a computation.
use Rattle.std.specs.Prelude.{◌≡◌, ◌⊎◌, ◌↔◌, ℕ, List, bytes_eq, codes, if◌then◌else◌, Some, Ok, Err}
use Rattle.serde_json.specs.Data.{Data, null}
use Rattle.edr_base.specs.FirstThatApplies.{and_then, check}
use Rattle.edr_json.specs.Json.{IsJson, IsNoJson}
use Rattle.edr_json.specs.Trees.{text_in, text_or_empty}
use Rattle.covjson_value.specs.declared.domains.CoordinateName.TheVariants.{Z}
use Rattle.covjson_value.specs.declared.coverages.Coverage.{Coverage}
use Rattle.covjson_value.specs.declared.coverages.Document.{Document}
use Rattle.covjson_value.specs.declared.coverages.Document.TheVariants.{One, Many}
use Rattle.covjson_value.specs.Domains.{has_coordinate}
use Rattle.covjson_checks.specs.declared.turned.ReadDomain.{ReadDomain}
use Rattle.covjson_checks.specs.declared.faults.Member.TheVariants.{Document as TheDocument, Kind, Coverages, Domain}
use Rattle.covjson_checks.specs.declared.faults.CovFault.TheVariants.{NotJson, WrongType}
use Rattle.covjson_checks.specs.Answers.{Answer, each}
use Rattle.covjson_checks.specs.Members.{need, object_at, list_at, lent}
use Rattle.covjson_domains.specs.DomainAnswers.{domain_of}
use Rattle.covjson_read.specs.SystemAnswers.{referencing_of}
use Rattle.covjson_read.specs.ParameterAnswers.{parameters_of}
use Rattle.covjson_read.specs.CollectedAnswers.{ranges_in}
use Rattle.covjson_read.specs.Standing.{type_of, StandsIn}
use Rattle.covjson_read.specs.Rows.{CoverageRows}

-- ---- coverages

-- an object of type Coverage
abbrev pub is_coverage : Data → Answer Data
is_coverage tree =
    and_then (object_at Coverages tree) (λ _.
    and_then (need (codes "type") Kind tree) (λ kind.
    and_then (check (bytes_eq (text_or_empty (Some kind)) (codes "Coverage")) (WrongType Kind)) (λ _. Ok tree)))

-- its domain, an object
abbrev pub domain_at : Data → Answer Data
domain_at tree =
    and_then (need (codes "domain") Domain tree) (λ d.
    and_then (object_at Domain d) (λ _. Ok d))

-- the systems, the parameters and the ranges over a domain that was read
abbrev pub over_domain : Data → Data → Data → ReadDomain → Answer Coverage
over_domain collection tree domain found =
    and_then (referencing_of (has_coordinate found.domain Z) (lent (codes "referencing") domain collection)) (λ referencing.
    and_then (parameters_of (lent (codes "parameters") tree collection)) (λ parameters.
    and_then (ranges_in found parameters tree) (λ ranges.
    Ok (record {
      id = text_in (codes "id") tree;
      domain = found.domain;
      referencing = referencing;
      parameters = ranges.parameters;
      ranges = ranges.ranges;
    }))))

-- the coverage of a tree, in a collection that lends it what it lacks; the collection is null where there is none
abbrev pub coverage_in : Data → Data → Answer Coverage
coverage_in collection tree =
    and_then (is_coverage tree) (λ _.
    and_then (domain_at tree) (λ domain.
    and_then (domain_of (type_of domain tree collection) domain) (λ found.
    over_domain collection tree domain found)))

-- the answer follows the rows
abbrev pub CoverageAnswersFollowRows : Type 0
CoverageAnswersFollowRows = (collection tree : Data) → CoverageRows collection tree (coverage_in collection tree)

-- and is a coverage exactly where the tree stands for it
abbrev pub AnswersAreWhatStands : Type 0
AnswersAreWhatStands = (collection tree : Data) (coverage : Coverage) → (coverage_in collection tree ≡ Ok coverage) ↔ StandsIn collection tree coverage

-- ---- documents

abbrev pub one_coverage : Data → Answer Document
one_coverage tree = and_then (coverage_in null tree) (λ coverage. Ok (One coverage))

abbrev pub many_coverages : Data → Answer Document
many_coverages tree =
    and_then (need (codes "coverages") Coverages tree) (λ d.
    and_then (list_at Coverages d) (λ ds.
    and_then (each (coverage_in tree) ds) (λ coverages. Ok (Many coverages))))

-- a document by its type
abbrev pub document_of_type : List ℕ → Data → Answer Document
document_of_type kind tree =
    if bytes_eq kind (codes "Coverage") then one_coverage tree
    else if bytes_eq kind (codes "CoverageCollection") then many_coverages tree
    else Err (WrongType Kind)

-- the document of a tree
abbrev pub document_of : Data → Answer Document
document_of tree =
    and_then (object_at TheDocument tree) (λ _.
    and_then (need (codes "type") Kind tree) (λ kind.
    document_of_type (text_or_empty (Some kind)) tree))

-- the answer of a text: that of its tree, or NotJson where it has none
abbrev pub AnswersText : List ℕ → Answer Document → Type 0
AnswersText text answer = ((tree : Data) × IsJson text tree × (document_of tree ≡ answer)) ⊎ (IsNoJson text × (answer ≡ Err NotJson))
