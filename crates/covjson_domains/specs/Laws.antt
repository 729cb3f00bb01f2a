-- What holds of domains and of the answers to their trees.
use Rattle.std.specs.Prelude.{◌≡◌, ◌↔◌, Option, Some, Ok}
use Rattle.serde_json.specs.Data.{Data, string}
use Rattle.covjson_value.specs.declared.domains.Domain.{Domain}
use Rattle.covjson_value.specs.declared.coverages.Referencing.{Referencing}
use Rattle.covjson_value.specs.Coverages.{HasAxes, HasTuples}
use Rattle.covjson_value.specs.Trees.{domain_type, domain_data}
use Rattle.covjson_checks.specs.declared.turned.ReadDomain.{ReadDomain}
use Rattle.covjson_checks.specs.RowLaws.{HasOneAnswer}
use Rattle.covjson_checks.specs.Turns.{unturned}
use Rattle.covjson_domains.specs.Domains.{StandsForDomain}
use Rattle.covjson_domains.specs.DomainRows.{DomainRows}
use Rattle.covjson_domains.specs.DomainAnswers.{domain_of}

-- the rows of a tree have one answer
abbrev pub DomainRowsHaveOneAnswer : Type 0
DomainRowsHaveOneAnswer = (found : Option Data) (tree : Data) → HasOneAnswer (DomainRows found tree)

-- they end in a domain exactly where the tree stands for it
abbrev pub DomainRowsAreWhatStands : Type 0
DomainRowsAreWhatStands = (found : Option Data) (tree : Data) (read : ReadDomain) → DomainRows found tree (Ok read) ↔ StandsForDomain found tree read.turned read.domain

-- what is written of a domain stands for it, with no axis turned
abbrev pub WrittenDomainsStand : Type 0
WrittenDomainsStand =
    (domain : Domain) (referencing : Referencing) → HasAxes domain → HasTuples domain
    → StandsForDomain (Some (string (domain_type domain))) (domain_data domain referencing) unturned domain

-- ---- for the crates of CoverageJSON

-- the computed answer follows the rows
abbrev pub DomainAnswersFollowRows : Type 0
DomainAnswersFollowRows = (found : Option Data) (tree : Data) → DomainRows found tree (domain_of found tree)

-- it is a domain exactly where the tree stands for it
abbrev pub DomainsAreWhatStand : Type 0
DomainsAreWhatStand = (found : Option Data) (tree : Data) (read : ReadDomain) → (domain_of found tree ≡ Ok read) ↔ StandsForDomain found tree read.turned read.domain
