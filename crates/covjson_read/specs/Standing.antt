-- Which trees stand for which coverages, and which texts for which documents (OGC 21-069r2, CoverageJSON documents).
use Rattle.std.specs.Prelude.{◌≡◌, ℕ, ◌<◌, List, length, codes, All, Option, Some}
use Rattle.std.specs.Option.{option_or}
use Rattle.serde_json.specs.Data.{Data, null, string, array, object, Items, Members}
use Rattle.serde_json.specs.Find.{get}
use Rattle.covjson_value.specs.declared.domains.CoordinateName.TheVariants.{Z}
use Rattle.covjson_value.specs.declared.domains.Domain.{Domain}
use Rattle.covjson_value.specs.declared.coverages.Parameter.{Parameter}
use Rattle.covjson_value.specs.declared.coverages.NdArray.{NdArray}
use Rattle.covjson_value.specs.declared.coverages.Coverage.{Coverage}
use Rattle.covjson_value.specs.declared.coverages.Document.{Document}
use Rattle.covjson_value.specs.declared.coverages.Document.TheVariants.{One, Many}
use Rattle.covjson_value.specs.Domains.{has_coordinate}
use Rattle.covjson_value.specs.Coverages.{ids_of}
use Rattle.covjson_checks.specs.declared.turned.Turned.{Turned}
use Rattle.covjson_checks.specs.Members.{lent}
use Rattle.edr_json.specs.Json.{IsJson}
use Rattle.edr_json.specs.Trees.{EachStands, names_of, text_in, values_of}
use Rattle.covjson_domains.specs.Domains.{StandsForDomain}
use Rattle.covjson_ranges.specs.Ranges.{StandsForRange}
use Rattle.covjson_read.specs.Systems.{StandsForReferencing}
use Rattle.covjson_read.specs.Parameters.{HoldsParameters, StandsAmong}

-- the ranges of a tree, of which there are some, in the order of their names, with the parameters of these names
pub record StandsForRanges (domain : Domain) (turned : Turned) (parameters : Data) (ranges : Members) (kept : List Parameter) (read : List NdArray) : Type 0 where
  pub some : 0 < length read
  pub ids : ids_of kept ≡ names_of ranges
  pub parameters_stand : All (StandsAmong parameters) kept
  pub ranges_stand : EachStands (StandsForRange domain turned) (values_of ranges) read

-- what is lent: the type of a domain is its own, else the coverage's, else the collection's
abbrev pub type_of : Data → Data → Data → Option Data
type_of domain tree collection = option_or (get (codes "domainType") domain) (lent (codes "domainType") tree collection)

-- a tree stands for a coverage, in a collection that lends it what it lacks
pub record StandsIn (collection tree : Data) (coverage : Coverage) : Type 0 where
  pub kind : get (codes "type") tree ≡ Some (string (codes "Coverage"))
  pub id : coverage.id ≡ text_in (codes "id") tree
  pub domain : Data
  pub domain_at : get (codes "domain") tree ≡ Some domain
  pub turned : Turned
  pub domain_stands : StandsForDomain (type_of domain tree collection) domain turned coverage.domain
  pub referencing_stands : StandsForReferencing (has_coordinate coverage.domain Z) (lent (codes "referencing") domain collection) coverage.referencing
  pub parameters : Data
  pub parameters_at : lent (codes "parameters") tree collection ≡ Some parameters
  pub parameters_are : HoldsParameters parameters
  pub ranges : Members
  pub ranges_at : get (codes "ranges") tree ≡ Some (object ranges)
  pub ranges_stand : StandsForRanges coverage.domain turned parameters ranges coverage.parameters coverage.ranges

-- a tree stands for a coverage by itself
abbrev pub Stands : Data → Coverage → Type 0
Stands tree coverage = StandsIn null tree coverage

-- a tree stands for the coverages of a collection, each of which stands in it
pub record StandsForCollection (tree : Data) (coverages : List Coverage) : Type 0 where
  pub kind : get (codes "type") tree ≡ Some (string (codes "CoverageCollection"))
  pub items : Items
  pub list : get (codes "coverages") tree ≡ Some (array items)
  pub coverages_stand : EachStands (StandsIn tree) items coverages

-- a tree stands for a document
abbrev pub TreeStandsFor : Data → Document → Type 0
TreeStandsFor tree (One coverage) = Stands tree coverage
TreeStandsFor tree (Many coverages) = StandsForCollection tree coverages

-- a text stands for a document: it is JSON of a tree that does
pub record StandsForDocument (text : List ℕ) (document : Document) : Type 0 where
  pub tree : Data
  pub is_json : IsJson text tree
  pub stands : TreeStandsFor tree document
