-- CoverageJSON as it is read, row by row: what is looked at, in this order, and the fault where it isn't as it has to be. The
-- rows of domains and of ranges stand in their own crates.
use Rattle.std.specs.Prelude.{◌≡◌, ◌≢◌, ◌⊎◌, ℕ, List, [], ◌∷◌, codes, Bool, Result, ⊤, Option, Some, None, Err}
use Rattle.serde_json.specs.Data.{Data, null, string, array, object, Items, no_items, item, Members, no_members, member}
use Rattle.serde_json.specs.Find.{get}
use Rattle.edr_base.specs.FirstThatApplies.{Check, Find, With, Then, Gives}
use Rattle.edr_json.specs.Json.{IsJson}
use Rattle.edr_json.specs.Trees.{text_in}
use Rattle.covjson_value.specs.declared.domains.CoordinateName.TheVariants.{Z}
use Rattle.covjson_value.specs.declared.coverages.Parameter.{Parameter}
use Rattle.covjson_value.specs.declared.coverages.Referencing.{Referencing}
use Rattle.covjson_value.specs.declared.coverages.Coverage.{Coverage}
use Rattle.covjson_value.specs.declared.coverages.Document.{Document}
use Rattle.covjson_value.specs.declared.coverages.Document.TheVariants.{One, Many}
use Rattle.covjson_value.specs.Domains.{has_coordinate}
use Rattle.covjson_checks.specs.declared.turned.ReadDomain.{ReadDomain}
use Rattle.covjson_checks.specs.declared.faults.CovFault.{CovFault}
use Rattle.covjson_checks.specs.declared.faults.CovFault.TheVariants.{NotJson, Missing, WrongType, UnsupportedSystem, WrongCount}
use Rattle.covjson_checks.specs.declared.faults.Member.TheVariants.{Document as TheDocument, Kind, Coverages as TheCoverages, Domain as TheDomain, Referencing as Systems, Parameters, ObservedProperty, Unit, Ranges}
use Rattle.covjson_checks.specs.Members.{lent}
use Rattle.covjson_domains.specs.DomainRows.{DomainRows}
use Rattle.covjson_ranges.specs.RangeRows.{RangeRows}
use Rattle.covjson_read.specs.declared.collected.ReadRanges.{ReadRanges}
use Rattle.covjson_checks.specs.Places.{EachItem, NoItem, IsFirstItem}
use Rattle.covjson_read.specs.Systems.{IsConnection, IsPlane, IsOtherCalendar, system_text, StandsForVertical}
use Rattle.covjson_read.specs.Parameters.{StandsForLabel, StandsForUnit, EachIsNamedObject}
use Rattle.covjson_read.specs.Standing.{type_of}

-- ---- reference systems

-- each system of times is Gregorian, else the first that isn't
abbrev pub CalendarRows : Items → Result ⊤ CovFault → Type 0
CalendarRows entries answer =
    (NoItem IsOtherCalendar entries × Gives tt answer)
    ⊎ ((entry : Data) × IsFirstItem IsOtherCalendar entries entry × (answer ≡ Err (UnsupportedSystem (system_text (codes "calendar") entry))))

-- the systems of a plane's entry, and of levels
abbrev pub GivesSystems : Bool → Items → Data → Result Referencing CovFault → Type 0
GivesSystems has_z entries plane =
    With (λ (referencing : Referencing). (referencing.crs ≡ system_text (codes "id") plane) × StandsForVertical has_z entries referencing.vertical) Gives

abbrev pub SystemRows : Bool → Option Data → Result Referencing CovFault → Type 0
SystemRows has_z found =
    Find (λ list. found ≡ Some list) (Missing Systems) (λ list. Find (λ entries. list ≡ array entries) (WrongType Systems) (λ entries. Check (EachItem IsConnection entries) (WrongType Systems) (
    Find (IsFirstItem IsPlane entries) (Missing Systems) (λ plane. Check (system_text (codes "type") plane ≡ codes "ProjectedCRS") (UnsupportedSystem (system_text (codes "type") plane)) (
    Then (CalendarRows entries) (λ _.
    GivesSystems has_z entries plane))))))

-- ---- parameters

-- the parameter of a name
abbrev pub ParameterRows : List ℕ → Data → Result Parameter CovFault → Type 0
ParameterRows id d =
    Find (λ property. get (codes "observedProperty") d ≡ Some property) (Missing ObservedProperty) (λ property. Check (get (codes "categories") property ≡ None) (WrongType ObservedProperty) (Find (λ (said : List ℕ × List ℕ). StandsForLabel property said.0 said.1) (WrongType ObservedProperty) (λ said.
    Find (StandsForUnit (get (codes "unit") d)) (WrongType Unit) (λ unit.
    Gives (record { id = id; lang = said.0; label = said.1; unit = unit })))))

-- each of an object in turn
abbrev pub EachParameterRows : Members → Result ⊤ CovFault → Type 0
EachParameterRows no_members = Gives tt
EachParameterRows (member id d members) = Then (ParameterRows id d) (λ _. EachParameterRows members)

abbrev pub ParametersRows : Option Data → Result Data CovFault → Type 0
ParametersRows found =
    Find (λ d. found ≡ Some d) (Missing Parameters) (λ d. Find (λ members. d ≡ object members) (WrongType Parameters) (λ members. Check (EachIsNamedObject members) (WrongType Parameters) (
    Then (EachParameterRows members) (λ _.
    Gives d))))

-- ---- ranges

-- each range in turn with the parameter of its name
abbrev pub EachRangeRows : ReadDomain → Data → Members → Result ReadRanges CovFault → Type 0
EachRangeRows read parameters no_members = Gives (record { parameters = []; ranges = [] })
EachRangeRows read parameters (member id d members) =
    Find (λ found. get id parameters ≡ Some found) (Missing Parameters) (λ found. Then (ParameterRows id found) (λ parameter.
    Then (RangeRows read d) (λ range.
    Then (EachRangeRows read parameters members) (λ others.
    Gives (record { parameters = parameter ∷ others.parameters; ranges = range ∷ others.ranges })))))

abbrev pub RangesRows : ReadDomain → Data → Data → Result ReadRanges CovFault → Type 0
RangesRows read parameters tree =
    Find (λ d. get (codes "ranges") tree ≡ Some d) (Missing Ranges) (λ d. Find (λ members. d ≡ object members) (WrongType Ranges) (λ members. Check (members ≢ no_members) (WrongCount Ranges 1 0) (
    EachRangeRows read parameters members)))

-- ---- coverages

-- the coverage of a tree, in a collection that lends it what it lacks; the collection is null where there is none
abbrev pub CoverageRows : Data → Data → Result Coverage CovFault → Type 0
CoverageRows collection tree =
    Find (λ members. tree ≡ object members) (WrongType TheCoverages) (λ _. Find (λ kind. get (codes "type") tree ≡ Some kind) (Missing Kind) (λ kind. Check (kind ≡ string (codes "Coverage")) (WrongType Kind) (
    Find (λ domain. get (codes "domain") tree ≡ Some domain) (Missing TheDomain) (λ domain. Find (λ members. domain ≡ object members) (WrongType TheDomain) (λ _.
    Then (DomainRows (type_of domain tree collection) domain) (λ read.
    Then (SystemRows (has_coordinate read.domain Z) (lent (codes "referencing") domain collection)) (λ referencing.
    Then (ParametersRows (lent (codes "parameters") tree collection)) (λ parameters.
    Then (RangesRows read parameters tree) (λ ranges.
    Gives (record {
      id = text_in (codes "id") tree;
      domain = read.domain;
      referencing = referencing;
      parameters = ranges.parameters;
      ranges = ranges.ranges;
    }))))))))))

-- ---- documents

-- the two types of a document
pub data DocumentType : Type 0 where
  single : DocumentType
  collected : DocumentType

abbrev pub type_name : DocumentType → List ℕ
type_name single = codes "Coverage"
type_name collected = codes "CoverageCollection"

-- each coverage of a collection in turn
abbrev pub EachCoverageRows : Data → Items → Result (List Coverage) CovFault → Type 0
EachCoverageRows collection no_items = Gives []
EachCoverageRows collection (item d ds) = Then (CoverageRows collection d) (λ coverage. Then (EachCoverageRows collection ds) (λ coverages. Gives (coverage ∷ coverages)))

abbrev pub RowsOfType : DocumentType → Data → Result Document CovFault → Type 0
RowsOfType single tree = Then (CoverageRows null tree) (λ coverage. Gives (One coverage))
RowsOfType collected tree =
    Find (λ list. get (codes "coverages") tree ≡ Some list) (Missing TheCoverages) (λ list. Find (λ items. list ≡ array items) (WrongType TheCoverages) (λ items.
    Then (EachCoverageRows tree items) (λ coverages.
    Gives (Many coverages))))

-- the document of a tree
abbrev pub TreeRows : Data → Result Document CovFault → Type 0
TreeRows tree =
    Find (λ members. tree ≡ object members) (WrongType TheDocument) (λ _.
    Find (λ kind. get (codes "type") tree ≡ Some kind) (Missing Kind) (λ kind. Find (λ type. kind ≡ string (type_name type)) (WrongType Kind) (λ type.
    RowsOfType type tree)))

-- and of a text
abbrev pub DocumentRows : List ℕ → Result Document CovFault → Type 0
DocumentRows text =
    Find (IsJson text) NotJson (λ tree.
    TreeRows tree)
