-- What is found in the tree of a line, part by part; for private clauses.
use Rattle.std.specs.Prelude.{◌≡◌, ℕ, suc, codes, List, ⊤, Result, Err, MatchResult, Option, None, Some, option_map}
use Rattle.serde_json.specs.Data.{Data, null, string, object, no_members, member}
use Rattle.serde_json.specs.Find.{get}
use Rattle.edr_json.specs.Trees.{text_in}
use Rattle.covjson_read.specs.Rows.{CoverageRows}
use Rattle.covjson_read.specs.Standing.{Stands}
use Rattle.covjson_checks.specs.declared.faults.CovFault.{CovFault}
use Rattle.covjson_value.specs.declared.coverages.Coverage.{Coverage}
use Rattle.edr_base.specs.Names.{IsName}
use Rattle.edr_feed.specs.declared.faults.LineFault.{LineFault}
use Rattle.edr_feed.specs.declared.faults.LineFault.TheVariants.{NotFeedLine, Cov, OutOfMemory}
use Rattle.edr_feed.specs.declared.entries.Entry.{Entry}
use Rattle.edr_edition.specs.declared.kinds.Kind.{Kind}
use Rattle.edr_feed.specs.Forms.{HasForm, HasOutline, HoldsCoverage, kind_word}

-- ---- members

abbrev pub HasText : List ℕ → Data → List ℕ → Type 0
HasText key d text = text_in key d ≡ Some text

-- a text that is a name
abbrev pub HasName : List ℕ → Data → List ℕ → Type 0
HasName key d name = HasText key d name × IsName name

-- the text of a member that may be left out
abbrev pub HasTextIfGiven : List ℕ → Data → Option (List ℕ) → Type 0
HasTextIfGiven key d text = get key d ≡ option_map string text

-- the kind of a collection
abbrev pub HasKind : Data → Kind → Type 0
HasKind d kind = HasText (codes "kind") d (kind_word kind)

-- how many members a collection has: one more where the reference system of z is given
abbrev pub collection_members : Option (List ℕ) → ℕ
collection_members None = 4
collection_members (Some vertical) = 5

-- ---- what the readers of parts answer

-- there is nothing to find, or memory was wanting
abbrev pub Lacks : {T : Type 0} → (T → Type 0) → LineFault → Type 0
Lacks {T} IsFound NotFeedLine = (found : T) → ¬ (IsFound found)
Lacks IsFound OutOfMemory = ⊤
Lacks IsFound other = ⊥

-- what is looked for is found, or it is lacking
abbrev pub Finds : {T : Type 0} → (T → Type 0) → Result T LineFault → Type 0
Finds IsFound result = MatchResult result IsFound (Lacks IsFound)

-- the coverage of a tree fails a check, and stands for nothing
pub record FailsIn (tree : Data) (fault : CovFault) : Type 0 where
  pub coverage : Data
  pub holds : HoldsCoverage tree coverage
  pub fails : CoverageRows null coverage (Err fault)
  pub nothing : (value : Coverage) → ¬ (Stands coverage value)

-- why the tree of a line isn't read: it has none of the forms, or its coverage stands for nothing, or memory was wanting
abbrev pub IsNoEntry : Data → LineFault → Type 0
IsNoEntry tree NotFeedLine = ¬ (HasOutline tree)
IsNoEntry tree (Cov fault) = FailsIn tree fault
IsNoEntry tree OutOfMemory = ⊤
IsNoEntry tree other = ⊥

-- the tree of a line is read
abbrev pub ReadsEntry : Data → Result Entry LineFault → Type 0
ReadsEntry tree result = MatchResult result (HasForm tree) (IsNoEntry tree)

-- the tree of a line whose one member is that
abbrev pub line_of : List ℕ → Data → Data
line_of name value = object (member name value no_members)
