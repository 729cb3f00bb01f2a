-- What is written of a document stands for it.
use Rattle.std.proofs.Common.{refl}
use Rattle.serde_json.specs.Data.{Data, null}
use Rattle.serde_json.specs.View.{items_of}
use Rattle.std.specs.Prelude.{map}
use Rattle.covjson_value.specs.declared.coverages.Document.{Document}
use Rattle.covjson_value.specs.declared.coverages.Document.TheVariants.{One, Many}
use Rattle.covjson_value.specs.Coverages.{IsValid, IsValidDocument}
use Rattle.covjson_value.specs.Trees.{coverage_data, document_data}
use Rattle.covjson_value.specs.Laws.{DocumentTextsReadBack}
use Rattle.edr_json.specs.TreeLaws.{each_written}
use Rattle.covjson_domains.specs.Laws.{WrittenDomainsStand}
use Rattle.covjson_ranges.specs.Laws.{WrittenRangesStand}
use Rattle.covjson_read.specs.Standing.{StandsIn, TreeStandsFor}
use Rattle.covjson_read.specs.Laws.{WrittenDocumentsAreRead}
use Rattle.covjson_read.proofs.WrittenLaws.{collected_stands_written}

-- the tree that is written of a valid document stands for it
tree_written : WrittenDomainsStand → WrittenRangesStand → (document : Document) → IsValidDocument document → TreeStandsFor (document_data document) document
tree_written domains ranges (One coverage) h = collected_stands_written domains ranges null coverage h
tree_written domains ranges (Many coverages) h =
    let tree : Data = document_data (Many coverages) in
    record {
      kind = refl;
      items = items_of (map coverage_data coverages);
      list = refl;
      coverages_stand = each_written (StandsIn tree) IsValid coverage_data (collected_stands_written domains ranges tree) coverages h;
    }

-- and so does its text
pub documents_written : DocumentTextsReadBack → WrittenDomainsStand → WrittenRangesStand → WrittenDocumentsAreRead
documents_written read_back domains ranges document h =
    let read = read_back document h in
    record { tree = document_data document; is_json = record { utf8 = read.0; tree_is = read.1 }; stands = tree_written domains ranges document h }
