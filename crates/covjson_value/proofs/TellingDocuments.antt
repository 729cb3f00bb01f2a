-- The tree of a valid document tells the document.
use Rattle.std.proofs.Common.{◌≡◌, true≢false, bytes_eq, codes, List, ap, sym}
use Rattle.edr_axes.specs.Instants.{TextsTellTimes}
use Rattle.covjson_value.specs.declared.coverages.Coverage.{Coverage}
use Rattle.covjson_value.specs.declared.coverages.Document.{Document}
use Rattle.covjson_value.specs.declared.coverages.Document.TheVariants.{One, Many}
use Rattle.covjson_value.specs.Coverages.{IsValid, IsValidDocument}
use Rattle.covjson_value.specs.Trees.{coverage_data, array_of, collection_data, document_data}
use Rattle.covjson_value.proofs.Telling.{array_of_tells}
use Rattle.covjson_value.proofs.TellingCoverages.{coverage_tells}

-- the first members have unlike names
unlike : (coverage : Coverage) (coverages : List Coverage) → coverage_data coverage ≡ collection_data (array_of coverage_data coverages) → ⊥
unlike coverage coverages e =
    let names : codes "domain" ≡ codes "coverages" = cc in
    true≢false (ap (bytes_eq (codes "domain")) names)

pub document_tells : TextsTellTimes → (one other : Document) → IsValidDocument one → IsValidDocument other → document_data one ≡ document_data other → one ≡ other
document_tells told (One coverage) (One other) h k e = ap One (coverage_tells told coverage other h k e)
document_tells told (One coverage) (Many others) h k e = absurd (unlike coverage others e)
document_tells told (Many coverages) (One other) h k e = absurd (unlike other coverages (sym e))
document_tells told (Many coverages) (Many others) h k e = ap Many (array_of_tells IsValid coverage_data (coverage_tells told) coverages others h k (cc))
