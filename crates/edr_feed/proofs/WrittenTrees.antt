-- The tree of an entry is plain and shallow, and stands for the entry.
use Rattle.std.proofs.Common.{◌≡◌, true, ℕ, ◌≤◌, List, codes, Option, None, Some, IsUtf8, refl, subst, arith}
use Rattle.json.proofs.Printed.Utf8.{are_ascii, IsUtf8-are_ascii}
use Rattle.serde_json.specs.Data.{Data, string, object, Members, no_members, member, depth}
use Rattle.serde_json.specs.Read.{read, max_depth}
use Rattle.covjson_value.specs.declared.coverages.Coverage.{Coverage}
use Rattle.covjson_value.specs.declared.coverages.Document.TheVariants.{One}
use Rattle.covjson_value.specs.Coverages.{IsValid}
use Rattle.covjson_value.specs.Plain.{IsPlain, PlainTextsReadBack, CoveragesArePlain}
use Rattle.covjson_value.specs.Trees.{coverage_data}
use Rattle.covjson_read.specs.Laws.{WrittenDocumentsAreRead}
use Rattle.covjson_read.specs.Standing.{Stands}
use Rattle.edr_edition.specs.declared.kinds.Kind.{Kind}
use Rattle.edr_edition.specs.declared.kinds.Kind.TheVariants.{Grid as Grids, Station as Stations}
use Rattle.edr_draft.specs.declared.changes.Change.TheVariants.{Collection, Grid, Station, DropCollection, DropInstance, DropStation, Bare}
use Rattle.edr_feed.specs.declared.entries.Entry.{Entry}
use Rattle.edr_feed.specs.declared.entries.Entry.TheVariants.{Change, Publish}
use Rattle.edr_feed.specs.Forms.{HasForm, IsEntry, kind_word}
use Rattle.edr_feed.specs.Lines.{IsBlank}
use Rattle.edr_feed.specs.Written.{entry_data, entry_text, IsLineOf, WrittenLinesAreRead}
use Rattle.edr_feed.proofs.FormLemmas.{just_line}
use Rattle.edr_feed.proofs.FormOutlines.{CollectionParts, collection_whole, grid_whole, station_whole, drop_whole, drop_instance_whole, drop_station_whole, publish_whole}
use Rattle.edr_feed.proofs.OneLine.{text_line}

-- ---- plain

word : (text : List ℕ) → are_ascii text ≡ true → IsUtf8 text
word text h = IsUtf8-are_ascii text h

kind_utf8 : (kind : Kind) → IsUtf8 (kind_word kind)
kind_utf8 Grids = word (codes "grid") refl
kind_utf8 Stations = word (codes "station") refl

-- plain, and shallow enough to be read
record IsReadable (d : Data) : Type 0 where
  plain : IsPlain d
  shallow : depth d ≤ max_depth

entry_readable : CoveragesArePlain → (entry : Entry) → IsEntry entry → IsReadable (entry_data entry)
entry_readable plain (Change (Collection id kind title crs None)) is = record {
  plain = (
    word (codes "collection") refl,
    (
      word (codes "crs") refl,
      is.1.1.0,
      (refl, (refl, (refl, tt))),
      (
        word (codes "id") refl,
        is.0.utf8,
        (refl, (refl, tt)),
        (word (codes "kind") refl, kind_utf8 kind, (refl, tt), (word (codes "title") refl, is.1.0, tt, tt)),
      ),
    ),
    tt,
    tt,
  );
  shallow = omega arith;
}
entry_readable plain (Change (Collection id kind title crs (Some vertical))) is = record {
  plain = (
    word (codes "collection") refl,
    (
      word (codes "crs") refl,
      is.1.1.0,
      (refl, (refl, (refl, (refl, tt)))),
      (
        word (codes "id") refl,
        is.0.utf8,
        (refl, (refl, (refl, tt))),
        (word (codes "kind") refl, kind_utf8 kind, (refl, (refl, tt)), (word (codes "title") refl, is.1.0, (refl, tt), (word (codes "vertical") refl, is.1.1.1, tt, tt))),
      ),
    ),
    tt,
    tt,
  );
  shallow = omega arith;
}
entry_readable plain (Change (Grid collection instance coverage)) is =
    let of_coverage = plain coverage is.1.1 in
    record {
      plain = (word (codes "grid") refl, (word (codes "collection") refl, is.0.utf8, (refl, (refl, tt)), (word (codes "coverage") refl, of_coverage.0, (refl, tt), (word (codes "instance") refl, is.1.0.utf8, tt, tt))), tt, tt);
      shallow = omega (arith, of_coverage.1);
    }
entry_readable plain (Change (Station collection id label coverage)) is =
    let of_coverage = plain coverage is.1.1.1 in
    record {
      plain = (
        word (codes "station") refl,
        (
          word (codes "collection") refl,
          is.0.utf8,
          (refl, (refl, (refl, tt))),
          (
            word (codes "coverage") refl,
            of_coverage.0,
            (refl, (refl, tt)),
            (word (codes "id") refl, is.1.0.utf8, (refl, tt), (word (codes "label") refl, is.1.1.0, tt, tt)),
          ),
        ),
        tt,
        tt,
      );
      shallow = omega (arith, of_coverage.1);
    }
entry_readable plain (Change (DropCollection collection)) is = record {
  plain = (word (codes "drop") refl, (word (codes "collection") refl, is.utf8, tt, tt), tt, tt);
  shallow = omega arith;
}
entry_readable plain (Change (DropInstance collection instance)) is = record {
  plain = (word (codes "drop") refl, (word (codes "collection") refl, is.0.utf8, (refl, tt), (word (codes "instance") refl, is.1.utf8, tt, tt)), tt, tt);
  shallow = omega arith;
}
entry_readable plain (Change (DropStation collection id)) is = record {
  plain = (word (codes "drop") refl, (word (codes "collection") refl, is.0.utf8, (refl, tt), (word (codes "station") refl, is.1.utf8, tt, tt)), tt, tt);
  shallow = omega arith;
}
entry_readable plain (Change (Bare coverage)) is =
    let of_coverage = plain coverage is in
    record { plain = of_coverage.0; shallow = omega (arith, of_coverage.1) }
entry_readable plain Publish is = record { plain = (word (codes "publish") refl, tt, tt, tt); shallow = omega arith }

-- ---- what a tree stands for

-- the laws of what stands below
record Laws : Type 0 where
  plain : CoveragesArePlain
  back : PlainTextsReadBack
  documents : WrittenDocumentsAreRead

coverage_stands : Laws → (coverage : Coverage) → IsValid coverage → Stands (coverage_data coverage) coverage
coverage_stands laws coverage valid =
    let of_coverage = laws.plain coverage valid in
    let back = (laws.back (coverage_data coverage) of_coverage.0 (omega (arith, of_coverage.1))).1 in
    let written = laws.documents (One coverage) valid in
    let there : read (entry_text (Change (Bare coverage))) ≡ Some written.tree = written.is_json.tree_is in
    let same : written.tree ≡ coverage_data coverage = cc in
    subst (λ (tree : Data). Stands tree coverage) same written.stands

collection_stands : (id : List ℕ) (kind : Kind) (title crs : List ℕ) (vertical : Option (List ℕ)) → IsEntry (Change (Collection id kind title crs vertical))
    → HasForm (entry_data (Change (Collection id kind title crs vertical))) (Change (Collection id kind title crs vertical))
collection_stands id kind title crs None is = (
  _,
  just_line (codes "collection") _,
  collection_whole id kind title crs None _
      (record { has_id = (refl, is.0); has_kind = refl; has_title = refl; has_crs = refl; has_vertical = refl; counts = refl }),
)
collection_stands id kind title crs (Some vertical) is = (
  _,
  just_line (codes "collection") _,
  collection_whole id kind title crs (Some vertical) _
      (record { has_id = (refl, is.0); has_kind = refl; has_title = refl; has_crs = refl; has_vertical = refl; counts = refl }),
)

entry_stands : Laws → (entry : Entry) → IsEntry entry → HasForm (entry_data entry) entry
entry_stands laws (Change (Collection id kind title crs vertical)) is = collection_stands id kind title crs vertical is
entry_stands laws (Change (Grid collection instance coverage)) is = (
  coverage_data coverage,
  grid_whole collection instance (coverage_data coverage) _
      (record { has_collection = (refl, is.0); has_instance = (refl, is.1.0); has_coverage = refl; counts = refl }),
  coverage_stands laws coverage is.1.1,
)
entry_stands laws (Change (Station collection id label coverage)) is = (
  coverage_data coverage,
  station_whole collection id label (coverage_data coverage) _
      (record { has_collection = (refl, is.0); has_id = (refl, is.1.0); has_label = refl; has_coverage = refl; counts = refl }),
  coverage_stands laws coverage is.1.1.1,
)
entry_stands laws (Change (DropCollection collection)) is = drop_whole collection _ (record { has_collection = (refl, is); counts = refl })
entry_stands laws (Change (DropInstance collection instance)) is =
    drop_instance_whole collection instance _ (record { has_collection = (refl, is.0); has_instance = (refl, is.1); lacks_station = refl; counts = refl })
entry_stands laws (Change (DropStation collection id)) is = drop_station_whole collection id _ (record { has_collection = (refl, is.0); has_id = (refl, is.1); counts = refl })
entry_stands laws (Change (Bare coverage)) is = let stands = coverage_stands laws coverage is in (stands.kind, stands)
entry_stands laws Publish is = publish_whole (object no_members) refl

-- ---- lines

-- a text of an object begins with a bracket
entry_filled : (entry : Entry) → ¬ (IsBlank (entry_text entry))
entry_filled (Change (Collection id kind title crs vertical)) h = cc
entry_filled (Change (Grid collection instance coverage)) h = cc
entry_filled (Change (Station collection id label coverage)) h = cc
entry_filled (Change (DropCollection collection)) h = cc
entry_filled (Change (DropInstance collection instance)) h = cc
entry_filled (Change (DropStation collection id)) h = cc
entry_filled (Change (Bare coverage)) h = cc
entry_filled Publish h = cc

pub lines_read : CoveragesArePlain → PlainTextsReadBack → WrittenDocumentsAreRead → WrittenLinesAreRead
lines_read plain back documents entry is =
    let readable = entry_readable plain entry is in
    let read_back = back (entry_data entry) readable.plain readable.shallow in
    record {
      one_line = text_line (entry_data entry) readable.plain;
      filled = entry_filled entry;
      is_json = record { utf8 = read_back.0; tree_is = read_back.1 };
      stands = entry_stands (record { plain = plain; back = back; documents = documents }) entry is;
    }
