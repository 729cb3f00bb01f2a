-- A text has one list of records, and what the writer writes reads back.
use Rattle.std.proofs.Common.{◌≡◌, ℕ, List, [], ◌∷◌, ◌++◌, map, ℤ, refl, sym, ap, ap₂, ◌∙◌, subst, Some, None, codes}
use Rattle.csv.specs.Machine.{Read, next_record}
use Rattle.csv.specs.Reading.{Reached, AreRecords, default_config, strip_bom}
use Rattle.csv.specs.Writing.{default_writer, row_text, read_back, fields_text, is_blank, escaped}
use Rattle.csv.specs.declared.parser.Config.{Config}
use Rattle.csv.specs.declared.parser.State.{State}
use Rattle.csv.specs.declared.parser.State.TheVariants as st
use Rattle.csv.proofs.RoundTrip.{read-write}
use Rattle.std.proofs.lemmas.List.{map-append}
use Rattle.std.proofs.Common.{Option}
use Rattle.std.specs.List.{flat_map}
use Rattle.covjson_value.specs.declared.coverages.Document.{Document}
use Rattle.covjson_value.specs.declared.coverages.Coverage.{Coverage}
use Rattle.covjson_value.specs.Coverages.{coverages_in}
use Rattle.covjson_value.specs.Samples.{Sample, samples_of}
use Rattle.edr_csv.specs.Tables.{IsTable, table_text, TablesAreUnique}
use Rattle.edr_csv.specs.Rows.{header, sample_records, record_with, coverage_records, document_records}

-- a step that finds a record finds no end
no_end : (cfg : Config) (s s2 : State) (xs ys : List ℕ) (p : Read) → s ≡ s2 → xs ≡ ys → next_record cfg s2 [] [] ys ≡ None → next_record cfg s [] [] xs ≡ Some p → ⊥
no_end cfg s s2 xs ys p e f none some = cc (e, f, none, some)

-- these records lead to one place
reached_unique : (cfg : Config) (s : State) (xs : List ℕ) (a b : List (List (List ℕ))) (s2 t2 : State) (ys zs : List ℕ)
    → Reached cfg s xs a s2 ys → next_record cfg s2 [] [] ys ≡ None → Reached cfg s xs b t2 zs → next_record cfg t2 [] [] zs ≡ None → a ≡ b
unfolding Reached
reached_unique cfg s xs [] [] s2 t2 ys zs x end y last = refl
reached_unique cfg s xs [] (r ∷ b) s2 t2 ys zs x end y last = absurd (no_end cfg s s2 xs ys y.0 x.0 x.1 end y.1)
reached_unique cfg s xs (r ∷ a) [] s2 t2 ys zs x end y last = absurd (no_end cfg s t2 xs zs x.0 y.0 y.1 last x.1)
reached_unique cfg s xs (r ∷ a) (q ∷ b) s2 t2 ys zs x end y last =
    let some : ◌≡◌ {A = Option Read} (Some x.0) (Some y.0) = sym x.1 ∙ y.1 in
    let same : x.0 ≡ y.0 = cc some in
    let P : Read → Type 0 = λ p. Reached cfg p.1 p.2 b t2 zs in
    let rest = reached_unique cfg x.0.1 x.0.2 a b s2 t2 ys zs x.3 end (subst P (sym same) y.3) last in
    let first : r ≡ q = x.2 ∙ ap (λ p. p.0) same ∙ sym y.2 in
    cc (first, rest)

-- a text has one list of records
pub records_unique : (cfg : Config) (s : State) (xs : List ℕ) (a b : List (List (List ℕ))) → AreRecords cfg s xs a → AreRecords cfg s xs b → a ≡ b
records_unique cfg s xs a b (s2, ys, x, end) (t2, zs, y, last) = reached_unique cfg s xs a b s2 t2 ys zs x end y last

-- the text of records reads back as these
written_reached : (rows : List (List (List ℕ))) → Reached default_config st.StartRecord (table_text rows) (map read_back rows) st.StartRecord []
unfolding Reached
written_reached [] = (refl, refl)
written_reached (row ∷ rows) = ((read_back row, st.StartRecord, table_text rows), read-write row (table_text rows), refl, written_reached rows)

written_records : (rows : List (List (List ℕ))) → AreRecords default_config st.StartRecord (table_text rows) (map read_back rows)
unfolding next_record
written_records rows = (st.StartRecord, [], written_reached rows, refl)

-- records of values have fields, so they are read back as they are
read_with : (own : Option (List ℕ)) (s : Sample) (v : Option ℤ) → map read_back (record_with own s v) ≡ record_with own s v
read_with own s None = refl
read_with own s (Some v) = refl

read_each : {A : Type 0} (f : A → List (List (List ℕ))) (same : (x : A) → map read_back (f x) ≡ f x) (xs : List A) → map read_back (flat_map f xs) ≡ flat_map f xs
read_each f same [] = refl
read_each f same (x ∷ xs) = map-append read_back (f x) (flat_map f xs) ∙ ap₂ (λ (s t : List (List (List ℕ))). s ++ t) (same x) (read_each f same xs)

read_document : (document : Document) → map read_back (document_records document) ≡ document_records document
read_document document =
    ap (λ (rows : List (List (List ℕ))). header ∷ rows)
    (read_each coverage_records (λ (c : Coverage). read_each (sample_records c.id) (λ (s : Sample). read_with c.id s s.value) (samples_of c)) (coverages_in document))

-- a text that begins with `p` has no byte order mark
no_mark : (x : List ℕ) → strip_bom (112 ∷ x) ≡ 112 ∷ x
unfolding strip_bom
no_mark [] = refl
no_mark (b ∷ []) = refl
no_mark (b ∷ c ∷ x) = refl

pub header_text : row_text default_writer header ≡ codes "parameter,t,z,y,x,id,value\n"
unfolding fields_text is_blank escaped
header_text = refl

no_mark_here : (x text : List ℕ) → text ≡ codes "parameter,t,z,y,x,id,value\n" ++ x → strip_bom text ≡ text
no_mark_here x text e = ap strip_bom e ∙ no_mark (codes "arameter,t,z,y,x,id,value\n" ++ x) ∙ sym e

-- the records of a document are read back from their text
pub document_reads_back : (document : Document) → IsTable (table_text (document_records document)) (document_records document)
document_reads_back document =
    let rest : List ℕ = table_text (flat_map coverage_records (coverages_in document)) in
    let text : List ℕ = table_text (document_records document) in
    let bare : strip_bom text ≡ text = no_mark_here rest text (ap (λ (t : List ℕ). t ++ rest) header_text) in
    let read : AreRecords default_config st.StartRecord text (document_records document) = subst (AreRecords default_config st.StartRecord text) (read_document document) (written_records (document_records document)) in
    subst (λ (t : List ℕ). AreRecords default_config st.StartRecord t (document_records document)) (sym bare) read

pub tables_unique : TablesAreUnique
tables_unique bytes records others a b = records_unique default_config st.StartRecord (strip_bom bytes) records others a b
