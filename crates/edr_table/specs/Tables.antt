-- Documents as tables of lines: one line for each sample, of six cells.
use Rattle.std.specs.Prelude.{ℕ, ℤ, List, [], ◌∷◌, ◌++◌, map, codes, Option, None, Some}
use Rattle.std.specs.List.{flat_map}
use Rattle.std.specs.Fmt.{signed_decimal}
use Rattle.edr_axes.specs.Instants.{instant_text}
use Rattle.covjson_value.specs.declared.coverages.Coverage.{Coverage}
use Rattle.covjson_value.specs.declared.coverages.Document.{Document}
use Rattle.covjson_value.specs.declared.coverages.Document.TheVariants.{One, Many}
use Rattle.covjson_value.specs.Samples.{Sample, samples_of}

-- a number, or `-` where there is none
abbrev pub number_cell : Option ℤ → List ℕ
number_cell None = codes "-"
number_cell (Some number) = signed_decimal number

-- a time, or `-` where there is none
abbrev pub time_cell : Option ℤ → List ℕ
time_cell None = codes "-"
time_cell (Some time) = instant_text time

-- the cells of a sample: the parameter's id, t, z, y, x and the value
abbrev pub cells_of : Sample → List (List ℕ)
cells_of sample =
    sample.parameter
    ∷ time_cell sample.at.t
    ∷ number_cell sample.at.z
    ∷ signed_decimal sample.at.y
    ∷ signed_decimal sample.at.x
    ∷ number_cell sample.value
    ∷ []

-- a line: its cells with tabs between them, and a line feed
abbrev pub line_text : List (List ℕ) → List ℕ
line_text [] = 10 ∷ []
line_text (cell ∷ []) = cell ++ 10 ∷ []
line_text (cell ∷ (next ∷ cells)) = cell ++ 9 ∷ line_text (next ∷ cells)

-- the lines of a coverage: all its samples, in their order
abbrev pub coverage_lines : Coverage → List (List (List ℕ))
coverage_lines coverage = map cells_of (samples_of coverage)

-- the lines of a document, coverage by coverage
abbrev pub document_lines : Document → List (List (List ℕ))
document_lines (One coverage) = coverage_lines coverage
document_lines (Many coverages) = flat_map coverage_lines coverages

-- the table of a document
abbrev pub table_of : Document → List ℕ
table_of document = flat_map line_text (document_lines document)
