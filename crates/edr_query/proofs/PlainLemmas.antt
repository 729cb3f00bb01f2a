-- Texts in which nothing is escaped stand for themselves.
use Rattle.std.proofs.Common.{◌≡◌, ◌≢◌, ℕ, List, [], ◌∷◌, IsUtf8, refl, ap, sym, ◌∙◌, Some, ne_eqb}
use Rattle.std.specs.Str.Lossy.{utf8_lossy}
use Rattle.std.proofs.lemmas.List.Elements.{All-head, All-tail}
use Rattle.std.proofs.lemmas.Str.{utf8_lossy-IsUtf8}
use Rattle.percent_encoding.specs.Percent.{percent_decode}
use Rattle.form_urlencoded.specs.Form.{decode}
use Rattle.form_urlencoded.proofs.FormLemmas.{map-plus_to_space}
use Rattle.edr_query.specs.declared.parameters.Parameter.{Parameter}
use Rattle.edr_query.specs.declared.parameters.Parameter.TheVariants.{Format, Coords, Within, WithinUnits, Bbox, CorridorWidth, WidthUnits, CorridorHeight, HeightUnits, Datetime, Z, ParameterName, Crs}
use Rattle.edr_query.specs.Parameters.{name_of}
use Rattle.edr_query.specs.Reads.{parameter_in, read_text, Lacks}
use Rattle.edr_query.proofs.PairLemmas.{name_back, parameter_sound}
use Rattle.edr_query.proofs.SpelledTexts.{name_utf8}

unescaped : (bs : List ℕ) → Lacks 37 bs → percent_decode bs ≡ bs
unfolding percent_decode
unescaped [] all = refl
unescaped (b ∷ []) all = refl
unescaped (b ∷ c ∷ []) all = refl
unescaped (b ∷ high ∷ low ∷ rest) all =
    rw (ne_eqb b 37 (All-head (λ x. x ≢ 37) b (high ∷ low ∷ rest) all), unescaped (high ∷ low ∷ rest) (All-tail (λ x. x ≢ 37) b (high ∷ low ∷ rest) all))

-- a part in which nothing is escaped
pub kept_part : (bs : List ℕ) → Lacks 37 bs → bs ≡ percent_decode bs
kept_part bs all = sym (unescaped bs all)

-- without a `+` only escapes are decoded
pub escapes_only : (bs : List ℕ) → Lacks 43 bs → utf8_lossy (percent_decode bs) ≡ read_text bs
escapes_only bs all = ap (λ l. utf8_lossy (percent_decode l)) (sym (map-plus_to_space bs all))

-- a text in which nothing is escaped stands for itself, if it is UTF-8
pub kept_text : (bs : List ℕ) → Lacks 43 bs → Lacks 37 bs → IsUtf8 bs → bs ≡ read_text bs
kept_text bs plus percent utf8 = sym (utf8_lossy-IsUtf8 bs utf8) ∙ ap utf8_lossy (kept_part bs percent) ∙ escapes_only bs plus

name_decoded : (p : Parameter) → decode (name_of p) ≡ name_of p
unfolding percent_decode
name_decoded Format = refl
name_decoded Coords = refl
name_decoded Within = refl
name_decoded WithinUnits = refl
name_decoded Bbox = refl
name_decoded CorridorWidth = refl
name_decoded WidthUnits = refl
name_decoded CorridorHeight = refl
name_decoded HeightUnits = refl
name_decoded Datetime = refl
name_decoded Z = refl
name_decoded ParameterName = refl
name_decoded Crs = refl

name_read : (p : Parameter) → read_text (name_of p) ≡ name_of p
name_read p = ap utf8_lossy (name_decoded p) ∙ utf8_lossy-IsUtf8 (name_of p) (name_utf8 p)

-- a name that is written as it is stands for itself
pub as_written : (raw : List ℕ) (p : Parameter) → parameter_in raw ≡ Some p → Some p ≡ parameter_in (read_text raw)
as_written raw p e = sym (ap parameter_in (ap read_text (parameter_sound raw p e) ∙ name_read p) ∙ name_back p)
