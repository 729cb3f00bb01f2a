-- The keys of a head's ranges.
use Rattle.std.proofs.Common.{◌≡◌, ℕ, ◌+◌, ◌<◌, ◌≤◌, List, [], ◌∷◌, ◌++◌, length, map, take, get_or, sym, ap, ◌∙◌}
use Rattle.std.proofs.lemmas.List.{take_all, take_more, map-append}
use Rattle.json.specs.Print.{quoted}
use Rattle.covjson_value.specs.declared.coverages.Parameter.{Parameter}
use Rattle.covjson_value.specs.Coverages.{ids_of}

pub keys_all : (parameters : List Parameter) (k : ℕ) → length parameters ≤ k → map quoted (ids_of (take k parameters)) ≡ map quoted (ids_of parameters)
keys_all parameters k past = ap (λ (ps : List Parameter). map quoted (ids_of ps)) (take_all k parameters past)

pub keys_more : (parameters : List Parameter) (k : ℕ) (p d : Parameter) → k < length parameters → p ≡ get_or parameters k d
    → map quoted (ids_of (take (k + 1) parameters)) ≡ map quoted (ids_of (take k parameters)) ++ quoted p.id ∷ []
keys_more parameters k p d inside is =
    ap (λ (ps : List Parameter). map quoted (ids_of ps)) (take_more parameters k d inside)
    ∙ ap (map quoted) (map-append _ (take k parameters) (get_or parameters k d ∷ []))
    ∙ map-append quoted (ids_of (take k parameters)) ((get_or parameters k d).id ∷ [])
    ∙ ap (λ (q : Parameter). map quoted (ids_of (take k parameters)) ++ quoted q.id ∷ []) (sym is)
