-- The paths of a collection and of an instance, part by part.
use Rattle.std.proofs.Common.{◌≡◌, ℕ, List, [], Option, ◌∷◌, ◌++◌, None, Some, ap, sym, ◌∙◌}
use Rattle.std.specs.Prelude.{codes}
use Rattle.std.proofs.lemmas.List.{append-nil, append_assoc}
use Rattle.percent_encoding.specs.Percent.{percent_encode as escaped}
use Rattle.edr_query.specs.declared.addresses.TheConstants.{ID_SET as IDS}
use Rattle.edr_query.specs.declared.addresses.QueryKind.{QueryKind}
use Rattle.edr_query.specs.declared.addresses.Address.TheVariants as to
use Rattle.edr_query.specs.Paths.{kind_text, path_text}
use Rattle.edr_describe.specs.Describing.{data_path}

-- a part of a path
abbrev part : List ℕ → List ℕ
part p = 47 ∷ escaped IDS p

pub collection_path_is : (c : List ℕ) → (47 ∷ escaped IDS (codes "collections")) ++ 47 ∷ escaped IDS c ≡ data_path c None
collection_path_is c = ap (λ (l : List ℕ). part (codes "collections") ++ l) (sym (append-nil (part c)))

-- two parts behind two others
two_parts : (a b d e : List ℕ) → (a ++ (b ++ []) ++ d) ++ e ≡ a ++ (b ++ (d ++ (e ++ [])))
two_parts a b d e =
    append_assoc (a ++ (b ++ [])) d e
    ∙ (append_assoc a (b ++ []) (d ++ e)
    ∙ (ap (λ (l : List ℕ). a ++ (l ++ (d ++ e))) (append-nil b)
    ∙ ap (λ (l : List ℕ). a ++ (b ++ (d ++ l))) (sym (append-nil e))))

pub instance_path_is : (c i : List ℕ) → (data_path c None ++ 47 ∷ escaped IDS (codes "instances")) ++ 47 ∷ escaped IDS i ≡ data_path c (Some i)
instance_path_is c i = two_parts (part (codes "collections")) (part c) (part (codes "instances")) (part i)

-- one part behind two others
one_part : (a b d : List ℕ) → a ++ (b ++ []) ++ d ≡ a ++ (b ++ (d ++ []))
one_part a b d =
    append_assoc a (b ++ []) d
    ∙ (ap (λ (l : List ℕ). a ++ (l ++ d)) (append-nil b) ∙ ap (λ (l : List ℕ). a ++ (b ++ l)) (sym (append-nil d)))

-- one part behind four others
fifth_part : (a b d e f : List ℕ) → a ++ (b ++ (d ++ (e ++ []))) ++ f ≡ a ++ (b ++ (d ++ (e ++ (f ++ []))))
fifth_part a b d e f =
    append_assoc a (b ++ (d ++ (e ++ []))) f
    ∙ ap (λ (l : List ℕ). a ++ l) (append_assoc b (d ++ (e ++ [])) f ∙ ap (λ (l : List ℕ). b ++ l) (one_part d e f))

pub query_path_is : (c : List ℕ) (i : Option (List ℕ)) (kind : QueryKind) → data_path c i ++ 47 ∷ escaped IDS (kind_text kind) ≡ path_text (to.Query kind c i)
query_path_is c None kind = one_part (part (codes "collections")) (part c) (part (kind_text kind))
query_path_is c (Some i) kind = fifth_part (part (codes "collections")) (part c) (part (codes "instances")) (part i) (part (kind_text kind))

pub instances_path_is : (c : List ℕ) → data_path c None ++ 47 ∷ escaped IDS (codes "instances") ≡ path_text (to.Instances c)
instances_path_is c = one_part (part (codes "collections")) (part c) (part (codes "instances"))

pub locations_path_is : (c : List ℕ) → data_path c None ++ 47 ∷ escaped IDS (codes "locations") ≡ path_text (to.Locations c)
locations_path_is c = one_part (part (codes "collections")) (part c) (part (codes "locations"))
