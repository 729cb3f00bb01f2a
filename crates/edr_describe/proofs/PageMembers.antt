-- The members of a page, in two parts.
use Rattle.std.proofs.Common.{◌≡◌, ℕ, List, Option, Some, None, refl}
use Rattle.serde_json.specs.Data.{Data, object}
use Rattle.edr_describe.specs.Descriptions.{page_object}
use Rattle.edr_describe.specs.Describing.{head_members, with_rest}

pub page_is : (crs : List ℕ) (queries : Data) (extent : Option Data) (id : List ℕ) (parameters : Data) (title : List ℕ)
    → object (with_rest (head_members crs queries extent id) parameters title) ≡ page_object crs queries extent id parameters title
page_is crs queries None id parameters title = refl
page_is crs queries (Some e) id parameters title = refl
