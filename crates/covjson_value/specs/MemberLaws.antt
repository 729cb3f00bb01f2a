-- Laws of members that may be left out.
use Rattle.std.proofs.Common.{◌≡◌, ℕ, List, Option, Some, None, refl}
use Rattle.serde_json.specs.Data.{Data, Members, member}
use Rattle.serde_json.specs.Find.{get_member}
use Rattle.covjson_value.specs.Trees.{member_if}

-- a member of another name is passed over, whether it is there or not
pub member_passed : (name other : List ℕ) (given : Option Data) (rest : Members) → ((d : Data) → get_member name (member other d rest) ≡ get_member name rest)
    → get_member name (member_if other given rest) ≡ get_member name rest
member_passed name other None rest apart = refl
member_passed name other (Some d) rest apart = apart d

-- a member that may be left out is found where it is there
pub member_found : (name : List ℕ) (given : Option Data) (rest : Members) → ((d : Data) → get_member name (member name d rest) ≡ Some d) → get_member name rest ≡ None
    → get_member name (member_if name given rest) ≡ given
member_found name None rest here none = none
member_found name (Some d) rest here none = here d
