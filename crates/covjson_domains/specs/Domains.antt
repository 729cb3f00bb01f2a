-- The domain of a tree (OGC 21-069r2, Domain objects and domain types), and what it stands for.
use Rattle.std.specs.Prelude.{◌≡◌, ℕ, List, All, codes, true, IsNone, Option, Some}
use Rattle.serde_json.specs.Data.{Data, string, object, Members}
use Rattle.serde_json.specs.Find.{get}
use Rattle.covjson_value.specs.declared.domains.CoordinateName.{CoordinateName}
use Rattle.covjson_value.specs.declared.axis_names.AxisName.{AxisName}
use Rattle.covjson_value.specs.declared.domains.Domain.{Domain}
use Rattle.covjson_value.specs.Domains.{axis_of, tuples_of, coordinates_of, is_among}
use Rattle.covjson_value.specs.Trees.{domain_type}
use Rattle.covjson_value.specs.AxisNames.{axis_key, axis_name}
use Rattle.covjson_value.specs.declared.axis_names.AxisName.TheVariants.{Composite}
use Rattle.edr_json.specs.Trees.{names_of}
use Rattle.covjson_checks.specs.declared.turned.Turned.{Turned}
use Rattle.covjson_domains.specs.Axes.{HasSameAxis}
use Rattle.covjson_checks.specs.Turns.{is_turned}
use Rattle.covjson_domains.specs.Tuples.{HasSameTuples}

-- the name of an axis
abbrev pub IsAxisKey : List ℕ → Type 0
IsAxisKey key = (name : AxisName) × (key ≡ axis_key name)

-- a domain of its type, with its axes and no others; a coordinate of its tuples has no axis of its own
pub record StandsForDomain (kind : Option Data) (tree : Data) (turned : Turned) (domain : Domain) : Type 0 where
  pub kind_is : kind ≡ Some (string (domain_type domain))
  pub members : Members
  pub axes : get (codes "axes") tree ≡ Some (object members)
  pub no_others : All IsAxisKey (names_of members)
  pub same_axes : (name : CoordinateName) → HasSameAxis name (get (axis_key (axis_name name)) (object members)) (is_turned turned name) (axis_of domain name)
  pub same_tuples : HasSameTuples (coordinates_of domain) (get (axis_key Composite) (object members)) (tuples_of domain)
  pub once : (name : CoordinateName) → is_among name (coordinates_of domain) ≡ true → IsNone (axis_of domain name)
