-- For private clauses, and `put_if` for `put_given`: members as they are put, one after another.
use Rattle.std.specs.Prelude.{ℕ, ℤ, codes, List, [], option_map}
use Rattle.std.specs.declared.option.Option.{Option}
use Rattle.std.specs.Prelude.{None, Some}
use Rattle.serde_json.specs.Data.{Data, string, object, Members, no_members, put}
use Rattle.covjson_value.specs.declared.domains.CoordinateName.{CoordinateName}
use Rattle.covjson_value.specs.Domains.{AxisLength, axis_before}

-- the members with a value at a key, where it is given
abbrev pub put_if : List ℕ → Option Data → Members → Members
put_if key None rest = rest
put_if key (Some d) rest = put key d rest

-- the members of a coverage but for its type: its domain, its id where it has one, its parameters and its ranges
abbrev pub put_coverage : Data → Option Data → Data → Data → Members → Members
put_coverage domain id parameters ranges rest =
    put (codes "ranges") ranges (put (codes "parameters") parameters (put_if (codes "id") id (put (codes "domain") domain rest)))

-- those of a domain: its axes, the name of its type and the systems of its coordinates
abbrev pub put_domain : Data → List ℕ → Data → Members → Members
put_domain axes name systems rest = put (codes "referencing") systems (put (codes "domainType") (string name) (put (codes "axes") axes rest))

-- the members of a composite axis: the names of its coordinates, and its tuples
abbrev pub put_tuples : Data → Data → Members → Members
put_tuples names tuples rest = put (codes "values") tuples (put (codes "dataType") (string (codes "tuple")) (put (codes "coordinates") names rest))

-- the members of a range but for its type: the names and the lengths of its axes where it has some, and its values
abbrev pub put_range : Option Data → Option Data → Data → Members → Members
put_range names lengths values rest =
    put (codes "values") values (put (codes "dataType") (string (codes "integer")) (put_if (codes "shape") lengths (put_if (codes "axisNames") names rest)))

-- the list of an axis, where there is one
abbrev pub axis_alone : CoordinateName → Option (List ℤ) → List AxisLength
axis_alone name axis = axis_before name axis []

-- a system of coordinates of a kind, with a text that tells more of it where that is given
abbrev pub system_with : List ℕ → Option (List ℕ) → List ℕ → Data
system_with key text kind = object (put (codes "type") (string kind) (put_if key (option_map string text) no_members))
