-- For private clauses: observations in the order of their stations, times and parameters.
use Rattle.std.specs.Prelude.{ℕ, ℤ, Bool, List}
use Rattle.std.specs.declared.cmp.Ordering.{Ordering}
use Rattle.std.specs.List.Sorted.{IsSortedBy}
use Rattle.std.specs.Ordering.{ordering_then, int_cmp, is_lt}
use Rattle.edr_base.specs.Names.{order}
use Rattle.edr_csv.specs.declared.observations.Observation.{Observation}

pub record Key : Type 0 where
  pub station : List ℕ
  pub t : ℤ
  pub parameter : List ℕ

abbrev pub key_of : Observation → Key
key_of o = record { station = o.station; t = o.t; parameter = o.parameter }

abbrev pub key_order : Key → Key → Ordering
key_order a b = ordering_then (order a.station b.station) (ordering_then (int_cmp a.t b.t) (order a.parameter b.parameter))

abbrev pub is_before : Observation → Observation → Bool
is_before a b = is_lt (key_order (key_of a) (key_of b))

abbrev pub AreSorted : List Observation → Type 0
AreSorted observations = IsSortedBy is_before observations
