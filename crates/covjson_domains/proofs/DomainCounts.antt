-- The tuples of a domain are as many as can be counted where those that were read are.
use Rattle.std.proofs.Common.{arith, ◌<◌, ◌^◌, Option, Some, None, length}
use Rattle.covjson_value.specs.declared.domain_types.DomainType.{DomainType}
use Rattle.covjson_value.specs.declared.domain_types.DomainType.TheVariants.{Grid, Point, PointSeries, VerticalProfile, MultiPoint, Trajectory}
use Rattle.covjson_domains.specs.declared.tuples.ReadTuples.{ReadTuples}
use Rattle.covjson_domains.specs.declared.domains.ReadAxes.{ReadAxes}
use Rattle.covjson_domains.specs.DomainAnswers.{CompositeCounted, AreCounted, tuples_of, domain_formed}

tuples_counted : (read : Option ReadTuples) → CompositeCounted read → length (tuples_of read).tuples < 2 ^ 64
tuples_counted None counted = omega arith
tuples_counted (Some read) counted = counted

pub formed_counted : (kind : DomainType) (read : ReadAxes) → CompositeCounted read.composite → AreCounted (domain_formed kind read)
formed_counted Grid read counted = tt
formed_counted Point read counted = tt
formed_counted PointSeries read counted = tt
formed_counted VerticalProfile read counted = tt
formed_counted MultiPoint read counted = tuples_counted read.composite counted
formed_counted Trajectory read counted = tuples_counted read.composite counted
