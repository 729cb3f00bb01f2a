-- Coverages by their parts, for private clauses.
use Rattle.covjson_value.specs.declared.domains.Domain.{Domain}
use Rattle.covjson_value.specs.declared.coverages.Coverage.{Coverage}
use Rattle.covjson_read.specs.declared.coverages.Parts.{Parts}

-- a coverage of a domain and what it has beside it
abbrev pub with_domain : Domain → Parts → Coverage
with_domain domain parts = record {
  id = parts.id;
  domain = domain;
  referencing = parts.referencing;
  parameters = parts.ranges.parameters;
  ranges = parts.ranges.ranges;
}
