-- What is written of a coverage stands for it.
use Rattle.std.proofs.Common.{◌≡◌, ℕ, List, codes, length, Option, Some, None, option_map, option_and_then, refl, sym, ap, ◌∙◌, arith}
use Rattle.std.proofs.lemmas.List.{length-map}
use Rattle.std.specs.Option.{option_or}
use Rattle.serde_json.specs.Data.{Data, string, Members, no_members, member}
use Rattle.serde_json.specs.Find.{get, as_str}
use Rattle.covjson_value.specs.declared.domains.CoordinateName.TheVariants.{T, Z}
use Rattle.covjson_value.specs.declared.coverages.Parameter.{Parameter}
use Rattle.covjson_value.specs.declared.coverages.Coverage.{Coverage}
use Rattle.covjson_value.specs.Domains.{has_coordinate}
use Rattle.covjson_value.specs.Coverages.{ids_of, IsValid}
use Rattle.covjson_value.specs.Trees.{members_in_order, domain_data, parameters_data, named_ranges, ranges_data, coverage_data}
use Rattle.covjson_read.specs.Standing.{StandsForRanges, StandsIn}
use Rattle.covjson_value.specs.MemberLaws.{member_passed, member_found}
use Rattle.covjson_checks.specs.Turns.{unturned}
use Rattle.covjson_domains.specs.Laws.{WrittenDomainsStand}
use Rattle.covjson_ranges.specs.Laws.{WrittenRangesStand}
use Rattle.covjson_read.proofs.WrittenSystems.{systems_written}
use Rattle.covjson_read.proofs.WrittenParameters.{parameters_written, parameters_stand_written}

-- a text that was given is read again
text_back : (text : Option (List ℕ)) → text ≡ option_and_then as_str (option_map string text)
text_back None = refl
text_back (Some text) = refl

-- the members that follow the id
abbrev after_id : Coverage → Members
after_id coverage =
    member (codes "parameters") (parameters_data coverage.parameters)
    (member (codes "ranges") (ranges_data coverage.domain coverage.parameters coverage.ranges)
    (member (codes "type") (string (codes "Coverage")) no_members))

-- the datum of the id
abbrev id_given : Coverage → Option Data
id_given coverage = option_map string coverage.id

-- the type of what is written of a coverage
pub kind_found : (coverage : Coverage) → get (codes "type") (coverage_data coverage) ≡ Some (string (codes "Coverage"))
kind_found coverage = member_passed (codes "type") (codes "id") (id_given coverage) (after_id coverage) (λ d. refl)

-- it is found in the coverage
id_found : (coverage : Coverage) → get (codes "id") (coverage_data coverage) ≡ id_given coverage
id_found coverage = member_found (codes "id") (id_given coverage) (after_id coverage) (λ d. refl) refl

-- so are the parameters
parameters_found : (coverage : Coverage) → get (codes "parameters") (coverage_data coverage) ≡ Some (parameters_data coverage.parameters)
parameters_found coverage = member_passed (codes "parameters") (codes "id") (id_given coverage) (after_id coverage) (λ d. refl)

-- and the ranges
ranges_found : (coverage : Coverage) → get (codes "ranges") (coverage_data coverage) ≡ Some (ranges_data coverage.domain coverage.parameters coverage.ranges)
ranges_found coverage = member_passed (codes "ranges") (codes "id") (id_given coverage) (after_id coverage) (λ d. refl)

-- the ranges stand in the order of their parameters
ranges_stand_written : WrittenRangesStand → (coverage : Coverage) → IsValid coverage
    → StandsForRanges coverage.domain unturned (parameters_data coverage.parameters) (members_in_order (named_ranges coverage.domain coverage.parameters coverage.ranges)) coverage.parameters coverage.ranges
ranges_stand_written ranges coverage h =
    let ids = ids_of coverage.parameters in
    let as_many : length coverage.ranges ≡ length ids = h.as_many ∙ sym (length-map coverage.parameters (λ (p : Parameter). p.id)) in
    let written = ranges coverage.domain ids coverage.ranges as_many h.ranges in
    record {
      some = omega (arith, h.some, h.as_many);
      ids = sym written.0;
      parameters_stand = parameters_stand_written coverage.parameters h.ascending;
      ranges_stand = written.1;
    }

-- what is written of a valid coverage stands for it in any collection: it has all its members itself
pub collected_stands_written : WrittenDomainsStand → WrittenRangesStand → (collection : Data) (coverage : Coverage) → IsValid coverage → StandsIn collection (coverage_data coverage) coverage
collected_stands_written domains ranges collection coverage h = record {
  kind = kind_found coverage;
  id = text_back coverage.id ∙ ap (option_and_then as_str) (sym (id_found coverage));
  domain = domain_data coverage.domain coverage.referencing;
  domain_at = refl;
  turned = unturned;
  domain_stands = domains coverage.domain coverage.referencing h.axes h.tuples;
  referencing_stands = systems_written (has_coordinate coverage.domain Z) (has_coordinate coverage.domain T) coverage.referencing h.vertical;
  parameters = parameters_data coverage.parameters;
  parameters_at = ap (λ (found : Option Data). option_or found (get (codes "parameters") collection)) (parameters_found coverage);
  parameters_are = parameters_written coverage.parameters h.parameters;
  ranges = members_in_order (named_ranges coverage.domain coverage.parameters coverage.ranges);
  ranges_at = ranges_found coverage;
  ranges_stand = ranges_stand_written ranges coverage h;
}
