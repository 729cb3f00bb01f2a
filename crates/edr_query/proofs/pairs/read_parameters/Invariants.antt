use Rattle.std.proofs.Common.{map}
use Rattle.form_urlencoded.specs.Parse.{raw_pairs_left}
use Rattle.edr_query.specs.Parameters.{read_pair, pairs_in, HasUnknown}
use Rattle.edr_query.specs.Reads.{IsFound}
use Rattle.edr_query.proofs.pairs.read_parameters.Given as goal

-- what is unknown stands in the pairs that are left, and the pairs so far with these are all
abbrev pub invariant-loop-name : goal.invariant-loop-name
invariant-loop-name l =
    record {
      later : HasUnknown l.page (map read_pair (raw_pairs_left l.name-iterator)) → HasUnknown l.page (pairs_in l.text);
      known : HasUnknown l.page (pairs_in l.text) → HasUnknown l.page (map read_pair (raw_pairs_left l.name-iterator));
      found : IsFound l.found (map read_pair (raw_pairs_left l.name-iterator)) (pairs_in l.text);
    }
