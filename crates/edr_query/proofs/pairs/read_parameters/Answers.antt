use Rattle.std.proofs.Common.{map, sym, subst, List}
use Rattle.std.specs.declared.option.Option.{Option}
use Rattle.form_urlencoded.specs.Parse.{raw_pairs_left}
use Rattle.edr_query.specs.Parameters.{Pair, read_pair, pairs_in}
use Rattle.edr_query.specs.Reads.{IsFound}
use Rattle.edr_query.proofs.ReadLemmas.{later_more, known_more, found_next}
use Rattle.edr_query.proofs.pairs.read_parameters.Goals as goal

pub loop-name-preserved : goal.loop-name-preserved
loop-name-preserved c =
    let raw = raw_pairs_left c.loop-name.name-iterator in let left = raw_pairs_left c.next.new.self in let all = pairs_in c.args.text.now in
    let name = c.in-Some.name.now in let value = c.in-Some.value.now in let inv = c.loop-name.invariant in let p = c.in_ok-parameter.parameter in
    let e = c.in-Some.ensures.steps in
    let P : Option (List Pair) → Type 0 = λ f. IsFound f (map read_pair left) all in
    record {
      later = later_more c.args.page raw left all name value e inv.later;
      known = known_more c.args.page raw left all name value p e c.in_ok-parameter.ensures.0 c.in_ok-parameter.ensures.1 inv.known;
      found = subst P (sym c.in_ok-found.ensures) (found_next c.loop-name.found raw left all name value p e c.in_ok-parameter.ensures.0 inv.found);
    }
