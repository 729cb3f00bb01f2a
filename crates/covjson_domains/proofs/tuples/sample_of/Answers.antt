use Rattle.std.proofs.Common.{rules, arith, ◌≡◌, ◌<◌, ◌∙◌, length, get_or, false, bytes_eq, sym}
use Rattle.edr_samples.specs.Tokens.{sample_data}
use Rattle.covjson_value.specs.declared.domains.CoordinateName.TheVariants.{T}
use Rattle.covjson_value.specs.Domains.{coordinate_key}
use Rattle.covjson_domains.proofs.TupleLists.{seen_later}
use Rattle.covjson_domains.proofs.tuples.sample_of.Goals as goal

pub loop-place-preserved : goal.loop-place-preserved
loop-place-preserved c =
    let name = c.args.name in
    let names = c.args.names.now in
    let xs = c.args.samples.now in
    let i = c.loop-place.place in
    let counted : i < length xs = omega (arith, c.requires) in
    let differs : bytes_eq (coordinate_key name) (coordinate_key (get_or names i T)) ≡ false = search rules in
    sym (seen_later sample_data name T names xs i c.loop-place-test.true counted differs) ∙ c.loop-place.invariant
