use Rattle.std.proofs.Common.{rules, ◌≡◌, ◌+◌, ◌+ℤ◌, to_z, of_z, ◌∙◌}
use Rattle.std.specs.Int.{w128}
use Rattle.edr_station.specs.TallyLaws.{tally_same}
use Rattle.edr_station.proofs.tallies.Tally.with_tally.Goals as goal

pub returns : goal.returns
returns c =
    let samples : c.in_ok-samples.samples ≡ c.args.self.samples + c.args.other.samples = search rules in
    let present : c.in_ok-present.present ≡ c.args.self.present + c.args.other.present = search rules in
    let sum : c.in_ok-sum.sum ≡ c.args.self.sum +ℤ c.args.other.sum = search rules in
    let same : to_z w128 (of_z w128 c.in_ok-sum.sum) ≡ c.in_ok-sum.sum = search rules in
    tally_same _ _ _ _ _ _ samples present (same ∙ sum)
