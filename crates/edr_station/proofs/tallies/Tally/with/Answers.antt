use Rattle.std.proofs.Common.{rules, ◌≡◌, ◌+◌, ◌+ℤ◌, pos, to_z, of_z, ◌∙◌, arith}
use Rattle.std.specs.Int.{w128}
use Rattle.std.proofs.lemmas.Int.{ints}
use Rattle.edr_station.specs.TallyLaws.{tally_same}
use Rattle.edr_station.proofs.tallies.Tally.with.Goals as goal

pub returns-in_ok-checked_add-in-Some-2 : goal.returns-in_ok-checked_add-in-Some-2
returns-in_ok-checked_add-in-Some-2 c =
    let samples : c.in_ok-samples.samples ≡ c.args.self.samples + 1 = search rules in
    let present : c.in_ok-checked_add-in-Some.field-0 ≡ c.args.self.present + 1 = search rules in
    let sum : c.in_ok-checked_add-in-Some-2.field-0 ≡ c.args.self.sum +ℤ c.in-Some.number = search rules in
    let same : to_z w128 (of_z w128 c.in_ok-checked_add-in-Some-2.field-0) ≡ c.in_ok-checked_add-in-Some-2.field-0 = search rules in
    let nothing : c.in-Some.number ≡ c.in-Some.number +ℤ pos 0 = omega (arith, ints) in
    rw c.in-Some.is (tally_same _ _ _ _ _ _ samples present (same ∙ (sum ∙ omega (arith, ints))))

pub returns-in-None : goal.returns-in-None
returns-in-None c =
    let samples : c.in_ok-samples.samples ≡ c.args.self.samples + 1 = search rules in
    let same : to_z w128 (of_z w128 c.args.self.sum) ≡ c.args.self.sum = search rules in
    rw c.in-None.is (tally_same _ _ _ _ _ _ samples (omega arith) (same ∙ omega (arith, ints)))
