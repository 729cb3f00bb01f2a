use Rattle.std.proofs.Common.{rules, ◌≡◌, ◌<◌, ◌+◌, ◌∙◌, ap, length, take_all}
use Rattle.edr_import.specs.Imports.{times_in}
use Rattle.edr_import.proofs.LineLemmas.{times_more}
use Rattle.edr_import.proofs.importing.times_in.Goals as goal

pub loop-place-preserved : goal.loop-place-preserved
loop-place-preserved c =
    let more : c.in-Some.more ≡ c.loop-place.count + length (c.at.result.now).times = search rules in
    let inside : c.loop-place.place < length c.args.sites.now = search rules in
    more ∙ times_more c.args.sites.now c.loop-place.place c.at.result.now inside c.at.ensures c.loop-place.count c.loop-place.invariant

pub returns : goal.returns
returns c = c.loop-place.invariant ∙ ap times_in (take_all c.loop-place.place c.args.sites.now (search rules))
