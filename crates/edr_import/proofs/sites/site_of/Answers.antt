use Rattle.std.proofs.Common.{rules, ◌≡◌, to_z, of_z, w64}
use Rattle.edr_import.proofs.SiteLemmas.{site_is}
use Rattle.edr_import.proofs.sites.site_of.Goals as goal

pub returns-clause-is : goal.returns-clause-is
returns-clause-is c =
    let id : c.in_ok-id.id ≡ c.args.first.now.station = search rules in
    let label : c.in_ok-label.label ≡ c.args.first.now.label = search rules in
    let x : to_z w64 (of_z w64 c.args.first.now.x) ≡ c.args.first.now.x = search rules in
    let y : to_z w64 (of_z w64 c.args.first.now.y) ≡ c.args.first.now.y = search rules in
    site_is c.args.observations.now c.args.first.now _ _ _ _ _ c.requires.among id label x y c.in_ok-times.ensures
