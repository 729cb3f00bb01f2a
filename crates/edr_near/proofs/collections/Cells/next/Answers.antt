use Rattle.std.proofs.Common.{◌<◌, ◌≤◌, ℕ, IsSomeAnd, option_map, sym, subst, arith}
use Rattle.edr_near.specs.Near.{distance_of}
use Rattle.edr_near.specs.Cells.{distances, distance_at}
use Rattle.edr_near.proofs.Within.{distances_long}
use Rattle.edr_near.proofs.Searching.{rank_below}
use Rattle.edr_near.proofs.collections.Cells.next.Goals as goal

pub returns-in-Some : goal.returns-in-Some
returns-in-Some g c number inside unread =
    let ds = distances c.args.spot.now c.args.self.now in
    let long = distances_long c.args.spot.now c.args.self.now in
    let first = c.in_ok-first.first in
    let le = c.in_ok-first.ensures.first number (omega (arith, inside, long)) unread in
    let below : first.distance ≤ distance_at ds number = rank_below first.distance (distance_at ds number) first.place number (omega (arith, inside, long, c.stand.ensures.fits)) le in
    subst (λ b. IsSomeAnd (option_map (λ b. distance_of g.T.Identified.id_of g.T.Placed.spot_of c.args.spot.now b.now) b) (λ (distance : ℕ). distance < distance_at ds number)) (sym c.in-Some.is)
    (omega (arith, below, c.if-distance_of-first.true, c.distance_of.ensures))
