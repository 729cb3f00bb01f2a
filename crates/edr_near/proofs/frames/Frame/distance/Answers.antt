use Rattle.std.proofs.Common.{◌*◌, ◌-ℤ◌, unsigned_abs}
use Rattle.edr_near.proofs.Within.{square-le, sum-le, own_gap}
use Rattle.edr_near.proofs.frames.Frame.distance.Goals as goal

pub returns : goal.returns
returns c s held =
    let frame = c.args.self.now in
    let spot = c.args.spot.now in
    let across = c.gap-across.result in
    let along = c.gap-along.result in
    let x = unsigned_abs (s.x -ℤ spot.x) in
    let y = unsigned_abs (s.y -ℤ spot.y) in
    sum-le (across * across) (along * along) (x * x) (y * y)
    (square-le across x (own_gap frame.lo.x frame.hi.x spot.x across c.requires.own.lo.x c.requires.own.hi.x c.requires.spot.x c.gap-across.ensures.least s.x held.west held.east))
    (square-le along y (own_gap frame.lo.y frame.hi.y spot.y along c.requires.own.lo.y c.requires.own.hi.y c.requires.spot.y c.gap-along.ensures.least s.y held.south held.north))
