use Rattle.edr_near.proofs.Within.{still_from, still_to}
use Rattle.edr_near.proofs.frames.Frame.and.Goals as goal

pub returns-clause-first : goal.returns-clause-first
returns-clause-first c s held =
    let own = c.args.self.now in
    let within = c.requires.own in
    record {
      west = still_from c.lesser.result own.lo.x s.x c.lesser.ensures.within within.lo.x c.lesser.ensures.first held.west;
      east = still_to c.greater.result own.hi.x s.x c.greater.ensures.within within.hi.x c.greater.ensures.first held.east;
      south = still_from c.lesser-2.result own.lo.y s.y c.lesser-2.ensures.within within.lo.y c.lesser-2.ensures.first held.south;
      north = still_to c.greater-2.result own.hi.y s.y c.greater-2.ensures.within within.hi.y c.greater-2.ensures.first held.north;
    }

pub returns-clause-second : goal.returns-clause-second
returns-clause-second c s held =
    let other = c.args.other.now in
    let within = c.requires.other in
    record {
      west = still_from c.lesser.result other.lo.x s.x c.lesser.ensures.within within.lo.x c.lesser.ensures.second held.west;
      east = still_to c.greater.result other.hi.x s.x c.greater.ensures.within within.hi.x c.greater.ensures.second held.east;
      south = still_from c.lesser-2.result other.lo.y s.y c.lesser-2.ensures.within within.lo.y c.lesser-2.ensures.second held.south;
      north = still_to c.greater-2.result other.hi.y s.y c.greater-2.ensures.within within.hi.y c.greater-2.ensures.second held.north;
    }
