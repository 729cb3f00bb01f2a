use Rattle.std.proofs.Common.{◌≡◌, length}
use Rattle.std.specs.Prelude.{IsUtf8}
use Rattle.edr_query.specs.Queries.{with_names, names_in}
use Rattle.edr_query.specs.Seen.{AreSeenIf}
use Rattle.edr_query.proofs.NameLemmas.{pieces, AreKept}
use Rattle.edr_query.proofs.filters.names_of.Given as goal

-- the names so far with those of the rest are those of the whole
abbrev pub invariant-loop-front : goal.invariant-loop-front
invariant-loop-front l =
    record {
      left : with_names l.names.items (pieces l.rest) ≡ names_in l.text;
      kept : AreKept l.names.items;
      seen : AreSeenIf l.many l.seen l.names.items;
      utf8 : IsUtf8 l.rest;
    }

abbrev pub decreases-loop-front : goal.decreases-loop-front
decreases-loop-front l = length l.rest
