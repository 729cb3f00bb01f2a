use Rattle.std.proofs.Common.{sym}
use Rattle.edr_import.proofs.LineLemmas.{sites_line, publish_line, feed_joined}
use Rattle.edr_import.proofs.lines.feed_of.Goals as goal

pub returns : goal.returns
returns c =
    feed_joined c.args.stations.now _ _ c.in_ok-text.text.items c.push_stations.new.text.items c.extend_from_slice.new.self.items
    (sym sites_line) (sym publish_line) c.in_ok-text.ensures.items c.in_ok-push_stations.ensures c.in_ok-extend_from_slice.ensures.items
