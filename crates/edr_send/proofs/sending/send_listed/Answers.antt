use Rattle.edr_chunk.specs.Tiles.{tile_shape}
use Rattle.edr_send.proofs.ReplyForms.{listing_rising, listing_reply}
use Rattle.edr_send.proofs.sending.send_listed.Goals as goal

pub send_document-requires-clause-over : goal.send_document-requires-clause-over
send_document-requires-clause-over g c =
    listing_rising c.args.plan.now c.args.store.now.subject c.subject_stands.ensures.held c.requires.stands c.args.store.now.numbers c.args.listing.now c.requires.listed _ c.in-Some.ensures

pub send_document-requires-clause-reply : goal.send_document-requires-clause-reply
send_document-requires-clause-reply g c =
    let shape = c.args.listing.now.shape in
    listing_reply c.args.plan.now c.args.store.now.subject c.subject_stands.ensures.held c.requires.stands c.args.store.now.numbers c.args.listing.now c.requires.listed _ c.in-Some.ensures
    c.requires.unread (c.tiles_are_numbered.ensures shape) (c.numbers_tell_places.ensures (tile_shape shape)) c.listing_stands.ensures.is
