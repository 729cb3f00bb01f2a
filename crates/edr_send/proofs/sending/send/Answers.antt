use Rattle.std.proofs.Common.{rules, ◌≡◌}
use Rattle.edr_chunk.specs.Tiles.{tile_shape}
use Rattle.edr_select.specs.declared.plans.Reply.TheVariants.{Framed, Stacked, Series}
use Rattle.edr_send.proofs.ReplyForms.{framing_reply, stacking_reply, series_reply}
use Rattle.edr_send.proofs.sending.send.Goals as goal

pub send_document-requires-clause-reply : goal.send_document-requires-clause-reply
send_document-requires-clause-reply g c =
    let is : c.args.plan.now.reply ≡ Framed c.in-Framed.framing = search rules in
    framing_reply c.args.plan.now c.args.store.now.subject c.subject_stands.ensures.held c.requires.stands c.args.store.now.numbers c.in-Framed.framing is
    c.requires.unread (c.tiles_are_numbered.ensures c.in-Framed.framing.shape) (c.numbers_tell_places.ensures (tile_shape c.in-Framed.framing.shape)) c.framing_stands.ensures.is

pub send_document-requires-in-Stacked-clause-reply : goal.send_document-requires-in-Stacked-clause-reply
send_document-requires-in-Stacked-clause-reply g c =
    let is : c.args.plan.now.reply ≡ Stacked c.in-Stacked.stacking = search rules in
    stacking_reply c.args.plan.now c.args.store.now.subject c.subject_stands.ensures.held c.requires.stands c.args.store.now.numbers c.in-Stacked.stacking is
    c.requires.unread (c.tiles_are_numbered.ensures c.in-Stacked.stacking.shape) (c.numbers_tell_places.ensures (tile_shape c.in-Stacked.stacking.shape)) c.stacking_stands.ensures.is

pub send_document-requires-in-Series-clause-reply : goal.send_document-requires-in-Series-clause-reply
send_document-requires-in-Series-clause-reply g c =
    let is : c.args.plan.now.reply ≡ Series c.in-Series.reply = search rules in
    series_reply c.args.plan.now c.args.store.now.subject c.subject_stands.ensures.held c.requires.stands c.args.store.now.numbers c.in-Series.reply is
    c.requires.unread c.series_reply_stands.ensures
