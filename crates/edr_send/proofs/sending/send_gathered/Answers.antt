use Rattle.std.proofs.Common.{rules, ◌≡◌, ◌++◌, ◌∙◌, ap, sym, subst, refl, ℕ, List}
use Rattle.std.specs.Prelude.{map}
use Rattle.edr_base.specs.Calls.{Writes}
use Rattle.covjson_value.specs.Trees.{document_text}
use Rattle.edr_chunk.specs.Tiles.{tiles, tile_of}
use Rattle.edr_edition.specs.Stores.{Subject}
use Rattle.edr_select.specs.Samples.{ascending_once}
use Rattle.edr_select.specs.Selections.{needed}
use Rattle.edr_select.specs.Documents.{document}
use Rattle.edr_select.specs.Listings.{ListingValue}
use Rattle.edr_send.specs.Forms.{gathered_sent}
use Rattle.edr_send.specs.Gathered.{places_of_coverages}
use Rattle.edr_send.specs.Sending.{Opens}
use Rattle.edr_send.specs.SentReplies.{IsReplyOf}
use Rattle.edr_send.proofs.Additions.{opens_begun}
use Rattle.edr_send.proofs.ReplyForms.{gathered_reply, gathered_chunks}
use Rattle.edr_send.proofs.sending.send_gathered.Goals as goal

pub returns-in_err-gathered-clause-reads : goal.returns-in_err-gathered-clause-reads
returns-in_err-gathered-clause-reads g c =
    let s : Subject = c.args.store.now.subject in
    let listing : ListingValue = c.args.listing.now in
    let wanted : List ℕ = ascending_once (tiles listing.shape) (map (tile_of listing.shape) (places_of_coverages listing.parameters listing.coverages)) in
    opens_begun c.from_residual.result wanted (needed s c.args.plan.now.query) c.args.store.now.numbers c.gather.new.store.numbers (search rules) c.requires.unread
    (gathered_chunks c.args.plan.now s c.subject_stands.ensures.held c.requires.stands c.args.store.now.numbers listing c.requires.listed refl) c.gather.ensures.reads.begun

pub send_document-requires-clause-reply : goal.send_document-requires-clause-reply
send_document-requires-clause-reply g c =
    let s : Subject = c.args.store.now.subject in
    let query = c.args.plan.now.query in
    let listing : ListingValue = c.args.listing.now in
    let numbers : List ℕ = c.gather.new.store.numbers in
    let wanted : List ℕ = ascending_once (tiles listing.shape) (map (tile_of listing.shape) (places_of_coverages listing.parameters listing.coverages)) in
    let all : numbers ≡ wanted = c.in_ok-gathered.ensures.reads.all ∙ ap (λ (l : List ℕ). l ++ wanted) c.requires.unread in
    subst (λ (l : ListingValue). IsReplyOf (gathered_sent l c.gather.new.store.subject.held) numbers (document c.gather.new.store.subject query) (needed c.gather.new.store.subject query)) (sym c.in_ok-gathered.ensures.plan)
    (subst (λ (t : Subject). IsReplyOf (gathered_sent listing t.held) numbers (document t query) (needed t query)) (sym c.gather.ensures.subject)
    (gathered_reply c.args.plan.now s c.subject_stands.ensures.held c.requires.stands numbers listing c.requires.listed all c.listing_stands.ensures.is))

pub returns-clause-text : goal.returns-clause-text
returns-clause-text g c =
    subst (λ (s : Subject). Writes c.send_document.result (document_text (document s c.args.plan.now.query)) (g.K.Sink.written c.args.sink.now) (g.K.Sink.written c.send_document.new.sink)) c.gather.ensures.subject c.send_document.ensures.text

pub returns-clause-reads : goal.returns-clause-reads
returns-clause-reads g c =
    subst (λ (s : Subject). Opens c.send_document.result (needed s c.args.plan.now.query) c.send_document.new.store.numbers) c.gather.ensures.subject c.send_document.ensures.reads
