use Rattle.std.proofs.Common.{◌∙◌, List, Ok, Err, true, false, inl, refl, sym, ap, subst}
use Rattle.edr_base.specs.Outside.{Aside}
use Rattle.edr_edition.specs.Values.{EditionValue}
use Rattle.edr_feed.specs.Feeds.{FeedStandsIn}
use Rattle.edr.proofs.EndLemmas.{replay_output, fault_cause, rose_earlier, waits_more, waits_any}
use Rattle.edr.proofs.ReplayLemmas.{replay_read, waits_feed, file_read}
use Rattle.edr.proofs.replaying.replay.Goals as goal

pub returns-in-Ok-read_feed-clause-output : goal.returns-in-Ok-read_feed-clause-output
returns-in-Ok-read_feed-clause-output g c =
    let stands = subst (λ (list : List EditionValue). FeedStandsIn (g.F.Source.left c.open.new.self) (Ok list)) (sym c.into_vec.ensures) c.in-Ok-read_feed.ensures.editions in
    rw c.if-advances.true (replay_output c.served_advancing.result true c.into_vec.result.items _ _ _ _ _ _ c.in-Ok.ensures.left stands c.served_advancing.ensures.output)

pub returns-in-Ok-2-clause-output : goal.returns-in-Ok-2-clause-output
returns-in-Ok-2-clause-output g c =
    let stands = subst (λ (list : List EditionValue). FeedStandsIn (g.F.Source.left c.open.new.self) (Ok list)) (sym c.into_vec-in-Ok-2.ensures) c.in-Ok-read_feed.ensures.editions in
    rw c.if-advances.false (replay_output c.served_from_first.result false c.into_vec-in-Ok-2.result.items _ _ _ _ _ _ c.in-Ok.ensures.left stands c.served_from_first.ensures.output)

pub returns-in-Ok-read_feed-clause-read : goal.returns-in-Ok-read_feed-clause-read
returns-in-Ok-read_feed-clause-read g c =
    let stands = subst (λ (list : List EditionValue). FeedStandsIn (g.F.Source.left c.open.new.self) (Ok list)) (sym c.into_vec.ensures) c.in-Ok-read_feed.ensures.editions in
    rw c.if-advances.true (replay_read true c.into_vec.result.items _ _ _ _ _ _ c.in-Ok.ensures.left stands c.served_advancing.ensures.behind c.served_advancing.ensures.read)

pub returns-in-Ok-2-clause-read : goal.returns-in-Ok-2-clause-read
returns-in-Ok-2-clause-read g c =
    let stands = subst (λ (list : List EditionValue). FeedStandsIn (g.F.Source.left c.open.new.self) (Ok list)) (sym c.into_vec-in-Ok-2.ensures) c.in-Ok-read_feed.ensures.editions in
    rw c.if-advances.false (replay_read false c.into_vec-in-Ok-2.result.items _ _ _ _ _ _ c.in-Ok.ensures.left stands c.served_from_first.ensures.behind c.served_from_first.ensures.read)

pub returns-in-Err-clause-cause : goal.returns-in-Err-clause-cause
returns-in-Err-clause-cause g c =
    let closed = ap (λ (aside : Aside). aside.idle) c.in-Err.ensures.lent.same ∙ c.in-Ok.ensures.ready in
    rw c.ending_of.ensures
    (fault_cause c.in-Err.fault _ _ _ _ c.in-Ok.ensures.left c.in-Err.ensures.fault (λ is. (rose_earlier _ _ _ c.in-Ok.ensures.cause.later (c.in-Err.ensures.cause (ap Err is)), closed)))

pub returns-in-Ok-read_feed-clause-waits : goal.returns-in-Ok-read_feed-clause-waits
returns-in-Ok-read_feed-clause-waits g c =
    let stands = subst (λ (list : List EditionValue). FeedStandsIn (g.F.Source.left c.open.new.self) (Ok list)) (sym c.into_vec.ensures) c.in-Ok-read_feed.ensures.editions in
    rw c.if-advances.true (waits_more c.served_advancing.result _ _ (waits_feed true c.into_vec.result.items _ _ _ _ _ _ _ c.in-Ok.ensures.left stands) c.served_advancing.ensures.waits)

pub returns-in-Ok-2-clause-waits : goal.returns-in-Ok-2-clause-waits
returns-in-Ok-2-clause-waits g c =
    let stands = subst (λ (list : List EditionValue). FeedStandsIn (g.F.Source.left c.open.new.self) (Ok list)) (sym c.into_vec-in-Ok-2.ensures) c.in-Ok-read_feed.ensures.editions in
    rw c.if-advances.false (waits_more c.served_from_first.result _ _ (waits_feed false c.into_vec-in-Ok-2.result.items _ _ _ _ _ _ _ c.in-Ok.ensures.left stands) c.served_from_first.ensures.waits)

pub returns-in-Err-clause-waits : goal.returns-in-Err-clause-waits
returns-in-Err-clause-waits g c = waits_any c.ending_of.result _ (inl (refl, refl))

pub returns-in-Ok-read_feed-clause-file : goal.returns-in-Ok-read_feed-clause-file
returns-in-Ok-read_feed-clause-file g c =
    file_read _ _ _ _ (ap (λ (aside : Aside). aside.idle) c.in-Ok-read_feed.ensures.lent.same ∙ c.in-Ok.ensures.ready) c.in-Ok.ensures.left c.in-Ok-read_feed.ensures.bounded

pub returns-in-Ok-2-clause-file : goal.returns-in-Ok-2-clause-file
returns-in-Ok-2-clause-file g c =
    file_read _ _ _ _ (ap (λ (aside : Aside). aside.idle) c.in-Ok-read_feed.ensures.lent.same ∙ c.in-Ok.ensures.ready) c.in-Ok.ensures.left c.in-Ok-read_feed.ensures.bounded

pub returns-in-Err-clause-file : goal.returns-in-Err-clause-file
returns-in-Err-clause-file g c =
    file_read _ _ _ _ (ap (λ (aside : Aside). aside.idle) c.in-Err.ensures.lent.same ∙ c.in-Ok.ensures.ready) c.in-Ok.ensures.left c.in-Err.ensures.bounded
