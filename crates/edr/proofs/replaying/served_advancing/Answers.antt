use Rattle.std.proofs.Common.{rules, ◌≡◌, ◌≤◌, ◌+◌, ◌-◌, ◌++◌, ◌∙◌, List, length, true, None, Err, inl, inr, ⊎_elim, sym, ap, subst, option_to_list, IfSome}
use Rattle.std.specs.Io.KnownBytes.{prepend_known}
use Rattle.std.specs.Vec.Iter.{into_iter_items, into_iter_len}
use Rattle.edr_base.specs.Calls.{IsFlushed}
use Rattle.edr_edition.specs.Values.{EditionValue}
use Rattle.edr_edition.specs.Shelves.{IsNext}
use Rattle.edr_serve.specs.Sessions.{state}
use Rattle.edr_serve.specs.AheadLaws.{few_held}
use Rattle.edr.proofs.EndLemmas.{settled_output, broken_output, read_so_far, broken_waits, settled_waits}
use Rattle.edr.proofs.ReplayLemmas.{same_shelf}
use Rattle.edr.proofs.AdvanceLemmas.{is_next, last_stands, stands_more, left_counted, none_after, session_goes, session_ends, session_broken, going_broken, whole_over, part_over, served_over, read_over, read_broken, read_going, read_waits, behind_on, left_now, left_behind, ended_left}
use Rattle.edr.proofs.replaying.served_advancing.Goals as goal

pub returns-in-Some-end-clause-output : goal.returns-in-Some-end-clause-output
returns-in-Some-end-clause-output g c =
    let over = session_ends c.output_goes_on.ensures c.args.editions.items c.requests.turn (length c.requests.inbox) c.serve_one.new.inbox (g.S.Source.left c.args.input.now) (prepend_known c.requests.inbox (g.S.Source.left c.requests.input)) (g.S.Source.left c.serve_one.new.source) (g.K.Sink.written c.args.output.now) (state (g.K.Sink.written c.requests.output) c.requests.shelf None) (state (g.K.Sink.written c.serve_one.new.sink) c.serve_one.new.shelf None) c.in-Ok-serve_one.report c.in-Some-end.field-0 c.requests.invariant.turn_in.0 (last_stands c.args.editions.items c.requests.shelf (into_iter_items c.requests.behind) c.requests.turn c.requests.invariant.stands c.requests.invariant.turn_in.0) c.in-Ok-serve_one.ensures.stock c.requests.invariant.few c.in-Ok-serve_one.ensures.short c.requests.invariant.going c.in-Ok-serve_one.ensures.done c.in-Some-end.is in
    settled_output c.settled.result true _ _ _ _ _ _ _ c.settled.ensures.settles
    (λ settled. whole_over c.args.editions.items (g.S.Source.left c.args.input.now) (g.S.Source.left c.serve_one.new.source) (g.K.Sink.written c.args.output.now) (g.K.Sink.written c.serve_one.new.sink) _ _ c.in-Some-end.field-0 over c.settled.ensures.written settled)
    (part_over c.args.editions.items (g.S.Source.left c.args.input.now) (g.S.Source.left c.serve_one.new.source) (g.K.Sink.written c.args.output.now) (g.K.Sink.written c.serve_one.new.sink) _ c.in-Some-end.field-0 over c.settled.ensures.written)

pub returns-in-Some-end-clause-ended : goal.returns-in-Some-end-clause-ended
returns-in-Some-end-clause-ended g c =
    let over = session_ends c.output_goes_on.ensures c.args.editions.items c.requests.turn (length c.requests.inbox) c.serve_one.new.inbox (g.S.Source.left c.args.input.now) (prepend_known c.requests.inbox (g.S.Source.left c.requests.input)) (g.S.Source.left c.serve_one.new.source) (g.K.Sink.written c.args.output.now) (state (g.K.Sink.written c.requests.output) c.requests.shelf None) (state (g.K.Sink.written c.serve_one.new.sink) c.serve_one.new.shelf None) c.in-Ok-serve_one.report c.in-Some-end.field-0 c.requests.invariant.turn_in.0 (last_stands c.args.editions.items c.requests.shelf (into_iter_items c.requests.behind) c.requests.turn c.requests.invariant.stands c.requests.invariant.turn_in.0) c.in-Ok-serve_one.ensures.stock c.requests.invariant.few c.in-Ok-serve_one.ensures.short c.requests.invariant.going c.in-Ok-serve_one.ensures.done c.in-Some-end.is in
    let behind = left_behind (g.S.Source.left c.args.input.now) (prepend_known c.requests.inbox (g.S.Source.left c.requests.input)) (g.S.Source.left c.serve_one.new.source) c.serve_one.new.inbox c.requests.invariant.behind c.in-Ok-serve_one.ensures.behind in
    read_so_far c.settled.result _
    (served_over c.args.editions.items (g.S.Source.left c.args.input.now) (g.S.Source.left c.serve_one.new.source) (g.K.Sink.written c.args.output.now) (g.K.Sink.written c.serve_one.new.sink) c.in-Some-end.field-0 over behind
    (ended_left (1001 - c.requests.turn) (g.S.Source.left c.args.input.now) (prepend_known c.requests.inbox (g.S.Source.left c.requests.input)) (g.S.Source.left c.serve_one.new.source) c.serve_one.new.inbox (state (g.K.Sink.written c.requests.output) c.requests.shelf None) (state (g.K.Sink.written c.serve_one.new.sink) c.serve_one.new.shelf None) c.in-Ok-serve_one.report c.in-Some-end.field-0 c.requests.invariant.behind c.in-Ok-serve_one.ensures.done c.in-Some-end.is))

pub returns-in-Some-end-clause-read : goal.returns-in-Some-end-clause-read
returns-in-Some-end-clause-read g c =
    let over = session_ends c.output_goes_on.ensures c.args.editions.items c.requests.turn (length c.requests.inbox) c.serve_one.new.inbox (g.S.Source.left c.args.input.now) (prepend_known c.requests.inbox (g.S.Source.left c.requests.input)) (g.S.Source.left c.serve_one.new.source) (g.K.Sink.written c.args.output.now) (state (g.K.Sink.written c.requests.output) c.requests.shelf None) (state (g.K.Sink.written c.serve_one.new.sink) c.serve_one.new.shelf None) c.in-Ok-serve_one.report c.in-Some-end.field-0 c.requests.invariant.turn_in.0 (last_stands c.args.editions.items c.requests.shelf (into_iter_items c.requests.behind) c.requests.turn c.requests.invariant.stands c.requests.invariant.turn_in.0) c.in-Ok-serve_one.ensures.stock c.requests.invariant.few c.in-Ok-serve_one.ensures.short c.requests.invariant.going c.in-Ok-serve_one.ensures.done c.in-Some-end.is in
    read_over c.args.editions.items (g.S.Source.left c.args.input.now) (g.S.Source.left c.serve_one.new.source) (g.K.Sink.written c.args.output.now) (g.K.Sink.written c.serve_one.new.sink) _ c.in-Some-end.field-0 over c.settled.ensures.written

pub returns-in-Some-end-clause-behind : goal.returns-in-Some-end-clause-behind
returns-in-Some-end-clause-behind g c = left_behind (g.S.Source.left c.args.input.now) (prepend_known c.requests.inbox (g.S.Source.left c.requests.input)) (g.S.Source.left c.serve_one.new.source) c.serve_one.new.inbox c.requests.invariant.behind c.in-Ok-serve_one.ensures.behind

pub returns-in-Err-clause-output : goal.returns-in-Err-clause-output
returns-in-Err-clause-output g c =
    rw c.broken.ensures
    (broken_output c.in-Err.fault _ _ _ _ _
    (session_broken c.output_goes_on.ensures c.args.editions.items c.requests.turn (g.S.Source.left c.args.input.now) (prepend_known c.requests.inbox (g.S.Source.left c.requests.input)) (g.K.Sink.written c.args.output.now) (state (g.K.Sink.written c.requests.output) c.requests.shelf None) (state (g.K.Sink.written c.serve_one.new.sink) c.serve_one.new.shelf None) (last_stands c.args.editions.items c.requests.shelf (into_iter_items c.requests.behind) c.requests.turn c.requests.invariant.stands c.requests.invariant.turn_in.0) c.in-Err.ensures.stock c.requests.invariant.going c.in-Err.ensures.fault))

pub returns-in-Err-clause-read : goal.returns-in-Err-clause-read
returns-in-Err-clause-read g c =
    read_broken c.args.editions.items c.requests.turn (length c.requests.inbox) (g.S.Source.left c.args.input.now) (prepend_known c.requests.inbox (g.S.Source.left c.requests.input)) (g.S.Source.left c.serve_one.new.source) (g.K.Sink.written c.args.output.now) (state (g.K.Sink.written c.requests.output) c.requests.shelf None) (state (g.K.Sink.written c.serve_one.new.sink) c.serve_one.new.shelf None) c.requests.invariant.few c.in-Err.ensures.ahead c.requests.invariant.going c.in-Err.ensures.fault

pub returns-in-Err-clause-behind : goal.returns-in-Err-clause-behind
returns-in-Err-clause-behind g c = left_behind (g.S.Source.left c.args.input.now) (prepend_known c.requests.inbox (g.S.Source.left c.requests.input)) (g.S.Source.left c.serve_one.new.source) c.serve_one.new.inbox c.requests.invariant.behind c.in-Err.ensures.behind

pub advanced-requires : goal.advanced-requires
advanced-requires g c =
    let same = same_shelf c.serve_one.new.shelf c.requests.shelf c.in-Ok-serve_one.ensures.stock in
    subst (λ (shelf : List EditionValue). IfSome c.next-in-requests.result (IsNext shelf)) (sym same)
    (is_next c.args.editions.items c.requests.shelf (into_iter_items c.requests.behind) (into_iter_items c.next-in-requests.new.self) c.next-in-requests.result c.requests.turn c.requires.log c.requires.some c.requests.invariant.stands c.requests.invariant.turn_in.0 c.next-in-requests.ensures.items)

pub returns-then-is_err-clause-output : goal.returns-then-is_err-clause-output
returns-then-is_err-clause-output g c =
    let most : c.requests.turn ≤ 1000 = search rules in
    inr (going_broken c.args.editions.items (c.requests.turn + 1) (g.S.Source.left c.args.input.now) (prepend_known c.serve_one.new.inbox (g.S.Source.left c.serve_one.new.source)) (g.K.Sink.written c.args.output.now) (g.K.Sink.written c.serve_one.new.sink)
    (session_goes c.output_goes_on.ensures c.args.editions.items c.requests.turn (g.S.Source.left c.args.input.now) (prepend_known c.requests.inbox (g.S.Source.left c.requests.input)) (prepend_known c.serve_one.new.inbox (g.S.Source.left c.serve_one.new.source)) (g.K.Sink.written c.args.output.now) (state (g.K.Sink.written c.requests.output) c.requests.shelf None) (state (g.K.Sink.written c.serve_one.new.sink) c.serve_one.new.shelf None) c.in-Ok-serve_one.report c.requests.invariant.turn_in.0 most (last_stands c.args.editions.items c.requests.shelf (into_iter_items c.requests.behind) c.requests.turn c.requests.invariant.stands c.requests.invariant.turn_in.0) c.in-Ok-serve_one.ensures.stock c.requests.invariant.going c.in-Ok-serve_one.ensures.done c.in-None.is))

pub returns-then-is_err-clause-read : goal.returns-then-is_err-clause-read
returns-then-is_err-clause-read g c =
    let most : c.requests.turn ≤ 1000 = search rules in
    read_going c.args.editions.items (c.requests.turn + 1) c.serve_one.new.inbox (g.S.Source.left c.args.input.now) (g.S.Source.left c.serve_one.new.source) (g.K.Sink.written c.args.output.now) (g.K.Sink.written c.serve_one.new.sink) (few_held _ _ _ c.requests.invariant.few c.in-None.is c.in-Ok-serve_one.ensures.short)
    (session_goes c.output_goes_on.ensures c.args.editions.items c.requests.turn (g.S.Source.left c.args.input.now) (prepend_known c.requests.inbox (g.S.Source.left c.requests.input)) (prepend_known c.serve_one.new.inbox (g.S.Source.left c.serve_one.new.source)) (g.K.Sink.written c.args.output.now) (state (g.K.Sink.written c.requests.output) c.requests.shelf None) (state (g.K.Sink.written c.serve_one.new.sink) c.serve_one.new.shelf None) c.in-Ok-serve_one.report c.requests.invariant.turn_in.0 most (last_stands c.args.editions.items c.requests.shelf (into_iter_items c.requests.behind) c.requests.turn c.requests.invariant.stands c.requests.invariant.turn_in.0) c.in-Ok-serve_one.ensures.stock c.requests.invariant.going c.in-Ok-serve_one.ensures.done c.in-None.is)

pub returns-then-is_err-clause-behind : goal.returns-then-is_err-clause-behind
returns-then-is_err-clause-behind g c = left_behind (g.S.Source.left c.args.input.now) (prepend_known c.requests.inbox (g.S.Source.left c.requests.input)) (g.S.Source.left c.serve_one.new.source) c.serve_one.new.inbox c.requests.invariant.behind c.in-Ok-serve_one.ensures.behind

pub requests-preserved : goal.requests-preserved
requests-preserved g c =
    let most : c.requests.turn ≤ 1000 = search rules in
    let same = same_shelf c.serve_one.new.shelf c.requests.shelf c.in-Ok-serve_one.ensures.stock in
    let put : c.advanced.new.shelf ≡ c.serve_one.new.shelf ++ option_to_list c.next-in-requests.result = search rules in
    let fewer : into_iter_len c.next-in-requests.new.self + length (option_to_list c.next-in-requests.result) ≡ into_iter_len c.requests.behind = c.next-in-requests.ensures.len in
    let counted : into_iter_len c.next-in-requests.new.self ≡ length (into_iter_items c.next-in-requests.new.self) =
    left_counted _ _ _ _ _ c.requests.invariant.counted c.next-in-requests.ensures.items fewer in
    record {
      turn_in = search rules;
      stands = stands_more c.args.editions.items c.requests.shelf (into_iter_items c.requests.behind) c.advanced.new.shelf (into_iter_items c.next-in-requests.new.self) c.next-in-requests.result c.requests.turn c.requests.invariant.turn_in.0 c.requests.invariant.stands
          c.next-in-requests.ensures.items (put ∙ ap (λ w. w ++ option_to_list c.next-in-requests.result) same)
          (λ none. none_after c.next-in-requests.result _ _ _ none counted c.next-in-requests.ensures.variant.1 fewer);
      counted = counted;
      going = session_goes c.output_goes_on.ensures c.args.editions.items c.requests.turn (g.S.Source.left c.args.input.now) (prepend_known c.requests.inbox (g.S.Source.left c.requests.input)) (prepend_known c.serve_one.new.inbox (g.S.Source.left c.serve_one.new.source)) (g.K.Sink.written c.args.output.now) (state (g.K.Sink.written c.requests.output) c.requests.shelf None) (state (g.K.Sink.written c.serve_one.new.sink) c.serve_one.new.shelf None) c.in-Ok-serve_one.report c.requests.invariant.turn_in.0 most (last_stands c.args.editions.items c.requests.shelf (into_iter_items c.requests.behind) c.requests.turn c.requests.invariant.stands c.requests.invariant.turn_in.0) c.in-Ok-serve_one.ensures.stock c.requests.invariant.going c.in-Ok-serve_one.ensures.done c.in-None.is;
      behind = behind_on (g.S.Source.left c.args.input.now) (prepend_known c.requests.inbox (g.S.Source.left c.requests.input)) (prepend_known c.serve_one.new.inbox (g.S.Source.left c.serve_one.new.source)) c.requests.invariant.behind c.in-Ok-serve_one.ensures.behind;
      few = few_held _ _ _ c.requests.invariant.few c.in-None.is c.in-Ok-serve_one.ensures.short;
      flushed = search rules;
      source = search rules;
      sink = search rules;
    }

pub returns-clause-output : goal.returns-clause-output
returns-clause-output g c = inr (going_broken c.args.editions.items c.requests.turn (g.S.Source.left c.args.input.now) (prepend_known c.requests.inbox (g.S.Source.left c.requests.input)) (g.K.Sink.written c.args.output.now) (g.K.Sink.written c.requests.output) c.requests.invariant.going)

pub returns-clause-behind : goal.returns-clause-behind
returns-clause-behind g c = left_now (g.S.Source.left c.args.input.now) (g.S.Source.left c.requests.input) c.requests.inbox c.requests.invariant.behind

pub returns-clause-read : goal.returns-clause-read
returns-clause-read g c = read_going c.args.editions.items c.requests.turn c.requests.inbox (g.S.Source.left c.args.input.now) (g.S.Source.left c.requests.input) (g.K.Sink.written c.args.output.now) (g.K.Sink.written c.requests.output) c.requests.invariant.few c.requests.invariant.going

pub returns-in-Some-end-clause-waits : goal.returns-in-Some-end-clause-waits
returns-in-Some-end-clause-waits g c = settled_waits c.settled.result _ _ _ _ _ c.settled.ensures.settles

pub returns-in-Err-clause-waits : goal.returns-in-Err-clause-waits
returns-in-Err-clause-waits g c =
    rw c.broken.ensures
    (broken_waits c.in-Err.fault _
    (λ is.
    let same = (c.in-Err.ensures.unwritten (ap Err is)).0 in
    let settled = ⊎_elim
    (λ old. inl (ap g.K.Sink.written (same ∙ old)))
    (λ flushed. inr (subst (λ (k : _). IsFlushed (g.K.Sink.written k) (g.K.Sink.flushed k)) (sym same) flushed))
    c.requests.invariant.flushed in
    read_waits c.args.editions.items c.requests.turn (length c.requests.inbox) c.requests.inbox c.serve_one.new.inbox (g.S.Source.left c.args.input.now) (g.S.Source.left c.requests.input) (g.S.Source.left c.serve_one.new.source) (g.K.Sink.written c.args.output.now) (g.K.Sink.written c.requests.output) (g.K.Sink.written c.serve_one.new.sink) (g.K.Sink.flushed c.serve_one.new.sink)
    c.requests.invariant.few c.in-Err.ensures.bounded (c.in-Err.ensures.none (ap Err is)) (c.in-Err.ensures.again (ap Err is)) (ap g.K.Sink.written same) settled c.requests.invariant.going))
