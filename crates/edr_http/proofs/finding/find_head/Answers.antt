use Rattle.std.proofs.Common.{◌≡◌, ℕ, List, length, take, subst, arith}
use Rattle.httparse.specs.Grammar.{HasNoRequest}
use Rattle.httparse.specs.Spans.{RequestOverflows}
use Rattle.edr_http.proofs.HeadLemmas.{got_head, never_full, none_yet, never_more}
use Rattle.edr_http.proofs.finding.find_head.Goals as goal

pub returns-in-Ok-Complete : goal.returns-in-Ok-Complete
returns-in-Ok-Complete c =
    let within = rw c.in-Ok-Complete.field-0-is at c.in-Ok-Complete.ensures.within in
    let reads = rw c.in-Ok-Complete.field-0-is at c.in-Ok-Complete.ensures.complete in
    got_head c.args.bytes.now c.window.result.now c.parse_request.new.headers c.in-Ok-Complete.spans c.window.ensures
    (omega (arith, c.parse_request.auto.headers)) within reads

pub returns-then-bytes-lt-HEAD_LIMIT : goal.returns-then-bytes-lt-HEAD_LIMIT
returns-then-bytes-lt-HEAD_LIMIT c =
    let none = rw c.in-Ok-Partial.field-0-is at c.in-Ok-Partial.ensures.partial in
    let P : List ℕ → Type 0 = λ w. HasNoRequest w in
    (none_yet c.args.bytes.now (subst P c.window.ensures none), c.if-bytes-lt-HEAD_LIMIT.true)

pub returns-else-bytes-lt-HEAD_LIMIT : goal.returns-else-bytes-lt-HEAD_LIMIT
returns-else-bytes-lt-HEAD_LIMIT c =
    let none = rw c.in-Ok-Partial.field-0-is at c.in-Ok-Partial.ensures.partial in
    let P : List ℕ → Type 0 = λ w. HasNoRequest w in
    never_full c.args.bytes.now c.if-bytes-lt-HEAD_LIMIT.false (subst P c.window.ensures none)

pub returns-in-Err : goal.returns-in-Err
returns-in-Err c =
    let room : length c.args.fields.now ≡ 64 = omega arith in
    let P : List ℕ → Type 0 = λ w. RequestOverflows (length c.args.fields.now) w in
    never_more c.args.bytes.now (subst (λ (n : ℕ). RequestOverflows n (take 16384 c.args.bytes.now)) room (subst P c.window.ensures c.in-Err.ensures.no_room))
