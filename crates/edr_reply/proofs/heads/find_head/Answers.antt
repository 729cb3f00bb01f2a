use Rattle.std.proofs.Common.{◌≡◌, length, arith}
use Rattle.edr_reply.proofs.FrontLemmas.{head_got, head_older, head_never}
use Rattle.edr_reply.proofs.heads.find_head.Goals as goal

pub returns-then-spans-eq1 : goal.returns-then-spans-eq1
returns-then-spans-eq1 c =
    let within = rw c.in-Ok-Complete.field-0-is at c.in-Ok-Complete.ensures.within in
    let of = rw c.in-Ok-Complete.field-0-is at c.in-Ok-Complete.ensures.complete in
    let room : length c.parse_response.new.headers ≡ 64 = omega (arith, c.parse_response.auto.headers) in
    head_got c.args.bytes.now c.parse_response.new.headers c.in-Ok-Complete.spans c.opening_of.result c.requires room within of c.if-spans-eq1.true c.opening_of.ensures

pub returns-else-spans-eq1 : goal.returns-else-spans-eq1
returns-else-spans-eq1 c =
    let of = rw c.in-Ok-Complete.field-0-is at c.in-Ok-Complete.ensures.complete in
    head_older c.args.bytes.now c.parse_response.new.headers c.in-Ok-Complete.spans of c.if-spans-eq1.false

pub returns-else-bytes-lt-HEAD_LIMIT : goal.returns-else-bytes-lt-HEAD_LIMIT
returns-else-bytes-lt-HEAD_LIMIT c =
    let none = rw c.in-Ok-Partial.field-0-is at c.in-Ok-Partial.ensures.partial in
    head_never c.args.bytes.now c.if-bytes-lt-HEAD_LIMIT.false none
