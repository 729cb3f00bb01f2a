use Rattle.edr_reply.proofs.FrontLemmas.{line_never, line_beyond}
use Rattle.edr_reply.proofs.lines.find_line.Goals as goal

pub returns-else-size-room : goal.returns-else-size-room
returns-else-size-room c =
    let at = rw c.in-Ok-Complete.field-0-is at c.in-Ok-Complete.ensures.complete in
    line_beyond c.args.room c.args.bytes.now _ _ at.0 at.1 c.if-size-room.false

pub returns-else-bytes-lt-SIZE_LINE_LIMIT : goal.returns-else-bytes-lt-SIZE_LINE_LIMIT
returns-else-bytes-lt-SIZE_LINE_LIMIT c =
    let none = rw c.in-Ok-Partial.field-0-is at c.in-Ok-Partial.ensures.partial in
    line_never c.args.room c.args.bytes.now c.if-bytes-lt-SIZE_LINE_LIMIT.false none
