use Rattle.std.proofs.Common.{rules, ◌≡◌, ◌-◌, min, take, ℕ, List, ◌++◌, ◌<◌, ◌+◌, length, ap, append_assoc, ◌∙◌, arith, length-append, length-take}
use Rattle.edr_base.specs.Limits.{line_limit, feed_limit}
use Rattle.edr_feed.proofs.FeedLines.{plain_append}
use Rattle.edr_feed.proofs.FeedReadings.{kept_more, too_long, read_length}
use Rattle.edr_feed.proofs.reading.go_on.Goals as goal

pub returns-then-part-now-clause-read : goal.returns-then-part-now-clause-read
returns-then-part-now-clause-read c = λ bytes h rest.
    let n = read_length bytes c.args.now.now h in
    let part = c.args.part.now in
    let beyond : feed_limit < length bytes + length part = omega arith in
    too_long bytes part rest c.args.now.now h c.requires.plain (omega arith) (omega (arith, length-append (bytes ++ part) rest, length-append bytes part))

pub overflow_sub-now : goal.overflow_sub-now
overflow_sub-now c =
    let h = c.requires.reading.read in
    omega (arith, read_length c.requires.reading.bytes c.args.now.now h, h.within)

pub overflow_sub-now-2 : goal.overflow_sub-now-2
overflow_sub-now-2 c =
    let h = c.requires.reading.read in
    omega (arith, read_length c.requires.reading.bytes c.args.now.now h, h.within)

pub overflow_sub-room : goal.overflow_sub-room
overflow_sub-room c =
    let h = c.requires.reading.read in
    omega (arith, ap length h.kept, length-take (line_limit + 1) h.line, c.len.ensures)

pub returns-clause-read : goal.returns-clause-read
returns-clause-read c = λ bytes h.
    let n = read_length bytes c.args.now.now h in
    let part = c.args.part.now in
    let line = c.args.now.now.line.items in
    let room : c.min.result ≡ min (length part) (line_limit + 1 - length line) = omega (arith, c.min.ensures, c.len.ensures) in
    let grown : c.extend_from_slice.new.self.items ≡ line ++ take c.min.result part = search rules in
    record {
      lines = h.lines;
      line = h.line ++ part;
      bytes_are = ap (λ (w : List ℕ). w ++ part) h.bytes_are ∙ append_assoc _ h.line part;
      plain = h.plain;
      plain_line = plain_append h.line part h.plain_line c.requires.plain;
      kept = grown ∙ (ap (λ k. line ++ take k part) room ∙ kept_more (line_limit + 1) line h.line part h.kept);
      counted = omega (arith, length-append h.line part, h.counted);
      ended = h.ended;
      number = h.number;
      within = omega (arith, length-append bytes part);
      made = h.made;
    }
