use Rattle.edr_base.proofs.KnownBytes.{cut_at, rest_whole}
use Rattle.std.proofs.Common.{◌≡◌, ◌++◌, length, take, drop, ap, ◌∙◌, arith}
use Rattle.std.proofs.lemmas.List.{length-take, take_at}
use Rattle.edr_base.proofs.memory_source.give_from.Goals as goal

pub returns-clause-bytes : goal.returns-clause-bytes
returns-clause-bytes c =
    let bytes = c.args.bytes.now in
    let at = c.args.at.now in
    let count = c.min-count.result in
    let copied = c.copy_from_slice.new.self in
    let behind = drop count c.args.buf.now in
    let long : length copied ≡ count = omega (arith, c.copy_from_slice.ensures.len, length-take count c.args.buf.now, c.min.ensures, c.min-count.ensures) in
    cut_at bytes (copied ++ behind) at count (take_at copied behind count long ∙ (c.copy_from_slice.ensures.after ∙ ap (take count) (rest_whole at bytes)))
