use Rattle.std.proofs.Common.{take}
use Rattle.std.specs.List.{AllByRecursion}
use Rattle.edr_wkt.specs.Headings.{tag_text}
use Rattle.edr_wkt.specs.HeadingReads.{HasNoLetters}
use Rattle.edr_wkt.proofs.HeadingLemmas.{kinds}
use Rattle.edr_wkt.proofs.headings.read_kind.Given as goal

-- the tags of the kinds so far don't stand there
abbrev pub invariant-loop-kind : goal.invariant-loop-kind
invariant-loop-kind l = AllByRecursion (λ kind. HasNoLetters l.text (tag_text kind)) (take l.kind-index kinds)
