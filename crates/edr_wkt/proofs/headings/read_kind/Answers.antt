use Rattle.std.proofs.Common.{subst}
use Rattle.edr_wkt.specs.Headings.{tag_text}
use Rattle.edr_wkt.specs.HeadingReads.{HasNoLetters, BeginsWithLetters}
use Rattle.edr_wkt.proofs.CheckLemmas.{all-take_more, all-take_all}
use Rattle.edr_wkt.proofs.HeadingLemmas.{kinds, kinds-none}
use Rattle.edr_wkt.proofs.headings.read_kind.Goals as goal

pub returns-in-Some : goal.returns-in-Some
returns-in-Some c = subst (λ word. BeginsWithLetters c.args.text.now word c.in-Some.rest.now) c.tag.ensures c.in-Some.ensures

pub loop-kind-preserved : goal.loop-kind-preserved
loop-kind-preserved c =
    all-take_more (λ kind. HasNoLetters c.args.text.now (tag_text kind)) kinds c.loop-kind.kind-index _ c.loop-kind-test.true c.loop-kind.invariant
    (subst (HasNoLetters c.args.text.now) c.tag.ensures c.in_default.ensures)

pub returns : goal.returns
returns c =
    kinds-none c.args.text.now (all-take_all (λ kind. HasNoLetters c.args.text.now (tag_text kind)) kinds c.loop-kind.kind-index c.loop-kind-test.false c.loop-kind.invariant)
