use Rattle.edr_wkt.proofs.HeadingLemmas.{heading-no_kind, heading-parts, heading-from}
use Rattle.edr_wkt.proofs.headings.read_heading.Goals as goal

pub returns-in_default : goal.returns-in_default
returns-in_default c = let s = c.without_blanks.ensures in heading-no_kind c.args.text.now s.0 _ s.1 c.in_default.ensures

pub returns-in_default-dims_of : goal.returns-in_default-dims_of
returns-in_default-dims_of c =
    let s = c.without_blanks.ensures in
    λ a z m inside h. c.in_default-dims_of.ensures z m (heading-parts c.args.text.now s.0 _ _ _ _ _ s.1 c.in-Some.ensures c.read_word.ensures a z m inside h).1

pub returns-in_default-behind : goal.returns-in_default-behind
returns-in_default-behind c =
    let s = c.without_blanks.ensures in
    λ a z m inside h. c.in_default-behind.ensures inside (heading-parts c.args.text.now s.0 _ _ _ _ _ s.1 c.in-Some.ensures c.read_word.ensures a z m inside h).2

pub returns : goal.returns
returns c =
    let s = c.without_blanks.ensures in
    heading-from c.args.text.now s.0 _ _ _ _ _ _ _ _ s.1 c.in-Some.ensures c.read_word.ensures c.in-Some-dims_of.ensures c.in-Some-behind.ensures
