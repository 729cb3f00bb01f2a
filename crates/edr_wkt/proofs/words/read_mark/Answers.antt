use Rattle.std.proofs.Common.{ℕ, List, subst}
use Rattle.edr_base.specs.NumberParts.{IsSplit}
use Rattle.edr_wkt.specs.Reads.{not_blank}
use Rattle.edr_wkt.proofs.WordLemmas.{mark-from, mark-none, first-rest, first-none}
use Rattle.edr_wkt.proofs.words.read_mark.Goals as goal

pub returns-in-empty : goal.returns-in-empty
returns-in-empty c =
    let s = c.without_blanks.ensures in
    let P : List ℕ → Type 0 = λ l. IsSplit not_blank c.args.text.now s.0 l in
    mark-none c.args.text.now s.0 (subst P (first-none _ c.in-empty.len_below) s.1)

pub returns-in-len1-up : goal.returns-in-len1-up
returns-in-len1-up c =
    let s = c.without_blanks.ensures in
    let P : List ℕ → Type 0 = λ l. IsSplit not_blank c.args.text.now s.0 l in
    mark-from c.args.text.now s.0 _ _ (subst P (first-rest _ c.in-len1-up.len_at_least) s.1)
