use Rattle.edr_axes.proofs.InstantTexts.{pair_begins}
use Rattle.edr_axes.proofs.reading_instants.two_digits.Goals as goal

pub returns-else-ones-gt57 : goal.returns-else-ones-gt57
returns-else-ones-gt57 c =
    pair_begins c.args.text.now c.in-len2-up.len_at_least c.if-tens-lt48.false c.if-tens-gt57.false c.if-ones-lt48.false c.if-ones-gt57.false
