use Rattle.std.proofs.Common.{sym, ◌∙◌, rules, FitsSigned, w64}
use Rattle.std.proofs.lemmas.Int.{to_z-of_z}
use Rattle.edr_wkt.proofs.WordLemmas.{number-from, number-word}
use Rattle.edr_wkt.proofs.PositionLemmas.{kept_number-inside, kept_number-outside}
use Rattle.edr_wkt.proofs.positions.read_number.Goals as goal

pub returns-in-Value : goal.returns-in-Value
returns-in-Value c =
    let w = c.read_word.ensures in
    let h = c.in-Value.ensures in
    let fits : FitsSigned w64 c.in-Value.value = search rules in
    (c.in-Value.value, number-from c.args.text.now w.0 w.1 _ _ _ w.2 w.3 h.0, to_z-of_z w64 c.in-Value.value fits ∙ sym (kept_number-inside c.in-Value.value h.1))

pub returns-in-TooLarge : goal.returns-in-TooLarge
returns-in-TooLarge c =
    let w = c.read_word.ensures in
    let h = c.in-TooLarge.ensures in
    (h.0, number-from c.args.text.now w.0 w.1 _ _ _ w.2 w.3 h.1, sym (kept_number-outside h.0 h.2))

pub returns-in-NotWhole : goal.returns-in-NotWhole
returns-in-NotWhole c =
    let w = c.read_word.ensures in
    λ v r n. c.in-NotWhole.ensures v (number-word c.args.text.now w.0 w.1 _ _ v r w.2 w.3 n).0
