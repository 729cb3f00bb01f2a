use Rattle.std.proofs.Common.{◌≡◌, ◌∙◌, ap, arith, pos, ◌*ℤ◌}
use Rattle.jiff_core.specs.DateTime.{civil_nanos}
use Rattle.jiff_core.proofs.SignedLemmas.{signed_arith}
use Rattle.edr_axes.specs.Instants.{civil_text, instant_text}
use Rattle.edr_axes.proofs.InstantLemmas.{year_of_time, shown_at}
use Rattle.edr_axes.proofs.instants.write_instant.Goals as goal

pub year_of-requires : goal.year_of-requires
year_of-requires c =
    let e : civil_nanos c.from_nanosecond_in_range-shown.result ≡ c.args.time *ℤ pos 1_000_000_000 = c.from_nanosecond_in_range-shown.ensures ∙ omega (arith, signed_arith, c.requires) in
    year_of_time c.args.time c.from_nanosecond_in_range-shown.result c.requires e

pub returns : goal.returns
unfolding instant_text
returns c =
    let e : civil_nanos c.from_nanosecond_in_range-shown.result ≡ c.args.time *ℤ pos 1_000_000_000 = c.from_nanosecond_in_range-shown.ensures ∙ omega (arith, signed_arith, c.requires) in
    c.text_of.ensures ∙ ap civil_text (shown_at c.args.time c.year_of.result c.from_nanosecond_in_range-shown.result c.requires e c.year_of.ensures)
