use Rattle.std.proofs.Common.{arith, w64, FitsSigned}
use Rattle.std.proofs.lemmas.Int.{ints, to_z-of_z, fits_signed_from_abs}
use Rattle.edr_base.specs.Numbers.{signed}
use Rattle.edr_base.proofs.NumberSigns.{numeral-from, numeral-none, unsigned_abs-signed}
use Rattle.edr_base.proofs.numbers.numeral.Goals as goal

pub returns-in-TooLarge : goal.returns-in-TooLarge
returns-in-TooLarge c = let h = c.in-TooLarge.ensures in (_, numeral-from c.args.text.now _ _ h.0 c.split_sign-sign.ensures h.1, omega (arith, ints, unsigned_abs-signed c.split_sign-sign.result.0 h.0, h.2))

pub returns-in-NotWhole : goal.returns-in-NotWhole
returns-in-NotWhole c = numeral-none c.args.text.now _ _ c.split_sign-sign.ensures c.in-NotWhole.ensures

pub returns-in-Size : goal.returns-in-Size
returns-in-Size c =
    let h = c.in-Size.ensures in
    let sign = c.split_sign-sign.result.0 in
    let size = c.in-Size.size in
    let limit_fits = c.ranges.limit in
    let size_is = unsigned_abs-signed sign size in
    let fits : FitsSigned w64 (signed sign size) = fits_signed_from_abs w64 (signed sign size) (omega (arith, ints, size_is, h.1)) in
    rw (c.value_of.ensures, to_z-of_z w64 (signed sign size) fits)
    (numeral-from c.args.text.now _ sign size c.split_sign-sign.ensures h.0, omega (arith, ints, size_is, h.1))
