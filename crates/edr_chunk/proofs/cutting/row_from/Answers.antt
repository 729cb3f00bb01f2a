use Rattle.std.proofs.Common.{rules, arith, None, ◌∙◌, ◌+◌, ◌-◌, ◌≡◌, ap, take, drop}
use Rattle.edr_chunk.proofs.PlaceNumbers.{row_fits_in, row_part}
use Rattle.edr_chunk.proofs.cutting.row_from.Goals as goal

pub overflow_add-result : goal.overflow_add-result
overflow_add-result c = let h = row_fits_in c.args.shape c.args.start c.args.width c.requires.within c.requires.fits in search rules

pub offset_bounds-values-first : goal.offset_bounds-values-first
offset_bounds-values-first c = let h = row_fits_in c.args.shape c.args.start c.args.width c.requires.within c.requires.fits in search rules

pub slice_bounds-result-end : goal.slice_bounds-result-end
slice_bounds-result-end c = let h = row_fits_in c.args.shape c.args.start c.args.width c.requires.within c.requires.fits in search rules

pub returns : goal.returns
returns c =
    let n = c.number-first.result in
    let w = c.args.width in
    let e : n + w - n ≡ w = omega arith in
    ap (λ k. take k (drop n c.args.values.now)) e
    ∙ ap (λ k. take w (drop k c.args.values.now)) c.number-first.ensures.number
    ∙ row_part c.args.shape c.args.start w c.args.values.now None c.requires.within c.requires.fits c.requires.whole
