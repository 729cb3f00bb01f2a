use Rattle.std.proofs.Common.{rules, ◌≡◌, ◌<◌, ◌≤◌, ◌+◌, ℕ, get_or, ap, ◌∙◌, sym, subst, inl, inr, arith}
use Rattle.std.proofs.lemmas.Bool.{cases_lt, false≢true}
use Rattle.std.proofs.lemmas.List.{get_or_default}
use Rattle.edr_select.specs.declared.plans.GridNode.{GridNode}
use Rattle.edr_send.specs.Bands.{band_of}
use Rattle.edr_send.proofs.BandTests.{bands_fall}
use Rattle.edr_send.proofs.bands.bands_rise.Goals as goal

pub loop-cell-preserved : goal.loop-cell-preserved
loop-cell-preserved c =
    let cells = c.args.cells.now in
    let k : ℕ = c.loop-cell.cell-index in
    let no_cell : GridNode = record { t = 0; z = 0; y = 0; x = 0 } in
    let band : ℕ = c.band_number-band.result in
    let here : (d : GridNode) → band_of c.args.shape (get_or cells k d) ≡ band = λ d. ap (band_of c.args.shape) (get_or_default cells k d no_cell c.loop-cell-test.true) ∙ sym c.band_number-band.ensures in
    let up : c.loop-cell.greatest ≤ band = search rules in
    record {
      none = λ e. absurd (omega (arith, e));
      last = λ i d e. ap (λ (n : ℕ). band_of c.args.shape (get_or cells n d)) (before i k e) ∙ here d;
      below = λ i d low. elim (cases_lt i k) [
        | inl early ↦ (let l = c.loop-cell.invariant.below i d early in omega (arith, l, up))
        | inr late ↦ (let e : band_of c.args.shape (get_or cells i d) ≡ band = ap (λ (n : ℕ). band_of c.args.shape (get_or cells n d)) (same i k late low) ∙ here d in omega (arith, e))
      ];
      rise = λ i j d first low. elim (cases_lt j k) [
        | inl early ↦ c.loop-cell.invariant.rise i j d first early
        | inr late ↦ (
            let e : band_of c.args.shape (get_or cells j d) ≡ band = ap (λ (n : ℕ). band_of c.args.shape (get_or cells n d)) (same j k late low) ∙ here d in
            elim (cases_lt i k) [
              | inl before ↦ (let l = c.loop-cell.invariant.below i d before in omega (arith, l, up, e))
              | inr last ↦ (let f : band_of c.args.shape (get_or cells i d) ≡ band = ap (λ (n : ℕ). band_of c.args.shape (get_or cells n d)) (same i k last (omega (arith, first, low))) ∙ here d in omega (arith, e, f))
            ])
      ];
    }
  where
    before : (i k : ℕ) → i + 1 ≡ k + 1 → i ≡ k
    before i k e = omega (arith, e)

    same : (i k : ℕ) → k ≤ i → i < k + 1 → i ≡ k
    same i k late low = omega (arith, late, low)

pub returns-then-band-greatest : goal.returns-then-band-greatest
returns-then-band-greatest c =
    let no_cell : GridNode = record { t = 0; z = 0; y = 0; x = 0 } in
    let low : band_of c.args.shape (get_or c.args.cells.now c.loop-cell.cell-index no_cell) < c.loop-cell.greatest = subst (λ (n : ℕ). n < c.loop-cell.greatest) c.band_number-band.ensures c.if-band-greatest.true in (
      (λ e. absurd (false≢true e)),
      (λ rise. absurd (bands_fall c.args.shape c.args.cells.now c.loop-cell.cell-index c.loop-cell.greatest no_cell c.loop-cell-test.true c.loop-cell.invariant.none c.loop-cell.invariant.last low rise)),
    )
