use Rattle.std.proofs.Common.{◌≡◌, suc, ◌+◌, ◌-◌, ◌<◌, ◌≤◌, ◌||◌, ◌∙◌, sym, ap, arith, false, length, get_or, drop}
use Rattle.std.proofs.Math.Bool.{or_assoc}
use Rattle.edr_geometry.specs.Lines.{odd_behind}
use Rattle.edr_geometry.specs.Ranges.{lies_in}
use Rattle.edr_geometry.proofs.CutLemmas.{pair_behind, last_behind}
use Rattle.edr_geometry.proofs.cuts.join_odd.Goals as goal

pub pairs-preserved : goal.pairs-preserved
pairs-preserved c =
    let cuts = c.args.cuts.now in let k = c.pairs.first in let old = c.pairs.mask in let n = length c.args.mask.now in
    let next : suc k < length cuts = omega (arith, c.pairs-test.true) in
    let two : suc (suc k) ≡ k + 2 = omega arith in
    let one : k + 1 ≡ suc k = omega arith in
    let size = c.pairs.auto.mask in
    record {
      within = omega (arith, next);
      joined = λ place inside.
          (let range = lies_in (n - get_or cuts (suc k) 0, n - get_or cuts k 0) place in
          let rest = odd_behind n (drop (k + 2) cuts) place in
          let told : get_or c.mark.new.mask place false ≡ (get_or old place false || range) = (let said = c.mark.ensures place (omega (arith, inside, size)) in rw one at said) in
          let pair : odd_behind n (drop k cuts) place ≡ (range || rest) = (let said = pair_behind n place cuts c.requires.ascend c.requires.cuts k next inside in rw two at said) in
          ap (λ b. b || rest) told ∙ or_assoc (get_or old place false) range rest ∙ ap (λ b. get_or old place false || b) (sym pair) ∙ c.pairs.invariant.joined place inside);
    }

pub returns-then-first-cuts : goal.returns-then-first-cuts
returns-then-first-cuts c =
    let cuts = c.args.cuts.now in let k = c.pairs.first in let old = c.pairs.mask in let n = length c.args.mask.now in
    let size = c.pairs.auto.mask in
    let end : length cuts ≤ suc k = omega (arith, c.pairs-test.false) in
    λ place inside.
    (let range = lies_in (0, n - get_or cuts k 0) place in
    let told : get_or c.mark-then-first-cuts.new.mask place false ≡ (get_or old place false || range) = c.mark-then-first-cuts.ensures place (omega (arith, inside, size)) in
    told ∙ ap (λ b. get_or old place false || b) (sym (last_behind n place cuts c.requires.ascend c.requires.cuts k c.if-first-cuts.true end inside)) ∙ c.pairs.invariant.joined place inside)
