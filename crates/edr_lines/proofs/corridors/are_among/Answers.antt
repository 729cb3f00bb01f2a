use Rattle.std.proofs.Common.{◌≡◌, ◌∙◌, ◌<◌, ℕ, Bool, List, false, length, get_or, replicate, take_all, true, refl, ap, sym, subst, arith}
use Rattle.std.proofs.lemmas.List.{length-set, get_or-replicate, length-replicate}
use Rattle.edr_lines.proofs.Filled.{filled}
use Rattle.edr_lines.proofs.AskedAxes.{is_among, set_among}
use Rattle.edr_lines.proofs.corridors.are_among.Goals as goal

pub loop-place-init : goal.loop-place-init
loop-place-init c =
    let none : c.resize.new.self.items ≡ replicate c.args.count false =
    filled false c.args.count c.args.count c.new-among.result.len c.new-among.result.items c.resize.new.self.items c.new-among.ensures.items c.new-among.ensures.len refl c.in_ok-resize.ensures.items in
    record {
      long = ap (λ (l : List Bool). length l) none ∙ length-replicate c.args.count false;
      set = λ k low. ap (λ (l : List Bool). get_or l k false) none ∙ get_or-replicate c.args.count k false false low;
    }

pub loop-place-preserved : goal.loop-place-preserved
loop-place-preserved c =
    let places = c.args.places.now in let i : ℕ = c.loop-place.place-index in let old : List Bool = c.loop-place.among.items in
    let long : length old ≡ c.args.count = c.loop-place.invariant.long in
    let inside : i < length places = omega arith in
    let within : get_or places i 0 < length old = subst (λ n. get_or places i 0 < n) (sym long) (c.requires i 0 inside) in
    record {
      long = length-set old (get_or places i 0) true ∙ long;
      set = λ k low. set_among places i old inside within (λ j below. c.loop-place.invariant.set j (omega (arith, long, below))) k (omega (arith, long, low));
    }

pub returns-clause-among : goal.returns-clause-among
returns-clause-among c =
    λ k low. c.loop-place.invariant.set k low ∙ ap (λ (l : List ℕ). is_among l k) (take_all c.loop-place.place-index c.args.places.now (omega arith))
