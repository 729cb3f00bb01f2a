use Rattle.std.proofs.Common.{rules, ◌≡◌, ◌++◌, List, ℕ, length, sym, ap, ap₂, ◌∙◌, subst, arith, ◌<◌}
use Rattle.std.proofs.lemmas.List.{take-append-drop}
use Rattle.std.specs.Str.Parse.{digits_value_after}
use Rattle.edr_base.specs.Limits.{distance_limit}
use Rattle.edr_base.specs.TestLaws.{holds, fails}
use Rattle.edr_axes.specs.Metres.{AreZeros}
use Rattle.edr_axes.proofs.DistanceLemmas.{one_of, rest_of, too_large_whole, too_large_moved, size_answer}
use Rattle.edr_axes.proofs.distances.size_of.Goals as goal

pub returns-then-not-are_zeros : goal.returns-then-not-are_zeros
returns-then-not-are_zeros c =
    let f = c.args.fraction.now in let m = c.split_at.result.0.now in let r = c.split_at.result.1.now in let n = c.min-count.result in
    let e : f ≡ m ++ r = sym (ap₂ (λ (a b : List ℕ). a ++ b) c.split_at.ensures.front c.split_at.ensures.back ∙ take-append-drop n f) in
    let len : length m ≡ n = search rules in
    rest_of c.args.whole.now m r f c.args.places n e len (one_of _ _ _ c.min-count.ensures) c.requires.fraction (fails c.are_zeros.result (AreZeros r) c.are_zeros.ensures (search rules))

pub returns-in_err-size : goal.returns-in_err-size
returns-in_err-size c =
    let f = c.args.fraction.now in let m = c.split_at.result.0.now in let r = c.split_at.result.1.now in let n = c.min-count.result in
    let e : f ≡ m ++ r = sym (ap₂ (λ (a b : List ℕ). a ++ b) c.split_at.ensures.front c.split_at.ensures.back ∙ take-append-drop n f) in
    let len : length m ≡ n = search rules in
    rw c.from_residual.ensures (too_large_whole c.args.whole.now m r f c.args.places e (omega (arith, len, c.min-count.ensures)) c.in_err-size.ensures)

pub returns-in_err-size-2 : goal.returns-in_err-size-2
returns-in_err-size-2 c =
    let f = c.args.fraction.now in let m = c.split_at.result.0.now in let r = c.split_at.result.1.now in let n = c.min-count.result in
    let e : f ≡ m ++ r = sym (ap₂ (λ (a b : List ℕ). a ++ b) c.split_at.ensures.front c.split_at.ensures.back ∙ take-append-drop n f) in
    let len : length m ≡ n = search rules in
    let P : ℕ → Type 0 = λ s. distance_limit < digits_value_after 10 s m in
    rw c.from_residual-in_err-size-2.ensures (too_large_moved c.args.whole.now m r f c.args.places e (omega (arith, len, c.min-count.ensures)) (subst P c.in_ok-size.ensures.0 c.in_err-size-2.ensures))

pub returns : goal.returns
returns c =
    let f = c.args.fraction.now in let m = c.split_at.result.0.now in let r = c.split_at.result.1.now in let n = c.min-count.result in
    let e : f ≡ m ++ r = sym (ap₂ (λ (a b : List ℕ). a ++ b) c.split_at.ensures.front c.split_at.ensures.back ∙ take-append-drop n f) in
    let len : length m ≡ n = search rules in
    size_answer c.args.whole.now m r f c.args.places n c.in_ok-size-2.size c.with_zeros.result e len (omega (arith, c.min-count.ensures)) (holds c.are_zeros.result (AreZeros r) c.are_zeros.ensures (search rules))
    (c.in_ok-size-2.ensures.0 ∙ ap (λ s. digits_value_after 10 s m) c.in_ok-size.ensures.0) c.with_zeros.ensures
