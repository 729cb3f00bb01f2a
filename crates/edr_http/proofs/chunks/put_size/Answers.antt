use Rattle.std.proofs.Common.{◌+◌, ◌<◌, ◌≤◌, [], ◌∷◌, length, ap, refl, arith}
use Rattle.edr_http.proofs.ChunkFrames.{one_digit, two_digits, three_digits, size_put}
use Rattle.edr_http.proofs.chunks.put_size.Goals as goal

pub returns-then-size-lt16-clause-place : goal.returns-then-size-lt16-clause-place
returns-then-size-lt16-clause-place c =
    let small : c.args.size < 16 = omega arith in
    ap (λ w. 3 + length w) (one_digit c.args.size _ small c.digit-last.ensures)

pub returns-then-size-lt16-clause-text : goal.returns-then-size-lt16-clause-text
returns-then-size-lt16-clause-text c =
    let small : c.args.size < 16 = omega arith in
    size_put 3 c.args.frame.now _ (c.digit-last.result ∷ []) _ (λ rest w. refl) (one_digit c.args.size _ small c.digit-last.ensures) refl c.requires.full c.put.ensures

pub returns-then-size-lt256-clause-place : goal.returns-then-size-lt256-clause-place
returns-then-size-lt256-clause-place c =
    let large : 16 ≤ c.args.size = omega arith in
    let small : c.args.size < 256 = omega arith in
    ap (λ w. 2 + length w) (two_digits c.args.size _ _ large small c.digit-middle.ensures c.digit-last.ensures)

pub returns-then-size-lt256-clause-text : goal.returns-then-size-lt256-clause-text
returns-then-size-lt256-clause-text c =
    let large : 16 ≤ c.args.size = omega arith in
    let small : c.args.size < 256 = omega arith in
    size_put 2 c.args.frame.now _ (c.digit-middle.result ∷ c.digit-last.result ∷ []) _ (λ rest w. refl) (two_digits c.args.size _ _ large small c.digit-middle.ensures c.digit-last.ensures) refl c.requires.full c.put-then-size-lt256.ensures

pub returns-clause-place : goal.returns-clause-place
returns-clause-place c =
    let large : 256 ≤ c.args.size = omega arith in
    ap (λ w. 1 + length w) (three_digits c.args.size _ _ _ large c.requires.small c.digit.ensures c.digit-middle.ensures c.digit-last.ensures)

pub returns-clause-text : goal.returns-clause-text
returns-clause-text c =
    let large : 256 ≤ c.args.size = omega arith in
    size_put 1 c.args.frame.now _ (c.digit.result ∷ c.digit-middle.result ∷ c.digit-last.result ∷ []) _ (λ rest w. refl) (three_digits c.args.size _ _ _ large c.requires.small c.digit.ensures c.digit-middle.ensures c.digit-last.ensures) refl c.requires.full c.put-2.ensures
