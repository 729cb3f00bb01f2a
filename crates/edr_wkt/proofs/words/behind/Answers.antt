use Rattle.std.proofs.Common.{◌≡◌, ℕ, List, ◌∷◌}
use Rattle.edr_wkt.specs.Grammar.{IsMark}
use Rattle.edr_wkt.proofs.WordLemmas.{behind-some, behind-none}
use Rattle.edr_wkt.proofs.MemberLemmas.{match-map}
use Rattle.edr_wkt.proofs.words.behind.Goals as goal

pub returns : goal.returns
returns c =
    let text = c.args.text.now in
    let mark = c.args.mark in
    let front = c.without_blanks.result.now in
    let s = c.without_blanks.ensures in
    match-map c.without_front.result ((rest : List ℕ) → ¬ (front ≡ mark ∷ rest)) ((rest : List ℕ) → ¬ (IsMark mark text rest)) (λ r. front ≡ mark ∷ r.now) (λ r. IsMark mark text r.now)
    (behind-none mark text s.0 front c.requires s.1) (λ r e. behind-some mark text s.0 front r.now s.1 e) c.without_front.ensures
