-- Lines that are said one after another.
use Rattle.std.proofs.Common.{◌≡◌, ◌∙◌, ◌⊎◌, ◌+◌, ℕ, suc, true, false, List, [], ◌∷◌, ◌++◌, length, take, drop, map, codes, refl, sym, ap, subst, inl, inr, arith}
use Rattle.std.specs.Prelude.{min, Some}
use Rattle.std.proofs.lemmas.List.{map-append}
use Rattle.edr_base.specs.Limits.{count_limit}
use Rattle.edr_edition.specs.Values.{EditionValue}
use Rattle.edrd.specs.Ends.{AreServed, DoorsState, GateState, doors_asked}
use Rattle.edr_console.specs.SayingLaws.{says_more, says_next}
use Rattle.edr_console.specs.Saying.{OutputState, Says, SaysAll, number_line, edition_line, count_line, behind_lines, serving_lines}
use Rattle.edrd.specs.Serving.{Continues}
use Rattle.edrd.specs.Shelving.{IsFirst}
use Rattle.edr_console.specs.declared.words.Settings.{Settings}
use Rattle.edrd.proofs.JobLemmas.{split_at}

-- one more edition is said
pub said_on : (all old : List EditionValue) (k number : ℕ) (e : EditionValue) (a b c : OutputState) → e ∷ old ≡ drop k all → number ≡ e.number
    → SaysAll (map edition_line (take k all)) a b → Says (number_line (codes "edition ") number) b c → SaysAll (map edition_line (take (k + 1) all)) a c
said_on all old k number e a b c left same said one =
    let parts = split_at all old k e left in
    let more : k + 1 ≡ suc k = omega arith in
    let lines : map edition_line (take (k + 1) all) ≡ map edition_line (take k all) ++ edition_line e ∷ [] =
    ap (λ n. map edition_line (take n all)) more ∙ ap (map edition_line) parts.1 ∙ map-append edition_line (take k all) (e ∷ []) in
    let last : Says (edition_line e) b c = subst (λ (n : ℕ). Says (number_line (codes "edition ") n) b c) same one in
    subst (λ (l : List (List ℕ)). SaysAll l a c) (sym lines) (says_next (map edition_line (take k all)) (edition_line e) a b c said last)

-- the port, the lines behind the last publish, and the first edition are said, and then others
said_begun : (log rest : List EditionValue) (first port behind k : ℕ) (a b m c d : OutputState) → IsFirst first log
    → Says (number_line (codes "listening on 127.0.0.1:") port) a b → SaysAll (behind_lines behind) b m → Says (number_line (codes "edition ") first) m c
    → SaysAll (map edition_line (take k rest)) c d → SaysAll (serving_lines port behind (take (k + 1) (log ++ rest))) a d
said_begun log rest first port behind k a b m c d is listening more one others =
    let next : k + 1 ≡ suc k = omega arith in
    let all : take (k + 1) (log ++ rest) ≡ is.0 ∷ take k rest = ap (λ (l : List EditionValue). take (k + 1) (l ++ rest)) is.1 ∙ ap (λ n. take n (is.0 ∷ rest)) next in
    let begun : Says (edition_line is.0) m c = subst (λ (n : ℕ). Says (number_line (codes "edition ") n) m c) (sym is.2) one in
    subst (λ (l : List EditionValue). SaysAll (serving_lines port behind l) a d) (sym all)
    (b, listening, says_more (behind_lines behind) (map edition_line (is.0 ∷ take k rest)) b m d more (c, begun, others))

-- memory was wanting behind that
pub are_begun : (log rest : List EditionValue) (first port after behind k : ℕ) (a b m c d : OutputState) → IsFirst first log → port ≡ after
    → Says (number_line (codes "listening on 127.0.0.1:") port) a b → SaysAll (behind_lines behind) b m → Says (number_line (codes "edition ") first) m c
    → SaysAll (map edition_line (take k rest)) c d
    → (lines : List (List ℕ)) × SaysAll lines a d × ((lines ≡ []) ⊎ ((published : ℕ) × (lines ≡ serving_lines after behind (take published (log ++ rest)))))
are_begun log rest first port after behind k a b m c d is same listening more one others = (
  serving_lines port behind (take (k + 1) (log ++ rest)),
  said_begun log rest first port behind k a b m c d is listening more one others,
  inr (k + 1, ap (λ p. serving_lines p behind (take (k + 1) (log ++ rest))) same),
)

-- all was done
pub are_served : (settings : Settings) (before after : DoorsState) (log rest : List EditionValue) (gate ended : GateState) (first port behind k : ℕ)
    (a b m c d e : OutputState) → IsFirst first log → port ≡ after.port
    → after.last ≡ Some (doors_asked settings) → after.opens ≡ min (before.opens + 1) count_limit → after.closed ≡ settings.workers
    → ended.seconds ≡ settings.every → ended.granted ≡ gate.granted + k → (k ≡ length rest) ⊎ (ended.shut ≡ true)
    → Says (number_line (codes "listening on 127.0.0.1:") port) a b → SaysAll (behind_lines behind) b m → Says (number_line (codes "edition ") first) m c
    → SaysAll (map edition_line (take k rest)) c d → Says (count_line after.served after.faulted) d e
    → (lines : List (List ℕ)) × SaysAll lines a e × AreServed (log ++ rest) behind settings before after gate ended lines
are_served settings before after log rest gate ended first port behind k a b m c d e is same opened once closed every granted whole listening more one others counts =
    let begun = serving_lines port behind (take (k + 1) (log ++ rest)) in
    let counted = count_line after.served after.faulted in (
      begun ++ counted ∷ [],
      says_next begun counted a d e (said_begun log rest first port behind k a b m c d is listening more one others) counts,
      record {
        opened = opened;
        once = once;
        closed = closed;
        every = every;
        published = k + 1;
        granted = omega (arith, granted);
        whole = by whole;
        said = ap (λ p. serving_lines p behind (take (k + 1) (log ++ rest)) ++ counted ∷ []) same;
      },
    )
  where
    by : (k ≡ length rest) ⊎ (ended.shut ≡ true) → (k + 1 ≡ length (log ++ rest)) ⊎ (ended.shut ≡ true)
    by (inl all) = inl (let long : length (log ++ rest) ≡ suc (length rest) = ap (λ (l : List EditionValue). length (l ++ rest)) is.1 in omega (arith, all, long))
    by (inr shut) = inr shut

-- nothing goes on from the last alone
pub last_continues : (last : EditionValue) → Continues (last ∷ []) []
last_continues last = record { number = last.number; ends = record { last = last; ends = ([], refl); is = refl }; numbered = tt }

-- the counts are said
pub said_counts : (served served' faulted faulted' : ℕ) (a b : OutputState) → served' ≡ served → faulted' ≡ faulted → Says (count_line served faulted) a b
    → Says (count_line served' faulted') a b
said_counts served served' faulted faulted' a b p q says = rw (p, q) says
