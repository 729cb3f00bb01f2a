-- What is left of lists that are taken from one by one, and what the jobs came to.
use Rattle.std.proofs.Common.{◌≡◌, ◌⊎◌, ◌∙◌, ◌+◌, ◌*◌, ◌<◌, ◌≤◌, ℕ, zero, suc, Bool, true, false, not, List, [], ◌∷◌, ◌++◌, length, take, drop, map, Option, None, Some, refl, sym, ap, ap₂, subst, arith, cond, inl, inr, length-append, append_assoc, append-nil}
use Rattle.std.specs.Prelude.{IsSome, option_to_list, slice_index_or, sum_by, count_by}
use Rattle.std.proofs.lemmas.List.{drop_all, length-map, take_all}
use Rattle.std.proofs.lemmas.Bool.{false≢true}
use Rattle.std.proofs.lemmas.List.Sums.{sum_by-cons}
use Rattle.edr_base.specs.Outside.{Rose}
use Rattle.edr_edition.specs.Values.{EditionValue}
use Rattle.edr_edition.specs.Shelves.{AreNumberedFrom, IsNext}
use Rattle.edr_console.specs.Limits.{worker_limit, accept_limit}
use Rattle.edrd.specs.declared.jobs.Serving.{Serving}
use Rattle.edrd.specs.Serving.{Continues, HasEnded, is_left}
use Rattle.edrd.specs.Jobs.{HasServed, acceptor_of, sessions_of, faults_of, has_failed}

-- ---- one by one

pub counted_on : {T : Type 0} (one : Option T) (old new : List T) (n m : ℕ) → n ≡ length old → old ≡ option_to_list one ++ new
    → m + length (option_to_list one) ≡ n → m ≡ length new
counted_on one old new n m counted is fewer =
    let both : length old ≡ length (option_to_list one) + length new = ap length is ∙ length-append (option_to_list one) new in
    omega (arith, counted, both, fewer)

pub nothing_left : {T : Type 0} (old : List T) (n : ℕ) → n ≡ length old → ¬ (0 < n) → old ≡ []
nothing_left [] n counted none = refl
nothing_left (x ∷ xs) n counted none = absurd (none (omega (arith, counted)))

pub ended_none : {T : Type 0} (one : Option T) (old new : List T) (n : ℕ) → n ≡ length old → old ≡ option_to_list one ++ new → (0 < n → IsSome one)
    → one ≡ None → new ≡ []
ended_none None old new n counted is some none = sym is ∙ nothing_left old n counted (λ l. false≢true (some l))
ended_none (Some x) old new n counted is some none = absurd cc

-- ---- the editions that are published

-- the next edition goes on from the log
pub next_is : (log rest all : List EditionValue) (e : EditionValue) → Continues log all → all ≡ e ∷ rest → IsNext log e
next_is log rest all e on left =
    let numbered = subst (AreNumberedFrom (on.number + 1)) left on.numbered in
    (on.ends.last, on.ends.ends, let number : e.number ≡ on.number + 1 = numbered.0 in omega (arith, number, on.ends.is))

-- and others go on from it
pub continues_on : (log log' rest all all' : List EditionValue) (e : EditionValue) → Continues log all → all ≡ e ∷ rest → log' ≡ log ++ e ∷ []
    → rest ≡ all' → Continues log' all'
continues_on log log' rest all all' e on left grew then =
    let numbered = subst (AreNumberedFrom (on.number + 1)) left on.numbered in
    let number : e.number ≡ on.number + 1 = numbered.0 in
    let next : on.number + 1 + 1 ≡ e.number + 1 = omega (arith, number) in
    record {
      number = e.number;
      ends = record { last = e; ends = (log, grew); is = refl };
      numbered = subst (AreNumberedFrom (e.number + 1)) then (subst (λ (n : ℕ). AreNumberedFrom n rest) next numbered.1);
    }

none_behind : {T : Type 0} (x : T) (xs : List T) (k : ℕ) → x ∷ xs ≡ drop k [] → ⊥
none_behind x xs zero h = cc
none_behind x xs (suc k) h = cc

pub split_at : {T : Type 0} (all rest : List T) (k : ℕ) (e : T) → e ∷ rest ≡ drop k all → (k < length all) × (take (suc k) all ≡ take k all ++ e ∷ []) × (drop (suc k) all ≡ rest)
split_at [] rest k e left = absurd (none_behind e rest k left)
split_at (x ∷ all) rest zero e left = let head : e ≡ x = cc in let tail : rest ≡ all = cc in (omega arith, rw head refl, sym tail)
split_at (x ∷ all) rest (suc k) e left =
    let more = split_at all rest k e left in (omega (arith, more.0), ap (λ xs. x ∷ xs) more.1, more.2)

-- one more is published
pub published_on : (log log' log'' all old new : List EditionValue) (k : ℕ) (e : EditionValue) (next : Option EditionValue)
    → e ∷ old ≡ drop k all → log' ≡ log ++ take k all → log'' ≡ log' ++ e ∷ [] → old ≡ option_to_list next ++ new
    → (k + 1 ≤ length all) × (log'' ≡ log ++ take (k + 1) all) × (option_to_list next ++ new ≡ drop (k + 1) all)
published_on log log' log'' all old new k e next left is grew then =
    let parts = split_at all old k e left in
    let more : k + 1 ≡ suc k = omega arith in (
      omega (arith, parts.0),
      grew ∙ ap (λ l. l ++ e ∷ []) is ∙ append_assoc log (take k all) (e ∷ []) ∙ ap (λ l. log ++ l) (sym parts.1) ∙ ap (λ n. log ++ take n all) (sym more),
      sym then ∙ sym parts.2 ∙ ap (λ n. drop n all) (sym more),
    )

-- nothing is left
pub published_all : (all : List EditionValue) (k : ℕ) → k ≤ length all → [] ≡ drop k all → k ≡ length all
published_all [] k few left = omega (arith, few)
published_all (e ∷ all) zero few left = absurd cc
published_all (e ∷ all) (suc k) few left = ap suc (published_all all k (omega (arith, few)) left)

-- ---- what the jobs came to

-- a list that was lent as a whole
pub whole : {T : Type 0} (items new : List T) (n : ℕ) → length new ≡ length items → n ≡ length items → take n (new ++ drop (length new) items) ≡ new
whole items new n same long =
    ap (λ l. take n (new ++ l)) (drop_all (length new) items (omega (arith, same))) ∙ ap (take n) (append-nil new) ∙ take_all n new (omega (arith, same, long))

pub few_of : {T : Type 0} (g : T → ℕ) (most : ℕ) (all : List T) → ((i : ℕ) (d : T) → i < length all → g (slice_index_or all i d) ≤ most) → sum_by g all ≤ length all * most
few_of g most [] each = omega arith
few_of g most (x ∷ all) each =
    let head : g x ≤ most = each 0 x (omega arith) in
    let rest = few_of g most all (λ i d l. each (suc i) d (omega (arith, l))) in
    omega (arith, head, rest, sum_by-cons g x all)

module _ {A : Type 0} (given finished faulted faults : A → ℕ) (over : A → Bool) where
  abbrev pub Each : List (Serving A) → List (Serving A) → Type 0
  Each olds news = (i : ℕ) (d : Serving A) → i < length olds → HasServed given finished faulted faults over (slice_index_or olds i d) (slice_index_or news i d)

  -- what each counted of a meaning of its acceptor adds up
  pub sums : (f : A → ℕ) (g : Serving A → ℕ) (olds news : List (Serving A)) → length news ≡ length olds
      → ((i : ℕ) (d : Serving A) → i < length olds → f (slice_index_or news i d).acceptor ≡ f (slice_index_or olds i d).acceptor + g (slice_index_or news i d))
      → sum_by f (map acceptor_of news) ≡ sum_by f (map acceptor_of olds) + sum_by g news
  sums f g [] [] same each = refl
  sums f g [] (y ∷ news) same each = absurd (omega (arith, same))
  sums f g (x ∷ olds) [] same each = absurd (omega (arith, same))
  sums f g (x ∷ olds) (y ∷ news) same each =
      let head : f y.acceptor ≡ f x.acceptor + g y = each 0 x (omega arith) in
      let rest = sums f g olds news (omega (arith, same)) (λ i d l. each (suc i) d (omega (arith, l))) in
      omega (arith, head, rest, sum_by-cons f y.acceptor (map acceptor_of news), sum_by-cons f x.acceptor (map acceptor_of olds), sum_by-cons g y news)

  -- those whose accept failed are those that aren't over
  pub left_over : (olds news : List (Serving A)) → length news ≡ length olds → Each olds news → count_by has_failed news ≡ count_by (is_left over) (map acceptor_of news)
  left_over [] [] same each = refl
  left_over [] (y ∷ news) same each = absurd (omega (arith, same))
  left_over (x ∷ olds) [] same each = absurd (omega (arith, same))
  left_over (x ∷ olds) (y ∷ news) same each =
      let head : y.failed ≡ not (over y.acceptor) = failed_is y.failed (over y.acceptor) (each 0 x (omega arith)).over_is in
      let rest = left_over olds news (omega (arith, same)) (λ i d l. each (suc i) d (omega (arith, l))) in
      let one : cond y.failed 1 0 ≡ cond (not (over y.acceptor)) 1 0 = ap (λ b. cond b 1 0) head in
      sum_by-cons (λ (j : Serving A). cond (has_failed j) 1 0) y news ∙ ap₂ (λ (n m : ℕ). n + m) one rest
      ∙ sym (sum_by-cons (λ (a : A). cond (is_left over a) 1 0) y.acceptor (map acceptor_of news))
    where
      failed_is : (failed is : Bool) → is ≡ not failed → failed ≡ not is
      failed_is true is e = rw e refl
      failed_is false is e = rw e refl

  ended_one : (x y : Serving A) → HasServed given finished faulted faults over x y → HasEnded given finished faults over x.acceptor y.acceptor
  ended_one x y served = record { more = y.sessions; given_is = served.given_is; finished_is = served.finished_is; ended = by y.failed refl }
    where
      by : (failed : Bool) → y.failed ≡ failed → (over y.acceptor ≡ true) ⊎ Rose (faults x.acceptor) (faults y.acceptor)
      by true e = inr (served.broke e)
      by false e = inl (served.over_is ∙ ap not e)

  pub ended : (olds news : List (Serving A)) → length news ≡ length olds → Each olds news → (i : ℕ) (d : A) → i < length olds
      → HasEnded given finished faults over (slice_index_or (map acceptor_of olds) i d) (slice_index_or (map acceptor_of news) i d)
  ended [] news same each i d l = absurd (omega (arith, l))
  ended (x ∷ olds) [] same each i d l = absurd (omega (arith, same))
  ended (x ∷ olds) (y ∷ news) same each zero d l = ended_one x y (each 0 x (omega arith))
  ended (x ∷ olds) (y ∷ news) same each (suc i) d l =
      ended olds news (omega (arith, same)) (λ k e m. each (suc k) e (omega (arith, m))) i d (omega (arith, l))

  -- no sum is beyond its bound
  pub few_sessions : (olds news : List (Serving A)) → length news ≡ length olds → length olds ≤ worker_limit → Each olds news → sum_by sessions_of news ≤ worker_limit * accept_limit
  few_sessions olds news same few each =
      let bound = few_of sessions_of accept_limit news (λ i d l. let s = each i d (omega (arith, same, l)) in let g : given (slice_index_or news i d).acceptor ≤ accept_limit = s.within in omega (arith, s.given_is, g)) in
      omega (arith, bound, same, few)

  pub few_faults : (olds news : List (Serving A)) → length news ≡ length olds → length olds ≤ worker_limit → Each olds news → sum_by faults_of news ≤ worker_limit * accept_limit
  few_faults olds news same few each =
      let bound = few_of faults_of accept_limit news (λ i d l. let s = each i d (omega (arith, same, l)) in let g : given (slice_index_or news i d).acceptor ≤ accept_limit = s.within in omega (arith, s.given_is, s.few, g)) in
      omega (arith, bound, same, few)

  -- the same of the acceptors that the jobs were made of, and of those that came back
  pub ended_all : (olds news : List (Serving A)) (old new : List A) → map acceptor_of olds ≡ old → new ≡ map acceptor_of news → length news ≡ length olds
      → Each olds news → (i : ℕ) (d : A) → i < length old → HasEnded given finished faults over (slice_index_or old i d) (slice_index_or new i d)
  ended_all olds news old new before after same each i d l =
      let long : length olds ≡ length old = sym (length-map olds acceptor_of) ∙ ap length before in
      let told = ended olds news same each i d (omega (arith, l, long)) in
      subst (λ (y : List A). HasEnded given finished faults over (slice_index_or old i d) (slice_index_or y i d)) (sym after)
      (subst (λ (x : List A). HasEnded given finished faults over (slice_index_or x i d) (slice_index_or (map acceptor_of news) i d)) before told)

  pub sums_all : (f : A → ℕ) (g : Serving A → ℕ) (olds news : List (Serving A)) (old new : List A) (total : ℕ) → map acceptor_of olds ≡ old
      → new ≡ map acceptor_of news → total ≡ sum_by g news → length news ≡ length olds
      → ((i : ℕ) (d : Serving A) → i < length olds → f (slice_index_or news i d).acceptor ≡ f (slice_index_or olds i d).acceptor + g (slice_index_or news i d))
      → sum_by f new ≡ sum_by f old + total
  sums_all f g olds news old new total before after counted same each =
      ap (sum_by f) after ∙ sums f g olds news same each ∙ ap₂ (λ (n m : ℕ). n + m) (ap (sum_by f) before) (sym counted)

  pub left_all : (olds news : List (Serving A)) (new : List A) (total : ℕ) → new ≡ map acceptor_of news → total ≡ count_by has_failed news
      → length news ≡ length olds → Each olds news → total ≡ count_by (is_left over) new
  left_all olds news new total after counted same each = counted ∙ left_over olds news same each ∙ ap (count_by (is_left over)) (sym after)

  pub few_jobs : (olds : List (Serving A)) (old : List A) → map acceptor_of olds ≡ old → length old ≤ worker_limit → length olds ≤ worker_limit
  few_jobs olds old before few = let long : length olds ≡ length old = sym (length-map olds acceptor_of) ∙ ap length before in omega (arith, few, long)
