-- A session in which each request but the first finds the next edition.
use Rattle.std.proofs.Common.{◌≡◌, ℕ, zero, suc, ◌+◌, ◌-◌, ◌≤◌, ◌<◌, min, max, ◌⊎◌, Bool, true, false, List, [], ◌∷◌, ◌++◌, length, length-append, append-nil, Some, None, All, sym, ap, subst, ◌∙◌, refl, inl, inr, arith, slice_index_or}
use Rattle.std.specs.declared.option.Option.{Option}
use Rattle.std.specs.Prelude.{is_some, unwrap_or, option_to_list, IfSome, IsSome}
use Rattle.std.specs.Io.KnownBytes.{append_known, prepend_known}
use mathlib.Core.List.{append_assoc}
use Rattle.edr_base.specs.Calls.{Begins, Front, IsFlushed, ReadsAtMost, WrittenWhole, WrittenInPart}
use Rattle.edr_base.specs.KnownBytes.{append_nothing, prepend_nothing, grew_on, took_on, front_on, front_whole}
use Rattle.edr_edition.specs.Values.{EditionValue}
use Rattle.edr_edition.specs.Shelves.{EndsWith, AreNumberedFrom, IsLog, IsNext, no_edition}
use Rattle.edr_http.specs.Heads.{Told, IsBehind, HasNoHead, most_held}
use Rattle.edr_serve.specs.declared.ends.End.{End}
use Rattle.edr_serve.specs.declared.ends.End.TheVariants.{EndOfInput}
use Rattle.edr_serve.specs.declared.reports.OneReport.{OneReport}
use Rattle.edr_serve.specs.Requests.{Request, IsFirstRequest, Requests, Begun, session_end, request_limit}
use Rattle.edr_serve.specs.Replies.{readers, output}
use Rattle.edr_serve.specs.Sessions.{State, Uses, Served, Exchanged, BrokenAtOne, AtMost, most_behind, ReadsAhead}
use Rattle.edr_serve.specs.SessionLaws.{OutputGoesOn}
use Rattle.edr_serve.specs.AheadLaws.{HeldBehind, held_on, held_none, held_read, held_end, ahead_of, ahead_more, most_behind_held, held_behind}
use Rattle.edr.specs.Replays.{edition_at, editions_read, replayed, AreReplies, AreBegun, IsServed, IsReadFor, Waits}
use Rattle.edr.proofs.ReplayLemmas.{AreFirst, uses_same, begins_step, read_step, replayed_on, front_of_more, same_shelf, are_begun, at_end}

-- ---- the shelf

-- a shelf of the first editions: so many as turns have come, and all where there are no more
pub record Stands (editions shelf behind : List EditionValue) (turn : ℕ) : Type 0 where
  pub all : shelf ++ behind ≡ editions
  pub some : length shelf ≡ min turn (length editions)

pub stands_start : (editions shelf behind : List EditionValue) (first : EditionValue) → editions ≡ first ∷ behind → shelf ≡ first ∷ [] → Stands editions shelf behind 1
stands_start editions shelf behind first p q = record {
  all = ap (λ w. w ++ behind) q ∙ sym p;
  some = omega (arith, ap length q, ap length p);
}

-- one more stands on it, where there is one
pub stands_more : (editions shelf behind shelf' behind' : List EditionValue) (next : Option EditionValue) (turn : ℕ) → 1 ≤ turn → Stands editions shelf behind turn
    → behind ≡ option_to_list next ++ behind' → shelf' ≡ shelf ++ option_to_list next → (next ≡ None → length behind' ≡ 0) → Stands editions shelf' behind' (turn + 1)
stands_more editions shelf behind shelf' behind' None turn one s p q none =
    let nothing : length behind' ≡ 0 = none refl in
    let sum : length editions ≡ length shelf + length behind = sym (ap length s.all) ∙ length-append shelf behind in
    record {
      all = ap (λ w. w ++ behind') (q ∙ append-nil shelf) ∙ (ap (λ w. shelf ++ w) (sym p) ∙ s.all);
      some = omega (arith, ap length q, ap length (append-nil shelf), sum, ap length p, nothing, s.some);
    }
stands_more editions shelf behind shelf' behind' (Some next) turn one s p q none =
    let sum : length editions ≡ length shelf + length behind = sym (ap length s.all) ∙ length-append shelf behind in
    record {
      all = ap (λ w. w ++ behind') q ∙ (append_assoc shelf (next ∷ []) behind' ∙ (ap (λ w. shelf ++ w) (sym p) ∙ s.all));
      some = omega (arith, ap length q, length-append shelf (next ∷ []), sum, ap length p, s.some);
    }

-- how many are behind it
pub left_counted : (before after : List EditionValue) (next : Option EditionValue) (n m : ℕ) → n ≡ length before → before ≡ option_to_list next ++ after
    → m + length (option_to_list next) ≡ n → m ≡ length after
left_counted before after next n m p q r = omega (arith, p, ap length q, length-append (option_to_list next) after, r)

-- none are where there is no next
pub none_after : (next : Option EditionValue) (after : List EditionValue) (n m : ℕ) → next ≡ None → m ≡ length after → (0 < n → IsSome next) → m + length (option_to_list next) ≡ n → length after ≡ 0
none_after None after zero m none p f r = omega (arith, p, r)
none_after None after (suc n) m none p f r = absurd (cc (f (omega arith)))
none_after (Some next) after n m none p f r = absurd (cc none)

-- the edition behind some is the next
next_from : (n : ℕ) (shelf : List EditionValue) (next : EditionValue) (more : List EditionValue) → 0 < length shelf → AreNumberedFrom n (shelf ++ next ∷ more) → IsNext shelf next
next_from n [] next more h x = absurd (omega (arith, h))
next_from n (e ∷ []) next more h x = (e, ([], refl), x.1.0 ∙ ap (λ k. k + 1) (sym x.0))
next_from n (e ∷ f ∷ shelf) next more h x =
    let further = next_from (n + 1) (f ∷ shelf) next more (omega arith) x.1 in
    (further.0, (e ∷ further.1.0, ap (λ w. e ∷ w) further.1.1), further.2)

pub is_next : (editions shelf behind behind' : List EditionValue) (next : Option EditionValue) (turn : ℕ) → IsLog editions → 0 < length editions → Stands editions shelf behind turn → 1 ≤ turn
    → behind ≡ option_to_list next ++ behind' → IfSome next (IsNext shelf)
is_next editions shelf behind behind' None turn log some s one p = tt
is_next editions shelf behind behind' (Some next) turn log some s one p =
    next_from 1 shelf next behind' (omega (arith, s.some, one, some))
    (subst (AreNumberedFrom 1) (sym s.all ∙ ap (λ w. shelf ++ w) p) log.numbered)

place_of_last : (front : List EditionValue) (e : EditionValue) (behind : List EditionValue) (other : EditionValue) → slice_index_or (front ++ e ∷ behind) (length front) other ≡ e
place_of_last [] e behind other = refl
place_of_last (f ∷ front) e behind other = place_of_last front e behind other

-- the last of the shelf is the edition that stands at that turn
pub last_stands : (editions shelf behind : List EditionValue) (turn : ℕ) → Stands editions shelf behind turn → 1 ≤ turn → (e : EditionValue) → EndsWith shelf e → e ≡ edition_at true editions (turn - 1)
last_stands editions shelf behind turn stands h e ends =
    let all : ends.0 ++ e ∷ behind ≡ editions = sym (append_assoc ends.0 (e ∷ []) behind) ∙ (ap (λ w. w ++ behind) (sym ends.1) ∙ stands.all) in
    let count : length shelf ≡ length ends.0 + 1 = ap length ends.1 ∙ length-append ends.0 (e ∷ []) in
    let place : length ends.0 ≡ min (turn - 1) (length editions - 1) = omega (arith, count, stands.some, h) in
    sym (place_of_last ends.0 e behind no_edition)
    ∙ (ap (λ w. slice_index_or w (length ends.0) no_edition) all ∙ ap (λ k. slice_index_or editions k no_edition) place)

-- ---- the editions that requests read

abbrev at : List EditionValue → ℕ → EditionValue
at editions = edition_at true editions

are_first : (a es : List EditionValue) (last : EditionValue) → ((e : EditionValue) → EndsWith a e → e ≡ last) → All (EndsWith a) es → AreFirst last es
are_first a [] last h x = tt
are_first a (e ∷ es) last h x = (h e (x 0 no_edition (omega arith)), are_first a es last h (λ k d p. x (suc k) d (omega (arith, p))))

only_nothing : (es : List EditionValue) → length es ≡ 0 → es ≡ []
only_nothing [] p = refl
only_nothing (e ∷ es) p = absurd (omega (arith, p))

one_read : (standing : ℕ → EditionValue) (k : ℕ) (last : EditionValue) (r : Request) (es : List EditionValue) → standing k ≡ last → length es ≡ readers (r ∷ []) → AreFirst last es
    → es ≡ editions_read standing k (r ∷ [])
one_read standing k last r es h full a = read_step (standing k) last r.asked 0 es [] h (λ fs p b. only_nothing fs p) full a

-- ---- the first request of the rest, and those behind it

both : (b : Bool) → b ≡ true → b ≡ false → ⊥
both b t f = cc

goes_on : (n : ℕ) (b c : Option (List ℕ)) (r : Request) (rs : List Request) → Told (λ x y. IsFirstRequest n x r y) b c → r.end ≡ None → IfSome c (λ x. Requests (n - 1) x rs) → IfSome b (λ x. Requests n x (r ∷ rs))
goes_on n None c r rs x e y = tt
goes_on n (Some b) None r rs x e y = absurd x
goes_on n (Some b) (Some c) r rs x e y = (c, x, (λ t. absurd (both (is_some r.end) t (ap is_some e))), λ _. y)

begins_on : (n : ℕ) (b c : Option (List ℕ)) (r : Request) (rs : List Request) → Told (λ x y. IsFirstRequest n x r y) b c → r.end ≡ None → IfSome c (λ x. Begun (n - 1) x rs) → IfSome b (λ x. Begun n x (r ∷ rs))
begins_on n None c r rs x e y = tt
begins_on n (Some b) None r rs x e y = absurd x
begins_on n (Some b) (Some c) r rs x e y = (c, x, (λ t. absurd (both (is_some r.end) t (ap is_some e))), λ _. y)

closes_with : (n : ℕ) (b c : Option (List ℕ)) (r : Request) (end : End) → Told (λ x y. IsFirstRequest n x r y) b c → r.end ≡ Some end → IfSome b (λ x. Requests n x (r ∷ []))
closes_with n None c r end x e = tt
closes_with n (Some b) None r end x e = absurd x
closes_with n (Some b) (Some c) r end x e = (c, x, (λ _. refl), λ f. absurd (both (is_some r.end) (ap is_some e) f))

none_left : (n : ℕ) (b c : Option (List ℕ)) → Told (λ x y. (x ≡ []) × (y ≡ [])) b c → IfSome b (λ x. Requests n x [])
none_left n None c t = tt
none_left n (Some b) None t = absurd t
none_left n (Some b) (Some c) t = t.0

begun_none : (n : ℕ) (b : Option (List ℕ)) → IfSome b (λ bytes. Begun n bytes [])
begun_none n None = tt
begun_none n (Some b) = tt

-- ---- in the midst of a session

-- some requests were answered, and what is known of the rest is known of all
pub record Going (editions : List EditionValue) (turn : ℕ) (rest behind before now : Option (List ℕ)) : Type 0 where
  pub done : List Request
  pub count : length done ≡ turn - 1
  pub goes : (rs : List Request) → IfSome behind (λ bytes. Requests (1001 - turn) bytes rs) → IfSome rest (λ bytes. Requests request_limit bytes (done ++ rs))
  pub begins : (rs : List Request) → IfSome behind (λ bytes. Begun (1001 - turn) bytes rs) → IfSome rest (λ bytes. Begun request_limit bytes (done ++ rs))
  pub ahead : (rs : List Request) (held : List ℕ) (left : Option (List ℕ)) → HeldBehind (1001 - turn) rs held behind left → HeldBehind request_limit (done ++ rs) held rest left
  pub ends : (rs : List Request) → session_end (done ++ rs) ≡ session_end rs
  pub bytes : now ≡ append_known before (replayed true editions done)

going_start : (editions : List EditionValue) (rest a : Option (List ℕ)) → Going editions 1 rest rest a a
going_start editions rest a = record { done = []; count = refl; goes = λ rs k. k; begins = λ rs k. k; ahead = λ rs held left t. t; ends = λ rs. refl; bytes = append_nothing a }

pub going_begins : (editions : List EditionValue) (rest behind a : Option (List ℕ)) → behind ≡ prepend_known [] rest → Going editions 1 rest behind a a
going_begins editions rest behind a e = subst (λ (z : Option (List ℕ)). Going editions 1 rest z a a) (prepend_nothing rest ∙ sym e) (going_start editions rest a)

-- the first behind those that were answered
snoc : (done : List Request) (r : Request) (rs : List Request) → (done ++ r ∷ []) ++ rs ≡ done ++ r ∷ rs
snoc done r rs = append_assoc done (r ∷ []) rs

-- what is written with one request more
more_written : OutputGoesOn → (editions shelf : List EditionValue) (turn : ℕ) (done : List Request) (r : Request) (es : List EditionValue) (a b c : Option (List ℕ))
    → length done ≡ turn - 1 → ((e : EditionValue) → EndsWith shelf e → e ≡ at editions (turn - 1)) → length es ≡ readers (r ∷ []) → All (EndsWith shelf) es
    → b ≡ append_known a (replayed true editions done) → c ≡ append_known b (output (r ∷ []) es) → c ≡ append_known a (replayed true editions (done ++ r ∷ []))
more_written law editions shelf turn done r es a b c count last full newest p q =
    let read : es ≡ editions_read (at editions) (turn - 1) (r ∷ []) =
    one_read (at editions) (turn - 1) (at editions (turn - 1)) r es refl full (are_first shelf es (at editions (turn - 1)) last newest) in
    let here : es ≡ editions_read (at editions) (length done) (r ∷ []) = read ∙ ap (λ k. editions_read (at editions) k (r ∷ [])) (sym count) in
    let text : replayed true editions done ++ output (r ∷ []) es ≡ replayed true editions (done ++ r ∷ []) =
    ap (λ w. replayed true editions done ++ output (r ∷ []) w) here ∙ sym (replayed_on law true editions done (r ∷ [])) in
    grew_on a b c (replayed true editions done) (output (r ∷ []) es) p q ∙ ap (λ w. append_known a w) text

-- the session goes on
going_more : OutputGoesOn → (editions : List EditionValue) (turn : ℕ) (rest b c a : Option (List ℕ)) (x y : State) (report : OneReport)
    → 1 ≤ turn → turn ≤ 1000 → ((e : EditionValue) → EndsWith y.seen e → e ≡ at editions (turn - 1))
    → Going editions turn rest b a x.written → Exchanged (1001 - turn) b c x y report → report.end ≡ None → Going editions (turn + 1) rest c a y.written
going_more law editions turn rest b c a x y report one most last g e none =
    let r = e.request in
    let still : r.end ≡ None = sym e.replied.end ∙ none in
    let fewer : 1001 - (turn + 1) ≡ (1001 - turn) - 1 = omega arith in
    record {
      done = g.done ++ r ∷ [];
      count = omega (arith, g.count, length-append g.done (r ∷ []), one);
      goes = λ rs k. subst (λ (z : List Request). IfSome rest (λ bytes. Requests request_limit bytes z)) (sym (snoc g.done r rs))
          (g.goes (r ∷ rs) (goes_on (1001 - turn) b c r rs e.first still (subst (λ (m : ℕ). IfSome c (λ bytes. Requests m bytes rs)) fewer k)));
      begins = λ rs k. subst (λ (z : List Request). IfSome rest (λ bytes. Begun request_limit bytes z)) (sym (snoc g.done r rs))
          (g.begins (r ∷ rs) (begins_on (1001 - turn) b c r rs e.first still (subst (λ (m : ℕ). IfSome c (λ bytes. Begun m bytes rs)) fewer k)));
      ahead = λ rs held left t. subst (λ (z : List Request). HeldBehind request_limit z held rest left) (sym (snoc g.done r rs))
          (g.ahead (r ∷ rs) held left (held_on (1001 - turn) b c left r rs held e.first (subst (λ (m : ℕ). HeldBehind m rs held c left) fewer t)));
      ends = λ rs. ap session_end (snoc g.done r rs) ∙ (g.ends (r ∷ rs) ∙ ap (λ (o : Option End). unwrap_or o (session_end rs)) still);
      bytes = more_written law editions y.seen turn g.done r e.replied.editions a x.written y.written g.count last e.replied.answered.full e.replied.newest g.bytes e.replied.answered.bytes;
    }

-- ---- a session that is over: its requests, what is left behind them, and what was written for them
pub record Over (editions : List EditionValue) (rest left before now : Option (List ℕ)) (end : End) : Type 0 where
  pub requests : List Request
  pub all : IfSome rest (λ bytes. Requests request_limit bytes requests)
  pub ahead : Told (λ bytes others. ReadsAhead (AtMost (most_behind (Some end))) request_limit requests bytes others) rest left
  pub ends : end ≡ session_end requests
  pub bytes : now ≡ append_known before (replayed true editions requests)

going_last : OutputGoesOn → (editions : List EditionValue) (turn : ℕ) (held : List ℕ) (rest b c left a : Option (List ℕ)) (x y : State) (report : OneReport) (end : End)
    → 1 ≤ turn → ((e : EditionValue) → EndsWith y.seen e → e ≡ at editions (turn - 1))
    → Going editions turn rest b a x.written → Exchanged (1001 - turn) b c x y report → HeldBehind (1001 - turn - 1) [] held c left → length held ≤ most_behind (Some end) → report.end ≡ Some end → Over editions rest left a y.written end
going_last law editions turn held rest b c left a x y report end one last g e ahead few ends =
    let r = e.request in
    let closed : r.end ≡ Some end = sym e.replied.end ∙ ends in
    record {
      requests = g.done ++ r ∷ [];
      all = g.goes (r ∷ []) (closes_with (1001 - turn) b c r end e.first closed);
      ahead = ahead_of (AtMost (most_behind (Some end))) request_limit (g.done ++ r ∷ []) held rest left few (g.ahead (r ∷ []) held left (held_on (1001 - turn) b c left r [] held e.first ahead));
      ends = sym (g.ends (r ∷ []) ∙ ap (λ (o : Option End). unwrap_or o EndOfInput) closed);
      bytes = more_written law editions y.seen turn g.done r e.replied.editions a x.written y.written g.count last e.replied.answered.full e.replied.newest g.bytes e.replied.answered.bytes;
    }

-- behind those that were answered
ahead_done : (IsSo : List ℕ → Type 0) (editions : List EditionValue) (turn : ℕ) (held : List ℕ) (rest b left a now : Option (List ℕ)) (g : Going editions turn rest b a now) → IsSo held → HeldBehind (1001 - turn) [] held b left
    → Told (λ bytes others. ReadsAhead IsSo request_limit g.done bytes others) rest left
ahead_done IsSo editions turn held rest b left a now g is ahead =
    ahead_of IsSo request_limit g.done held rest left is (subst (λ (z : List Request). HeldBehind request_limit z held rest left) (append-nil g.done) (g.ahead [] held left ahead))

begun_done : (editions : List EditionValue) (turn : ℕ) (rest b a now : Option (List ℕ)) (g : Going editions turn rest b a now) → IfSome rest (λ bytes. Begun request_limit bytes g.done)
begun_done editions turn rest b a now g =
    subst (λ (z : List Request). IfSome rest (λ bytes. Begun request_limit bytes z)) (append-nil g.done) (g.begins [] (begun_none (1001 - turn) b))

going_stop : (editions : List EditionValue) (turn : ℕ) (rest b c left a now : Option (List ℕ)) → Going editions turn rest b a now → Told (λ u v. (u ≡ []) × (v ≡ [])) b c → HeldBehind (1001 - turn) [] [] b left
    → Over editions rest left a now EndOfInput
going_stop editions turn rest b c left a now g t ahead = record {
  requests = g.done;
  all = subst (λ (z : List Request). IfSome rest (λ bytes. Requests request_limit bytes z)) (append-nil g.done) (g.goes [] (none_left (1001 - turn) b c t));
  ahead = ahead_done (AtMost 0) editions turn [] rest b left a now g (omega arith) ahead;
  ends = sym (ap session_end (sym (append-nil g.done)) ∙ g.ends []);
  bytes = g.bytes;
}

kept_last : (a b : List EditionValue) (last : EditionValue) → Some b ≡ Some a → ((e : EditionValue) → EndsWith a e → e ≡ last) → (e : EditionValue) → EndsWith b e → e ≡ last
kept_last a b last same h e ends = h e (subst (λ (z : List EditionValue). EndsWith z e) (same_shelf b a same) ends)

pub session_goes : OutputGoesOn → (editions : List EditionValue) (turn : ℕ) (rest b c a : Option (List ℕ)) (x y : State) (report : OneReport)
    → 1 ≤ turn → turn ≤ 1000 → ((e : EditionValue) → EndsWith x.seen e → e ≡ at editions (turn - 1)) → Some y.seen ≡ Some x.seen
    → Going editions turn rest b a x.written → Served (1001 - turn) b c x y report → report.end ≡ None → Going editions (turn + 1) rest c a y.written
session_goes law editions turn rest b c a x y report one most last same g (inl e) none = absurd (cc (none, ap (λ (o : OneReport). o.end) e.report_is))
session_goes law editions turn rest b c a x y report one most last same g (inr e) none =
    going_more law editions turn rest b c a x y report one most (kept_last x.seen y.seen (at editions (turn - 1)) same last) g e none

pub session_ends : OutputGoesOn → (editions : List EditionValue) (turn m : ℕ) (held : List ℕ) (rest b left a : Option (List ℕ)) (x y : State) (report : OneReport) (end : End)
    → 1 ≤ turn → ((e : EditionValue) → EndsWith x.seen e → e ≡ at editions (turn - 1)) → Some y.seen ≡ Some x.seen
    → m ≤ most_behind None → length held ≤ max m (most_behind report.end)
    → Going editions turn rest b a x.written → Served (1001 - turn) b (prepend_known held left) x y report → report.end ≡ Some end → Over editions rest left a y.written end
session_ends law editions turn m held rest b left a x y report end one last same few more g (inl e) ends =
    let told : Some EndOfInput ≡ Some end = sym (ap (λ (o : OneReport). o.end) e.report_is) ∙ ends in
    let last_is : EndOfInput ≡ end = cc in
    subst (λ (z : End). Over editions rest left a y.written z) last_is
    (going_stop editions turn rest b (prepend_known held left) left a y.written (subst (λ (z : State). Going editions turn rest b a z.written) (sym e.same) g) e.at_end (held_end (1001 - turn) held b left e.at_end))
session_ends law editions turn m held rest b left a x y report end one last same few more g (inr e) ends =
    going_last law editions turn held rest b (prepend_known held left) left a x y report end one (kept_last x.seen y.seen (at editions (turn - 1)) same last) g e
    (held_none (1001 - turn - 1) held left) (held_behind m held report.end end e.ends ends few more) ends

-- ---- a session that broke off

begins_one : (standing : ℕ → EditionValue) (k : ℕ) (last : EditionValue) (rs : List Request) (es : List EditionValue) → standing k ≡ last → length rs ≤ 1 → AreFirst last es
    → Begins (output rs es) (output rs (editions_read standing k rs))
begins_one standing k last [] es h one a = ([], refl)
begins_one standing k last (r ∷ []) es h one a = begins_step (standing k) last r r.asked [] es [] h (λ fs b. ([], refl)) a
begins_one standing k last (r ∷ s ∷ rs) es h one a = absurd (omega (arith, one))

pub session_broken : OutputGoesOn → (editions : List EditionValue) (turn : ℕ) (rest b a : Option (List ℕ)) (x y : State)
    → ((e : EditionValue) → EndsWith x.seen e → e ≡ at editions (turn - 1)) → Some y.seen ≡ Some x.seen
    → Going editions turn rest b a x.written → BrokenAtOne (1001 - turn) b x y → WrittenInPart (AreBegun true editions rest) a y.written
session_broken law editions turn rest b a x y last same g e =
    let kept : y.seen ≡ x.seen = same_shelf y.seen x.seen same in
    let uses : Uses x.seen e.broke_off.editions x.seen = subst (λ (z : List EditionValue). Uses x.seen e.broke_off.editions z) kept e.broke_off.uses in
    let first = uses_same x.seen (at editions (turn - 1)) last x.seen e.broke_off.editions refl uses in
    let more : Begins (output e.requests e.broke_off.editions) (output e.requests (editions_read (at editions) (turn - 1) e.requests)) =
    begins_one (at editions) (turn - 1) (at editions (turn - 1)) e.requests e.broke_off.editions refl e.one first in
    let here : output e.requests (editions_read (at editions) (turn - 1) e.requests) ≡ output e.requests (editions_read (at editions) (length g.done) e.requests) =
    ap (λ k. output e.requests (editions_read (at editions) k e.requests)) (sym g.count) in
    let front : Front (output e.requests (editions_read (at editions) (length g.done) e.requests)) x.written y.written =
    subst (λ (t : List ℕ). Front t x.written y.written) here (front_of_more (output e.requests e.broke_off.editions) (output e.requests (editions_read (at editions) (turn - 1) e.requests)) x.written y.written more e.broke_off.bytes) in
    record {
      text = replayed true editions (g.done ++ e.requests);
      is = record { requests = g.done ++ e.requests; begun = g.begins e.requests e.begun; text_is = refl };
      front = subst (λ (t : List ℕ). Front t a y.written) (sym (replayed_on law true editions g.done e.requests))
          (front_on a x.written y.written (replayed true editions g.done) (output e.requests (editions_read (at editions) (length g.done) e.requests)) g.bytes front);
    }

-- memory was wanting between two requests
pub going_broken : (editions : List EditionValue) (turn : ℕ) (rest b a now : Option (List ℕ)) → Going editions turn rest b a now → WrittenInPart (AreBegun true editions rest) a now
going_broken editions turn rest b a now g = record {
  text = replayed true editions g.done;
  is = record {
    requests = g.done;
    begun = begun_done editions turn rest b a now g;
    text_is = refl;
  };
  front = front_whole a now (replayed true editions g.done) g.bytes;
}

-- ---- the same of the ends of a run

are_replies : (editions : List EditionValue) (rest left a now : Option (List ℕ)) (end : End) (o : Over editions rest left a now end) → AreReplies true editions rest (replayed true editions o.requests)
are_replies editions rest left a now end o = record { requests = o.requests; all = o.all; text_is = refl }

pub whole_over : (editions : List EditionValue) (rest left a now new : Option (List ℕ)) (flushed : Option ℕ) (end : End) → Over editions rest left a now end → new ≡ now → IsFlushed new flushed
    → WrittenWhole (AreReplies true editions rest) a new flushed
whole_over editions rest left a now new flushed end o same settled =
    record { text = replayed true editions o.requests; is = are_replies editions rest left a now end o; grew = same ∙ o.bytes; settled = settled }

pub part_over : (editions : List EditionValue) (rest left a now new : Option (List ℕ)) (end : End) → Over editions rest left a now end → new ≡ now → WrittenInPart (AreBegun true editions rest) a new
part_over editions rest left a now new end o same = record {
  text = replayed true editions o.requests;
  is = are_begun true editions rest (replayed true editions o.requests) (are_replies editions rest left a now end o);
  front = front_whole a new (replayed true editions o.requests) (same ∙ o.bytes);
}

pub served_over : (editions : List EditionValue) (rest left a now : Option (List ℕ)) (end : End) → Over editions rest left a now end → IsBehind rest left
    → (end ≡ EndOfInput → Told (λ bytes others. others ≡ []) rest left) → IsServed rest left
served_over editions rest left a now end o behind far = record { requests = o.requests; all = o.all; ahead = subst (λ (z : End). Told (λ bytes others. ReadsAhead (AtMost (most_behind (Some z))) request_limit o.requests bytes others) rest left) o.ends o.ahead; ended = λ ends. at_end rest left behind (far (o.ends ∙ ends)) }

-- ---- how far the input was read

pub read_over : (editions : List EditionValue) (rest left a now new : Option (List ℕ)) (end : End) → Over editions rest left a now end → new ≡ now → IsReadFor true editions rest left a new
read_over editions rest left a now new end o same = record {
  requests = o.requests;
  ahead = ahead_more (most_behind (Some end)) request_limit o.requests rest left (most_behind_held (Some end)) o.ahead;
  more = [];
  whole = same ∙ o.bytes ∙ ap (append_known a) (sym (append-nil (replayed true editions o.requests)));
}

read_done : (editions : List EditionValue) (turn : ℕ) (held : List ℕ) (rest b left a now new : Option (List ℕ)) (more : List ℕ) → Going editions turn rest b a now → length held ≤ most_held 0 → HeldBehind (1001 - turn) [] held b left → new ≡ append_known now more
    → IsReadFor true editions rest left a new
read_done editions turn held rest b left a now new more g few ahead grew = record {
  requests = g.done;
  ahead = ahead_done (AtMost (most_held 0)) editions turn held rest b left a now g few ahead;
  more = more;
  whole = grew_on a now new (replayed true editions g.done) more g.bytes grew;
}

-- one request wasn't served
pub read_broken : (editions : List EditionValue) (turn m : ℕ) (rest b left a : Option (List ℕ)) (x y : State) → m ≤ most_behind None → ReadsAtMost (most_held m) b left
    → Going editions turn rest b a x.written → BrokenAtOne (1001 - turn) b x y → IsReadFor true editions rest left a y.written
read_broken editions turn m rest b left a x y few read g e =
    read_done editions turn read.bytes rest b left a x.written y.written e.broke_off.bytes.bytes g (omega (arith, few, read.within)) (held_read (most_held m) (1001 - turn) b left read) e.broke_off.bytes.grew

-- between two requests
pub read_going : (editions : List EditionValue) (turn : ℕ) (held : List ℕ) (rest left a now : Option (List ℕ)) → length held ≤ most_behind None → Going editions turn rest (prepend_known held left) a now
    → IsReadFor true editions rest left a now
read_going editions turn held rest left a now few g =
    read_done editions turn held rest (prepend_known held left) left a now now [] g (omega (arith, few)) (held_none (1001 - turn) held left) (append_nothing now)

-- a read failed
pub read_waits : (editions : List EditionValue) (turn m : ℕ) (held held' : List ℕ) (rest left left' a now new : Option (List ℕ)) (flushed : Option ℕ) → m ≤ most_behind None → length held' ≤ most_held m
    → HasNoHead held' → prepend_known held' left' ≡ prepend_known held left → new ≡ now → (new ≡ a) ⊎ IsFlushed new flushed → Going editions turn rest (prepend_known held left) a now
    → Waits true editions rest left' a new flushed
read_waits editions turn m held held' rest left left' a now new flushed few more none again same settled g =
    let b = prepend_known held left in
    let P : List ℕ → Type 0 = λ bytes. AtMost (most_held 0) bytes × HasNoHead bytes in
    let within : length held' ≤ most_held 0 = omega (arith, few, more) in
    record {
      requests = g.done;
      begun = begun_done editions turn rest b a now g;
      open_ = ap session_end (sym (append-nil g.done)) ∙ g.ends [];
      ahead = ahead_done P editions turn held' rest b left' a now g (within, none) (subst (λ (w : Option (List ℕ)). HeldBehind (1001 - turn) [] held' w left') again (held_none (1001 - turn) held' left'));
      whole = same ∙ g.bytes;
      settled = settled;
    }

-- ---- what is left of the source

pub behind_begins : (rest behind : Option (List ℕ)) → behind ≡ prepend_known [] rest → IsBehind rest behind
behind_begins rest behind e = ([], prepend_nothing rest ∙ (sym e ∙ prepend_nothing behind))

pub behind_on : (a b c : Option (List ℕ)) → IsBehind a b → IsBehind b c → IsBehind a c
behind_on a b c x y = (x.0 ++ y.0, took_on a b c x.0 y.0 x.1 y.1)

pub left_now : (a left : Option (List ℕ)) (held : List ℕ) → IsBehind a (prepend_known held left) → IsBehind a left
left_now a left held x = behind_on a (prepend_known held left) left x (held, refl)

pub left_behind : (a b left : Option (List ℕ)) (held : List ℕ) → IsBehind a b → IsBehind b (prepend_known held left) → IsBehind a left
left_behind a b left held x y = left_now a left held (behind_on a b (prepend_known held left) x y)

none_held : (held : List ℕ) (left : Option (List ℕ)) (b : List ℕ) → Told (λ x y. (x ≡ []) × (y ≡ [])) (Some b) (prepend_known held left) → Told (λ x y. y ≡ []) (Some b) left
none_held held None b t = t
none_held [] (Some left) b t = t.1
none_held (h ∷ held) (Some left) b t = absurd (cc t.1)

told_left : (rest b left : Option (List ℕ)) (held : List ℕ) → IsBehind rest b → Told (λ x y. (x ≡ []) × (y ≡ [])) b (prepend_known held left) → Told (λ x y. y ≡ []) rest left
told_left None b left held x t = tt
told_left (Some rest) None left held x t = absurd (cc x.1)
told_left (Some rest) (Some b) None held x t = t
told_left (Some rest) (Some b) (Some left) held x t = none_held held (Some left) b t

pub ended_left : (n : ℕ) (rest b left : Option (List ℕ)) (held : List ℕ) (y z : State) (one : OneReport) (end : End)
    → IsBehind rest b → Served n b (prepend_known held left) y z one → one.end ≡ Some end → end ≡ EndOfInput → Told (λ x y. y ≡ []) rest left
ended_left n rest b left held y z one end x (inl e) ends last = told_left rest b left held x e.at_end
ended_left n rest b left held y z one end x (inr e) ends last = absurd (e.ends (ends ∙ ap Some last))
