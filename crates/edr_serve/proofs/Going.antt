-- The steps of a session.
use Rattle.std.proofs.Common.{◌≡◌, ◌≢◌, inl, inr, ℕ, ◌+◌, ◌-◌, ◌≤◌, max, Bool, true, false, length, length-append, List, [], ◌∷◌, ◌++◌, map, sym, ap, subst, ◌∙◌, refl, Some, None, append-nil, arith}
use Rattle.std.specs.declared.option.Option.{Option}
use Rattle.std.specs.Prelude.{is_some, unwrap_or, option_to_list, IfSome}
use Rattle.std.specs.Io.KnownBytes.{append_known, prepend_known}
use Rattle.std.proofs.lemmas.List.{map-append}
use mathlib.Core.List.{append_assoc}
use Rattle.edr_base.specs.Calls.{ReadsAtMost}
use Rattle.edr_base.specs.KnownBytes.{append_nothing, prepend_nothing, grew_on, took_on, front_none}
use Rattle.edr_edition.specs.Values.{EditionValue}
use Rattle.edr_http.specs.Heads.{Told, HasNoHead, IsBehind, most_held}
use Rattle.edr_serve.specs.declared.ends.End.{End}
use Rattle.edr_serve.specs.declared.ends.End.TheVariants.{EndOfInput}
use Rattle.edr_serve.specs.declared.reports.OneReport.{OneReport}
use Rattle.edr_serve.specs.declared.reports.SessionReport.{SessionReport}
use Rattle.edr_serve.specs.Requests.{Request, IsFirstRequest, Requests, Begun, session_end}
use Rattle.edr_serve.specs.Replies.{readers, number_of, output, opened}
use Rattle.edr_serve.specs.Sessions.{State, state, last_number, Answered, BrokeOff, Session, Broken, Waits, BrokenAtOne, AtMost, most_behind, ReadsAhead, chunks_in, Exchanged, Served}
use Rattle.edr_serve.specs.AheadLaws.{HeldBehind, held_on, held_none, held_read, held_end, ahead_of, held_behind}
use Rattle.edr_serve.proofs.ReplyLaws.{output_on, opened_on, readers_on}
use Rattle.edr_serve.proofs.Shelves.{seen_same, uses_on, taken_same, taken_on, never_on}
use Rattle.edr_serve.proofs.OneRequest.{begun_none}

-- ---- answering some requests, and then others

full_on : (rs ss : List Request) (es fs : List EditionValue) → length es ≡ readers rs → length fs ≡ readers ss → length (es ++ fs) ≡ readers (rs ++ ss)
full_on rs ss es fs p q = omega (arith, length-append es fs, readers_on rs ss, p, q)

numbers_on : (ns ms : List ℕ) (es fs : List EditionValue) → ns ≡ map number_of es → ms ≡ map number_of fs → ns ++ ms ≡ map number_of (es ++ fs)
numbers_on ns ms es fs p q = ap (λ w. w ++ ms) p ∙ ap (λ w. map number_of es ++ w) q ∙ sym (map-append number_of es fs)

answered_on : (rs ss : List Request) (a b c : State) (es fs : List EditionValue) (ns ms : List ℕ) (cs ds : List (List ℕ))
    → Answered rs a b es ns cs → Answered ss b c fs ms ds → Answered (rs ++ ss) a c (es ++ fs) (ns ++ ms) (cs ++ ds)
answered_on rs ss a b c es fs ns ms cs ds x y = record {
  full = full_on rs ss es fs x.full y.full;
  bytes = subst (λ (z : List ℕ). c.written ≡ append_known a.written z) (sym (output_on rs ss es fs x.full)) (grew_on a.written b.written c.written (output rs es) (output ss fs) x.bytes y.bytes);
  chunks_are = ap (λ w. w ++ ds) x.chunks_are ∙ ap (λ w. opened rs es ++ w) y.chunks_are ∙ sym (opened_on rs ss es fs x.full);
  numbers_are = numbers_on ns ms es fs x.numbers_are y.numbers_are;
  uses = uses_on a.seen es fs b.seen c.seen x.uses y.uses;
  order = never_on (last_number a.seen) (last_number b.seen) (last_number c.seen) ns ms x.order y.order;
  taken = taken_on a.taken b.taken c.taken ns ms x.taken y.taken;
}

-- the same with the numbers and the chunks that it tells
answered_as : (rs : List Request) (a b : State) (es : List EditionValue) (ns : List ℕ) (cs : List (List ℕ)) → Answered rs a b es ns cs → Answered rs a b es (map number_of es) (opened rs es)
answered_as rs a b es ns cs x =
    subst (λ (ms : List ℕ). Answered rs a b es ms (opened rs es)) x.numbers_are (subst (λ (ds : List (List ℕ)). Answered rs a b es ns ds) x.chunks_are x)

answered_none : (a : State) → Answered [] a a [] [] []
answered_none a = record {
  full = refl;
  bytes = append_nothing a.written;
  chunks_are = refl;
  numbers_are = refl;
  uses = seen_same a.seen;
  order = omega arith;
  taken = taken_same a.taken;
}

broke_none : (a : State) → BrokeOff [] a a
broke_none a = record {
  editions = [];
  few = omega arith;
  bytes = front_none a.written a.written [] refl;
  uses = seen_same a.seen;
  order = omega arith;
  taken = taken_same a.taken;
}

-- ---- the first request of the rest, and those behind it

both : (b : Bool) → b ≡ true → b ≡ false → ⊥
both b t f = cc

goes_on : (n : ℕ) (b c : Option (List ℕ)) (r : Request) (rs : List Request) → Told (λ x y. IsFirstRequest n x r y) b c → r.end ≡ None → IfSome c (λ x. Requests (n - 1) x rs) → IfSome b (λ x. Requests n x (r ∷ rs))
goes_on n None c r rs x e y = tt
goes_on n (Some b) None r rs x e y = absurd x
goes_on n (Some b) (Some c) r rs x e y = (c, x, (λ t. absurd (both (is_some r.end) t (ap is_some e))), λ _. y)

begins_on : (n : ℕ) (b c : Option (List ℕ)) (r : Request) (rs : List Request) → Told (λ x y. IsFirstRequest n x r y) b c → r.end ≡ None → IfSome c (λ x. Begun (n - 1) x rs) → IfSome b (λ x. Begun n x (r ∷ rs))
begins_on n None c r rs x e y = tt
begins_on n (Some b) None r rs x e y = absurd x
begins_on n (Some b) (Some c) r rs x e y = (c, x, (λ t. absurd (both (is_some r.end) t (ap is_some e))), λ _. y)

closes_with : (n : ℕ) (b c : Option (List ℕ)) (r : Request) (end : End) → Told (λ x y. IsFirstRequest n x r y) b c → r.end ≡ Some end → IfSome b (λ x. Requests n x (r ∷ []))
closes_with n None c r end x e = tt
closes_with n (Some b) None r end x e = absurd x
closes_with n (Some b) (Some c) r end x e = (c, x, (λ _. refl), λ f. absurd (both (is_some r.end) (ap is_some e) f))

begun_one : (n : ℕ) (r : Request) (b c : Option (List ℕ)) → Told (λ x y. IsFirstRequest n x r y) b c → IfSome b (λ x. Begun n x (r ∷ []))
begun_one n r None c t = tt
begun_one n r (Some b) None t = absurd t
begun_one n r (Some b) (Some c) t = (c, t, (λ _. refl), λ _. tt)

at_end : (n : ℕ) (b c : Option (List ℕ)) → Told (λ x y. (x ≡ []) × (y ≡ [])) b c → IfSome b (λ x. Requests n x [])
at_end n None c t = tt
at_end n (Some b) None t = absurd t
at_end n (Some b) (Some c) t = t.0

-- ---- in the midst of a session

-- some requests were answered, and what is known of the rest is known of all
pub record Going (most turns : ℕ) (rest behind : Option (List ℕ)) (before now : State) (numbers : List ℕ) (chunks : List (List ℕ)) : Type 0 where
  pub done : List Request
  pub editions : List EditionValue
  pub goes : (rs : List Request) → IfSome behind (λ bytes. Requests turns bytes rs) → IfSome rest (λ bytes. Requests most bytes (done ++ rs))
  pub begins : (rs : List Request) → IfSome behind (λ bytes. Begun turns bytes rs) → IfSome rest (λ bytes. Begun most bytes (done ++ rs))
  pub ahead : (rs : List Request) (held : List ℕ) (left : Option (List ℕ)) → HeldBehind turns rs held behind left → HeldBehind most (done ++ rs) held rest left
  pub ends : (rs : List Request) → session_end (done ++ rs) ≡ session_end rs
  pub count : turns + length done ≡ most
  pub answered : Answered done before now editions numbers chunks

pub going_start : (most : ℕ) (rest : Option (List ℕ)) (a : State) → Going most most rest rest a a [] []
going_start most rest a = record {
  done = [];
  editions = [];
  goes = λ rs k. k;
  begins = λ rs k. k;
  ahead = λ rs held left t. t;
  ends = λ rs. refl;
  count = omega arith;
  answered = answered_none a;
}

snoc : (done : List Request) (r : Request) (rs : List Request) → (done ++ r ∷ []) ++ rs ≡ done ++ r ∷ rs
snoc done r rs = append_assoc done (r ∷ []) rs

going_more : (most n : ℕ) (rest b c : Option (List ℕ)) (x y z : State) (ns : List ℕ) (cs : List (List ℕ)) (report : OneReport)
    → 1 ≤ n → Going most n rest b x y ns cs → Exchanged n b c y z report → report.end ≡ None
    → Going most (n - 1) rest c x z (ns ++ option_to_list report.edition) (cs ++ chunks_in report)
going_more most n rest b c x y z ns cs report some g e none =
    let r = e.request in
    let still : r.end ≡ None = sym e.replied.end ∙ none in
    record {
      done = g.done ++ r ∷ [];
      editions = g.editions ++ e.replied.editions;
      goes = λ rs k. subst (λ (z : List Request). IfSome rest (λ bytes. Requests most bytes z)) (sym (snoc g.done r rs)) (g.goes (r ∷ rs) (goes_on n b c r rs e.first still k));
      begins = λ rs k. subst (λ (z : List Request). IfSome rest (λ bytes. Begun most bytes z)) (sym (snoc g.done r rs)) (g.begins (r ∷ rs) (begins_on n b c r rs e.first still k));
      ahead = λ rs held left t. subst (λ (z : List Request). HeldBehind most z held rest left) (sym (snoc g.done r rs)) (g.ahead (r ∷ rs) held left (held_on n b c left r rs held e.first t));
      ends = λ rs. ap session_end (snoc g.done r rs) ∙ (g.ends (r ∷ rs) ∙ ap (λ (o : Option End). unwrap_or o (session_end rs)) still);
      count = omega (arith, g.count, length-append g.done (r ∷ []), some);
      answered = answered_on g.done (r ∷ []) x y z g.editions e.replied.editions ns (option_to_list report.edition) cs (chunks_in report) g.answered e.replied.answered;
    }

-- a session that a request ended
going_last : (most n : ℕ) (held : List ℕ) (rest b c left : Option (List ℕ)) (x y z : State) (ns : List ℕ) (cs : List (List ℕ)) (one : OneReport) (end : End) (report : SessionReport)
    → Going most n rest b x y ns cs → Exchanged n b c y z one → HeldBehind (n - 1) [] held c left → length held ≤ most_behind (Some report.end) → one.end ≡ Some end
    → report.requests + n ≡ most + 1 → report.editions ≡ ns ++ option_to_list one.edition → report.reads ≡ cs ++ chunks_in one → report.end ≡ end
    → Session most rest left x z report
going_last most n held rest b c left x y z ns cs one end report g e ahead few ends count numbers chunks end_is =
    let r = e.request in
    let closed : r.end ≡ Some end = sym e.replied.end ∙ ends in
    let all = answered_on g.done (r ∷ []) x y z g.editions e.replied.editions ns (option_to_list one.edition) cs (chunks_in one) g.answered e.replied.answered in
    record {
      requests = g.done ++ r ∷ [];
      editions = g.editions ++ e.replied.editions;
      all = g.goes (r ∷ []) (closes_with n b c r end e.first closed);
      ahead = ahead_of (AtMost (most_behind (Some report.end))) most (g.done ++ r ∷ []) held rest left few (g.ahead (r ∷ []) held left (held_on n b c left r [] held e.first ahead));
      answered = subst (λ (ds : List (List ℕ)). Answered (g.done ++ r ∷ []) x z (g.editions ++ e.replied.editions) report.editions ds) (sym chunks)
          (subst (λ (ms : List ℕ). Answered (g.done ++ r ∷ []) x z (g.editions ++ e.replied.editions) ms (cs ++ chunks_in one)) (sym numbers) all);
      count = omega (arith, count, g.count, length-append g.done (r ∷ []));
      end = end_is ∙ sym (g.ends (r ∷ []) ∙ ap (λ (o : Option End). unwrap_or o EndOfInput) closed);
    }

-- behind those that were answered
ahead_done : (IsSo : List ℕ → Type 0) (most n : ℕ) (held : List ℕ) (rest b left : Option (List ℕ)) (x y : State) (ns : List ℕ) (cs : List (List ℕ)) (g : Going most n rest b x y ns cs) → IsSo held → HeldBehind n [] held b left
    → Told (λ bytes others. ReadsAhead IsSo most g.done bytes others) rest left
ahead_done IsSo most n held rest b left x y ns cs g is ahead =
    ahead_of IsSo most g.done held rest left is (subst (λ (z : List Request). HeldBehind most z held rest left) (append-nil g.done) (g.ahead [] held left ahead))

begun_done : (most n : ℕ) (rest b : Option (List ℕ)) (x y : State) (ns : List ℕ) (cs : List (List ℕ)) (g : Going most n rest b x y ns cs) → IfSome rest (λ bytes. Begun most bytes g.done)
begun_done most n rest b x y ns cs g = subst (λ (z : List Request). IfSome rest (λ bytes. Begun most bytes z)) (append-nil g.done) (g.begins [] (begun_none n b))

-- a session whose rest is empty
going_stop : (most n : ℕ) (rest b c left : Option (List ℕ)) (x y : State) (ns : List ℕ) (cs : List (List ℕ)) (report : SessionReport)
    → Going most n rest b x y ns cs → Told (λ u v. (u ≡ []) × (v ≡ [])) b c → HeldBehind n [] [] b left → report.requests + n ≡ most → report.editions ≡ ns → report.reads ≡ cs → report.end ≡ EndOfInput → Session most rest left x y report
going_stop most n rest b c left x y ns cs report g e ahead count numbers chunks end_is = record {
  requests = g.done;
  editions = g.editions;
  all = subst (λ (z : List Request). IfSome rest (λ bytes. Requests most bytes z)) (append-nil g.done) (g.goes [] (at_end n b c e));
  ahead = subst (λ (end : End). Told (λ bytes others. ReadsAhead (AtMost (most_behind (Some end))) most g.done bytes others) rest left) (sym end_is)
      (ahead_done (AtMost 0) most n [] rest b left x y ns cs g (omega arith) ahead);
  answered = subst (λ (ds : List (List ℕ)). Answered g.done x y g.editions report.editions ds) (sym chunks) (subst (λ (ms : List ℕ). Answered g.done x y g.editions ms cs) (sym numbers) g.answered);
  count = omega (arith, count, g.count);
  end = end_is ∙ sym (ap session_end (sym (append-nil g.done)) ∙ g.ends []);
}

-- ---- the steps of the loop

-- one request wasn't served
pub fault_broken : (most n m : ℕ) (rest b left : Option (List ℕ)) (x y z : State) (ns : List ℕ) (cs : List (List ℕ)) → m ≤ most_behind None → ReadsAtMost (most_held m) b left
    → Going most n rest b x y ns cs → BrokenAtOne n b y z → Broken most rest left x z
fault_broken most n m rest b left x y z ns cs few read g e = record {
  requests = g.done;
  last = e.requests;
  one = e.one;
  begun = g.begins e.requests e.begun;
  ahead = ahead_done (AtMost (most_held 0)) most n read.bytes rest b left x y ns cs g (omega (arith, few, read.within)) (held_read (most_held m) n b left read);
  editions = g.editions;
  between = y;
  answered = answered_as g.done x y g.editions ns cs g.answered;
  broke_off = e.broke_off;
}

-- nothing was begun behind those that were answered
done_broken : (most n : ℕ) (held : List ℕ) (rest b left : Option (List ℕ)) (x y : State) (ns : List ℕ) (cs : List (List ℕ)) → length held ≤ most_held 0 → HeldBehind n [] held b left → Going most n rest b x y ns cs → Broken most rest left x y
done_broken most n held rest b left x y ns cs few ahead g = record {
  requests = g.done;
  last = [];
  one = omega arith;
  begun = g.begins [] (begun_none n b);
  ahead = ahead_done (AtMost (most_held 0)) most n held rest b left x y ns cs g few ahead;
  editions = g.editions;
  between = y;
  answered = answered_as g.done x y g.editions ns cs g.answered;
  broke_off = broke_none y;
}

-- where the sink and the shelf are as they were, so is what answering changes
pub state_same : {K E : Type 0} (written : K → Option (List ℕ)) (seen : E → List EditionValue) (taken : E → Option (List ℕ)) (k l : K) (e f : E) → k ≡ l → e ≡ f → state (written k) (seen e) (taken e) ≡ state (written l) (seen f) (taken f)
state_same written seen taken k l e f p q = ap (λ x. state (written x) (seen e) (taken e)) p ∙ ap (λ y. state (written l) (seen y) (taken y)) q

-- a read failed
pub read_waits : (most n m : ℕ) (held held' : List ℕ) (rest left left' : Option (List ℕ)) (x y z : State) (ns : List ℕ) (cs : List (List ℕ)) → m ≤ most_behind None → length held' ≤ most_held m → HasNoHead held'
    → prepend_known held' left' ≡ prepend_known held left → z ≡ y → Going most n rest (prepend_known held left) x y ns cs → Waits most rest left' x z
read_waits most n m held held' rest left left' x y z ns cs few more none again same g =
    let b = prepend_known held left in
    let P : List ℕ → Type 0 = λ bytes. AtMost (most_held 0) bytes × HasNoHead bytes in
    let within : length held' ≤ most_held 0 = omega (arith, few, more) in
    record {
      requests = g.done;
      begun = begun_done most n rest b x y ns cs g;
      open_ = ap session_end (sym (append-nil g.done)) ∙ g.ends [];
      ahead = ahead_done P most n held' rest b left' x y ns cs g (within, none) (subst (λ (w : Option (List ℕ)). HeldBehind n [] held' w left') again (held_none n held' left'));
      editions = g.editions;
      answered = subst (λ (w : State). Answered g.done x w g.editions (map number_of g.editions) (opened g.done g.editions)) (sym same) (answered_as g.done x y g.editions ns cs g.answered);
    }

-- a request was served, but what is reported of it couldn't be kept
pub kept_broken : (most n m : ℕ) (held : List ℕ) (rest b left : Option (List ℕ)) (x y z : State) (ns : List ℕ) (cs : List (List ℕ)) (report : OneReport)
    → m ≤ most_behind None → length held ≤ most_held m → ReadsAtMost (most_held m) b left
    → Going most n rest b x y ns cs → Served n b (prepend_known held left) y z report → Broken most rest left x z
unfolding done_broken
kept_broken most n m held rest b left x y z ns cs report few more read g (inl e) =
    subst (λ (w : State). Broken most rest left x w) (sym e.same) (done_broken most n read.bytes rest b left x y ns cs (omega (arith, few, read.within)) (held_read (most_held m) n b left read) g)
kept_broken most n m held rest b left x y z ns cs report few more read g (inr e) =
    let r = e.request in
    let within : length held ≤ most_held 0 = omega (arith, few, more) in
    let all = answered_on g.done (r ∷ []) x y z g.editions e.replied.editions ns (option_to_list report.edition) cs (chunks_in report) g.answered e.replied.answered in
    record {
      requests = g.done ++ r ∷ [];
      last = [];
      one = omega arith;
      begun = subst (λ (w : List Request). IfSome rest (λ bytes. Begun most bytes w)) (sym (append-nil (g.done ++ r ∷ [])))
          (g.begins (r ∷ []) (begun_one n r b (prepend_known held left) e.first));
      ahead = ahead_of (AtMost (most_held 0)) most (g.done ++ r ∷ []) held rest left within
          (g.ahead (r ∷ []) held left (held_on n b (prepend_known held left) left r [] held e.first (held_none (n - 1) held left)));
      editions = g.editions ++ e.replied.editions;
      between = z;
      answered = answered_as (g.done ++ r ∷ []) x z (g.editions ++ e.replied.editions) (ns ++ option_to_list report.edition) (cs ++ chunks_in report) all;
      broke_off = broke_none z;
    }

-- more requests than the limit
pub limit_broken : (most n : ℕ) (held : List ℕ) (rest left : Option (List ℕ)) (x y : State) (ns : List ℕ) (cs : List (List ℕ)) → length held ≤ most_behind None → Going most n rest (prepend_known held left) x y ns cs
    → Broken most rest left x y
limit_broken most n held rest left x y ns cs few g =
    done_broken most n held rest (prepend_known held left) left x y ns cs (omega (arith, few)) (held_none n held left) g

-- the session goes on
pub session_goes : (most n m : ℕ) (rest b c : Option (List ℕ)) (x y z : State) (ns ms : List ℕ) (cs ds : List (List ℕ)) (report : OneReport)
    → report.end ≡ None → 1 ≤ n → m ≡ n - 1 → ms ≡ ns ++ option_to_list report.edition → ds ≡ cs ++ chunks_in report
    → Going most n rest b x y ns cs → Served n b c y z report → Going most m rest c x z ms ds
session_goes most n m rest b c x y z ns ms cs ds report none some fewer numbers chunks g (inl e) = absurd (cc (none, ap (λ (o : OneReport). o.end) e.report_is))
session_goes most n m rest b c x y z ns ms cs ds report none some fewer numbers chunks g (inr e) =
    subst (λ (k : ℕ). Going most k rest c x z ms ds) (sym fewer)
    (subst (λ (w : List (List ℕ)). Going most (n - 1) rest c x z ms w) (sym chunks)
    (subst (λ (w : List ℕ). Going most (n - 1) rest c x z w (cs ++ chunks_in report)) (sym numbers) (going_more most n rest b c x y z ns cs report some g e none)))

-- it is over
pub session_ends : (most n before m : ℕ) (held : List ℕ) (rest b left : Option (List ℕ)) (x y z : State) (ns : List ℕ) (cs : List (List ℕ)) (one : OneReport) (end : End) (report : SessionReport)
    → one.end ≡ Some end → before + n ≡ most → (end ≡ EndOfInput → report.requests ≡ before) → (end ≢ EndOfInput → report.requests ≡ before + 1)
    → report.editions ≡ ns ++ option_to_list one.edition → report.reads ≡ cs ++ chunks_in one → report.end ≡ end
    → m ≤ most_behind None → length held ≤ max m (most_behind one.end)
    → Going most n rest b x y ns cs → Served n b (prepend_known held left) y z one → Session most rest left x z report
session_ends most n before m held rest b left x y z ns cs one end report ends sum at_end closed numbers chunks end_is few more g (inl e) =
    let told : Some EndOfInput ≡ Some end = sym (ap (λ (o : OneReport). o.end) e.report_is) ∙ ends in
    let last : end ≡ EndOfInput = cc in
    let count : report.requests ≡ before = at_end last in
    let edition : one.edition ≡ None = ap (λ (o : OneReport). o.edition) e.report_is in
    let none : option_to_list one.edition ≡ [] = ap option_to_list edition in
    let unread : chunks_in one ≡ [] = ap (λ (o : OneReport). chunks_in o) e.report_is in
    subst (λ (w : State). Session most rest left x w report) (sym e.same)
    (going_stop most n rest b (prepend_known held left) left x y ns cs report g e.at_end (held_end n held b left e.at_end) (omega (arith, count, sum)) (numbers ∙ ap (λ w. ns ++ w) none ∙ append-nil ns) (chunks ∙ ap (λ w. cs ++ w) unread ∙ append-nil cs) (end_is ∙ last))
session_ends most n before m held rest b left x y z ns cs one end report ends sum at_end closed numbers chunks end_is few more g (inr e) =
    let other : end ≢ EndOfInput = λ same. e.ends (ends ∙ ap Some same) in
    let count : report.requests ≡ before + 1 = closed other in
    let within : length held ≤ most_behind (Some report.end) = subst (λ (o : End). length held ≤ most_behind (Some o)) (sym end_is) (held_behind m held one.end end e.ends ends few more) in
    going_last most n held rest b (prepend_known held left) left x y z ns cs one end report g e (held_none (n - 1) held left) within ends (omega (arith, count, sum)) numbers chunks end_is

-- ---- what is left of the source

pub going_begins : (most : ℕ) (rest behind : Option (List ℕ)) (a : State) → behind ≡ prepend_known [] rest → Going most most rest behind a a [] []
going_begins most rest behind a e = subst (λ (z : Option (List ℕ)). Going most most rest z a a [] []) (prepend_nothing rest ∙ sym e) (going_start most rest a)

pub behind_begins : (rest behind : Option (List ℕ)) → behind ≡ prepend_known [] rest → IsBehind rest behind
behind_begins rest behind e = ([], prepend_nothing rest ∙ (sym e ∙ prepend_nothing behind))

pub behind_on : (a b c : Option (List ℕ)) → IsBehind a b → IsBehind b c → IsBehind a c
behind_on a b c x y = (x.0 ++ y.0, took_on a b c x.0 y.0 x.1 y.1)

pub left_behind : (a b left : Option (List ℕ)) (held : List ℕ) → IsBehind a b → IsBehind b (prepend_known held left) → IsBehind a left
left_behind a b left held x y = behind_on a (prepend_known held left) left (behind_on a b (prepend_known held left) x y) (held, refl)

none_left : (held : List ℕ) (left : Option (List ℕ)) (b : List ℕ) → Told (λ x y. (x ≡ []) × (y ≡ [])) (Some b) (prepend_known held left) → Told (λ x y. y ≡ []) (Some b) left
none_left held None b t = t
none_left [] (Some left) b t = t.1
none_left (h ∷ held) (Some left) b t = absurd (cc t.1)

told_left : (rest b left : Option (List ℕ)) (held : List ℕ) → IsBehind rest b → Told (λ x y. (x ≡ []) × (y ≡ [])) b (prepend_known held left) → Told (λ x y. y ≡ []) rest left
told_left None b left held x t = tt
told_left (Some rest) None left held x t = absurd (cc x.1)
told_left (Some rest) (Some b) None held x t = t
told_left (Some rest) (Some b) (Some left) held x t = none_left held (Some left) b t

pub ended_left : (n : ℕ) (rest b left : Option (List ℕ)) (held : List ℕ) (y z : State) (one : OneReport) (end : End)
    → IsBehind rest b → Served n b (prepend_known held left) y z one → one.end ≡ Some end → end ≡ EndOfInput → Told (λ x y. y ≡ []) rest left
ended_left n rest b left held y z one end x (inl e) ends last = told_left rest b left held x e.at_end
ended_left n rest b left held y z one end x (inr e) ends last = absurd (e.ends (ends ∙ ap Some last))

pub left_now : (a left : Option (List ℕ)) (held : List ℕ) → IsBehind a (prepend_known held left) → IsBehind a left
left_now a left held x = behind_on a (prepend_known held left) left x (held, refl)
