-- Axes by their first value, their last, and how many there are: the answer is the regular list exactly where the tree spans it.
use Rattle.std.specs.Prelude.{int_le, option_and_then}
use Rattle.std.proofs.Common.{◌≡◌, ◌-◌, unsigned_abs, ℕ, ◌<◌, ◌≤◌, ℤ, pos, negsuc, List, length, All, true, Option, Some, None, Ok, codes, refl, ap, subst, arith}
use Rattle.std.proofs.lemmas.Bool.{and_from, le-leb}
use Rattle.std.proofs.lemmas.Int.{ints}
use Rattle.std.proofs.lemmas.List.Elements.{All-get_or}
use Rattle.serde_json.specs.Data.{Data, Num}
use Rattle.serde_json.specs.Find.{get, as_number, as_integer}
use Rattle.edr_base.specs.Limits.{coordinate_limit, node_limit, IsCoordinate}
use Rattle.covjson_checks.specs.declared.faults.Member.{Member}
use Rattle.covjson_checks.specs.declared.faults.CovFault.TheVariants.{NotWhole, OutOfRange}
use Rattle.covjson_checks.specs.Answers.{Answer}
use Rattle.edr_base.specs.FirstThatApplies.{check}
use Rattle.covjson_checks.specs.Members.{part, held_whole, is_within}
use Rattle.edr_json.specs.Trees.{whole_of}
use Rattle.covjson_domains.specs.Axes.{HasWhole, IsRegular, SpansValues}
use Rattle.covjson_domains.specs.AxisAnswers.{number_in, has_whole_steps, regular, is_span_within, spanned}
use Rattle.edr_json.specs.AnswerLaws.{and_then_ok, or_fault_ok, check_ok}
use Rattle.edr_json.specs.AnswerLaws.{and_then_given, or_fault_given, check_given}
use Rattle.edr_json.specs.TreeLaws.{whole_is_number}
use Rattle.covjson_domains.proofs.SpanLemmas.{span_tells}
use Rattle.covjson_domains.proofs.AxisRegular.{regular_stands, regular_within, regular_is}

-- ---- the members of a span

-- a number that is held whole
whole_in : (m : Member) (key : List ℕ) (axis : Data) (n : Num) (v : ℤ) → number_in key m axis ≡ Ok n → held_whole m n ≡ Ok v → HasWhole key axis v
whole_in m key axis n v h whole =
    let a = and_then_ok (part key m axis) _ n h in
    let found = or_fault_ok (get key axis) _ a.0 a.1 in
    let held = or_fault_ok (as_number a.0) _ n a.2 in
    rw (found, held) (or_fault_ok (as_integer n) _ v whole)

-- where a whole number is found, something is
found_whole : (o : Option Data) (v : ℤ) → option_and_then whole_of o ≡ Some v → (d : Data) × (o ≡ Some d) × (whole_of d ≡ Some v)
found_whole None v h = cc
found_whole (Some d) v h = (d, refl, h)

-- and a whole number that is there is taken
whole_given : (m : Member) (key : List ℕ) (axis : Data) (v : ℤ) → HasWhole key axis v → (n : Num) × (number_in key m axis ≡ Ok n) × (held_whole m n ≡ Ok v)
whole_given m key axis v h =
    let a = found_whole (get key axis) v h in
    let n = whole_is_number a.0 v a.2 in (
      n.0,
      and_then_given (part key m axis) _ a.0 _ (or_fault_given (get key axis) _ a.0 a.1) (or_fault_given (as_number a.0) _ n.0 n.1),
      or_fault_given (as_integer n.0) (NotWhole m) v n.2,
    )

-- ---- spans

-- the bounds of a span
span_within : (first last : ℤ) (count : ℕ) → is_span_within first last (pos count) ≡ true → IsCoordinate first × IsCoordinate last × (0 < count) × (count ≤ node_limit)
span_within first last count h =
    let bounds = span_tells first last (pos count) h in
    (bounds.first_in, bounds.last_in, omega (arith, ints, bounds.some), omega (arith, ints, bounds.few))

-- and bounds within their limits pass
within_span : (first last : ℤ) (count : ℕ) → IsCoordinate first → IsCoordinate last → 0 < count → count ≤ node_limit → is_span_within first last (pos count) ≡ true
within_span first last count a b some few =
    let first_in = le-leb (unsigned_abs first) coordinate_limit a in
    let last_in = le-leb (unsigned_abs last) coordinate_limit b in
    let ends = and_from (is_within coordinate_limit first) (is_within coordinate_limit last) first_in last_in in
    and_from _ (int_le (pos count) (pos node_limit)) (and_from _ (int_le (pos 1) (pos count)) ends (le-leb 1 count some)) (le-leb count node_limit few)

-- a span of a whole count within its limits
span_of : (axis : Data) (first last count : ℤ) (vs : List ℤ) → get (codes "values") axis ≡ None
    → HasWhole (codes "start") axis first → HasWhole (codes "stop") axis last → HasWhole (codes "num") axis count
    → has_whole_steps first last count ≡ true → is_span_within first last count ≡ true → regular first last (unsigned_abs count) ≡ vs
    → SpansValues axis vs × All IsCoordinate vs × (0 < length vs)
span_of axis first last (negsuc n) vs none start stop num even within is = absurd (grind (arith, ints))
span_of axis first last (pos n) vs none start stop num even within is =
    let bounds = span_within first last n within in
    let regular_here = regular_stands first last n bounds.2 even in
    let all_here = regular_within first last n bounds.2 even bounds.0 bounds.1 in (
      record {
        unlisted = none;
        first = first;
        last = last;
        count = n;
        start = start;
        stop = stop;
        num = num;
        few = bounds.3;
        regular = subst (λ (xs : List ℤ). IsRegular first last n xs) is regular_here;
      },
      subst (λ (xs : List ℤ). All IsCoordinate xs) is all_here,
      subst (λ (xs : List ℤ). 0 < length xs) is (omega (arith, regular_here.counted, bounds.2)),
    )

-- an answer that is a list
abbrev as_answer : List ℤ → Answer (List ℤ)
as_answer values = Ok values

-- and which list it is
ok_same : (v w : List ℤ) → as_answer v ≡ Ok w → v ≡ w
ok_same v w h = cc

-- the numbers of an answer are spanned, within their limit, and some
pub spanned_stand : (m : Member) (axis : Data) (vs : List ℤ) → get (codes "values") axis ≡ None → spanned m axis ≡ Ok vs → SpansValues axis vs × All IsCoordinate vs × (0 < length vs)
spanned_stand m axis vs none h =
    let start = and_then_ok (number_in (codes "start") m axis) _ vs h in
    let stop = and_then_ok (number_in (codes "stop") m axis) _ vs start.2 in
    let num = and_then_ok (number_in (codes "num") m axis) _ vs stop.2 in
    let first = and_then_ok (held_whole m start.0) _ vs num.2 in
    let last = and_then_ok (held_whole m stop.0) _ vs first.2 in
    let count = and_then_ok (held_whole m num.0) _ vs last.2 in
    let even = and_then_ok (check (has_whole_steps first.0 last.0 count.0) (NotWhole m)) _ vs count.2 in
    let within = and_then_ok (check (is_span_within first.0 last.0 count.0) (OutOfRange m)) _ vs even.2 in
    let is = ok_same (regular first.0 last.0 (unsigned_abs count.0)) vs within.2 in
    span_of axis first.0 last.0 count.0 vs none
    (whole_in m (codes "start") axis start.0 first.0 start.1 first.1)
    (whole_in m (codes "stop") axis stop.0 last.0 stop.1 last.1)
    (whole_in m (codes "num") axis num.0 count.0 num.1 count.1)
    (check_ok (has_whole_steps first.0 last.0 count.0) (NotWhole m) even.0 even.1)
    (check_ok (is_span_within first.0 last.0 count.0) (OutOfRange m) within.0 within.1)
    is

-- and spanned numbers within their limit are the answer
pub spanned_given : (m : Member) (axis : Data) (vs : List ℤ) → SpansValues axis vs → All IsCoordinate vs → 0 < length vs → spanned m axis ≡ Ok vs
spanned_given m axis vs s all some =
    let r = s.regular in
    let counted = r.counted in
    let positive : 0 < s.count = omega arith in
    let made = regular_is s.first s.last s.count vs positive r in
    let first_in : IsCoordinate s.first = subst (λ (v : ℤ). IsCoordinate v) r.starts (All-get_or IsCoordinate vs 0 (pos 0) some all) in
    let last_in : IsCoordinate s.last = subst (λ (v : ℤ). IsCoordinate v) r.ends (All-get_or IsCoordinate vs (s.count - 1) (pos 0) (omega arith) all) in
    let start = whole_given m (codes "start") axis s.first s.start in
    let stop = whole_given m (codes "stop") axis s.last s.stop in
    let num = whole_given m (codes "num") axis (pos s.count) s.num in
    and_then_given (number_in (codes "start") m axis) _ start.0 _ start.1
    (and_then_given (number_in (codes "stop") m axis) _ stop.0 _ stop.1
    (and_then_given (number_in (codes "num") m axis) _ num.0 _ num.1
    (and_then_given (held_whole m start.0) _ s.first _ start.2
    (and_then_given (held_whole m stop.0) _ s.last _ stop.2
    (and_then_given (held_whole m num.0) _ (pos s.count) _ num.2
    (and_then_given (check (has_whole_steps s.first s.last (pos s.count)) (NotWhole m)) _ tt _ (check_given (has_whole_steps s.first s.last (pos s.count)) _ made.0)
    (and_then_given (check (is_span_within s.first s.last (pos s.count)) (OutOfRange m)) _ tt _
    (check_given (is_span_within s.first s.last (pos s.count)) _ (within_span s.first s.last s.count first_in last_in positive s.few))
    (ap Ok made.1))))))))

-- a span has its first value
pub start_there : (axis : Data) (vs : List ℤ) → SpansValues axis vs → (d : Data) × (get (codes "start") axis ≡ Some d)
start_there axis vs s = let a = found_whole (get (codes "start") axis) s.first s.start in (a.0, a.1)
