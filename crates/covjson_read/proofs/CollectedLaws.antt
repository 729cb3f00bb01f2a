-- All ranges of a coverage: the answer is what stands, and the rows have it.
use Rattle.std.proofs.Common.{◌≡◌, ◌≢◌, ◌<◌, ℕ, true, List, [], ◌∷◌, length, All, Some, Ok, inl, codes, refl, sym, ap, ◌∙◌, subst, arith}
use Rattle.std.proofs.lemmas.List.Elements.{All-nil, All-cons, All-head, All-tail}
use Rattle.serde_json.specs.Data.{Data, object, Members, no_members, member}
use Rattle.serde_json.specs.Find.{get}
use Rattle.covjson_value.specs.declared.coverages.Parameter.{Parameter}
use Rattle.covjson_value.specs.declared.coverages.NdArray.{NdArray}
use Rattle.covjson_value.specs.Coverages.{ids_of}
use Rattle.covjson_checks.specs.declared.turned.ReadDomain.{ReadDomain}
use Rattle.covjson_checks.specs.declared.faults.Member.TheVariants.{Parameters, Ranges}
use Rattle.covjson_checks.specs.declared.faults.CovFault.TheVariants.{Missing, WrongType, WrongCount}
use Rattle.covjson_checks.specs.Members.{need, object_at}
use Rattle.edr_json.specs.Trees.{EachStands, names_of, values_of}
use Rattle.covjson_ranges.specs.Ranges.{StandsForRange}
use Rattle.covjson_ranges.specs.RangeRows.{RangeRows}
use Rattle.covjson_ranges.specs.RangeAnswers.{range_of}
use Rattle.covjson_ranges.specs.Laws.{RangeRowsHaveOneAnswer, RangeAnswersFollowRows, RangeRowsAreWhatStand}
use Rattle.covjson_read.specs.declared.collected.ReadRanges.{ReadRanges}
use Rattle.covjson_read.specs.Parameters.{StandsAmong}
use Rattle.covjson_read.specs.ParameterAnswers.{parameter_of}
use Rattle.covjson_read.specs.CollectedAnswers.{ranges_from, has_members, ranges_in}
use Rattle.covjson_read.specs.Standing.{StandsForRanges}
use Rattle.covjson_read.specs.Rows.{ParameterRows, EachRangeRows, RangesRows}
use Rattle.covjson_checks.specs.RowLaws.{HaveAnswer, find_answers, check_answers, then_answers, gives_answers, passed, passed_then}
use Rattle.covjson_read.proofs.RowAnswers.{one_is_answer, same_ok}
use Rattle.covjson_read.proofs.SystemLaws.{given_found}
use Rattle.covjson_read.proofs.ParameterLaws.{parameter_rows, parameter_tells, parameter_passes, object_found}

-- what is known of the answers to ranges
pub record RangesAnswered : Type 0 where
  pub one : RangeRowsHaveOneAnswer
  pub follow : RangeAnswersFollowRows

-- ---- the rows have the answer

each_rows : RangesAnswered → (read : ReadDomain) (parameters : Data) (ms : Members) → HaveAnswer (EachRangeRows read parameters ms) (ranges_from read parameters ms)
each_rows laws read parameters no_members = gives_answers (record { parameters = []; ranges = [] })
each_rows laws read parameters (member id d ms) =
    find_answers (λ found. get id parameters ≡ Some found) (Missing Parameters) _ (need id Parameters parameters) _ (given_found (Missing Parameters) (get id parameters)) (λ found at.
    then_answers (ParameterRows id found) _ (parameter_of id found) _ (parameter_rows id found) (λ parameter is.
    then_answers (RangeRows read d) _ (range_of read d) _ (one_is_answer (RangeRows read d) (range_of read d) (laws.follow read d) (laws.one read d)) (λ range stands.
    then_answers (EachRangeRows read parameters ms) _ (ranges_from read parameters ms) _ (each_rows laws read parameters ms) (λ others are.
    gives_answers (record { parameters = parameter ∷ others.parameters; ranges = range ∷ others.ranges })))))

some_tells : (ms : Members) → has_members ms ≡ true → ms ≢ no_members
some_tells no_members h = cc
some_tells (member id d ms) h = λ e. cc

some_passes : (ms : Members) → ms ≢ no_members → has_members ms ≡ true
some_passes no_members h = absurd (h refl)
some_passes (member id d ms) h = refl

pub ranges_rows : RangesAnswered → (read : ReadDomain) (parameters tree : Data) → HaveAnswer (RangesRows read parameters tree) (ranges_in read parameters tree)
ranges_rows laws read parameters tree =
    find_answers (λ d. get (codes "ranges") tree ≡ Some d) (Missing Ranges) _ (need (codes "ranges") Ranges tree) _ (given_found (Missing Ranges) (get (codes "ranges") tree)) (λ d at.
    find_answers (λ members. d ≡ object members) (WrongType Ranges) _ (object_at Ranges d) _ (object_found (WrongType Ranges) d) (λ members are.
    check_answers (members ≢ no_members) (WrongCount Ranges 1 0) _ (has_members members) _ (some_tells members, some_passes members) (λ some.
    each_rows laws read parameters members)))

-- ---- what passes the rows stands

-- each range stands for its values, and its parameter for that of its name
record EachRange (read : ReadDomain) (parameters : Data) (members : Members) (kept : List Parameter) (ranges : List NdArray) : Type 0 where
  ids : ids_of kept ≡ names_of members
  parameters_stand : All (StandsAmong parameters) kept
  ranges_stand : EachStands (StandsForRange read.domain read.turned) (values_of members) ranges

each_tells : RangeRowsAreWhatStand → (read : ReadDomain) (parameters : Data) (ms : Members) (r : ReadRanges) → EachRangeRows read parameters ms (Ok r)
    → EachRange read parameters ms r.parameters r.ranges
each_tells stand_for read parameters no_members r h =
    let made : ReadRanges = record { parameters = []; ranges = [] } in
    let same : made ≡ r = sym (same_ok r made h) in
    subst (λ (s : ReadRanges). EachRange read parameters no_members s.parameters s.ranges) same
    (record { ids = refl; parameters_stand = All-nil (StandsAmong parameters); ranges_stand = tt })
each_tells stand_for read parameters (member id d ms) r h =
    let f = passed h in
    let p = passed_then f.2 in
    let a = passed_then p.2 in
    let o = passed_then a.2 in
    let made : ReadRanges = record { parameters = p.0 ∷ o.0.parameters; ranges = a.0 ∷ o.0.ranges } in
    let same : made ≡ r = sym (same_ok r made o.2) in
    let rest = each_tells stand_for read parameters ms o.0 o.1 in
    let parameter = parameter_tells id f.0 p.0 p.1 in
    let among : StandsAmong parameters p.0 = record { d = f.0; named = ap (λ k. get k parameters) parameter.0 ∙ f.1; stands = parameter.1 } in
    subst (λ (s : ReadRanges). EachRange read parameters (member id d ms) s.parameters s.ranges) same
    (record {
      ids = ap (λ k. k ∷ ids_of o.0.parameters) parameter.0 ∙ ap (λ (ks : List (List ℕ)). id ∷ ks) rest.ids;
      parameters_stand = All-cons (StandsAmong parameters) p.0 o.0.parameters among rest.parameters_stand;
      ranges_stand = ((stand_for read d a.0).0 a.1, rest.ranges_stand);
    })

-- where there are members, there are ranges
some_stand : {V : Type 0} (R : Data → V → Type 0) (ms : Members) (values : List V) → ms ≢ no_members → EachStands R (values_of ms) values → 0 < length values
some_stand R no_members values some h = absurd (some refl)
some_stand R (member id d rest) [] some h = absurd h
some_stand R (member id d rest) (value ∷ values) some h = omega arith

-- the ranges of a tree
abbrev pub AreRangesOf : ReadDomain → Data → Data → ReadRanges → Type 0
AreRangesOf read parameters tree r = (ranges : Members) × (get (codes "ranges") tree ≡ Some (object ranges)) × StandsForRanges read.domain read.turned parameters ranges r.parameters r.ranges

pub ranges_tell : RangeRowsAreWhatStand → (read : ReadDomain) (parameters tree : Data) (r : ReadRanges) → RangesRows read parameters tree (Ok r) → AreRangesOf read parameters tree r
ranges_tell stand_for read parameters tree r h =
    let d = passed h in
    let m = passed d.2 in
    let s = passed m.2 in
    let e = each_tells stand_for read parameters m.0 r s.1 in (
      m.0,
      d.1 ∙ ap Some m.1,
      record {
        some = some_stand (StandsForRange read.domain read.turned) m.0 r.ranges s.0 e.ranges_stand;
        ids = e.ids;
        parameters_stand = e.parameters_stand;
        ranges_stand = e.ranges_stand;
      },
    )

-- ---- what stands passes the rows

each_passes : RangeRowsAreWhatStand → (read : ReadDomain) (parameters : Data) (ms : Members) (kept : List Parameter) (ranges : List NdArray) → ids_of kept ≡ names_of ms
    → All (StandsAmong parameters) kept → EachStands (StandsForRange read.domain read.turned) (values_of ms) ranges
    → EachRangeRows read parameters ms (Ok (record { parameters = kept; ranges = ranges }))
each_passes stand_for read parameters no_members [] [] ids among stand = refl
each_passes stand_for read parameters no_members [] (range ∷ ranges) ids among stand = absurd stand
each_passes stand_for read parameters no_members (p ∷ kept) ranges ids among stand = cc
each_passes stand_for read parameters (member id d ms) [] ranges ids among stand = cc
each_passes stand_for read parameters (member id d ms) (p ∷ kept) [] ids among stand = absurd stand
each_passes stand_for read parameters (member id d ms) (p ∷ kept) (range ∷ ranges) ids among stand =
    let named : p.id ≡ id = cc in
    let others : ids_of kept ≡ names_of ms = cc in
    let here = All-head (StandsAmong parameters) p kept among in
    inl (
      here.d,
      ap (λ k. get k parameters) (sym named) ∙ here.named,
      inl (
        p,
        parameter_passes id here.d p (named, here.stands),
        inl (
          range,
          (stand_for read d range).1 stand.0,
          inl (record { parameters = kept; ranges = ranges }, each_passes stand_for read parameters ms kept ranges others (All-tail (StandsAmong parameters) p kept among) stand.1, refl),
        ),
      ),
    )

-- ranges of which there are some stand in an object that isn't empty
some_members : {V : Type 0} (R : Data → V → Type 0) (ms : Members) (values : List V) → 0 < length values → EachStands R (values_of ms) values → ms ≢ no_members
some_members R no_members [] some h = absurd (omega arith)
some_members R no_members (value ∷ values) some h = absurd h
some_members R (member id d rest) values some h = λ e. cc

pub ranges_pass : RangeRowsAreWhatStand → (read : ReadDomain) (parameters tree : Data) (r : ReadRanges) → AreRangesOf read parameters tree r → RangesRows read parameters tree (Ok r)
ranges_pass stand_for read parameters tree r s =
    let t = s.2 in
    inl (
      object s.0,
      s.1,
      inl (
        s.0,
        refl,
        inl (
          some_members (StandsForRange read.domain read.turned) s.0 r.ranges t.some t.ranges_stand,
          each_passes stand_for read parameters s.0 r.parameters r.ranges t.ids t.parameters_stand t.ranges_stand,
        ),
      ),
    )
