-- Coverages: the answer is what stands, and the rows have it.
use Rattle.std.proofs.Common.{◌≡◌, true, Some, Ok, inl, option_and_then, bytes_eq, codes, refl, sym, ap, ◌∙◌, subst}
use Rattle.std.proofs.lemmas.Slice.Eq.{bytes_eq-Decides}
use Rattle.serde_json.specs.Data.{Data, string, object}
use Rattle.serde_json.specs.Find.{get, as_str}
use Rattle.covjson_value.specs.declared.domains.CoordinateName.TheVariants.{Z}
use Rattle.covjson_value.specs.declared.coverages.Coverage.{Coverage}
use Rattle.covjson_value.specs.Domains.{has_coordinate}
use Rattle.covjson_checks.specs.declared.turned.ReadDomain.{ReadDomain}
use Rattle.covjson_checks.specs.declared.faults.Member.TheVariants.{Kind, Coverages, Domain as DomainMember}
use Rattle.covjson_checks.specs.declared.faults.CovFault.TheVariants.{Missing, WrongType}
use Rattle.covjson_checks.specs.Members.{need, object_at, lent}
use Rattle.edr_json.specs.Trees.{text_or_empty}
use Rattle.edr_json.specs.TreeLaws.{text_is}
use Rattle.covjson_domains.specs.DomainAnswers.{domain_of}
use Rattle.covjson_domains.specs.DomainRows.{DomainRows}
use Rattle.covjson_domains.specs.Laws.{DomainRowsHaveOneAnswer, DomainAnswersFollowRows, DomainRowsAreWhatStands}
use Rattle.covjson_ranges.specs.Laws.{RangeRowsAreWhatStand}
use Rattle.covjson_read.specs.declared.collected.ReadRanges.{ReadRanges}
use Rattle.covjson_read.specs.SystemAnswers.{referencing_of}
use Rattle.covjson_read.specs.ParameterAnswers.{parameters_of}
use Rattle.covjson_read.specs.CollectedAnswers.{ranges_in}
use Rattle.covjson_read.specs.Standing.{type_of, StandsIn}
use Rattle.covjson_read.specs.CoverageAnswers.{coverage_in, CoverageAnswersFollowRows, AnswersAreWhatStands}
use Rattle.covjson_read.specs.Laws.{CoverageRowsHaveOneAnswer, CoverageRowsAreWhatStands, TreesStandForOne}
use Rattle.covjson_read.specs.Rows.{SystemRows, ParametersRows, RangesRows, CoverageRows}
use Rattle.covjson_checks.specs.RowLaws.{HaveAnswer, find_within, check_within, then_answers, gives_answers, passed, passed_then}
use Rattle.covjson_read.proofs.RowAnswers.{one_is_answer, answer_stands, same_ok}
use Rattle.covjson_read.proofs.SystemLaws.{given_found, systems_rows, rows_tell, rows_pass}
use Rattle.covjson_read.proofs.ParameterLaws.{object_found, object_of, parameters_rows, parameters_tell, parameters_pass}
use Rattle.covjson_read.proofs.CollectedLaws.{RangesAnswered, ranges_rows, ranges_tell, ranges_pass}

-- what is known of the answers to domains and ranges
pub record PartsAnswered : Type 0 where
  pub domains_one : DomainRowsHaveOneAnswer
  pub domains_follow : DomainAnswersFollowRows
  pub ranges : RangesAnswered

-- and of which stand
pub record PartsStand : Type 0 where
  pub domains : DomainRowsAreWhatStands
  pub ranges : RangeRowsAreWhatStand

-- a member of the type Coverage
is_kind : (kind : Data) → bytes_eq (text_or_empty (Some kind)) (codes "Coverage") ≡ true → kind ≡ string (codes "Coverage")
is_kind kind h = let e = text_is (Some kind) _ _ ((bytes_eq-Decides (text_or_empty (Some kind)) (codes "Coverage")).0 h) in cc

passes_kind : (kind : Data) → kind ≡ string (codes "Coverage") → bytes_eq (text_or_empty (Some kind)) (codes "Coverage") ≡ true
passes_kind kind is = ap (λ (d : Data). bytes_eq (text_or_empty (Some d)) (codes "Coverage")) is

-- ---- the rows have the answer

pub coverage_rows : PartsAnswered → (collection tree : Data) → HaveAnswer (CoverageRows collection tree) (coverage_in collection tree)
coverage_rows laws collection tree =
    find_within (λ members. tree ≡ object members) (WrongType Coverages) _ (object_at Coverages tree) _ _ (object_found (WrongType Coverages) tree) (λ members is_object.
    find_within (λ kind. get (codes "type") tree ≡ Some kind) (Missing Kind) _ (need (codes "type") Kind tree) _ _ (given_found (Missing Kind) (get (codes "type") tree)) (λ kind kind_at.
    check_within (kind ≡ string (codes "Coverage")) (WrongType Kind) _ (bytes_eq (text_or_empty (Some kind)) (codes "Coverage")) _ _ (is_kind kind, passes_kind kind) (λ is.
    find_within (λ domain. get (codes "domain") tree ≡ Some domain) (Missing DomainMember) _ (need (codes "domain") DomainMember tree) _ _ (given_found (Missing DomainMember) (get (codes "domain") tree)) (λ domain domain_is.
    find_within (λ members. domain ≡ object members) (WrongType DomainMember) _ (object_at DomainMember domain) _ _ (object_found (WrongType DomainMember) domain) (λ inside are.
    let found = type_of domain tree collection in
    then_answers (DomainRows found domain) _ (domain_of found domain) _ (one_is_answer (DomainRows found domain) (domain_of found domain) (laws.domains_follow found domain) (laws.domains_one found domain)) (λ read stands.
    let has_z = has_coordinate read.domain Z in
    let systems = lent (codes "referencing") domain collection in
    then_answers (SystemRows has_z systems) _ (referencing_of has_z systems) _ (systems_rows has_z systems) (λ referencing systems_are.
    let lends = lent (codes "parameters") tree collection in
    then_answers (ParametersRows lends) _ (parameters_of lends) _ (parameters_rows lends) (λ parameters parameters_are.
    then_answers (RangesRows read parameters tree) _ (ranges_in read parameters tree) _ (ranges_rows laws.ranges read parameters tree) (λ ranges ranges_are.
    gives_answers (record {
      id = option_and_then as_str (get (codes "id") tree);
      domain = read.domain;
      referencing = referencing;
      parameters = ranges.parameters;
      ranges = ranges.ranges;
    }))))))))))

-- ---- what passes them stands

pub coverage_tells : PartsStand → (collection tree : Data) (coverage : Coverage) → CoverageRows collection tree (Ok coverage) → StandsIn collection tree coverage
coverage_tells stand collection tree coverage h =
    let o = passed h in
    let k = passed o.2 in
    let c = passed k.2 in
    let d = passed c.1 in
    let i = passed d.2 in
    let r = passed_then i.2 in
    let s = passed_then r.2 in
    let p = passed_then s.2 in
    let a = passed_then p.2 in
    let made : Coverage = record {
      id = option_and_then as_str (get (codes "id") tree);
      domain = r.0.domain;
      referencing = s.0;
      parameters = a.0.parameters;
      ranges = a.0.ranges;
    } in
    let same : made ≡ coverage = sym (same_ok coverage made a.2) in
    let held = parameters_tell (lent (codes "parameters") tree collection) p.0 p.1 in
    let held_ranges = ranges_tell stand.ranges r.0 p.0 tree a.0 a.1 in
    subst (λ (c : Coverage). StandsIn collection tree c) same (record {
      kind = k.1 ∙ ap Some c.0;
      id = refl;
      domain = d.0;
      domain_at = d.1;
      turned = r.0.turned;
      domain_stands = (stand.domains (type_of d.0 tree collection) d.0 r.0).0 r.1;
      referencing_stands = rows_tell (has_coordinate r.0.domain Z) (lent (codes "referencing") d.0 collection) s.0 s.1;
      parameters = p.0;
      parameters_at = held.0;
      parameters_are = held.1;
      ranges = held_ranges.0;
      ranges_at = held_ranges.1;
      ranges_stand = held_ranges.2;
    })

-- ---- and what stands passes them

pub coverage_passes : PartsStand → (collection tree : Data) (coverage : Coverage) → StandsIn collection tree coverage → CoverageRows collection tree (Ok coverage)
coverage_passes stand collection tree coverage s =
    let read : ReadDomain = record { domain = coverage.domain; turned = s.turned } in
    let ranges : ReadRanges = record { parameters = coverage.parameters; ranges = coverage.ranges } in
    let has_z = has_coordinate coverage.domain Z in
    let o = object_of (codes "type") tree (string (codes "Coverage")) s.kind in
    let i = object_of (codes "axes") s.domain (object s.domain_stands.members) s.domain_stands.axes in
    let id = s.id in
    inl (
      o.0,
      o.1,
      inl (
        string (codes "Coverage"),
        s.kind,
        inl (
          refl,
          inl (
            s.domain,
            s.domain_at,
            inl (
              i.0,
              i.1,
              inl (
                read,
                (stand.domains (type_of s.domain tree collection) s.domain read).1 s.domain_stands,
                inl (
                  coverage.referencing,
                  rows_pass has_z (lent (codes "referencing") s.domain collection) coverage.referencing s.referencing_stands,
                  inl (
                    s.parameters,
                    parameters_pass (lent (codes "parameters") tree collection) s.parameters (s.parameters_at, s.parameters_are),
                    inl (
                      ranges,
                      ranges_pass stand.ranges read s.parameters tree ranges (s.ranges, s.ranges_at, s.ranges_stand),
                      (λ j. Ok (record { id = id j; domain = coverage.domain; referencing = coverage.referencing; parameters = coverage.parameters; ranges = coverage.ranges })),
                    ),
                  ),
                ),
              ),
            ),
          ),
        ),
      ),
    )

-- ---- the answer is what stands

pub answers_stand : CoverageRowsHaveOneAnswer → CoverageAnswersFollowRows → CoverageRowsAreWhatStands → AnswersAreWhatStands
answers_stand one follow stand collection tree =
    answer_stands (CoverageRows collection tree) (coverage_in collection tree) (StandsIn collection tree) (one_is_answer (CoverageRows collection tree) (coverage_in collection tree) (follow collection tree) (one collection tree))
    (λ coverage. (stand collection tree coverage).0) (λ coverage. (stand collection tree coverage).1)

-- a tree stands for one coverage at most
pub coverage_one : CoverageRowsHaveOneAnswer → CoverageRowsAreWhatStands → TreesStandForOne
coverage_one rows_one stand collection tree one other a b =
    let e = rows_one collection tree (Ok one) (Ok other) ((stand collection tree one).1 a) ((stand collection tree other).1 b) in
    cc
