-- The names of the members of an object, and the axes that they name.
use Rattle.std.proofs.Common.{◌≡◌, ℕ, List, All, true, Decides, Option, Some, None, Ordering, Less, Equal, Greater, nat_cmp, inl, inr, refl, sym, ap, ◌∙◌, subst}
use Rattle.std.specs.Ordering.{match_ordering}
use Rattle.std.specs.Cmp.Lexicographic.{slice_cmp}
use Rattle.std.proofs.lemmas.Bool.{and_parts, and_from, cases_Bool, true≢false}
use Rattle.std.proofs.lemmas.Map.Lookups.{exact_bytes}
use Rattle.std.proofs.lemmas.Cmp.{nat_list_cmp_total, tied_itself}
use Rattle.std.proofs.lemmas.List.Elements.{All-nil, All-cons, All-head, All-tail}
use Rattle.serde_json.specs.Data.{Data, Members, no_members, member}
use Rattle.serde_json.specs.Find.{get_member}
use Rattle.edr_json.specs.Trees.{names_of}
use Rattle.covjson_value.specs.declared.axis_names.AxisName.{AxisName}
use Rattle.covjson_value.specs.AxisNames.{axis_key, axis_by_name}
use Rattle.covjson_checks.specs.AxisNameLaws.{key_is, named_axis, one_name}
use Rattle.covjson_value.specs.declared.domain_types.DomainType.{DomainType}
use Rattle.covjson_domains.specs.DomainTypes.{presence, IsAllowed, IsAxisOf}
use Rattle.covjson_domains.specs.Domains.{IsAxisKey}
use Rattle.covjson_domains.specs.TypeAnswers.{is_allowed, is_axis_of, may_have, has_no_others}
use Rattle.covjson_domains.proofs.DomainTypes.{allowed_decides}

-- ---- names of axes

-- what is found is the name of an axis that the type may have
found_axis : (kind : DomainType) (key : List ℕ) (o : Option AxisName) → axis_by_name key ≡ o → is_axis_of kind o ≡ true → IsAxisOf kind key
found_axis kind key None is h = cc
found_axis kind key (Some name) is h = (name, key_is key name is, (allowed_decides (presence kind name)).0 h)

-- a name is tested to be that of an axis of the type
pub may_have_decides : (kind : DomainType) (key : List ℕ) → Decides (may_have kind key) (IsAxisOf kind key)
may_have_decides kind key = (
  found_axis kind key (axis_by_name key) refl,
  λ h. ap (may_have kind) h.1 ∙ ap (is_axis_of kind) (named_axis h.0) ∙ (allowed_decides (presence kind h.0)).1 h.2,
)

-- ---- members

-- all members are tested to have such names
pub no_others_decides : (kind : DomainType) (members : Members) → Decides (has_no_others kind members) (All (IsAxisOf kind) (names_of members))
no_others_decides kind no_members = (λ e. All-nil (IsAxisOf kind), λ h. refl)
no_others_decides kind (member key d members) =
    let here = may_have_decides kind key in
    let later = no_others_decides kind members in (
      λ e.
          let parts = and_parts (may_have kind key) (has_no_others kind members) e in
          All-cons (IsAxisOf kind) key (names_of members) (here.0 parts.0) (later.0 parts.1),
      λ h. and_from (may_have kind key) (has_no_others kind members) (here.1 (All-head (IsAxisOf kind) key (names_of members) h))
          (later.1 (All-tail (IsAxisOf kind) key (names_of members) h)),
    )

-- where nothing is found, neither this member nor a later one is
found_nothing : (o : Ordering) (rest : Option Data) (d : Data) → match_ordering o rest (Some d) rest ≡ None → (o ≡ Equal → ⊥) × (rest ≡ None)
found_nothing Less rest d h = ((λ e. cc), h)
found_nothing Equal rest d h = cc
found_nothing Greater rest d h = ((λ e. cc), h)

-- and where neither is, nothing is found
finds_nothing : (o : Ordering) (rest : Option Data) (d : Data) → (o ≡ Equal → ⊥) → rest ≡ None → match_ordering o rest (Some d) rest ≡ None
finds_nothing Less rest d other h = h
finds_nothing Equal rest d other h = absurd (other refl)
finds_nothing Greater rest d other h = h

-- nothing is found by a name that isn't as those of all members are
not_found : (P : List ℕ → Type 0) (key : List ℕ) (members : Members) → All P (names_of members) → ¬ (P key) → get_member key members ≡ None
not_found P key no_members all other = refl
not_found P key (member here d members) all other =
    finds_nothing (slice_cmp nat_cmp key here) (get_member key members) d
    (λ tie. other (subst P (sym (exact_bytes key here tie)) (All-head P here (names_of members) all)))
    (not_found P key members (All-tail P here (names_of members) all) other)

-- so an axis that the type hasn't isn't found
pub no_other : (kind : DomainType) (name : AxisName) (members : Members) → All (IsAxisOf kind) (names_of members) → ¬ (IsAllowed (presence kind name)) → get_member (axis_key name) members ≡ None
no_other kind name members all absent =
    not_found (IsAxisOf kind) (axis_key name) members all
    (λ h. absent (subst (λ (n : AxisName). IsAllowed (presence kind n)) (sym (one_name name h.0 h.1)) h.2))

-- the names of axes of a type are names of axes
pub all_axes : (kind : DomainType) (members : Members) → All (IsAxisOf kind) (names_of members) → All IsAxisKey (names_of members)
all_axes kind no_members all = All-nil IsAxisKey
all_axes kind (member key d members) all =
    let here = All-head (IsAxisOf kind) key (names_of members) all in
    All-cons IsAxisKey key (names_of members) (here.0, here.1) (all_axes kind members (All-tail (IsAxisOf kind) key (names_of members) all))

-- a name by which nothing is found is no member's
present : (key : List ℕ) (d : Data) (members : Members) → get_member key (member key d members) ≡ None → ⊥
present key d members h = (found_nothing (slice_cmp nat_cmp key key) (get_member key members) d h).0 (tied_itself nat_list_cmp_total key)

-- nor is it that of one after the first
absent_later : (key other : List ℕ) (d : Data) (members : Members) → get_member key (member other d members) ≡ None → get_member key members ≡ None
absent_later key other d members h = (found_nothing (slice_cmp nat_cmp key other) (get_member key members) d h).1

-- where all members have names of axes, and no axis is found that the type hasn't, all have names of its axes
pub all_left : (kind : DomainType) (members : Members) → All IsAxisKey (names_of members)
    → ((name : AxisName) → ¬ (IsAllowed (presence kind name)) → get_member (axis_key name) members ≡ None) → All (IsAxisOf kind) (names_of members)
all_left kind no_members all absent = All-nil (IsAxisOf kind)
all_left kind (member key d members) all absent =
    let here = All-head IsAxisKey key (names_of members) all in
    let name = here.0 in
    let wanted = presence kind name in
    let rest = all_left kind members (All-tail IsAxisKey key (names_of members) all) (λ other h. absent_later (axis_key other) key d members (absent other h)) in
    let decides = allowed_decides wanted in
    elim (cases_Bool (is_allowed wanted)) [
      | inl kept ↦ All-cons (IsAxisOf kind) key (names_of members) (name, here.1, decides.0 kept) rest
      | inr other ↦
          let gone = absent name (λ h. true≢false (sym (decides.1 h) ∙ other)) in
          absurd (present key d members (subst (λ k. get_member k (member key d members) ≡ None) (sym here.1) gone))
    ]
