use Rattle.std.proofs.Common.{◌≡◌, ℕ, List, [], ◌∷◌, ◌++◌, Option, Some, None, Greater, nat_cmp, refl, ap, ◌∙◌}
use Rattle.std.specs.Prelude.{⊤}
use Rattle.std.proofs.lemmas.Result.{on_ok_weaker}
use Rattle.std.specs.Cmp.Lexicographic.{slice_cmp}
use Rattle.serde_json.specs.Data.{Data, object, Members, no_members}
use Rattle.serde_json.specs.View.{members_view}
use Rattle.covjson_value.specs.declared.axis_names.AxisName.TheVariants.{T, Z, Y, X, Composite}
use Rattle.covjson_value.specs.AxisNames.{axis_key}
use Rattle.covjson_value.specs.Puts.{put_if}
use Rattle.covjson_value.specs.Trees.{member_if}
use Rattle.covjson_value.proofs.axis_trees.put_axes.Goals as goal

-- a key, and the value that it may have
abbrev Given : Type 0
Given = List ℕ × Option Data

abbrev members_given : List Given → Members
members_given [] = no_members
members_given (m ∷ ms) = member_if m.0 m.1 (members_given ms)

abbrev IsAbove : List ℕ → List Given → Type 0
IsAbove key [] = ⊤
IsAbove key (m ∷ ms) = (slice_cmp nat_cmp key m.0 ≡ Greater) × IsAbove key ms

-- what is put behind lesser keys goes last, whether these have values or not
put_past : (key low : List ℕ) (given lower : Option Data) (rest : Members) → slice_cmp nat_cmp key low ≡ Greater → put_if key given (member_if low lower rest) ≡ member_if low lower (put_if key given rest)
put_past key low None lower rest above = refl
put_past key low (Some d) None rest above = refl
put_past key low (Some d) (Some e) rest above = rw above refl

put_last : (key : List ℕ) (given : Option Data) (ms : List Given) → IsAbove key ms → put_if key given (members_given ms) ≡ members_given (ms ++ (key, given) ∷ [])
put_last key None [] above = refl
put_last key (Some d) [] above = refl
put_last key given (m ∷ ms) above = put_past key m.0 given m.1 (members_given ms) above.0 ∙ ap (member_if m.0 m.1) (put_last key given ms above.1)

next : (key : List ℕ) (given : Option Data) (ms : List Given) (before after : Members) → IsAbove key ms → before ≡ members_given ms → after ≡ put_if key given before → after ≡ members_given (ms ++ (key, given) ∷ [])
next key given ms before after above held put_it = put_it ∙ ap (put_if key given) held ∙ put_last key given ms above

made : (none c t x y z : Members) (composite times columns rows levels : Option Data)
    → none ≡ no_members → c ≡ put_if (axis_key Composite) composite none → t ≡ put_if (axis_key T) times c → x ≡ put_if (axis_key X) columns t → y ≡ put_if (axis_key Y) rows x → z ≡ put_if (axis_key Z) levels y
    → z ≡ member_if (axis_key Composite) composite (member_if (axis_key T) times (member_if (axis_key X) columns (member_if (axis_key Y) rows (member_if (axis_key Z) levels no_members))))
made none c t x y z composite times columns rows levels empty c_is t_is x_is y_is z_is =
    let one : List Given = (axis_key Composite, composite) ∷ [] in
    let two : List Given = one ++ (axis_key T, times) ∷ [] in
    let three : List Given = two ++ (axis_key X, columns) ∷ [] in
    let four : List Given = three ++ (axis_key Y, rows) ∷ [] in
    let at_c : c ≡ members_given one = next (axis_key Composite) composite [] none c tt empty c_is in
    let at_t : t ≡ members_given two = next (axis_key T) times one c t (refl, tt) at_c t_is in
    let at_x : x ≡ members_given three = next (axis_key X) columns two t x (refl, (refl, tt)) at_t x_is in
    let at_y : y ≡ members_given four = next (axis_key Y) rows three x y (refl, (refl, (refl, tt))) at_x y_is in
    next (axis_key Z) levels four y z (refl, (refl, (refl, (refl, tt)))) at_y z_is

pub returns : goal.returns
returns c =
    on_ok_weaker c.put_axis-4.result
    (λ last. ap object (made _ _ _ _ _ _ _ _ _ _ _ (ap members_view c.requires.empty) c.in_ok-put_composite.ensures c.in_ok-put_axis.ensures c.in_ok-put_axis-2.ensures c.in_ok-put_axis-3.ensures last))
    c.put_axis-4.ensures
