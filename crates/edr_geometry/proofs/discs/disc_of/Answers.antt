use Rattle.std.proofs.Common.{◌≡◌, ◌<◌, ◌≤◌, ◌≢◌, ◌∙◌, sym, ap, subst, true, false, arith, rules, inl, inr, length, get_or, set, replicate, ◌-ℤ◌, ◌+ℤ◌, ◌<ℤ◌, int_lt, of_z, to_z, w64}
use Rattle.std.specs.Int.RustNames.{unsigned_abs}
use Rattle.std.proofs.lemmas.Bool.{cases_lt}
use Rattle.std.proofs.lemmas.List.{get_or-set_same, get_or-set_other, length-set, length-replicate}
use Rattle.jiff_core.proofs.SignedLemmas.{signed_arith, one_part}
use Rattle.edr_axes.specs.Axes.{value_at}
use Rattle.edr_geometry.specs.Planar.{in_disc}
use Rattle.edr_geometry.specs.Masks.{spot_at}
use Rattle.edr_geometry.specs.Rows.{spot_in}
use Rattle.edr_geometry.proofs.Whole.{back}
use Rattle.edr_geometry.proofs.CutLemmas.{mask_is}
use Rattle.edr_geometry.proofs.Outside.{outside_left, outside_right, beyond, none_at, edge_small}
use Rattle.edr_geometry.proofs.discs.disc_of.Goals as goal

pub loop-place-init : goal.loop-place-init
loop-place-init c =
    let y = c.args.row.now.y in let xs = c.args.row.now.xs.now in let disc = c.args.disc.now in
    let in_ = c.requires.disc.radius_in in
    let items = c.in_ok-places.places.items in
    let empty : items ≡ replicate (length xs) false = search rules in
    let small : unsigned_abs c.least_x.result ≤ 100000000000000000 =
    subst (λ b. unsigned_abs b ≤ 100000000000000000) (sym c.least_x.ensures) (edge_small disc.centre.x disc.radius c.requires.disc.centre_in.x in_.least in_.greatest) in
    let bound : to_z w64 (of_z w64 c.least_x.result) ≡ (disc.centre.x -ℤ disc.radius) = back c.least_x.result small ∙ c.least_x.ensures in
    record {
      size = ap length empty ∙ length-replicate (length xs) false;
      done = λ place h. (let left = subst (λ b. value_at xs place <ℤ b) bound (c.count_left_of-first.ensures.left place h) in
          ap (λ l. get_or l place false) empty ∙ none_at (length xs) place ∙ sym (outside_left y (value_at xs place) disc.centre disc.radius in_.least left));
      ahead = λ place h. ap (λ l. get_or l place false) empty ∙ none_at (length xs) place;
    }

pub loop-place-preserved : goal.loop-place-preserved
loop-place-preserved c =
    let y = c.args.row.now.y in let xs = c.args.row.now.xs.now in let centre = c.args.disc.now.centre in let r = c.args.disc.now.radius in
    let in_ = c.requires.disc.radius_in in
    let k = c.loop-place.place in let items = c.loop-place.places.items in let v = c.in_disc.result in
    let size : unsigned_abs r ≤ 400000000 = omega (arith, signed_arith, in_.least, in_.greatest, one_part r) in
    let here : v ≡ in_disc (spot_in y xs k) centre r = c.in_disc.ensures ∙ ap (λ d. in_disc c.spot-spot.result centre d) (back r (omega (arith, size))) ∙ ap (λ s. in_disc s centre r) c.spot-spot.ensures.same in
    let inside : k < length items = omega (arith, c.loop-place-test.true, c.loop-place.invariant.size) in
    record {
      size = length-set items k v ∙ c.loop-place.invariant.size;
      done = λ place h. elim (cases_lt place k) [
        | inl lt ↦ (let other : place ≢ k = omega arith in get_or-set_other items k place v false other ∙ c.loop-place.invariant.done place lt)
        | inr ge ↦ (let same : k ≡ place = omega arith in subst (λ p. get_or (set items k v) p false ≡ in_disc (spot_in y xs p) centre r) same (get_or-set_same items k v false inside ∙ here))
      ];
      ahead = λ place h. (let other : place ≢ k = omega arith in get_or-set_other items k place v false other ∙ c.loop-place.invariant.ahead place (omega arith));
    }

pub returns-then-is_left_of : goal.returns-then-is_left_of
returns-then-is_left_of c =
    let y = c.args.row.now.y in let xs = c.args.row.now.xs.now in let centre = c.args.disc.now.centre in let r = c.args.disc.now.radius in
    let k = c.loop-place.place in
    let is : c.is_left_of.result ≡ true = search rules in
    let test : int_lt (centre.x +ℤ r) (value_at xs k) ≡ true = subst (λ s. int_lt (centre.x +ℤ r) s.x ≡ true) c.spot-spot.ensures.same (sym c.is_left_of.ensures ∙ is) in
    let right : (centre.x +ℤ r) <ℤ value_at xs k = omega (arith, signed_arith, test) in
    mask_is xs c.loop-place.places.items (λ x. in_disc (spot_at y x) centre r) c.loop-place.invariant.size
    (λ place inside. elim (cases_lt place k) [
      | inl lt ↦ c.loop-place.invariant.done place lt
      | inr ge ↦ (let far = beyond xs c.requires.row.ascending k place (centre.x +ℤ r) ge inside right in
          c.loop-place.invariant.ahead place ge ∙ sym (outside_right y (value_at xs place) centre r c.requires.disc.radius_in.least far))
    ])

pub returns : goal.returns
returns c =
    let y = c.args.row.now.y in let xs = c.args.row.now.xs.now in
    mask_is xs c.loop-place.places.items (λ x. in_disc (spot_at y x) c.args.disc.now.centre c.args.disc.now.radius) c.loop-place.invariant.size
    (λ place inside. c.loop-place.invariant.done place (omega (arith, inside, c.loop-place-test.false)))
