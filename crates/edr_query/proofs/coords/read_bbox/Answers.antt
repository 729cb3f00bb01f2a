use Rattle.std.proofs.Common.{refl, ap, sym, subst, inr, List, ℕ, ℤ, Some, None, Err}
use Rattle.std.specs.declared.option.Option.{Option}
use Rattle.edr_axes.specs.Levels.{IsLevelsText, HasNoLevels}
use Rattle.edr_query.specs.Parameters.{MaySay}
use Rattle.edr_query.specs.Boxes.{IsBoxText}
use Rattle.edr_query.specs.Reads.{IsBoxOf}
use Rattle.edr_query.proofs.CoordsLemmas.{a_box, no_box, no_levels_no_box}
use Rattle.edr_query.proofs.coords.read_bbox.Goals as goal

pub returns-in-Some-box_of : goal.returns-in-Some-box_of
returns-in-Some-box_of c =
    let found = c.in-Some-box_of.found in
    let P : List ℕ → Type 0 = λ t. IsLevelsText t c.in-Ok.levels in
    let Q : List ℤ → Type 0 = λ l. IsBoxOf l (Some found) in
    let R : Option (List ℕ) → Type 0 = λ o. MaySay IsBoxText o (Some found) in
    subst R (sym c.in-Some.ensures)
    (a_box c.in-Some.text.now c.in-Ok.levels found (subst P c.as_bytes.ensures.value c.in-Ok.ensures.text) (subst Q c.list_in.ensures c.in-Some-box_of.ensures))

pub returns-in-Ok : goal.returns-in-Ok
returns-in-Ok c =
    let P : List ℕ → Type 0 = λ t. IsLevelsText t c.in-Ok.levels in
    let Q : List ℤ → Type 0 = λ l. IsBoxOf l None in
    inr (
      refl,
      (
        c.in-Some.text.now,
        c.in-Some.ensures,
        no_box c.levels_are_unique.ensures c.in-Some.text.now c.in-Ok.levels (subst P c.as_bytes.ensures.value c.in-Ok.ensures.text) (subst Q c.list_in.ensures c.in-None.ensures),
      ),
    )

pub returns-in-Err-NotLevels : goal.returns-in-Err-NotLevels
returns-in-Err-NotLevels c =
    let P : List ℕ → Type 0 = HasNoLevels in
    inr (
      refl,
      (
        c.in-Some.text.now,
        c.in-Some.ensures,
        no_levels_no_box c.in-Some.text.now (subst P c.as_bytes.ensures.value (c.in-Err-NotLevels.ensures.none (ap Err c.in-Err-NotLevels.field-0-is))),
      ),
    )
