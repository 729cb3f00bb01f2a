-- A text has one answer, unless memory is wanting; and what is written reads back.
use Rattle.std.proofs.Common.{◌≡◌, ◌⊎◌, ℕ, subst, List, refl, sym, ap, ◌∙◌, inl, inr, Result, Ok, Err}
use Rattle.edr_base.specs.FirstThatApplies.{IsLeast}
use Rattle.edr_wkt.specs.declared.geometry.Geometry.{Geometry}
use Rattle.edr_wkt.specs.declared.faults.WktFault.{WktFault}
use Rattle.edr_wkt.specs.declared.faults.WktFault.TheVariants.{NotWkt, TooManyPositions, OutOfRange, OpenRing, DecreasingM, OutOfMemory}
use Rattle.edr_wkt.specs.Wkt.{IsWkt}
use Rattle.edr_wkt.specs.Spelling.{spelled}
use Rattle.edr_wkt.specs.Faults.{Applies, rank, IsFaultless, IsGeometry, MatchWkt}
use Rattle.edr_wkt.proofs.FaultLemmas.{faultless_none, least-unique}
use Rattle.edr_wkt.proofs.WktLemmas.{wkt-unique}
use Rattle.edr_wkt.proofs.SpellLemmas.{spelled-wkt}

-- what an answer says
data Says (r : Result Geometry WktFault) (text : List ℕ) : Type 0 where
  wanting : r ≡ Err OutOfMemory → Says r text
  outside : r ≡ Err NotWkt → ((g : Geometry) → ¬ (IsWkt text g)) → Says r text
  sound : (g : Geometry) → IsWkt text g → IsFaultless g → r ≡ Ok g → Says r text
  faulty : (g : Geometry) (f : WktFault) → IsWkt text g → IsLeast rank (Applies g) f → r ≡ Err f → Says r text

says : (r : Result Geometry WktFault) (text : List ℕ) → MatchWkt r text → Says r text
says (Ok g) text h = sound g h.0 h.1.faultless refl
says (Err NotWkt) text h = outside refl h
says (Err TooManyPositions) text h = faulty h.0 TooManyPositions h.1 h.2 refl
says (Err (OutOfRange p)) text h = faulty h.0 (OutOfRange p) h.1 h.2 refl
says (Err (OpenRing p)) text h = faulty h.0 (OpenRing p) h.1 h.2 refl
says (Err (DecreasingM p)) text h = faulty h.0 (DecreasingM p) h.1 h.2 refl
says (Err OutOfMemory) text h = wanting refl

abbrev error : WktFault → Result Geometry WktFault
error f = Err f

least-along : (f : WktFault) (g h : Geometry) → g ≡ h → IsLeast rank (Applies g) f → IsLeast rank (Applies h) f
least-along f g h e x = let P : Geometry → Type 0 = λ w. IsLeast rank (Applies w) f in subst P e x

same-answer : (r s : Result Geometry WktFault) (text : List ℕ) → Says r text → Says s text → (r ≡ error OutOfMemory) ⊎ ((s ≡ error OutOfMemory) ⊎ (r ≡ s))
same-answer r s text (wanting e) y = inl e
same-answer r s text (outside e none) (wanting f) = inr (inl f)
same-answer r s text (outside e none) (outside f also) = inr (inr (e ∙ sym f))
same-answer r s text (outside e none) (sound g w free f) = absurd (none g w)
same-answer r s text (outside e none) (faulty g x w has f) = absurd (none g w)
same-answer r s text (sound g w free e) (wanting f) = inr (inl f)
same-answer r s text (sound g w free e) (outside f none) = absurd (none g w)
same-answer r s text (sound g w free e) (sound h v also f) = let one : Geometry → Result Geometry WktFault = λ x. Ok x in inr (inr (e ∙ ap one (wkt-unique text g h w v) ∙ sym f))
same-answer r s text (sound g w free e) (faulty h x v has f) = absurd (faultless_none g free x (least-along x h g (wkt-unique text h g v w) has).applies)
same-answer r s text (faulty g x w has e) (wanting f) = inr (inl f)
same-answer r s text (faulty g x w has e) (outside f none) = absurd (none g w)
same-answer r s text (faulty g x w has e) (sound h v free f) = absurd (faultless_none h free x (least-along x g h (wkt-unique text g h w v) has).applies)
same-answer r s text (faulty g x w has e) (faulty h y v also f) = inr (inr (e ∙ ap error (least-unique h x y (least-along x g h (wkt-unique text g h w v) has) also) ∙ sym f))

pub answer-unique : (text : List ℕ) (r s : Result Geometry WktFault) → MatchWkt r text → MatchWkt s text → (r ≡ error OutOfMemory) ⊎ ((s ≡ error OutOfMemory) ⊎ (r ≡ s))
answer-unique text r s a b = same-answer r s text (says r text a) (says s text b)

written-answer : (g : Geometry) (r : Result Geometry WktFault) → IsGeometry g → Says r (spelled g) → (r ≡ error OutOfMemory) ⊎ (r ≡ Ok g)
written-answer g r is (wanting e) = inl e
written-answer g r is (outside e none) = absurd (none g (spelled-wkt g is))
written-answer g r is (sound h w free e) = let one : Geometry → Result Geometry WktFault = λ x. Ok x in inr (e ∙ ap one (wkt-unique (spelled g) h g w (spelled-wkt g is)))
written-answer g r is (faulty h x w has e) = absurd (faultless_none g is.faultless x (least-along x h g (wkt-unique (spelled g) h g w (spelled-wkt g is)) has).applies)

-- what is written reads back
pub written-reads : (g : Geometry) (r : Result Geometry WktFault) → IsGeometry g → MatchWkt r (spelled g) → (r ≡ error OutOfMemory) ⊎ (r ≡ Ok g)
written-reads g r is h = written-answer g r is (says r (spelled g) h)
