-- Parameters that are looked at one after another.
use Rattle.std.specs.Prelude.{⊤}
use Rattle.std.proofs.Common.{◌≡◌, List, ◌∷◌, String, Global, Ok, Err, sym, ap, ◌∙◌}
use Rattle.edr_samples.specs.Trees.{tree_view, members_view}
use Rattle.edr_samples.specs.declared.trees.Tree.{Tree}
use Rattle.edr_base.specs.FirstThatApplies.{and_then}
use Rattle.covjson_checks.specs.declared.faults.CovFault.{CovFault}
use Rattle.covjson_checks.specs.Answers.{Answer}
use Rattle.covjson_read.specs.ParameterAnswers.{parameter_form, parameter_forms}

module _ (entries next : List (String Global × Tree)) (id : String Global) (v : Tree) (whole : Answer ⊤) (is : entries ≡ (id, v) ∷ next) (before : parameter_forms (members_view entries) ≡ whole) where
  form_first : whole ≡ and_then (parameter_form (tree_view v)) (λ _. parameter_forms (members_view next))
  form_first = sym before ∙ ap (λ (es : List (String Global × Tree)). parameter_forms (members_view es)) is

  -- the fault of the next one is the answer
  pub form_stops : (fault : CovFault) → parameter_form (tree_view v) ≡ Err fault → whole ≡ Err fault
  form_stops fault stops = form_first ∙ ap (λ form. and_then form (λ _. parameter_forms (members_view next))) stops

  -- and where it is as it has to be, that of the others is
  pub form_passes : parameter_form (tree_view v) ≡ Ok tt → parameter_forms (members_view next) ≡ whole
  form_passes passes = sym (form_first ∙ ap (λ form. and_then form (λ _. parameter_forms (members_view next))) passes)
