use Rattle.std.proofs.Common.{◌≡◌, ◌∙◌, ℕ, ℤ, List, Option, MatchOption, Ok, sym, ap, arith, w64}
use Rattle.std.proofs.lemmas.Int.{ints, to_z-of_z}
use Rattle.edr_axes.specs.InstantGrammar.{IsInstant}
use Rattle.edr_axes.specs.InstantComputed.{instant_of}
use Rattle.serde_json.specs.Data.{Data}
use Rattle.edr_samples.specs.Trees.{tree_view}
use Rattle.covjson_checks.specs.declared.faults.Member.{Member}
use Rattle.covjson_checks.specs.declared.faults.CovFault.TheVariants.{BadTime}
use Rattle.edr_base.specs.FirstThatApplies.{or_fault}
use Rattle.covjson_checks.specs.Members.{text_at}
use Rattle.covjson_domains.specs.AxisAnswers as axes
use Rattle.covjson_domains.proofs.InstantReads.{instant_found}
use Rattle.covjson_domains.proofs.axes.time_at.Goals as goal

-- the time of a text is what is read of it
time_reads : (m : Member) (place : ℕ) (d : Data) (text : List ℕ) (o : Option ℤ) → text_at m d ≡ Ok text → o ≡ instant_of text
    → axes.time_at m place d ≡ or_fault o (BadTime place)
time_reads m place d text o h e = rw h (ap (λ x. or_fault x (BadTime place)) (sym e))

pub returns-in-Some : goal.returns-in-Some
returns-in-Some c =
    let d = tree_view c.args.item.now in
    let text = c.in_ok-text.text.now in
    let found : MatchOption c.read_instant.result ((t : ℤ) → ¬ (IsInstant text t)) (λ t. IsInstant text t) = rw c.as_bytes.ensures.value at c.read_instant.ensures in
    let i = c.in-Some.ensures in
    let lo = i.time_in.0 in
    let hi = i.time_in.1 in
    rw (to_z-of_z w64 c.in-Some.time (omega (arith, ints)))
    (sym (time_reads c.args.member c.args.place d text c.read_instant.result c.in_ok-text.ensures (instant_found c.instants_are_read.ensures text c.read_instant.result found)
    ∙ ap (λ o. or_fault o (BadTime c.args.place)) c.in-Some.is))

pub returns-in-None : goal.returns-in-None
returns-in-None c =
    let d = tree_view c.args.item.now in
    let text = c.in_ok-text.text.now in
    let found : MatchOption c.read_instant.result ((t : ℤ) → ¬ (IsInstant text t)) (λ t. IsInstant text t) = rw c.as_bytes.ensures.value at c.read_instant.ensures in
    sym (time_reads c.args.member c.args.place d text c.read_instant.result c.in_ok-text.ensures (instant_found c.instants_are_read.ensures text c.read_instant.result found)
    ∙ ap (λ o. or_fault o (BadTime c.args.place)) c.in-None.is)
