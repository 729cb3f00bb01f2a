use Rattle.std.proofs.Common.{rules, ◌≡◌, ◌∙◌, List, ℕ, sym, subst}
use Rattle.std.specs.Prelude.{◌↔◌, IsTrue}
use Rattle.edr_select.specs.AreaPlans.{TakesSome, IsFramed}
use Rattle.edr_select.specs.Choices.{time_places, level_places}
use Rattle.edr_select.specs.Framings.{FrameValue}
use Rattle.edr_select.specs.Wanted.{levels_asked}
use Rattle.edr_select.proofs.PlanSteps.{of_asked}
use Rattle.edr_select.proofs.FramePlans.{refused_nodes, refused_some, framed}
use Rattle.edr_select.proofs.taken_frames.frame_taken.Goals as goal

pub names_taken-requires : goal.names_taken-requires
names_taken-requires c = of_asked c.args.collection.now c.args.query.now c.args.instance.now c.requires.asked

pub refused_asking-requires : goal.refused_asking-requires
refused_asking-requires c = of_asked c.args.collection.now c.args.query.now c.args.instance.now c.requires.asked

pub returns-then-not-takes_some-clause-refused : goal.returns-then-not-takes_some-clause-refused
returns-then-not-takes_some-clause-refused c =
    let times_are : c.in_ok-times.times.items ≡ time_places c.args.query.now.times c.args.instance.now.ts = search rules in
    let levels_are : c.in_ok-levels.levels.items ≡ level_places (levels_asked c.args.query.now) c.args.instance.now.zs = search rules in
    let ps : IsTrue c.takes_some.result ↔ TakesSome c.in_ok-parameters.parameters.items c.deref-2.result.now c.deref-3.result.now =
    subst (λ (ps : List ℕ). IsTrue c.takes_some.result ↔ TakesSome ps c.deref-2.result.now c.deref-3.result.now) c.deref.ensures.value c.takes_some.ensures in
    let ts : IsTrue c.takes_some.result ↔ TakesSome c.in_ok-parameters.parameters.items c.in_ok-times.times.items c.deref-3.result.now =
    subst (λ (ts : List ℕ). IsTrue c.takes_some.result ↔ TakesSome c.in_ok-parameters.parameters.items ts c.deref-3.result.now) c.deref-2.ensures.value ps in
    c.in_ok-parameters.ensures.known
    ∙ (c.in_default.ensures.kept
    ∙ refused_some c.args.collection.now c.args.query.now c.args.instance.now c.requires.asked c.in_ok-parameters.parameters.items c.in_ok-times.times.items
    c.in_ok-levels.levels.items c.in_ok-parameters.ensures.places times_are levels_are c.takes_some.result c.if-not-takes_some.true
    (subst (λ (zs : List ℕ). IsTrue c.takes_some.result ↔ TakesSome c.in_ok-parameters.parameters.items c.in_ok-times.times.items zs) c.deref-3.ensures.value ts))

pub returns-in_default-2-clause-refused : goal.returns-in_default-2-clause-refused
returns-in_default-2-clause-refused c =
    let none = rw c.in_default-2.is at c.in_ok-mask.ensures in
    c.in_ok-parameters.ensures.known ∙ (c.in_default.ensures.kept ∙ refused_nodes c.args.collection.now c.args.query.now c.args.instance.now c.requires.asked none)

pub returns-clause-taken : goal.returns-clause-taken
returns-clause-taken c =
    let times_are : c.in_ok-times.times.items ≡ time_places c.args.query.now.times c.args.instance.now.ts = search rules in
    let levels_are : c.in_ok-levels.levels.items ≡ level_places (levels_asked c.args.query.now) c.args.instance.now.zs = search rules in
    let is = rw c.in-Some-2.is at c.in_ok-mask.ensures in
    let ps : IsTrue c.takes_some.result ↔ TakesSome c.in_ok-parameters.parameters.items c.deref-2.result.now c.deref-3.result.now =
    subst (λ (ps : List ℕ). IsTrue c.takes_some.result ↔ TakesSome ps c.deref-2.result.now c.deref-3.result.now) c.deref.ensures.value c.takes_some.ensures in
    let ts : IsTrue c.takes_some.result ↔ TakesSome c.in_ok-parameters.parameters.items c.in_ok-times.times.items c.deref-3.result.now =
    subst (λ (ts : List ℕ). IsTrue c.takes_some.result ↔ TakesSome c.in_ok-parameters.parameters.items ts c.deref-3.result.now) c.deref-2.ensures.value ps in
    subst (λ (f : FrameValue). IsFramed c.args.collection.now c.args.query.now c.args.instance.now c.in_ok-parameters.parameters.items f) (sym c.frame_over.ensures)
    (framed c.args.collection.now c.args.query.now c.args.instance.now c.requires.asked c.in_ok-parameters.parameters.items c.in_ok-times.times.items
    c.in_ok-levels.levels.items c.in_ok-parameters.ensures.places times_are levels_are c.takes_some.result c.if-not-takes_some.false
    (subst (λ (zs : List ℕ). IsTrue c.takes_some.result ↔ TakesSome c.in_ok-parameters.parameters.items c.in_ok-times.times.items zs) c.deref-3.ensures.value ts)
    c.in-Some-2.mask is (c.in_ok-parameters.ensures.known ∙ c.in_default.ensures.kept))
