use Rattle.std.proofs.Common.{◌≡◌, ◌++◌, ◌∷◌, [], ◌∙◌, rules, refl, arith, sym, ap, subst, append-nil}
use Rattle.std.specs.Prelude.{option_to_list}
use Rattle.std.specs.Vec.Iter.{into_iter_items}
use Rattle.edrd.specs.Serving.{Continues}
use Rattle.edrd.proofs.JobLemmas.{counted_on, ended_none, next_is, continues_on, published_on}
use Rattle.edrd.proofs.SayLemmas.{said_on}
use Rattle.edrd.proofs.publishing.publish_all.Goals as goal

pub editions-init : goal.editions-init
editions-init g c =
    let next = c.next-next.ensures in
    record {
      few = omega arith;
      left = sym next.items;
      counted = counted_on c.next-next.result _ _ _ _ c.requires.counted next.items next.len;
      ended = ended_none c.next-next.result _ _ _ c.requires.counted next.items next.variant.1;
      numbers = subst (Continues c.args.job.now.publisher.log) next.items c.requires.numbers;
      log = sym (append-nil c.args.job.now.publisher.log);
      granted = omega arith;
      open_ = c.requires.open_;
      seconds = refl;
      going = refl;
      said = refl;
      lent = record { same = refl; later = omega arith };
    }

pub publish-requires : goal.publish-requires
publish-requires g c =
    next_is c.editions.job.publisher.log (into_iter_items c.editions.job.rest) _ c.in-Some.edition c.editions.invariant.numbers
    (ap (λ next. option_to_list next ++ into_iter_items c.editions.job.rest) c.in-Some.is)

pub editions-preserved : goal.editions-preserved
editions-preserved g c =
    let before = c.editions.invariant in
    let next = c.next-next-in-Some.ensures in
    let left = rw c.in-Some.is at before.left in
    let grew : c.publish.new.self.log ≡ c.editions.job.publisher.log ++ c.in-Some.edition ∷ [] = search rules in
    let more = published_on c.args.job.now.publisher.log c.editions.job.publisher.log c.publish.new.self.log (into_iter_items c.args.job.now.rest)
    (into_iter_items c.editions.job.rest) (into_iter_items c.next-next-in-Some.new.self) c.editions.published c.in-Some.edition c.next-next-in-Some.result
    left before.log grew next.items in
    record {
      few = more.0;
      left = more.2;
      counted = counted_on c.next-next-in-Some.result _ _ _ _ before.counted next.items next.len;
      ended = ended_none c.next-next-in-Some.result _ _ _ before.counted next.items next.variant.1;
      numbers = continues_on c.editions.job.publisher.log c.publish.new.self.log (into_iter_items c.editions.job.rest) _ _ c.in-Some.edition before.numbers
          (ap (λ next. option_to_list next ++ into_iter_items c.editions.job.rest) c.in-Some.is) grew next.items;
      log = more.1;
      granted = omega (arith, c.if-not-turn.ensures.granted, before.granted);
      open_ = c.if-not-turn.ensures.shut;
      seconds = c.turn.ensures.kept ∙ before.seconds;
      going = before.going;
      said = said_on (into_iter_items c.args.job.now.rest) _ c.editions.published _ c.in-Some.edition _ _ _ left (search rules) before.said c.say_number.ensures.line;
      lent = record {
        same = c.say_number.ensures.lent.same ∙ before.lent.same;
        later = omega (arith, c.say_number.ensures.lent.later, before.lent.later);
      };
    }
