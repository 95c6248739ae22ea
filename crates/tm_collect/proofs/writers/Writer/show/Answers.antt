use Rattle.tm_collect.proofs.AdvancingLemmas.{Shows-join, StopsBy-join}
use Rattle.std.proofs.Common.{◌≡◌, ◌∙◌, List, subst, arith}
use Rattle.tm_base.specs.declared.events.Entry.{Entry}
use Rattle.tm_text.specs.Exercises.{ExerciseView}
use Rattle.tm_joint.specs.Joints.{JointView}
use Rattle.tm_collect.specs.declared.writers.Stop.{Stop}
use Rattle.tm_collect.specs.Sending.{Outlet}
use Rattle.tm_collect.specs.Advancing.{Shows, StopsBy}
use Rattle.tm_collect.proofs.WatchingLemmas.{told-more}
use Rattle.tm_collect.proofs.writers.Writer.show.Goals as goal

module _ (x y : ExerciseView) (es : List Entry) (u v w : JointView) (o p q : Outlet) (same : y ≡ x) (so_far : Shows x es u v o p) where
  go_on : Shows y es v w p q → Shows x es u w o q
  go_on next = Shows-join x es u v w o p q so_far (subst (λ (z : ExerciseView). Shows z es v w p q) same next)

  stop_by : (s : Stop) → StopsBy y es v w p q s → StopsBy x es u w o q s
  stop_by s next = StopsBy-join x es u v w o p q s so_far (subst (λ (z : ExerciseView). StopsBy z es v w p q s) same next)

pub loop-self-preserved : goal.loop-self-preserved
loop-self-preserved g c =
    let old = c.loop-self.invariant in
    let same : c.loop-self.self.exercise.now ≡ c.args.self.now.exercise.now = let kept = old.exercise in cc in
    record {
      exercise = c.show_next.ensures.exercise ∙ old.exercise;
      shows = go_on _ _ _ _ _ _ _ _ _ same old.shows c.in_default.ensures.shows;
      rises = omega (arith, old.rises, c.show_next.ensures.never_falls);
      later = omega (arith, old.later, c.show_next.ensures.later);
      watched = told-more _ _ _ c.args.shown.now _ _ _ old.later c.show_next.ensures.later old.watched c.show_next.ensures.watched;
    }

pub returns-in-Err-clause-stops : goal.returns-in-Err-clause-stops
returns-in-Err-clause-stops g c =
    let old = c.loop-self.invariant in
    let same : c.loop-self.self.exercise.now ≡ c.args.self.now.exercise.now = let kept = old.exercise in cc in
    stop_by _ _ _ _ _ _ _ _ _ same old.shows c.in-Err.stop c.in-Err.ensures.stops

pub returns-in-Err-clause-watched : goal.returns-in-Err-clause-watched
returns-in-Err-clause-watched g c =
    let old = c.loop-self.invariant in
    told-more _ _ _ c.args.shown.now _ _ _ old.later c.show_next.ensures.later old.watched c.in-Err.ensures.watched
