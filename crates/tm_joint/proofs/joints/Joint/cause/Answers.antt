use Rattle.std.proofs.Common.{◌≤◌, arith, ◌≡◌, ◌<◌, length, Some, slice_get, refl, sym, subst}
use Rattle.std.proofs.lemmas.Option.{slice_get_read}
use Rattle.tm_joint.specs.declared.refusals.Cause.{Cause}
use Rattle.tm_joint.specs.declared.refusals.Cause.TheVariants as cause
use Rattle.tm_joint.specs.Joints.{JointView}
use Rattle.tm_joint.specs.Refusals.{IsCause, IsLegal, Refuses}
use Rattle.tm_joint.specs.StoredJoints.{state_of}
use Rattle.tm_joint.proofs.Judgements.{can_answer, main-zero, pending-here, sound-view}
use Rattle.tm_joint.proofs.joints.Joint.cause.Goals as goal
use Rattle.tm_joint.proofs.joints.Joint.cause.Goals.{After-index-object}

module _ (c : After-index-object) where
  seat : slice_get c.self.inside.seats.items c.args.entry.now.thread ≡ Some c.index-seat.result.now
  seat =
      let items = c.self.inside.seats.items in
      slice_get_read items (length items) c.args.entry.now.thread c.index-seat.result.now refl
      (omega (arith, subst (λ (v : JointView). c.args.entry.now.thread ≤ length v.exercise.programs) (sym c.self.view_is) c.requires.thread, c.self.invariant.kept.sound.thread_count)) c.index-seat.ensures

  object : slice_get c.self.inside.objects.items c.args.entry.now.object ≡ Some c.index-object.result.now
  object =
      let items = c.self.inside.objects.items in
      slice_get_read items (length items) c.args.entry.now.object c.index-object.result.now refl
      (omega (arith, subst (λ (v : JointView). c.args.entry.now.object < length v.exercise.objects) (sym c.self.view_is) c.requires.object, c.self.invariant.kept.sound.object_count)) c.index-object.ensures

  refuses : (k : Cause) → IsCause c.self.inside.exercise.now c.index-seat.result.now c.index-object.result.now c.args.entry.now k
      → Refuses c.args.self.now.exercise c.args.self.now.state c.args.entry.now k
  refuses k first =
      subst (λ (v : JointView). Refuses v.exercise v.state c.args.entry.now k) c.self.view_is
      (record { thread_state = c.index-seat.result.now; thread = seat; object_state = c.index-object.result.now; object = object; first = first })

pub returns-in-Some-clause-refused : goal.returns-in-Some-clause-refused
returns-in-Some-clause-refused c = refuses (goal.at.returns-in-Some-clause-refused c).After-index-object c.in-Some.cause (c.in-Some.ensures.cause c.self.inside.exercise.now)

pub waiting-requires : goal.waiting-requires
waiting-requires c =
    let d = (goal.at.waiting-requires c).After-index-object in
    let i = c.self.inside in
    let e = c.args.entry.now in
    record { pending = pending-here i.exercise.now (state_of i) c.self.invariant.kept.formed c.self.invariant.kept.sound e.thread c.index-seat.result.now (seat d) e.object c.index-object.result.now (object d) }

pub returns-in-Some-waiting-clause-refused : goal.returns-in-Some-waiting-clause-refused
returns-in-Some-waiting-clause-refused c =
    refuses (goal.at.returns-in-Some-waiting-clause-refused c).After-index-object (cause.Waiting c.in-Some-waiting.at)
    (c.in_default.ensures.none, c.in-Some-waiting.ensures.waits.0, c.in-Some-waiting.ensures.waits.1)

pub unasked-requires-clause-main : goal.unasked-requires-clause-main
unasked-requires-clause-main c =
    let d = (goal.at.unasked-requires-clause-main c).After-index-object in
    let i = c.self.inside in
    main-zero i.exercise.now (state_of i) c.self.invariant.kept.formed c.self.invariant.kept.sound c.args.entry.now.thread c.index-seat.result.now (seat d)

pub returns-in-Some-unasked-clause-refused : goal.returns-in-Some-unasked-clause-refused
returns-in-Some-unasked-clause-refused c =
    refuses (goal.at.returns-in-Some-unasked-clause-refused c).After-index-object (cause.NotAsked c.in-Some-unasked.asked)
    (c.in_default.ensures.none, c.in-Some-unasked.ensures.asked.0, c.in-Some-unasked.ensures.asked.1)

pub returns-then-stops_again-clause-refused : goal.returns-then-stops_again-clause-refused
returns-then-stops_again-clause-refused c =
    refuses (goal.at.returns-then-stops_again-clause-refused c).After-index-object cause.StoppedAlready
    (record { timely = c.in_default.ensures.none; may = c.in_default-unasked.ensures.none }, c.if-stops_again.ensures.0, c.if-stops_again.ensures.1)

pub other_reply-requires-clause-can : goal.other_reply-requires-clause-can
other_reply-requires-clause-can c =
    let d = (goal.at.other_reply-requires-clause-can c).After-index-object in
    let i = c.self.inside in
    let e = c.args.entry.now in
    can_answer i.exercise.now (state_of i) c.self.invariant.kept.formed c.self.invariant.kept.sound e.thread c.index-seat.result.now (seat d) e.object c.index-object.result.now (object d)
    e refl refl c.in_default.ensures.none.in_place.goes_on c.in_default-waiting.ensures.none c.in_default-unasked.ensures.none c.if-stops_again.ensures

pub other_reply-requires-clause-sound : goal.other_reply-requires-clause-sound
other_reply-requires-clause-sound c =
    let d = (goal.at.other_reply-requires-clause-sound c).After-index-object in
    let i = c.self.inside in
    let e = c.args.entry.now in
    sound-view i.exercise.now (state_of i) c.self.invariant.kept.formed c.self.invariant.kept.sound e.thread c.index-seat.result.now (seat d) e.object c.index-object.result.now (object d)

pub returns-in-Some-other_reply-clause-refused : goal.returns-in-Some-other_reply-clause-refused
returns-in-Some-other_reply-clause-refused c =
    refuses (goal.at.returns-in-Some-other_reply-clause-refused c).After-index-object (cause.Reply c.in-Some-other_reply.reply)
    (record { timely = c.in_default.ensures.none; may = c.in_default-unasked.ensures.none }, c.in-Some-other_reply.ensures.reply.0, c.in-Some-other_reply.ensures.reply.1)

pub returns-in-None-clause-legal : goal.returns-in-None-clause-legal
returns-in-None-clause-legal c =
    let d = (goal.at.returns-in-None-clause-legal c).After-index-object in
    subst (λ (v : JointView). IsLegal v.exercise v.state c.args.entry.now) c.self.view_is
    (record {
      thread_state = c.index-seat.result.now;
      thread = seat d;
      object_state = c.index-object.result.now;
      object = object d;
      allowed = record { timely = c.in_default.ensures.none; may = c.in_default-unasked.ensures.none };
      answer = c.in-None.ensures.none;
    })
