use Rattle.std.proofs.Common.{◌≡◌, ◌<◌, ◌^◌, List, length, length-set, Some, slice_get, slice_set, refl, ap, sym, ◌∙◌, subst, arith}
use Rattle.std.proofs.lemmas.Option.{slice_get_read, slice_get_within}
use Rattle.tm_base.specs.Machines.{ObjectView}
use Rattle.tm_base.specs.States.{queued}
use Rattle.tm_laws.specs.Tidy.{IsSound}
use Rattle.tm_laws.proofs.LawfulMoves.{Lawful-moves}
use Rattle.tm_replay.specs.JointStates.{JointState, ObjectState, ThreadState}
use Rattle.tm_replay.specs.JointSteps.{JointStep}
use Rattle.tm_joint.specs.Joints.{JointView}
use Rattle.tm_replay.proofs.SliceLemmas.{slice_get-set_same}
use Rattle.tm_joint.specs.Refusals.{IsLegal}
use Rattle.tm_joint.specs.Showing.{Shows}
use Rattle.tm_joint.specs.StoredJoints.{joint_view, state_of}
use Rattle.tm_joint.proofs.Answering.{Lawful-can}
use Rattle.tm_joint.proofs.Granted.{names-known, waiters-few}
use Rattle.tm_joint.proofs.Showings.{Shows-after, length-bars}
use Rattle.tm_joint.proofs.Performing.{IsKept-step, allowed-here, answer-here, performs}
use Rattle.tm_joint.proofs.joints.Joint.perform.Goals as goal
use Rattle.tm_joint.proofs.joints.Joint.perform.Goals.{After-index_mut, After-index_mut-object, After-go_on}

module _ (c : After-index_mut-object) where
  legal : IsLegal c.self.inside.exercise.now (state_of c.self.inside) c.args.entry.now
  legal = subst (λ (v : JointView). IsLegal v.exercise v.state c.args.entry.now) (sym c.self.view_is) c.requires.legal

  object : slice_get c.self.inside.objects.items c.args.entry.now.object ≡ Some c.index_mut-object.result.now
  object =
      let items = c.self.inside.objects.items in
      slice_get_read items (length items) c.args.entry.now.object c.index_mut-object.result.now refl
      (slice_get_within items c.args.entry.now.object legal.object_state legal.object) c.index_mut-object.ensures.value

pub enter-requires : goal.enter-requires
enter-requires c =
    let d = (goal.at.enter-requires c).After-index_mut-object in
    let l = legal d in
    let e = c.args.entry.now in
    let x = c.self.inside.exercise.now in
    let answer = answer-here x (state_of c.self.inside) e l l.thread_state c.index_mut-object.result.now l.thread (object d) in
    record { can = Lawful-can c.index_mut-object.result.now.view e.thread e.op e.reply answer.state answer.lawful; answer = answer }

seat : (c : After-index_mut) → IsLegal c.self.inside.exercise.now (state_of c.self.inside) c.args.entry.now → slice_get c.self.inside.seats.items c.args.entry.now.thread ≡ Some c.index_mut.result.now
seat c legal =
    let items = c.self.inside.seats.items in
    slice_get_read items (length items) c.args.entry.now.thread c.index_mut.result.now refl
    (slice_get_within items c.args.entry.now.thread legal.thread_state legal.thread) c.index_mut.ensures.value

pub go_on-requires : goal.go_on-requires
go_on-requires c =
    let d = (goal.at.go_on-requires c).After-index_mut-object in
    let l = legal d in
    let e = c.args.entry.now in
    let there = seat (goal.at.go_on-requires c).After-index_mut l in
    let s = c.index_mut.result.now in
    let may = allowed-here c.self.inside.exercise.now (state_of c.self.inside) e l s c.index_mut-object.result.now there (object d) in
    let counts = c.self.invariant.kept.counted.threads e.thread s there in
    record {
      place = omega (arith, may.timely.in_place.place, counts.0, c.self.invariant.kept.few);
      made = omega (arith, counts.2, c.self.invariant.kept.few);
    }

-- the stored state makes a joint step
abbrev next : (c : After-go_on) → JointState
next c = record {
  objects = slice_set c.self.inside.objects.items c.args.entry.now.object c.enter.new.self;
  threads = slice_set c.self.inside.seats.items c.args.entry.now.thread c.go_on.new.self;
}

step : (c : After-go_on) → IsLegal c.self.inside.exercise.now (state_of c.self.inside) c.args.entry.now
    → slice_get c.self.inside.seats.items c.args.entry.now.thread ≡ Some c.index_mut.result.now
    → slice_get c.self.inside.objects.items c.args.entry.now.object ≡ Some c.index_mut-object.result.now
    → JointStep c.self.inside.exercise.now (state_of c.self.inside) c.args.entry.now (next c)
step c legal thread object =
    performs c.self.inside.exercise.now (state_of c.self.inside) c.args.entry.now legal c.index_mut.result.now c.index_mut-object.result.now thread object
    c.go_on.new.self c.enter.new.self c.go_on.ensures c.enter.ensures

pub show-requires-clause-sound : goal.show-requires-clause-sound
show-requires-clause-sound c =
    let d = (goal.at.show-requires-clause-sound c).After-index_mut-object in
    let e = c.args.entry.now in
    let b = c.index_mut-object.result.now in
    let placed = c.self.invariant.kept.sound.objects e.object b (object d) in
    let moves = Lawful-moves b.view e.thread e.op e.reply c.enter.ensures.0 placed.sound c.enter.ensures.1 in
    subst (λ (o : ObjectState). IsSound o.view) (sym c.enter.ensures.2) moves.sound

pub show-requires-clause-count : goal.show-requires-clause-count
show-requires-clause-count c =
    let i = c.self.inside in
    omega (
      arith,
      ap length c.as_slice.ensures.value,
      length-set i.seats.items c.args.entry.now.thread c.go_on.new.self,
      ap length c.self.invariant.bars,
      length-bars (state_of i),
      c.self.invariant.kept.sound.thread_count,
    )

pub show-requires-clause-known : goal.show-requires-clause-known
show-requires-clause-known c =
    let i = c.self.inside in
    let l = legal (goal.at.show-requires-clause-known c).After-index_mut-object in
    omega (
      arith,
      ap length c.as_slice.ensures.value,
      length-set i.seats.items c.args.entry.now.thread c.go_on.new.self,
      slice_get_within i.seats.items c.args.entry.now.thread l.thread_state l.thread,
    )

-- how many calls waited before
waited : (c : After-go_on) → c.waiters-before.result ≡ length (queued c.index_mut-object.result.now.view.state.kind_state)
waited c = c.waiters-before.ensures ∙ ap (λ (h : ObjectView). length (queued h.state.kind_state)) c.machine.ensures

pub show-requires-clause-few : goal.show-requires-clause-few
show-requires-clause-few c =
    let d = (goal.at.show-requires-clause-few c).After-index_mut-object in
    let b = c.index_mut-object.result.now in
    let placed = c.self.invariant.kept.sound.objects c.args.entry.now.object b (object d) in
    omega (arith, waited (goal.at.show-requires-clause-few c).After-go_on, waiters-few b.view placed.sound, placed.threads, c.self.invariant.kept.formed.few_threads)

pub show-requires-clause-named : goal.show-requires-clause-named
show-requires-clause-named c =
    let d = (goal.at.show-requires-clause-named c).After-index_mut-object in
    let i = c.self.inside in
    let e = c.args.entry.now in
    let b = c.index_mut-object.result.now in
    let placed = c.self.invariant.kept.sound.objects e.object b (object d) in
    names-known b.view e.thread e.op e.reply c.enter.ensures.0 _ placed.sound c.enter.ensures.1
    (omega (arith, ap length c.as_slice.ensures.value, length-set i.seats.items e.thread c.go_on.new.self, c.self.invariant.kept.sound.thread_count, placed.threads))

pub returns-clause-step : goal.returns-clause-step
returns-clause-step c =
    let d = (goal.at.returns-clause-step c).After-index_mut-object in
    let l = legal d in
    let f = (goal.at.returns-clause-step c).After-go_on in
    let k = next f in
    subst (λ (v : JointView). JointStep v.exercise v.state c.args.entry.now k) c.self.view_is
    (step f l (seat (goal.at.returns-clause-step c).After-index_mut l) (object d))

pub invariant_of-self : goal.invariant_of-self
invariant_of-self c =
    let d = (goal.at.invariant_of-self c).After-index_mut-object in
    let l = legal d in
    let f = (goal.at.invariant_of-self c).After-go_on in
    let i = c.self.inside in
    let e = c.args.entry.now in
    let goes = step f l (seat (goal.at.invariant_of-self c).After-index_mut l) (object d) in
    record {
      kept = IsKept-step (joint_view i) e _ _ _ c.self.invariant.kept
          (subst (λ (v : JointView). v.applied < 2 ^ 62) (sym c.self.view_is) c.requires.few) goes refl c.max-self-inside.ensures;
      bars = Shows-after i.exercise.now (state_of i) (next f) e c.self.invariant.kept.sound goes c.index_mut-object.result.now c.enter.new.self (object d)
          (slice_get-set_same i.objects.items e.object c.enter.new.self (slice_get_within i.objects.items e.object c.index_mut-object.result.now (object d)))
          c.waiters-before.result (waited f) i.bars c.show.new.bars c.self.invariant.bars
          (subst (λ (threads : List ThreadState). Shows threads c.enter.new.self e c.waiters-before.result i.bars c.show.new.bars) c.as_slice.ensures.value c.show.ensures);
    }
