use Rattle.std.proofs.Common.{◌≡◌, ◌-◌, ◌≤◌, length, map}
use Rattle.tm_watch.specs.Watchers.{told_all}
use Rattle.tm_collect.specs.Advancing.{Shows}
use Rattle.tm_collect.specs.Watching.{newly}
use Rattle.tm_collect.proofs.writers.Writer.show.Given as goal

-- The exercise is the same; since the loop began events were shown, the count of faults hasn't fallen, and watchers
-- were told of just those events.
abbrev pub invariant-loop-self : goal.invariant-loop-self
invariant-loop-self g l = record {
  exercise : l.self.exercise ≡ l.initial.self.exercise;
  shows : Shows l.initial.self.exercise.now l.shown l.initial.self.joint l.self.joint
      (record { failed = l.initial.self.write_fault; faults = g.K.Sink.fault_count l.initial.sink; written = g.K.Sink.written l.initial.sink })
      (record { failed = l.self.write_fault; faults = g.K.Sink.fault_count l.sink; written = g.K.Sink.written l.sink });
  rises : g.K.Sink.fault_count l.initial.sink ≤ g.K.Sink.fault_count l.sink;
  later : l.initial.self.joint.applied ≤ l.self.joint.applied;
  watched : map (λ b. (goal.Watcher-dyn g (b.vtable, b.value)).watch b.value) l.watchers.items
      ≡ told_all (map (λ b. (goal.Watcher-dyn g (b.vtable, b.value)).watch b.value) l.initial.watchers.items) (newly l.shown l.initial.self.joint.applied l.self.joint.applied);
}

abbrev pub decreases-loop-self : goal.decreases-loop-self
decreases-loop-self g l = length l.shown - l.self.joint.applied
