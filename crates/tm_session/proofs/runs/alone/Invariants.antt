use Rattle.std.proofs.Common.{◌≡◌, ◌≤◌, false, map}
use Rattle.tm_replay.specs.Work.{work}
use Rattle.tm_watch.specs.Watchers.{told_all}
use Rattle.tm_collect.specs.Collectors.{shown_of}
use Rattle.tm_session.specs.AloneRuns.{IsUnderWay, HasSent}
use Rattle.tm_session.specs.Turns.{rules_of}
use Rattle.tm_session.proofs.runs.alone.Given as goal

abbrev pub invariant-loop-run : goal.invariant-loop-run
invariant-loop-run g l = record {
  under_way : IsUnderWay l.exercise (rules_of l.schedule l.limit) l.run;
  sent : HasSent l.exercise l.run.collector
      (record { failed = false; faults = g.K.Sink.fault_count l.initial.sink; written = g.K.Sink.written l.initial.sink })
      (record { failed = l.run.collector.write_fault; faults = g.K.Sink.fault_count l.sink; written = g.K.Sink.written l.sink });
  watched : map (λ b. (goal.Watcher-dyn g (b.vtable, b.value)).watch b.value) l.watchers.items
      ≡ told_all (map (λ b. (goal.Watcher-dyn g (b.vtable, b.value)).watch b.value) l.initial.watchers.items) (shown_of l.run.collector);
  rises : g.K.Sink.fault_count l.initial.sink ≤ g.K.Sink.fault_count l.sink;
}

abbrev pub decreases-loop-run : goal.decreases-loop-run
decreases-loop-run g l = work l.limit l.run.collector.joint.state
