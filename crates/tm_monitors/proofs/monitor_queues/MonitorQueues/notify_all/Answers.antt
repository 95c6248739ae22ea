use Rattle.std.proofs.Common.{◌≡◌, ◌++◌, [], ◌∙◌, ap, sym, length-set, slice_set, append-nil}
use Rattle.tm_monitors.specs.MonitorQueues.{behind_first, waiting_at}
use Rattle.tm_monitors.proofs.MonitorQueuesLemmas.{notified-more, set-again, waiting-at, waiting-set, same-queues}
use Rattle.tm_monitors.proofs.monitor_queues.MonitorQueues.notify_all.Goals as goal

pub loop-thread-preserved : goal.loop-thread-preserved
loop-thread-preserved c =
    let v = c.loop-thread.self in
    let i = c.loop-thread.invariant in
    let e = c.in-Some.ensures in
    let condition = c.args.condition in
    let behind = behind_first v.conditions condition in
    let rest : waiting_at (slice_set v.conditions condition behind) condition ≡ behind = waiting-set v.conditions condition behind i.there in
    let moved = notified-more v.entrance v.conditions condition c.in-Some.thread i.there e.first in
    rw (c.enter.ensures, e.left) (record {
      moved = moved ∙ i.moved;
      threads = i.threads;
      conditions = rw rest (ap (λ qs. slice_set qs condition behind) i.conditions ∙ set-again c.args.self.now.conditions condition (waiting_at v.conditions condition) behind);
      there = rw (length-set v.conditions condition behind) i.there;
    })

pub returns : goal.returns
returns c =
    let v = c.loop-thread.self in
    let i = c.loop-thread.invariant in
    let none : waiting_at v.conditions c.args.condition ≡ [] = waiting-at v.conditions c.args.condition [] c.in_default.ensures.first in
    let entrance : v.entrance ≡ v.entrance ++ waiting_at v.conditions c.args.condition = rw none (sym (append-nil v.entrance)) in
    rw c.in_default.ensures.left (same-queues _ _ i.threads (entrance ∙ i.moved) (rw none at i.conditions))
