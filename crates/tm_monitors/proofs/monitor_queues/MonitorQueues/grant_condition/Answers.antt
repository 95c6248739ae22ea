use Rattle.std.proofs.Common.{◌≡◌, ◌∷◌, ◌∙◌, ap, length-set, slice_set, Some}
use Rattle.tm_monitors.specs.MonitorQueues.{QueuesView, behind_first, waiting_at}
use Rattle.tm_monitors.proofs.MonitorQueuesLemmas.{set-again, waiting-at, waiting-set, same-queues}
use Rattle.tm_monitors.proofs.monitor_queues.MonitorQueues.grant_condition.Goals as goal

pub loop-thread-preserved : goal.loop-thread-preserved
loop-thread-preserved c =
    let v = c.loop-thread.self in
    let i = c.loop-thread.invariant in
    let e = c.in-Some.ensures in
    let condition = c.args.condition in
    let behind = behind_first v.conditions condition in
    let all : waiting_at v.conditions condition ≡ c.in-Some.thread ∷ behind = waiting-at v.conditions condition _ e.first in
    let rest : waiting_at (slice_set v.conditions condition behind) condition ≡ behind = waiting-set v.conditions condition behind i.there in
    let granted = rw all at i.granted in
    rw (e.left, c.grant.ensures, rest) (record {
      granted = granted;
      self = same-queues _ _ (ap (λ (v : QueuesView). v.threads) i.self) (ap (λ (v : QueuesView). v.entrance) i.self)
          (ap (λ (v : QueuesView). slice_set v.conditions condition behind) i.self ∙ set-again c.args.self.now.conditions condition (waiting_at v.conditions condition) behind);
      places = length-set c.loop-thread.grants c.in-Some.thread (Some c.args.reply) ∙ i.places;
      room = rw (length-set c.loop-thread.grants c.in-Some.thread (Some c.args.reply)) i.room;
      there = rw (length-set v.conditions condition behind) i.there;
    })
