use Rattle.std.proofs.Common.{get_or, drop, ◌≡◌, ◌<◌, suc, [], ◌∙◌, ap, arith, length, add-one}
use Rattle.tm_base.specs.States.{all_of}
use Rattle.tm_monitors.specs.MonitorQueues.{QueuesView}
use Rattle.tm_monitors.proofs.MonitorQueuesLemmas.{grant_all-append, emptied-next, emptied-more, emptied-all, all_of-drop, same-queues}
use Rattle.tm_monitors.proofs.monitor_queues.MonitorQueues.grant_conditions.Goals as goal

pub loop-condition-preserved : goal.loop-condition-preserved
loop-condition-preserved c =
    let all = c.args.self.now.conditions in
    let n = c.loop-condition.condition in
    let i = c.loop-condition.invariant in
    let g = c.grant_condition.ensures in
    let there : n < length all = omega arith in
    let next = emptied-next all n there in
    let more = emptied-more all n there in
    let part = all_of-drop all n there in
    let granted = grant_all-append (get_or all n []) (all_of (drop (suc n) all)) c.args.reply c.loop-condition.grants in
    rw add-one (record {
      granted = cc;
      threads = ap (λ (v : QueuesView). v.threads) g.emptied ∙ i.threads;
      entrance = ap (λ (v : QueuesView). v.entrance) g.emptied ∙ i.entrance;
      conditions = ap (λ (v : QueuesView). v.conditions) g.emptied ∙ rw i.conditions more;
      places = g.places ∙ i.places;
      room = rw (g.places, g.emptied) i.room;
    })

pub returns-clause-emptied : goal.returns-clause-emptied
returns-clause-emptied c =
    let i = c.loop-condition.invariant in
    let all = c.args.self.now.conditions in
    let done : c.loop-condition.condition ≡ length all = omega arith in
    same-queues _ _ i.threads i.entrance (i.conditions ∙ rw done (emptied-all all))
