use Rattle.std.proofs.Common.{◌≡◌, ◌+◌, ◌<◌, List, [], ◌∷◌, ◌++◌, Option, None, take, length, get_or, sym, ap, ◌∙◌, subst, arith}
use Rattle.std.proofs.lemmas.List.{take_more}
use Rattle.tm_base.specs.declared.events.Entry.{Entry}
use Rattle.tm_merge.specs.HeldOrder.{nearer, IsLeastAfter}
use Rattle.tm_merge.specs.StoredArrivals.{occupants}
use Rattle.tm_merge.proofs.HeldOrderLemmas.{least-more}
use Rattle.tm_merge.proofs.arrivals.Arrivals.next_held.Goals as goal

pub loop-slot-preserved : goal.loop-slot-preserved
loop-slot-preserved c =
    let a = c.args.self.now in
    let i = c.loop-slot.slot-index in
    let slots : c.deref-slot-items.result.now ≡ a.slots.items = c.deref-slot-items.ensures.value in
    let candidate : c.nearer-best.result ≡ nearer c.args.current c.loop-slot.best (get_or a.slots.items i None) = c.nearer-best.ensures ∙ ap (λ ss. nearer c.args.current c.loop-slot.best (get_or ss i None)) slots in
    let within : i < length a.slots.items = omega (arith, c.loop-slot-test.true, ap length slots) in
    let more = least-more c.args.current (take i a.slots.items) c.loop-slot.best (get_or a.slots.items i None) c.loop-slot.invariant in
    let prefix : take (i + 1) a.slots.items ≡ take i a.slots.items ++ get_or a.slots.items i None ∷ [] = take_more a.slots.items i None within in
    subst (IsLeastAfter c.args.current (occupants (take (i + 1) a.slots.items))) (sym candidate)
    (subst (λ (ss : List (Option Entry)). IsLeastAfter c.args.current (occupants ss) (nearer c.args.current c.loop-slot.best (get_or a.slots.items i None))) (sym prefix) more)
