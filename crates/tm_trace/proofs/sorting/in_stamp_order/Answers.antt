use Rattle.std.proofs.Common.{◌≡◌, ℕ, rules}
use Rattle.std.proofs.lemmas.List.Sorted.{answers_always}
use Rattle.tm_base.specs.declared.events.Entry.{Entry}
use Rattle.tm_merge.proofs.RisingLemmas.{rising_from_sorted}
use Rattle.tm_trace.proofs.StampSortLemmas.{rising-order}
use Rattle.tm_trace.proofs.sorting.in_stamp_order.Goals as goal

pub returns-clause-by_stamp : goal.returns-clause-by_stamp
returns-clause-by_stamp c =
    let key : Entry → ℕ × ℕ = λ e. (e.stamp, e.thread) in
    let order = c.sort_by_key.new.self.items in
    rising-order order (rising_from_sorted order (c.in_ok-sort_by_key.ensures.sorted key (answers_always _ (λ a r. r ≡ key a.0.now) _ (λ f a r g called. search rules))))
