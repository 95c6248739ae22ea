use Rattle.std.proofs.Common.{◌≡◌, ℕ, rules}
use Rattle.std.proofs.lemmas.List.Sorted.{answers_always}
use Rattle.tm_base.specs.declared.events.Entry.{Entry}
use Rattle.tm_merge.proofs.RisingLemmas.{rising_from_sorted}
use Rattle.tm_merge.proofs.arrivals.ordering.sort.Goals as goal

pub returns : goal.returns
returns c =
    let key : Entry → ℕ × ℕ = λ e. (e.stamp, e.thread) in
    record {
      same = c.sort_unstable_by_key.ensures.permutation;
      rising = rising_from_sorted c.sort_unstable_by_key.new.self (c.sort_unstable_by_key.ensures.sorted key (answers_always _ (λ a r. r ≡ key a.0.now) _ (λ f a r g called. search rules)));
    }
