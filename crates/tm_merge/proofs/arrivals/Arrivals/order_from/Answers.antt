use Rattle.std.proofs.Common.{refl, sym, subst, arith}
use Rattle.std.specs.Vec.{with_items}
use Rattle.std.proofs.lemmas.List.{with_items_is}
use Rattle.tm_merge.specs.declared.arrivals.Arrivals.{Arrivals}
use Rattle.tm_merge.specs.Rising.{IsSortedFrom}
use Rattle.tm_merge.proofs.OrderedLemmas.{keeps-ordered}
use Rattle.tm_merge.proofs.arrivals.Arrivals.order_from.Goals as goal

pub returns-clause-all : goal.returns-clause-all
returns-clause-all c =
    let a = c.args.self.now in
    let b : Arrivals = record {
      threads = a.threads;
      objects = a.objects;
      shown = with_items a.shown c.sort_from.new.events;
      slots = a.slots;
      held = a.held;
      ready = a.ready;
    } in
    let whole = with_items_is a.shown c.sort_from.new.events (omega (arith, c.as_mut_slice.ensures.len)) in
    let sorted = subst (λ es. IsSortedFrom c.args.from es c.sort_from.new.events) c.as_mut_slice.ensures.value c.sort_from.ensures in
    let sorted_here = subst (IsSortedFrom c.args.from a.shown.items) (sym whole) sorted in
    keeps-ordered a b c.args.from c.requires.all c.requires.settled sorted_here refl refl refl refl refl refl
