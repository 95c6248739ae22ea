use Rattle.std.proofs.Common.{◌≡◌, ◌<◌, ℕ, inl, inr, Some, slice_get, get_or, length, arith}
use Rattle.std.proofs.lemmas.Option.{slice_get_read}
use Rattle.tm_base.specs.Orders.{IsNotLater}
use Rattle.tm_merge.specs.declared.arrivals.Arrivals.{Arrivals}
use Rattle.tm_merge.proofs.ListingLemmas.{listed_at}
use Rattle.tm_merge.proofs.ReadyThreadsLemmas.{better-none, better-first, better-new, better-old}
use Rattle.tm_merge.proofs.arrivals.Arrivals.better.Goals as goal
use Rattle.tm_merge.proofs.arrivals.Arrivals.better.Goals.{else-next-other-2-via-then-next-other-2+else-next-other-3, else-next-other-2-via-else-next-other-2}

here : (a : Arrivals) (n x : ℕ) → n < length a.ready.items → x ≡ get_or a.ready.items n x → slice_get a.ready.items n ≡ Some x
here a n x known is = slice_get_read a.ready.items _ n x a.ready.ok.0 (omega (arith, a.ready.ok.0, known)) is

pub ready_in-requires-clause-known : goal.ready_in-requires-clause-known
ready_in-requires-clause-known c =
    let a = c.args.self.now in
    c.requires.all.lists.known c.index.result.now (listed_at a.ready.items c.args.index c.index.result.now (here c.args.self.now c.args.index c.index.result.now c.requires.known c.index.ensures))

pub returns-in_default : goal.returns-in_default
returns-in_default c = better-none c.args.self.now c.args.index c.index.result.now (here c.args.self.now c.args.index c.index.result.now c.requires.known c.index.ensures) c.args.best c.in_default.ensures c.requires.best

pub returns-in_default-best : goal.returns-in_default-best
returns-in_default-best c = better-first c.args.self.now c.args.index c.index.result.now (here c.args.self.now c.args.index c.index.result.now c.requires.known c.index.ensures) c.in-Some.next c.in-Some.ensures (rw c.in_default-best.is at c.requires.best)

pub returns-then-next-other : goal.returns-then-next-other
returns-then-next-other c =
    better-new c.args.self.now c.args.index c.index.result.now (here c.args.self.now c.args.index c.index.result.now c.requires.known c.index.ensures) c.in-Some.next c.in-Some.ensures c.in-Some-best.other (rw c.in-Some-best.is at c.requires.best) (inl c.if-next-other.true)

pub returns-then-next-other-3 : goal.returns-then-next-other-3
returns-then-next-other-3 c =
    better-new c.args.self.now c.args.index c.index.result.now (here c.args.self.now c.args.index c.index.result.now c.requires.known c.index.ensures) c.in-Some.next c.in-Some.ensures c.in-Some-best.other (rw c.in-Some-best.is at c.requires.best)
    (inr (omega (arith, c.if-next-other-2.true), omega (arith, c.if-next-other-3.true)))

pub returns : goal.returns
returns c =
    let sooner : IsNotLater c.in-Some-best.other.entry c.in-Some.next.entry =
    elim c.else-next-other-2.branch [
      | else-next-other-2-via-then-next-other-2+else-next-other-3 w ↦ inr (omega (arith, w.if-next-other-2.true), omega (arith, w.if-next-other-3.false))
      | else-next-other-2-via-else-next-other-2 w ↦ inl (omega (arith, c.if-next-other.false, w.if-next-other-2.false))
    ] in
    better-old c.args.self.now c.args.index c.index.result.now (here c.args.self.now c.args.index c.index.result.now c.requires.known c.index.ensures) c.in-Some.next c.in-Some.ensures c.in-Some-best.other (rw c.in-Some-best.is at c.requires.best) sooner
