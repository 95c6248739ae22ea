use Rattle.std.proofs.Common.{◌≡◌, ℕ, true, false, Option, Some, None, refl, arith}
use Rattle.std.specs.Prelude.{MatchOption, is_some}
use Rattle.tm_merge.specs.declared.arrivals.Arrivals.{Arrivals}
use Rattle.tm_merge.specs.declared.arrivals.showing.Candidate.{Candidate}
use Rattle.tm_merge.specs.Candidates.{IsReadyIn, NoneReadyIn}
use Rattle.tm_merge.proofs.ReadyThreadsLemmas.{lists-without, only-without, only-still}
use Rattle.tm_merge.proofs.arrivals.Arrivals.unlist_if_not_ready.Goals as goal

none_ready : (a : Arrivals) (t : ℕ) (r : Option Candidate) → is_some r ≡ false → MatchOption r (NoneReadyIn a t) (λ c. IsReadyIn a t c) → NoneReadyIn a t
none_ready a t None h none = none
none_ready a t (Some c) h found = absurd cc

pub returns-then-is_none-clause-lists : goal.returns-then-is_none-clause-lists
returns-then-is_none-clause-lists c =
    let a = c.args.self.now in
    let some : is_some c.ready_in.result ≡ false = let e = c.is_none.ensures in let t = c.if-is_none.true in grind arith in
    let none = none_ready a c.args.thread c.ready_in.result some c.ready_in.ensures in
    lists-without a (record a { ready = c.unlist_thread.new.threads }) c.args.thread c.requires.lists none refl refl c.unlist_thread.ensures.items c.unlist_thread.ensures.capacity

pub returns-then-is_none-clause-only : goal.returns-then-is_none-clause-only
returns-then-is_none-clause-only c =
    let a = c.args.self.now in
    only-without a (record a { ready = c.unlist_thread.new.threads }) c.args.thread c.ready_in.result c.ready_in.ensures refl c.unlist_thread.ensures.items c.requires.only

pub returns-else-is_none-clause-only : goal.returns-else-is_none-clause-only
returns-else-is_none-clause-only c =
    let a = c.args.self.now in
    let some : is_some c.ready_in.result ≡ true = let e = c.is_none.ensures in let t = c.if-is_none.false in grind arith in
    only-still a a c.args.thread c.ready_in.result c.ready_in.ensures refl some refl c.requires.only
