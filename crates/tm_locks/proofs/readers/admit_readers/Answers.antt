-- The oldest thread goes in, and is granted its reply.
use Rattle.std.proofs.Common.{◌≡◌, ◌∷◌, [], ◌++◌, ◌∙◌, ℕ, List, Some, length, ap, subst, sym, arith}
use Rattle.std.proofs.Math.ListN.{length-set}
use Rattle.tm_base.specs.declared.replies.Reply.TheVariants as reply
use Rattle.tm_base.specs.States.{grant_all}
use Rattle.tm_base.specs.ReaderWriter.{first_readers}
use Rattle.tm_queues.specs.WaitQueues.{IsQueue}
use Rattle.tm_queues.specs.ValuedQueues.{queued_threads}
use Rattle.tm_locks.proofs.ReadersLemmas.{admitted-inside, admitted-left, admitted-granted, admitted-first, admitted-once}
use Rattle.tm_locks.proofs.readers.admit_readers.Goals as goal

pub push-requires-clause-known : goal.push-requires-clause-known
push-requires-clause-known c =
    (admitted-first c.in-Some.thread c.loop-thread.queue.queue c.next_reader.new.queue.queue c.in-Some.ensures.oldest c.loop-thread.readers.threads c.loop-thread.readers.queue c.loop-thread.invariant.once).0

pub push-requires-clause-new : goal.push-requires-clause-new
push-requires-clause-new c =
    (admitted-first c.in-Some.thread c.loop-thread.queue.queue c.next_reader.new.queue.queue c.in-Some.ensures.oldest c.loop-thread.readers.threads c.loop-thread.readers.queue c.loop-thread.invariant.once).1

pub grant-requires : goal.grant-requires
grant-requires c =
    let first = admitted-first c.in-Some.thread c.loop-thread.queue.queue c.next_reader.new.queue.queue c.in-Some.ensures.oldest c.loop-thread.readers.threads c.loop-thread.readers.queue c.loop-thread.invariant.once in
    omega (arith, first.0, c.loop-thread.invariant.room)

pub loop-thread-preserved : goal.loop-thread-preserved
loop-thread-preserved c =
    let oldest = c.in-Some.ensures.oldest in
    let t = c.in-Some.thread in
    let queue = c.loop-thread.queue.queue in
    let rest = c.next_reader.new.queue.queue in
    let readers = c.loop-thread.readers in
    let readers_now : c.push.new.self.queue ≡ readers.queue ++ t ∷ [] = ap (λ q. q.queue) c.push.ensures in
    let threads_now : c.push.new.self.threads ≡ readers.threads = ap (λ q. q.threads) c.push.ensures in
    let places_now : length c.grant.new.self ≡ length c.loop-thread.grants = ap length c.grant.ensures ∙ length-set c.loop-thread.grants t (Some reply.Ok) in
    record {
      inside = ap (λ q. q ++ first_readers rest) readers_now ∙ admitted-inside t queue rest oldest readers.queue ∙ c.loop-thread.invariant.inside;
      left = admitted-left t queue rest oldest ∙ c.loop-thread.invariant.left;
      granted = ap (λ g. grant_all (first_readers rest) reply.Ok g) c.grant.ensures ∙ admitted-granted t queue rest oldest reply.Ok c.loop-thread.grants ∙ c.loop-thread.invariant.granted;
      places = places_now ∙ c.loop-thread.invariant.places;
      threads = threads_now ∙ c.loop-thread.invariant.threads;
      waiters = c.in-Some.ensures.threads ∙ c.loop-thread.invariant.waiters;
      room = omega (arith, threads_now, places_now, c.loop-thread.invariant.room);
      once =
          subst (λ (n : ℕ). IsQueue n (c.push.new.self.queue ++ queued_threads rest)) (sym threads_now)
          (subst (λ (q : List ℕ). IsQueue readers.threads (q ++ queued_threads rest)) (sym readers_now) (admitted-once t queue rest oldest readers.threads readers.queue c.loop-thread.invariant.once));
    }
