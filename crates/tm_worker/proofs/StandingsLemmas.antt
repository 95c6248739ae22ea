-- That a worker's thread stands where its log says, after one more event.
use Rattle.std.proofs.Common.{◌≡◌, ℕ, suc, ◌+◌, ◌*◌, ◌≤◌, ◌||◌, ◌==◌, Bool, true, false, if◌then◌else◌, List, [], ◌∷◌, ◌++◌, Option, Some, None, slice_get, refl, ap, sym, ◌∙◌, subst, arith, eq-eqb}
use Rattle.std.proofs.lemmas.List.Elements.{filter-append}
use Rattle.std.proofs.lemmas.List.Folds.{list_any-append}
use Rattle.std.proofs.lemmas.Option.{slice_get_within}
use Rattle.tm_base.specs.declared.operations.Op.{Op}
use Rattle.tm_base.specs.declared.operations.Op.TheVariants as op
use Rattle.tm_base.specs.declared.replies.Reply.{Reply}
use Rattle.tm_base.specs.declared.replies.Reply.TheVariants as reply
use Rattle.tm_base.specs.declared.events.Entry.{Entry}
use Rattle.tm_base.specs.Fits.{is_call}
use Rattle.tm_base.specs.Orders.{of_object}
use Rattle.tm_base.specs.Tickets.{TicketView, waits_after}
use Rattle.tm_laws.specs.ThreadObjects.{is_begin, is_end}
use Rattle.tm_shared.specs.OwnEvents.{has_begin, has_end}
use Rattle.tm_turn.specs.Passes.{PassView, TurnView}
use Rattle.tm_worker.specs.declared.phases.Phase.{Phase}
use Rattle.tm_worker.specs.declared.phases.Phase.TheVariants as phase
use Rattle.tm_worker.specs.Logs.{LogView, IsSent, AreSamePasses}
use Rattle.tm_worker.specs.Outcomes.{SuitsPasses}
use Rattle.tm_worker.specs.Progresses.{IsNextIn, phase_by, phase_after}
use Rattle.tm_worker.specs.Standings.{HasOwn, IsFresh, IsOnItsWay, StandsIn, is_own, is_own_in, is_own_at}
use Rattle.tm_worker.proofs.Elements.{found_at, filter-snoc_in}

or_false : (b c : Bool) → b ≡ false → c ≡ false → (b || (c || false)) ≡ false
or_false false false p q = refl
or_false true c p q = absurd cc
or_false false true p q = absurd cc

or_left : (b c : Bool) → b ≡ true → (b || c) ≡ true
or_left true c p = refl
or_left false c p = absurd cc

pub weaken : (n m r q : ℕ) (w : Option ℕ) (log : LogView) → n ≤ m → q ≤ r → IsOnItsWay n w r log → IsOnItsWay m w q log
weaken n m r q w log up down on =
    let next = on.next in
    let room = on.room in
    record { next = omega (arith, next, up); waits = on.waits; room = omega (arith, room, down); going = on.going; begun = on.begun }

-- the passes of the old log, found again
module _ (old new : List PassView) (same : AreSamePasses old new) (k : ℕ) (q : PassView) (at : slice_get new k ≡ Some q) where
  pub before : (p : PassView) × (slice_get old k ≡ Some p) × (p.label.kind ≡ q.label.kind)
  before =
      let within = slice_get_within new k q at in
      let count = same.count in
      let was = found_at old k (omega (arith, within, count)) in
      (was.0, was.1, sym (ap (λ (x : PassView). x.label.kind) (same.each k was.0 q was.1 at).same))

module _ (old new : LogView) (o : ℕ) (p : Op) (e : Entry) (sent : IsSent old o p e new) (same : AreSamePasses old.passes new.passes) where
  thread_is : new.ticket.thread ≡ old.ticket.thread
  thread_is = ap (λ (t : TicketView). t.thread) sent.step.ticket

  waits_is : new.ticket.waits ≡ waits_after e.object e.reply
  waits_is = ap (λ (t : TicketView). t.waits) sent.step.ticket

  next_is : new.ticket.next ≡ old.ticket.next + 1
  next_is = ap (λ (t : TicketView). t.next) sent.step.ticket

  -- one more event of a thread that is on its way, which isn't its end
  pub on_way_more : (n r : ℕ) (w : Option ℕ) → IsOnItsWay n w (suc r) old → is_end p ≡ false → IsOnItsWay (n + 1) (waits_after e.object e.reply) r new
  on_way_more n r w on goes =
      let next = on.next in
      let now = next_is in
      let room = on.room in
      let spare = sent.spare in
      record {
        next = omega (arith, next, now);
        waits = waits_is;
        room = omega (arith, room, spare);
        going = ap has_end sent.sent ∙ list_any-append (λ (f : Entry). is_end f.op) old.outbox.sent (e ∷ []) ∙ or_false (has_end old.outbox.sent) (is_end e.op) on.going (ap is_end sent.op ∙ goes);
        begun = λ k q at own.
            let was = before old.passes new.passes same k q at in
            let mine : has_begin (of_object old.outbox.sent k) ≡ true = on.begun k was.0 was.1 (ap (is_own old.ticket.thread) was.2 ∙ ap (λ t. is_own t q.label.kind) (sym thread_is) ∙ own) in
            ap (λ es. has_begin (of_object es k)) sent.sent ∙ ap has_begin (filter-append (λ (f : Entry). f.object == k) old.outbox.sent (e ∷ []))
            ∙ list_any-append (λ (f : Entry). is_begin f.op) (of_object old.outbox.sent k) (of_object (e ∷ []) k) ∙ or_left (has_begin (of_object old.outbox.sent k)) _ mine;
      }

  -- the first event, which is the begin on the own object
  pub on_way_first : IsFresh old → p ≡ op.Begin → ((k : ℕ) (q : PassView) → slice_get new.passes k ≡ Some q → is_own new.ticket.thread q.label.kind ≡ true → k ≡ o)
      → IsOnItsWay 2 (waits_after e.object e.reply) 2 new
  on_way_first fresh is only =
      let next = fresh.next in
      let now = next_is in
      let room = fresh.room in
      let spare = sent.spare in
      let all : new.outbox.sent ≡ e ∷ [] = sent.sent ∙ ap (λ es. es ++ e ∷ []) fresh.sent in
      let begins : is_begin e.op ≡ true = ap is_begin (sent.op ∙ is) in
      let goes : is_end e.op ≡ false = ap is_end (sent.op ∙ is) in
      record {
        next = omega (arith, next, now);
        waits = waits_is;
        room = omega (arith, room, spare);
        going = ap has_end all ∙ ap (λ b. b || false) goes;
        begun = λ k q at own.
            let here : e.object ≡ k = sent.object ∙ sym (only k q at own) in
            ap (λ es. has_begin (of_object es k)) all ∙ ap has_begin (filter-snoc_in (λ (f : Entry). f.object == k) [] e (eq-eqb e.object k here)) ∙ ap (λ b. b || false) begins;
      }

-- a thread goes on by any reply, where there is room for its resume
pub stands_going : (limit made : ℕ) (log : LogView) (r : Reply) (o n : ℕ) → n ≤ 2 * made + 2 → IsOnItsWay n (waits_after o r) 2 log → StandsIn limit made log (phase_by r o)
stands_going limit made log reply.Wait o n few on = weaken n (2 * made + 2) 2 2 (Some o) log few (omega arith) on
stands_going limit made log r o n few on = (weaken n (2 * made + 3) 2 1 None log (omega (arith, few)) (omega arith) on, refl)

-- the final reply of a call that waited
pub stands_resumed : (limit made : ℕ) (log : LogView) (r : Reply) (o n : ℕ) → n ≤ 2 * made + 3 → waits_after o r ≡ None → IsOnItsWay n (waits_after o r) 1 log → StandsIn limit made log (phase_by r o)
stands_resumed limit made log reply.Wait o n few none on = absurd cc
stands_resumed limit made log r o n few none on = (weaken n (2 * made + 3) 1 1 None log few (omega arith) on, refl)

after_goes : (e : Entry) → is_end e.op ≡ false → phase_after e ≡ phase_by e.reply e.object
after_goes e goes = ap (λ b. if b then phase.Ended else phase_by e.reply e.object) goes

after_ends : (e : Entry) → is_end e.op ≡ true → phase_after e ≡ phase.Ended
after_ends e ends = ap (λ b. if b then phase.Ended else phase_by e.reply e.object) ends

moved : (limit m m' : ℕ) (log : LogView) (p p' : Phase) → m' ≡ m → p' ≡ p → StandsIn limit m log p → StandsIn limit m' log p'
moved limit m m' log p p' same_made same_phase s = subst (λ (x : Phase). StandsIn limit m' log x) (sym same_phase) (subst (λ (n : ℕ). StandsIn limit n log p) (sym same_made) s)

calls_not_end : (p : Op) → is_call p ≡ true → is_end p ≡ false
calls_not_end (op.End cut) h = absurd cc
calls_not_end p h = refl

-- what a thread that made an event has made
pub record MadeNow (limit made' : ℕ) (log : LogView) (p : Phase) : Type 0 where
  pub few : made' ≤ limit
  pub stands : StandsIn limit made' log p

module _ (shared : List TurnView) (old new : LogView) (limit made o : ℕ) (p : Op) (e : Entry) (suits : SuitsPasses shared old.passes old.ticket.thread) (has : HasOwn shared old.ticket.thread)
    (sent : IsSent old o p e new) (same : AreSamePasses old.passes new.passes) (few : made ≤ limit) (resumed : p ≡ op.Resume → new.ticket.waits ≡ None) where
  made_now : ℕ
  made_now = made + (if is_call e.op then 1 else 0)

  own_is_here : is_own_at shared old.ticket.thread o ≡ true → (k : ℕ) (q : PassView) → slice_get new.passes k ≡ Some q → is_own new.ticket.thread q.label.kind ≡ true → k ≡ o
  own_is_here own k q at mine =
      let was = before old.passes new.passes same k q at in
      let within = slice_get_within old.passes k was.0 was.1 in
      let count = suits.count in
      let s = found_at shared k (omega (arith, within, count)) in
      let label = (suits.of k s.0 was.0 s.1 was.1).1 in
      let kind : s.0.label.kind ≡ q.label.kind = sym (ap (λ l. l.kind) label) ∙ was.2 in
      let thread : new.ticket.thread ≡ old.ticket.thread = ap (λ (t : TicketView). t.thread) sent.step.ticket in
      let there : is_own_at shared old.ticket.thread k ≡ true = ap (is_own_in old.ticket.thread) s.1 ∙ ap (is_own old.ticket.thread) kind ∙ ap (λ t. is_own t q.label.kind) (sym thread) ∙ mine in
      has.only k there ∙ sym (has.only o own)

  uncalled : is_call e.op ≡ false → made_now ≡ made
  unfolding made_now
  uncalled h = ap (λ b. made + (if b then 1 else 0)) h ∙ omega arith

  called : is_call e.op ≡ true → made_now ≡ made + 1
  unfolding made_now
  called h = ap (λ b. made + (if b then 1 else 0)) h

  pub made_event : (now : Phase) → StandsIn limit made old now → IsNextIn (is_own_at shared old.ticket.thread) now o p → MadeNow limit (made + (if is_call e.op then 1 else 0)) new (phase_after e)
  unfolding made_now
  made_event phase.NotBegun s next =
      let on = on_way_first old new o p e sent same s next.0 (own_is_here next.1) in
      let n : made + (if is_call e.op then 1 else 0) ≡ made = uncalled (ap is_call (sent.op ∙ next.0)) in
      record {
        few = omega (arith, few, n);
        stands = moved limit made (made + (if is_call e.op then 1 else 0)) new (phase_by e.reply e.object) (phase_after e) n (after_goes e (ap is_end (sent.op ∙ next.0)))
            (stands_going limit made new e.reply e.object 2 (omega arith) on);
      }
  made_event (phase.Waits at) s next =
      let on = on_way_more old new o p e sent same (2 * made + 2) 1 (Some at) s (ap is_end next.0) in
      let n : made + (if is_call e.op then 1 else 0) ≡ made = uncalled (ap is_call (sent.op ∙ next.0)) in
      let none : waits_after e.object e.reply ≡ None = sym (ap (λ (t : TicketView). t.waits) sent.step.ticket) ∙ resumed next.0 in
      record {
        few = omega (arith, few, n);
        stands = moved limit made (made + (if is_call e.op then 1 else 0)) new (phase_by e.reply e.object) (phase_after e) n (after_goes e (ap is_end (sent.op ∙ next.0)))
            (stands_resumed limit made new e.reply e.object (2 * made + 2 + 1) (omega arith) none on);
      }
  made_event (phase.Asked at asked) s next =
      let call : is_call p ≡ true = ap is_call next.0 ∙ s.1.call in
      let on = on_way_more old new o p e sent same (2 * made + 3) 2 None s.0 (calls_not_end p call) in
      let n : made + (if is_call e.op then 1 else 0) ≡ made + 1 = called (ap is_call sent.op ∙ call) in
      let less = s.2 in
      record {
        few = omega (arith, less, n);
        stands = moved limit (made + 1) (made + (if is_call e.op then 1 else 0)) new (phase_by e.reply e.object) (phase_after e) n (after_goes e (ap is_end sent.op ∙ calls_not_end p call))
            (stands_going limit (made + 1) new e.reply e.object (2 * made + 3 + 1) (omega arith) on);
      }
  made_event (phase.Ends cut) s next =
      let n : made + (if is_call e.op then 1 else 0) ≡ made = uncalled (ap is_call (sent.op ∙ next.0)) in
      record {
        few = omega (arith, few, n);
        stands = subst (λ (x : Phase). StandsIn limit (made + (if is_call e.op then 1 else 0)) new x) (sym (after_ends e (ap is_end (sent.op ∙ next.0)))) tt;
      }
  made_event (phase.Replied r) s next = absurd next
  made_event phase.Ended s next = absurd next
