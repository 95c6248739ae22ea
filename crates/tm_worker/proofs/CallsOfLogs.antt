-- One call by a thread's pass of an object: that it may be made, and what it leaves.
use Rattle.std.proofs.Common.{◌≡◌, ◌≢◌, ℕ, ◌<◌, ◌≤◌, ◌+◌, false, List, [], ◌∷◌, ◌++◌, length, get_or, Some, None, slice_get, slice_set, refl, ap, sym, ◌∙◌, subst, arith, true, eq-eqb, ne_eqb}
use Rattle.std.proofs.lemmas.Option.{slice_get_read}
use Rattle.tm_base.specs.declared.operations.Op.{Op}
use Rattle.tm_base.specs.declared.operations.Op.TheVariants as op
use Rattle.tm_base.specs.declared.events.Entry.{Entry}
use Rattle.tm_base.specs.declared.kinds.Kind.{Kind}
use Rattle.tm_base.specs.Fits.{fits}
use Rattle.tm_base.specs.declared.replies.Reply.{Reply}
use Rattle.tm_base.specs.declared.replies.Reply.TheVariants as reply
use Rattle.tm_base.specs.Histories.{Label, Follows, IsHistory, Lawful, Resumes, first_history_state, object_at}
use Rattle.tm_base.specs.Machines.{is_in}
use Rattle.tm_base.specs.Orders.{of_object}
use Rattle.tm_base.specs.Tickets.{TicketView, waits_after}
use Rattle.tm_laws.specs.Counts.{is_grant}
use Rattle.tm_laws.proofs.Reaching.{history-sound}
use Rattle.tm_laws.proofs.RunsLemmas.{Leads-unsnoc}
use Rattle.tm_ring.specs.Rings.{OutboxView}
use Rattle.tm_shared.specs.Calls.{IsAdded, TookTurn, LostTurn}
use Rattle.tm_shared.specs.Faults.{FailedToBegin, FailedToFinish, FoundNoRoom, SawItWait}
use Rattle.tm_shared.specs.OwnEvents.{MayCall, IsInTurnAfter, ends_waiting}
use Rattle.tm_shared.specs.declared.faults.TryFault.{TryFault}
use Rattle.tm_shared.specs.declared.faults.TryFault.TheVariants as try_fault
use Rattle.tm_shared.specs.declared.faults.FinishFault.{FinishFault}
use Rattle.tm_shared.specs.declared.faults.FinishFault.TheVariants as finish_fault
use Rattle.tm_turn.specs.Passes.{PassView, TurnView, mine}
use Rattle.tm_worker.specs.Logs.{log_of, KeepsLog, IsOwnPass, IsSamePass, AreSamePasses, AtPass, IsSent}
use Rattle.tm_worker.specs.Outcomes.{SuitsPasses, CanCall, FailedToCall, FailedToResume}
use Rattle.tm_worker.proofs.Elements.{same_some}
use Rattle.tm_worker.proofs.LogsLemmas.{took_same, lost_same, lost_mine, set_now, set_passes, keeps-unsent, keeps-sent, own_step}

-- a pass that made no event
pub record MadeNone (p q : PassView) : Type 0 where
  pub same : IsSamePass p q
  pub own : mine q ≡ mine p

pub begin_none : (l : Label) (p q : PassView) (o : Op) (fault : TryFault) → FailedToBegin l p o fault q → MadeNone p q
begin_none l p q o (try_fault.Busy holder) f = record { same = lost_same holder p q f; own = lost_mine holder p q f }
begin_none l p q o try_fault.NoMemory f = record { same = took_same l p q f.turn; own = f.mine }

pub finish_none : (l : Label) (p q : PassView) (fault : FinishFault) → FailedToFinish l p fault q → MadeNone p q
finish_none l p q (finish_fault.Busy holder) f = record { same = lost_same holder p q f; own = lost_mine holder p q f }
finish_none l p q finish_fault.NotYet f = record { same = took_same l p q f.turn; own = f.mine }

module _ (shared : List TurnView) (passes : List PassView) (ticket : TicketView) (outbox : OutboxView) (o : ℕ) (s : TurnView) (p : PassView)
    (suits : SuitsPasses shared passes ticket.thread) (keeps : KeepsLog passes ticket outbox.sent) (within : o < length passes)
    (s_is : s ≡ get_or shared o s) (p_is : p ≡ get_or passes o p) where
  found : slice_get passes o ≡ Some p
  found = slice_get_read passes (length passes) o p refl within p_is

  found_shared : slice_get shared o ≡ Some s
  found_shared = let count = suits.count in slice_get_read shared (length shared) o s refl (omega (arith, count, within)) s_is

  label_is : p.label ≡ s.label
  label_is = (suits.of o s p found_shared found).1

  pub own : IsOwnPass ticket outbox.sent o p
  own = keeps.each o p found

  pub object_is : s.label.object ≡ o
  object_is = ap (λ (l : Label). l.object) (sym label_is) ∙ own.of

  pub own_waits : ticket.waits ≡ Some o → ends_waiting (mine p) ≡ true
  own_waits here = own.waits ∙ ap (λ w. is_in w o) here ∙ eq-eqb o o refl

  pub may : (a : Op) → CanCall (log_of passes ticket outbox) o a → MayCall s.label (mine p) p.number a
  may a can =
      let it : can.pass ≡ p = same_some can.pass p (sym can.found ∙ found) in
      let kind : can.pass.label.kind ≡ s.label.kind = ap (λ (x : PassView). x.label.kind) it ∙ ap (λ (l : Label). l.kind) label_is in
      let program = can.program in
      let known = suits.known o s found_shared in
      let number = own.number in
      record {
        program = omega (arith, program, number);
        known = omega (arith, known, number);
        free = own.waits ∙ ap (λ w. is_in w o) can.free;
        fit = sym (ap (λ (k : Kind). fits a k) kind) ∙ can.fit;
        step = can.step;
        in_turn = subst (λ (k : Kind). IsInTurnAfter k (mine p) p.number a) kind
            (subst (λ (es : List Entry). IsInTurnAfter can.pass.label.kind es p.number a) own.own
            (subst (λ (t : ℕ). IsInTurnAfter can.pass.label.kind (of_object outbox.sent o) t a) (sym own.number) can.in_turn));
      }

  module _ (q : PassView) (later : TicketView) where
    pub at_pass : (Changed : PassView → PassView → Type 0) → Changed p q → AtPass passes (slice_set passes o q) o Changed
    at_pass Changed changed = record { before = p; after = q; found = found; now = set_now passes o p q found; changed = changed }

    pub none_passes : MadeNone p q → AreSamePasses passes (slice_set passes o q)
    none_passes none = set_passes passes o p q found none.same

    pub none_keeps : MadeNone p q → later ≡ ticket → KeepsLog (slice_set passes o q) later outbox.sent
    none_keeps none is = subst (λ (t : TicketView). KeepsLog (slice_set passes o q) t outbox.sent) (sym is) (keeps-unsent passes ticket outbox.sent keeps o p q found none.same none.own)

    pub begin_fault : (a : Op) (fault : TryFault) (new : OutboxView) → FailedToBegin s.label p a fault q → FailedToCall (log_of passes ticket outbox) o a fault (log_of (slice_set passes o q) later new)
    begin_fault a (try_fault.Busy holder) new f = at_pass (λ x y. LostTurn x holder y) f
    begin_fault a try_fault.NoMemory new f = at_pass (λ x y. FoundNoRoom x.label x a y) (subst (λ (l : Label). FoundNoRoom l p a q) (sym label_is) f)

    pub finish_fault_at : (fault : FinishFault) (new : OutboxView) → FailedToFinish s.label p fault q → FailedToResume (log_of passes ticket outbox) o fault (log_of (slice_set passes o q) later new)
    finish_fault_at finish_fault.NotYet new f = at_pass (λ x y. SawItWait x.label x y) (subst (λ (l : Label). SawItWait l p q) (sym label_is) f)
    finish_fault_at (finish_fault.Busy holder) new f = at_pass (λ x y. LostTurn x holder y) f

    module _ (a : Op) (e : Entry) (took : TookTurn s.label p q) (added : IsAdded s.label p ticket a e q later) where
      pub sent_passes : AreSamePasses passes (slice_set passes o q)
      sent_passes = set_passes passes o p q found (took_same s.label p q took)

      pub sent_keeps : (sent : List Entry) → sent ≡ outbox.sent ++ e ∷ [] → ((k : ℕ) → k ≢ o → is_in ticket.waits k ≡ false) → KeepsLog (slice_set passes o q) later sent
      sent_keeps sent is elsewhere =
          subst (λ (es : List Entry). KeepsLog (slice_set passes o q) later es) (sym is)
          (keeps-sent passes ticket outbox.sent keeps o p q found (took_same s.label p q took) s.label object_is a e later added elsewhere)

      pub sent_log : (new : OutboxView) → ((k : ℕ) → k ≢ o → is_in ticket.waits k ≡ false) → new.sent ≡ outbox.sent ++ e ∷ [] → new.ring ≡ outbox.ring → outbox.spare ≤ new.spare + 1
          → IsSent (log_of passes ticket outbox) o a e (log_of (slice_set passes o q) later new)
      sent_log new elsewhere sent ring spare =
          record {
            object = added.made.object ∙ object_is;
            op = added.made.op;
            step = own_step passes ticket outbox.sent keeps o p q found (took_same s.label p q took) s.label object_is a e later added elsewhere;
            sent = sent;
            ring = ring;
            spare = spare;
          }

pub nowhere : (ticket : TicketView) → ticket.waits ≡ None → (o k : ℕ) → k ≢ o → is_in ticket.waits k ≡ false
nowhere ticket free o k other = ap (λ w. is_in w k) free

pub only_here : (ticket : TicketView) (o : ℕ) → ticket.waits ≡ Some o → (k : ℕ) → k ≢ o → is_in ticket.waits k ≡ false
only_here ticket o waits k other = ap (λ w. is_in w k) waits ∙ ne_eqb o k (λ is. other (sym is))

-- a reply that was granted isn't `wait`
grant_ends : (r : Reply) → is_grant r ≡ true → (o : ℕ) → waits_after o r ≡ None
grant_ends reply.Wait is o = absurd cc
grant_ends r is o = refl

-- what a pass resumed waits no more
pub resumed_free : (l : Label) (p q : PassView) (ticket later : TicketView) (e : Entry) → TookTurn l p q → IsAdded l p ticket op.Resume e q later → later.waits ≡ None
resumed_free l p q ticket later e took added =
    let h = took.legal.0 in
    let run : IsHistory l (added.was ++ e ∷ []) h = subst (λ (es : List Entry). IsHistory l es h) added.made.ends took.legal.1 in
    let parts = Leads-unsnoc (Follows l) added.was e (first_history_state l) h run in
    let sound = history-sound l added.was parts.0 parts.1 in
    let lawful : Resumes parts.0.state e.thread e.reply h.state =
    subst (λ (o : Op). Lawful (object_at l parts.0.state) e.thread o e.reply h.state) added.made.op parts.2.lawful in
    ap (λ (t : TicketView). t.waits) added.made.ticket ∙ grant_ends e.reply (sound.tidy.final e.thread e.reply lawful.granted) e.object
