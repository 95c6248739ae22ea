-- That a worker's thread can make its next event, and stands where its log says after an attempt.
use Rattle.std.proofs.Common.{◌≡◌, ℕ, suc, ◌+◌, ◌*◌, ◌||◌, ◌==◌, Bool, true, false, cond, if◌then◌else◌, ◌⊎◌, inl, inr, ⊎_elim, List, [], ◌∷◌, Option, Some, None, slice_get, refl, ap, sym, ◌∙◌, subst, arith}
use Rattle.std.proofs.lemmas.Bool.{eqb-true}
use Rattle.std.proofs.lemmas.Option.{slice_get_within}
use Rattle.tm_base.specs.declared.kinds.Kind.{Kind}
use Rattle.tm_base.specs.declared.kinds.Kind.TheVariants as kind
use Rattle.tm_base.specs.declared.operations.Op.{Op}
use Rattle.tm_base.specs.declared.operations.Op.TheVariants as op
use Rattle.tm_base.specs.declared.events.Entry.{Entry}
use Rattle.tm_base.specs.Bodies.{IsCallAmong}
use Rattle.tm_base.specs.Fits.{fits, is_call}
use Rattle.tm_base.specs.Machines.{is_step}
use Rattle.tm_base.specs.Orders.{of_object}
use Rattle.tm_base.specs.Tickets.{TicketView}
use Rattle.tm_laws.specs.ThreadObjects.{is_end}
use Rattle.tm_ring.specs.Rings.{OutboxView}
use Rattle.tm_shared.specs.Calls.{LostTurn}
use Rattle.tm_shared.specs.OwnEvents.{IsInTurnAfter, has_begin, has_end}
use Rattle.tm_turn.specs.Passes.{PassView, TurnView}
use Rattle.tm_worker.specs.declared.phases.Phase.{Phase}
use Rattle.tm_worker.specs.declared.phases.Phase.TheVariants as phase
use Rattle.tm_worker.specs.Logs.{LogView, IsSent, IsUnsent, KeepsLog, AreSamePasses, AtPass}
use Rattle.tm_worker.specs.Outcomes.{CanCall, SuitsPasses}
use Rattle.tm_worker.specs.Progresses.{ProgressView, IsNextIn, phase_after, phase_by, after_event, asks_more, short_of_room}
use Rattle.tm_worker.specs.Standings.{AreNumbered, HasOwn, IsOnItsWay, StandsIn, Stands, is_own, is_own_in, is_own_at, kinds_of_passes}
use Rattle.tm_worker.specs.Turning.{IsOwnEvent, LostAtNext, LostSince, SendsNone}
use Rattle.tm_worker.proofs.Elements.{found_at, mapped_at, maps_alike}
use Rattle.tm_worker.proofs.StandingsLemmas.{before, made_event, weaken}

-- a thread's own object
own_begin : (k : Kind) (t : ℕ) (es : List Entry) → is_own t k ≡ true → has_begin es ≡ false → (fits op.Begin k ≡ true) × IsInTurnAfter k es t op.Begin
own_begin (kind.Thread own held) t es h none = (refl, (sym (eqb-true own t h), none))
own_begin k t es h none = absurd cc

own_end : (k : Kind) (t : ℕ) (es : List Entry) (cut : Bool) → is_own t k ≡ true → has_begin es ≡ true → has_end es ≡ false → (fits (op.End cut) k ≡ true) × IsInTurnAfter k es t (op.End cut)
own_end (kind.Thread own held) t es cut h some none = (refl, (sym (eqb-true own t h), some, none))
own_end k t es cut h some none = absurd cc

-- calls are in turn always
call_in_turn : (k : Kind) (o : Op) (es : List Entry) (t : ℕ) → is_call o ≡ true → IsInTurnAfter k es t o
call_in_turn (kind.Thread own held) op.Begin es t h = absurd cc
call_in_turn (kind.Thread own held) (op.End cut) es t h = absurd cc
call_in_turn k o es t h = tt

call_steps : (o : Op) → is_call o ≡ true → is_step o ≡ true
call_steps op.Resume h = absurd cc
call_steps op.Stop h = absurd cc
call_steps o h = refl

or_parts : (a b : Bool) → (a || b) ≡ false → (a ≡ false) × (b ≡ false)
or_parts false b h = (refl, h)
or_parts true b h = absurd cc

one_more : (e : Entry) (es : List Entry) (here : Bool) → is_end e.op ≡ false → has_end es ≡ false → has_end (cond here (e ∷ es) es) ≡ false
one_more e es true p h = ap (λ b. b || has_end es) p ∙ h
one_more e es false p h = h

-- none of the events on one object is an end where none is
end_filtered : (es : List Entry) (k : ℕ) → has_end es ≡ false → has_end (of_object es k) ≡ false
end_filtered [] k h = refl
end_filtered (e ∷ es) k h =
    let parts = or_parts (is_end e.op) (has_end es) h in
    one_more e (of_object es k) (e.object == k) parts.0 (end_filtered es k parts.1)

-- the objects' numbers, from the passes
pub numbered : (shared : List TurnView) (passes : List PassView) (ticket : TicketView) (sent : List Entry) → SuitsPasses shared passes ticket.thread → KeepsLog passes ticket sent → AreNumbered shared
numbered shared passes ticket sent suits keeps =
    record {
      number = λ k s at.
          let within = slice_get_within shared k s at in
          let count = suits.count in
          let p = found_at passes k (omega (arith, within, count)) in
          ap (λ l. l.object) (sym (suits.of k s p.0 at p.1).1) ∙ (keeps.each k p.0 p.1).of;
    }

-- what is next in a phase either comes before the program is over, or is the end
next_asks : (own : ℕ → Bool) (now : Phase) (o : ℕ) (p : Op) → IsNextIn own now o p → (asks_more now ≡ true) ⊎ (is_end p ≡ true)
next_asks own phase.NotBegun o p h = inl refl
next_asks own (phase.Waits at) o p h = inl refl
next_asks own (phase.Asked at asked) o p h = inl refl
next_asks own (phase.Ends cut) o p h = inr (ap is_end h.0)
next_asks own (phase.Replied r) o p h = absurd h
next_asks own phase.Ended o p h = absurd h

module _ (old new : LogView) (unsent : IsUnsent old new) (same : AreSamePasses old.passes new.passes) where
  on_way_same : (n r : ℕ) (w : Option ℕ) → IsOnItsWay n w r old → IsOnItsWay n w r new
  on_way_same n r w on =
      let next = on.next in
      let now : new.ticket.next ≡ old.ticket.next = ap (λ (t : TicketView). t.next) unsent.ticket in
      let room = on.room in
      let spare : new.outbox.spare ≡ old.outbox.spare = ap (λ (x : OutboxView). x.spare) unsent.outbox in
      record {
        next = omega (arith, next, now);
        waits = ap (λ (t : TicketView). t.waits) unsent.ticket ∙ on.waits;
        room = omega (arith, room, spare);
        going = ap (λ (x : OutboxView). has_end x.sent) unsent.outbox ∙ on.going;
        begun = λ k q at own.
            let was = before old.passes new.passes same k q at in
            ap (λ (x : OutboxView). has_begin (of_object x.sent k)) unsent.outbox
            ∙ on.begun k was.0 was.1 (ap (is_own old.ticket.thread) was.2 ∙ ap (λ (t : TicketView). is_own t.thread q.label.kind) (sym unsent.ticket) ∙ own);
      }

  kinds_same : kinds_of_passes old.passes ≡ kinds_of_passes new.passes
  kinds_same = maps_alike (λ (p : PassView). p.label.kind) (λ (p : PassView). p.label.kind) old.passes new.passes (sym same.count)
      (λ k x y p q. sym (ap (λ (z : PassView). z.label.kind) (same.each k x y p q).same))

  pub stands_in_same : (limit made : ℕ) (now : Phase) → StandsIn limit made old now → StandsIn limit made new now
  stands_in_same limit made phase.NotBegun s =
      let spare : new.outbox.spare ≡ old.outbox.spare = ap (λ (x : OutboxView). x.spare) unsent.outbox in
      let room = s.room in
      record {
        waits = ap (λ (t : TicketView). t.waits) unsent.ticket ∙ s.waits;
        next = ap (λ (t : TicketView). t.next) unsent.ticket ∙ s.next;
        sent = ap (λ (x : OutboxView). x.sent) unsent.outbox ∙ s.sent;
        room = omega (arith, room, spare);
      }
  stands_in_same limit made (phase.Waits o) s = on_way_same (2 * made + 2) 2 (Some o) s
  stands_in_same limit made (phase.Replied r) s = (on_way_same (2 * made + 3) 1 None s.0, s.1)
  stands_in_same limit made (phase.Asked o p) s = (on_way_same (2 * made + 3) 3 None s.0, subst (λ (ks : List Kind). IsCallAmong ks o p) kinds_same s.1, s.2)
  stands_in_same limit made (phase.Ends cut) s = on_way_same (2 * made + 3) 1 None s
  stands_in_same limit made phase.Ended s = tt

module _ {B : Type 0} (over : B → Bool) (limit : ℕ) (shared : List TurnView) (s : ProgressView B) (old : LogView) (stands : Stands over limit s old)
    (suits : SuitsPasses shared old.passes old.ticket.thread) (has : HasOwn shared old.ticket.thread) where
  pub stands_sent : (new : LogView) (o : ℕ) (p : Op) (e : Entry) → IsSent old o p e new → AreSamePasses old.passes new.passes → (p ≡ op.Resume → new.ticket.waits ≡ None)
      → IsNextIn (is_own_at shared old.ticket.thread) s.phase o p → Stands over limit (after_event s e) new
  stands_sent new o p e sent same resumed next =
      let now = made_event shared old new limit s.made o p e suits has sent same stands.made resumed s.phase stands.stands next in
      let program = stands.program in
      let thread : new.ticket.thread ≡ old.ticket.thread = ap (λ (t : TicketView). t.thread) sent.step.ticket in
      record {
        program = omega (arith, program, thread);
        limited = stands.limited;
        made = now.few;
        stands = now.stands;
        goes_on = λ asks. ⊎_elim
            (λ (more : asks_more s.phase ≡ true). stands.goes_on more)
            (λ (ends : is_end p ≡ true).
            let ended : phase_after e ≡ phase.Ended = ap (λ b. if b then phase.Ended else phase_by e.reply e.object) (ap is_end sent.op ∙ ends) in
            absurd (let clash : false ≡ true = sym (ap asks_more ended) ∙ asks in cc))
            (next_asks (is_own_at shared old.ticket.thread) s.phase o p next);
      }

  pub stands_unsent : (new : LogView) → IsUnsent old new → AreSamePasses old.passes new.passes → Stands over limit s new
  stands_unsent new unsent same =
      let program = stands.program in
      let thread : new.ticket.thread ≡ old.ticket.thread = ap (λ (t : TicketView). t.thread) unsent.ticket in
      record {
        program = omega (arith, program, thread);
        limited = stands.limited;
        made = stands.made;
        stands = stands_in_same old new unsent same limit s.made s.phase stands.stands;
        goes_on = stands.goes_on;
      }

  asked_stands : (now : Phase) (o : ℕ) (p : Op) → now ≡ phase.Asked o p → StandsIn limit s.made old now → StandsIn limit s.made old (phase.Asked o p)
  asked_stands now o p is h = subst (λ (x : Phase). StandsIn limit s.made old x) is h

  -- a call that was asked
  pub can_call : (o : ℕ) (p : Op) → s.phase ≡ phase.Asked o p → CanCall old o p
  can_call o p is =
      let on = asked_stands s.phase o p is stands.stands in
      let at = mapped_at (λ (q : PassView). q.label.kind) old.passes o on.1.kind on.1.found in
      record {
        program = stands.program;
        free = on.0.waits;
        pass = at.0;
        found = at.1;
        fit = ap (fits p) at.2 ∙ on.1.fit;
        step = call_steps p on.1.call;
        in_turn = call_in_turn at.0.label.kind p (of_object old.outbox.sent o) old.ticket.thread on.1.call;
      }

  pub asked_no_resume : (o : ℕ) (p : Op) → s.phase ≡ phase.Asked o p → p ≡ op.Resume → ⊥
  asked_no_resume o p is r =
      let on = asked_stands s.phase o p is stands.stands in
      let clash : false ≡ true = sym (ap is_call r) ∙ on.1.call in
      cc

  -- the thread gives a call up
  pub stands_short : (o : ℕ) (p : Op) (new : LogView) → s.phase ≡ phase.Asked o p → IsUnsent old new → AreSamePasses old.passes new.passes → Stands over limit (short_of_room s) new
  stands_short o p new is unsent same =
      let on = asked_stands s.phase o p is stands.stands in
      let program = stands.program in
      let thread : new.ticket.thread ≡ old.ticket.thread = ap (λ (t : TicketView). t.thread) unsent.ticket in
      record {
        program = omega (arith, program, thread);
        limited = stands.limited;
        made = stands.made;
        stands = weaken (2 * s.made + 3) (2 * s.made + 3) 3 1 None new (omega arith) (omega arith) (on_way_same old new unsent same (2 * s.made + 3) 3 None on.0);
        goes_on = λ asks. absurd cc;
      }

  -- the own object's pass
  own_pass : (o : ℕ) → is_own_at shared old.ticket.thread o ≡ true → (p : PassView) × (slice_get old.passes o ≡ Some p) × (is_own old.ticket.thread p.label.kind ≡ true)
  own_pass o own =
      let s_at = own_found o own in
      let within = slice_get_within shared o s_at.0 s_at.1 in
      let count = suits.count in
      let p = found_at old.passes o (omega (arith, within, count)) in
      (p.0, p.1, ap (λ l. is_own old.ticket.thread l.kind) (suits.of o s_at.0 p.0 s_at.1 p.1).1 ∙ s_at.2)
    where
      own_some : (found : Option TurnView) → is_own_in old.ticket.thread found ≡ true → (x : TurnView) × (found ≡ Some x) × (is_own old.ticket.thread x.label.kind ≡ true)
      own_some None h = absurd cc
      own_some (Some x) h = (x, refl, h)

      own_found : (k : ℕ) → is_own_at shared old.ticket.thread k ≡ true → (x : TurnView) × (slice_get shared k ≡ Some x) × (is_own old.ticket.thread x.label.kind ≡ true)
      own_found k h = own_some (slice_get shared k) h

  can_in : (o : ℕ) (p : Op) (now : Phase) → IsOwnEvent now p → StandsIn limit s.made old now → is_own_at shared old.ticket.thread o ≡ true → CanCall old o p
  can_in o p phase.NotBegun is on own =
      let at = own_pass o own in
      let none : has_begin (of_object old.outbox.sent o) ≡ false = ap (λ es. has_begin (of_object es o)) on.sent in
      let may = own_begin at.0.label.kind old.ticket.thread (of_object old.outbox.sent o) at.2 none in
      record {
        program = stands.program;
        free = on.waits;
        pass = at.0;
        found = at.1;
        fit = ap (λ x. fits x at.0.label.kind) is ∙ may.0;
        step = ap is_step is;
        in_turn = subst (λ (x : Op). IsInTurnAfter at.0.label.kind (of_object old.outbox.sent o) old.ticket.thread x) (sym is) may.1;
      }
  can_in o p (phase.Ends cut) is on own =
      let at = own_pass o own in
      let may = own_end at.0.label.kind old.ticket.thread (of_object old.outbox.sent o) cut at.2 (on.begun o at.0 at.1 at.2) (end_filtered old.outbox.sent o on.going) in
      record {
        program = stands.program;
        free = on.waits;
        pass = at.0;
        found = at.1;
        fit = ap (λ x. fits x at.0.label.kind) is ∙ may.0;
        step = ap is_step is;
        in_turn = subst (λ (x : Op). IsInTurnAfter at.0.label.kind (of_object old.outbox.sent o) old.ticket.thread x) (sym is) may.1;
      }
  can_in o p (phase.Waits at) is on own = absurd is
  can_in o p (phase.Replied r) is on own = absurd is
  can_in o p (phase.Asked at a) is on own = absurd is
  can_in o p phase.Ended is on own = absurd is

  pub can_own : (o : ℕ) (p : Op) → IsOwnEvent s.phase p → is_own_at shared old.ticket.thread o ≡ true → CanCall old o p
  can_own o p is own = can_in o p s.phase is stands.stands own

-- the own event is next
pub own_next : (own : ℕ → Bool) (now : Phase) (o : ℕ) (p : Op) → IsOwnEvent now p → own o ≡ true → IsNextIn own now o p
own_next own phase.NotBegun o p is h = (is, h)
own_next own (phase.Ends cut) o p is h = (is, h)
own_next own (phase.Waits at) o p is h = absurd is
own_next own (phase.Replied r) o p is h = absurd is
own_next own (phase.Asked at a) o p is h = absurd is
own_next own phase.Ended o p is h = absurd is

pub own_is_begin_or_end : (now : Phase) (p : Op) → IsOwnEvent now p → (p ≡ op.Begin) ⊎ ((cut : Bool) × (p ≡ op.End cut))
own_is_begin_or_end phase.NotBegun p is = inl is
own_is_begin_or_end (phase.Ends cut) p is = inr (cut, is)
own_is_begin_or_end (phase.Waits at) p is = absurd is
own_is_begin_or_end (phase.Replied r) p is = absurd is
own_is_begin_or_end (phase.Asked at a) p is = absurd is
own_is_begin_or_end phase.Ended p is = absurd is

pub own_no_resume : (now : Phase) (p : Op) → IsOwnEvent now p → p ≡ op.Resume → ⊥
own_no_resume phase.NotBegun p is r = let clash : op.Begin ≡ op.Resume = sym is ∙ r in cc
own_no_resume (phase.Ends cut) p is r = let clash : op.End cut ≡ op.Resume = sym is ∙ r in cc
own_no_resume (phase.Waits at) p is r = is
own_no_resume (phase.Replied r) p is _ = is
own_no_resume (phase.Asked at a) p is r = is
own_no_resume phase.Ended p is r = is

-- the asked call is next, and so is a resume
pub asked_next : (own : ℕ → Bool) (now : Phase) (o : ℕ) (p : Op) → now ≡ phase.Asked o p → IsNextIn own now o p
asked_next own now o p is = subst (λ (x : Phase). IsNextIn own x o p) (sym is) (refl, refl)

pub waits_next : (own : ℕ → Bool) (now : Phase) (o : ℕ) → now ≡ phase.Waits o → IsNextIn own now o op.Resume
waits_next own now o is = subst (λ (x : Phase). IsNextIn own x o op.Resume) (sym is) (refl, refl)

-- a turn that was lost just now
lost_since : (holder : ℕ) (p q : PassView) → LostTurn p holder q → LostSince holder p q
lost_since holder p q l =
    let misses : q.misses ≡ suc p.misses = ap (λ (x : PassView). x.misses) l.pass in
    record { misses = omega (arith, misses); missed = ap (λ (x : PassView). x.missed) l.pass; other = l.other }

pub lost_at : (own : ℕ → Bool) (now : Phase) (old new : LogView) (holder o : ℕ) (p : Op) → IsNextIn own now o p → AtPass old.passes new.passes o (λ x y. LostTurn x holder y) → LostAtNext own now old new holder
lost_at own now old new holder o p next at =
    record {
      object = o;
      o = p;
      next = next;
      lost = record { before = at.before; after = at.after; found = at.found; now = at.now; changed = lost_since holder at.before at.after at.changed };
    }

pub sends_none : (old new : LogView) → IsUnsent old new → SendsNone old new
sends_none old new u = record { sent = ap (λ (x : OutboxView). x.sent) u.outbox; ticket = u.ticket; ring = ap (λ (x : OutboxView). x.ring) u.outbox }
