-- One event more in books and tickets.
use Rattle.std.proofs.Common.{◌≡◌, ◌≢◌, ℕ, suc, max, ◌+◌, ◌<◌, ◌≤◌, ◌^◌, ◌==◌, ⊎_elim, List, [], ◌∷◌, ◌++◌, length, length-append, Option, Some, slice_get, slice_set, refl, ap, sym, ◌∙◌, subst, arith}
use Rattle.std.specs.Option.{option_map}
use Rattle.std.proofs.lemmas.List.{length-map}
use Rattle.std.proofs.lemmas.Option.{slice_get-map, slice_get_within}
use Rattle.tm_base.specs.declared.operations.Op.{Op}
use Rattle.tm_base.specs.declared.events.Entry.{Entry}
use Rattle.tm_base.specs.Machines.{ObjectView, changed}
use Rattle.tm_base.specs.Histories.{CanAnswer}
use Rattle.tm_base.specs.Tickets.{TicketView, IsReady, waits_after}
use Rattle.tm_book.specs.Books.{BookView, CanEnter}
use Rattle.tm_replay.specs.JointStates.{JointState, ThreadState, ObjectState}
use Rattle.tm_replay.specs.JointSteps.{entered, phase_after, stepped}
use Rattle.tm_replay.proofs.SliceLemmas.{slice_get-set_cases, slice_get-set_same}
use Rattle.tm_joint.specs.Readings.{waits_in_phase}
use Rattle.tm_session.specs.declared.alone_runs.AloneRun.{AloneRun}
use Rattle.tm_session.specs.declared.next_calls.NextCall.{NextCall}
use Rattle.tm_session.specs.AloneRuns.{HasRecorded}
use Rattle.tm_session.specs.Noting.{IsNoted, object_state_of}
use Rattle.tm_session.specs.Records.{CanPerform, HaveRecorded, HaveTickets, Performs, ticket_of}
use Rattle.tm_session.proofs.BooksLemmas.{books-kept, map-slice_set}
use Rattle.tm_session.proofs.TicketsLemmas.{waits-kept}
use Rattle.tm_session.proofs.Stopping.{slice_get-set_other}

abbrev made : ObjectView → ℕ → ℕ → ObjectState
made view at stamp = record { view = view; at = at; stamp = stamp }

abbrev issued : ℕ → ℕ → ℕ → Option ℕ → TicketView
issued thread next clock waits = record { thread = thread; next = next; clock = clock; waits = waits }

module _ (es : List Entry) (j : JointState) (books : List BookView) (tickets : List TicketView) (recorded : HaveRecorded es j books tickets) where
  -- a book that was read stands in the joint state
  pub book-at : (o : ℕ) (b : BookView) → slice_get books o ≡ Some b → slice_get j.objects o ≡ Some (object_state_of b)
  book-at o b found =
      ap (λ (l : List ObjectState). slice_get l o) (sym recorded.objects) ∙ slice_get-map object_state_of books o ∙ ap (λ p. option_map object_state_of p) found

  pub count-books : length books ≡ length j.objects
  count-books = sym (length-map books object_state_of) ∙ ap length recorded.objects

  pub book-within : (o : ℕ) (b : ObjectState) → slice_get j.objects o ≡ Some b → o < length books
  book-within o b found = omega (arith, slice_get_within j.objects o b found, count-books)

  pub ticket-within : (t : ℕ) (s : ThreadState) → slice_get j.threads t ≡ Some s → t < length tickets
  ticket-within t s found = slice_get_within tickets t (ticket_of t s) (recorded.tickets t s found)

  -- one event of a thread on an object
  module _ (t : ℕ) (w : NextCall) (can : CanPerform j t w) (b : BookView) (p : TicketView)
      (book : slice_get books w.object ≡ Some b) (ticket : slice_get tickets t ≡ Some p) where
    same_ticket : p ≡ ticket_of t can.thread_state
    same_ticket = let e : Some p ≡ Some (ticket_of t can.thread_state) = sym ticket ∙ recorded.tickets t can.thread_state can.thread in cc

    same_object : can.object_state ≡ object_state_of b
    same_object = let e : Some can.object_state ≡ Some (object_state_of b) = sym can.object ∙ book-at w.object b book in cc

    number : b.object ≡ w.object
    number = (recorded.kept w.object b book).0

    ready : IsReady (waits_in_phase can.thread_state.phase) b.object w.op
    ready = subst (λ (n : ℕ). IsReady (waits_in_phase can.thread_state.phase) n w.op) (sym number) can.ready

    pub can_enter : CanEnter b p w.op
    can_enter = record {
      answers = subst (λ (q : TicketView). CanAnswer b.machine q.thread w.op) (sym same_ticket)
          (subst (λ (h : ObjectView). CanAnswer h t w.op) (ap (λ (o : ObjectState). o.view) same_object) can.answers);
      ready = subst (λ (q : TicketView). IsReady q.waits b.object w.op) (sym same_ticket) ready;
    }

    pub early : (p.next < 2 ^ 62) × (p.clock ≤ 2 ^ 62)
    early =
        let counts = can.early.counted.threads t can.thread_state can.thread in
        let next : p.next ≡ can.thread_state.next = ap (λ (q : TicketView). q.next) same_ticket in
        let clock : p.clock ≡ can.thread_state.stamp = ap (λ (q : TicketView). q.clock) same_ticket in
        (omega (arith, counts.0, can.early.few, next), omega (arith, counts.1, can.early.few, clock))

    module _ (e : Entry) (q : TicketView) (c : BookView) (noted : IsNoted b p w.op e c q) where
      by : e.thread ≡ t
      by = noted.entered.thread ∙ ap (λ (r : TicketView). r.thread) same_ticket

      on : e.object ≡ w.object
      on = noted.entered.object ∙ number

      at_next : length c.entries ≡ e.at
      at_next =
          let len : length c.entries ≡ length b.entries + 1 = ap length noted.entered.entries ∙ length-append b.entries (e ∷ []) in
          omega (arith, len, noted.entered.at)

      object_next : object_state_of c ≡ entered (object_state_of b) e c.machine.state
      object_next =
          ap (λ (h : ObjectView). made h (length c.entries) c.stamp) noted.entered.machine
          ∙ ap (λ (n : ℕ). made (changed b.machine c.machine.state) n c.stamp) at_next
          ∙ ap (made (changed b.machine c.machine.state) e.at) noted.entered.now_stamp

      -- the joint state that it leaves
      abbrev pub next : JointState
      next = record {
        objects = slice_set j.objects e.object (entered (object_state_of b) e c.machine.state);
        threads = slice_set j.threads e.thread (stepped can.thread_state e);
      }

      pub performs : Performs j t w e next
      performs = record {
        by = by;
        on = on;
        does = noted.entered.op;
        happens = record {
          thread_state = can.thread_state;
          thread = ap (slice_get j.threads) by ∙ can.thread;
          object_state = object_state_of b;
          object = ap (slice_get j.objects) on ∙ book-at w.object b book;
          place = noted.entered.place ∙ ap (λ (r : TicketView). r.next) same_ticket;
          at = noted.entered.at;
          stamp = noted.entered.stamp ∙ ap (λ (r : TicketView). suc (max r.clock b.stamp)) same_ticket;
          state = c.machine.state;
          lawful = noted.entered.lawful;
          objects = refl;
          threads = refl;
        };
      }

      waits : waits_after e.object e.reply ≡ waits_in_phase (phase_after can.thread_state.phase e)
      waits =
          waits-kept can.thread_state.phase b.object b.machine e c.machine.state (can.main ∙ ap (λ (n : ℕ). n == 0) (sym by))
          (subst (λ (o : Op). IsReady (waits_in_phase can.thread_state.phase) b.object o) (sym noted.entered.op) ready) noted.entered.lawful

      ticket_next : q ≡ ticket_of t (stepped can.thread_state e)
      ticket_next =
          noted.entered.ticket
          ∙ ap (λ (r : TicketView). issued r.thread (r.next + 1) e.stamp (waits_after e.object e.reply)) same_ticket
          ∙ ap (λ (n : ℕ). issued t (n + 1) e.stamp (waits_after e.object e.reply)) (sym (noted.entered.place ∙ ap (λ (r : TicketView). r.next) same_ticket))
          ∙ ap (issued t (e.place + 1) e.stamp) waits

      tickets_next : HaveTickets next.threads (slice_set tickets t q)
      tickets_next u s found = ⊎_elim
          (λ (same : (u ≡ e.thread) × (s ≡ stepped can.thread_state e)).
          let here : u ≡ t = same.0 ∙ by in
          ap (slice_get (slice_set tickets t q)) here ∙ slice_get-set_same tickets t q (slice_get_within tickets t p ticket) ∙ ap Some ticket_next
          ∙ ap (λ (r : ThreadState). Some (ticket_of t r)) (sym same.1) ∙ ap (λ (n : ℕ). Some (ticket_of n s)) (sym here))
          (λ (other : (u ≢ e.thread) × (slice_get j.threads u ≡ Some s)).
          slice_get-set_other tickets t u q (λ same. other.0 (same ∙ sym by)) ∙ recorded.tickets u s other.1)
          (slice_get-set_cases j.threads e.thread u (stepped can.thread_state e) s found)

      pub recorded_next : HaveRecorded (es ++ e ∷ []) next (slice_set books w.object c) (slice_set tickets t q)
      recorded_next = record {
        objects = map-slice_set object_state_of books w.object c ∙ ap (λ (l : List ObjectState). slice_set l w.object (object_state_of c)) recorded.objects
            ∙ ap (slice_set j.objects w.object) object_next ∙ ap (λ (o : ℕ). slice_set j.objects o (entered (object_state_of b) e c.machine.state)) (sym on);
        kept = books-kept es books w.object b c e recorded.kept book noted.entered.object noted.entered.same_object noted.entered.entries;
        tickets = tickets_next;
      }

-- where collector, books and tickets are as before, so is what is recorded
pub recorded-same : (old new : AloneRun) → new.collector ≡ old.collector → new.books ≡ old.books → new.tickets ≡ old.tickets → HasRecorded old → HasRecorded new
recorded-same old new collector books tickets recorded = rw collector (rw books (rw tickets recorded))
