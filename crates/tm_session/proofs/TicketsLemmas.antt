-- What a thread's ticket waits for, before and after its event.
use Rattle.std.proofs.Common.{◌≡◌, ℕ, zero, suc, ◌+◌, ◌<◌, ◌==◌, ⊎_elim, true, false, List, [], ◌∷◌, ◌++◌, length, length-append, Some, None, slice_get, refl, ap, sym, ◌∙◌, arith, eqb-true}
use Rattle.std.proofs.lemmas.List.{length-map}
use Rattle.std.proofs.lemmas.Option.{slice_get_within}
use Rattle.tm_base.specs.declared.operations.Op.{Op}
use Rattle.tm_base.specs.declared.operations.Op.TheVariants as op
use Rattle.tm_base.specs.declared.replies.Reply.{Reply}
use Rattle.tm_base.specs.declared.replies.Reply.TheVariants as reply
use Rattle.tm_base.specs.declared.events.Entry.{Entry}
use Rattle.tm_base.specs.States.{State}
use Rattle.tm_base.specs.Machines.{ObjectView}
use Rattle.tm_base.specs.Histories.{Lawful}
use Rattle.tm_base.specs.Tickets.{TicketView, IsReady, opening, waits_after}
use Rattle.tm_text.specs.Exercises.{ExerciseView}
use Rattle.tm_laws.specs.Counts.{is_wait}
use Rattle.tm_laws.specs.ThreadObjects.{is_end}
use Rattle.tm_laws.proofs.Begun.{End-plain}
use Rattle.tm_programs.specs.Programs.{Over, Rest}
use Rattle.tm_replay.specs.JointStates.{ThreadState, first_thread_state, start, unbegun}
use Rattle.tm_replay.specs.declared.phases.Phase.{Phase}
use Rattle.tm_replay.specs.declared.phases.Phase.TheVariants as phase
use Rattle.tm_base.specs.Fits.{is_call}
use Rattle.tm_replay.specs.JointSteps.{phase_after, phase_by}
use Rattle.tm_replay.specs.SoundStates.{is_main}
use Rattle.tm_replay.proofs.JointStartLemmas.{mapped-at}
use Rattle.tm_replay.proofs.SliceLemmas.{found_at}
use Rattle.tm_replay.proofs.Moves.{Does, begins, ends, calls, resumes}
use Rattle.tm_joint.specs.Readings.{waits_in_phase}
use Rattle.tm_session.specs.NextCalls.{AsksCalls}
use Rattle.tm_session.specs.Records.{AreFirstTickets, HaveTickets, ticket_of}
use Rattle.tm_session.proofs.BooksLemmas.{at-more}

-- a thread that waits nowhere is ready for a call
call-ready : (object : ℕ) (o : Op) → is_call o ≡ true → IsReady None object o
call-ready object op.Resume call = absurd cc
call-ready object o call = refl

-- a thread is ready for what it does by its phase
pub does-ready : (own : ℕ) (p : Phase) (rest : Rest) (object : ℕ) (o : Op) → AsksCalls rest → Does own p rest object o → IsReady (waits_in_phase p) object o
does-ready own p rest object o asks does = go does
  where
    go : Does own p rest object o → IsReady (waits_in_phase p) object o
    go (begins at is_own does) = rw (at, does) refl
    go (ends at is_own cut does) = rw (at, does) refl
    go (calls at asked) = rw at (call-ready object o (asks object o asked))
    go (resumes at does) = rw (at, does) refl

-- `main` never waits
main-plain : (t object : ℕ) (h : ObjectView) (o : Op) (r : Reply) (s' : State) → t ≡ 0 → IsReady None object o → Lawful h t o r s' → is_wait r ≡ false
main-plain t object h op.Resume r s' main ready lawful = absurd cc
main-plain t object h op.Stop r s' main ready lawful = ap is_wait lawful.reply
main-plain t object h o r s' main ready lawful = absurd (omega (arith, main, lawful.may.program))

waits_after-plain : (object : ℕ) (r : Reply) → is_wait r ≡ false → waits_after object r ≡ None
waits_after-plain object reply.Wait plain = absurd cc
waits_after-plain object r plain = refl

waits-by : (o : Op) (r : Reply) (object : ℕ) → (is_end o ≡ true → is_wait r ≡ false) → waits_after object r ≡ waits_in_phase (phase_by o r object)
waits-by (op.End cut) r object plain = waits_after-plain object r (plain refl)
waits-by o reply.Wait object plain = refl
waits-by o r object plain = refl

end-plain : (h : ObjectView) (t : ℕ) (o : Op) (r : Reply) (s' : State) → Lawful h t o r s' → is_end o ≡ true → is_wait r ≡ false
end-plain h t (op.End cut) r s' lawful end = End-plain h t cut r s' lawful
end-plain h t o r s' lawful end = absurd cc

-- after its event the ticket waits as the phase does
pub waits-kept : (p : Phase) (object : ℕ) (h : ObjectView) (e : Entry) (s' : State) → is_main p ≡ (e.thread == 0) → IsReady (waits_in_phase p) object e.op
    → Lawful h e.thread e.op e.reply s' → waits_after e.object e.reply ≡ waits_in_phase (phase_after p e)
waits-kept phase.Main object h e s' main ready lawful = waits_after-plain e.object e.reply (main-plain e.thread object h e.op e.reply s' (eqb-true e.thread 0 (sym main)) ready lawful)
waits-kept phase.NotBegun object h e s' main ready lawful = waits-by e.op e.reply e.object (end-plain h e.thread e.op e.reply s' lawful)
waits-kept phase.Free object h e s' main ready lawful = waits-by e.op e.reply e.object (end-plain h e.thread e.op e.reply s' lawful)
waits-kept (phase.Waits o) object h e s' main ready lawful = waits-by e.op e.reply e.object (end-plain h e.thread e.op e.reply s' lawful)
waits-kept (phase.Ended cut) object h e s' main ready lawful = waits-by e.op e.reply e.object (end-plain h e.thread e.op e.reply s' lawful)

-- before the first event each thread has the ticket of one that has made none
pub first-tickets : (x : ExerciseView) (tickets : List TicketView) → AreFirstTickets (length x.programs + 1) tickets → HaveTickets (start x).threads tickets
first-tickets x tickets first t s found =
    let within : t < length tickets = omega (arith, slice_get_within (start x).threads t s found, length-map x.programs unbegun, first.counted) in
    let there = found_at tickets t within in
    there.1 ∙ ap Some (first.each t there.0 there.1) ∙ ap Some (sym (opened t s found))
  where
    opened : (u : ℕ) (r : ThreadState) → slice_get (start x).threads u ≡ Some r → ticket_of u r ≡ opening u
    opened zero r at = let main : first_thread_state phase.Main Over ≡ r = cc in ap (ticket_of 0) (sym main)
    opened (suc u) r at = ap (ticket_of (suc u)) (sym (mapped-at unbegun x.programs u r at).2)

-- one more of them
pub first-more : (n : ℕ) (tickets : List TicketView) (p : TicketView) → AreFirstTickets n tickets → p ≡ opening n → AreFirstTickets (n + 1) (tickets ++ p ∷ [])
first-more n tickets p first opens = record { counted = omega (arith, length-append tickets (p ∷ []), first.counted); each = each }
  where
    each : (t : ℕ) (q : TicketView) → slice_get (tickets ++ p ∷ []) t ≡ Some q → q ≡ opening t
    each t q found = ⊎_elim
        (λ (old : slice_get tickets t ≡ Some q). first.each t q old)
        (λ (new : (t ≡ length tickets) × (q ≡ p)). new.1 ∙ opens ∙ ap opening (sym (new.0 ∙ first.counted)))
        (at-more tickets p q t found)
