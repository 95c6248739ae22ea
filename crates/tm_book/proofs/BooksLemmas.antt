-- What a book keeps when one more event is entered.
use Rattle.std.proofs.Common.{◌≡◌, ℕ, suc, ◌+◌, ◌-◌, ◌^◌, ◌<◌, ◌≤◌, max, true, false, Some, ◌⊎◌, inl, inr, ⊎_elim, List, [], ◌∷◌, ◌++◌, length, length-append, refl, ap, sym, arith}
use Rattle.std.proofs.lemmas.Bool.{false_from_ne_true}
use Rattle.tm_base.specs.declared.operations.Op.{Op}
use Rattle.tm_base.specs.declared.operations.Op.TheVariants as op
use Rattle.tm_base.specs.declared.replies.Reply.{Reply}
use Rattle.tm_base.specs.declared.kinds.Kind.{Kind}
use Rattle.tm_base.specs.declared.events.Entry.{Entry}
use Rattle.tm_base.specs.States.{State, start_kind_state, grant_of, is_waiting}
use Rattle.tm_base.specs.Machines.{ObjectView, changed, fresh}
use Rattle.tm_base.specs.Histories.{Label, HistoryState, Follows, IsHistory, Lawful, first_history_state}
use Rattle.tm_base.specs.Tickets.{TicketView}
use Rattle.tm_laws.specs.Counts.{bit, is_wait}
use Rattle.tm_laws.specs.Tidy.{IsSound}
use Rattle.tm_laws.specs.Owed.{owed, own_owed, paid}
use Rattle.tm_laws.proofs.Counting.{bit_small}
use Rattle.tm_laws.proofs.LawfulMoves.{Lawful-moves}
use Rattle.tm_laws.proofs.OwedLemmas.{is_owed, owed-moves, owed-pays, owed-start}
use Rattle.tm_laws.proofs.RunsLemmas.{Leads-snoc}
use Rattle.tm_laws.proofs.StartStateLemmas.{start-sound}
use Rattle.tm_laws.proofs.WaitersLemmas.{waiting-ungranted}
use Rattle.tm_book.specs.Books.{BookView, IsKept, IsEntered, HasRoom, label_of, history_state_of}

-- an operation pays for an owed event, or for none
paid-owed : (o : Op) → (paid o ≡ 0) ⊎ (is_owed o ≡ true)
paid-owed op.Begin = inr refl
paid-owed (op.End cut) = inr refl
paid-owed op.Resume = inr refl
paid-owed op.Stop = inr refl
paid-owed o = inl refl

-- a lawful event finds its room
module _ (b : BookView) (due capacity t : ℕ) (o : Op) (r : Reply) (s' : State) (kept : IsKept b due capacity) (lawful : Lawful b.machine t o r s') where
  pub enough : paid o ≤ due + bit (is_wait r)
  enough = omega (arith, kept.owes, owed-moves b.machine t o r s' kept.sound lawful)

  pub fits : b.spare ≡ capacity - (length b.entries + due) → HasRoom b o → (due' : ℕ) → due' + paid o ≡ due + bit (is_wait r) → length b.entries + 1 + due' ≤ capacity
  fits free room due' pays = ⊎_elim
      (λ (none : paid o ≡ 0). omega (arith, free, room none, pays, none, bit_small (is_wait r), kept.room))
      (λ (is : is_owed o ≡ true).
      omega (arith, pays, owed-moves b.machine t o r s' kept.sound lawful, owed-pays b.machine t o r s' kept.sound lawful is, kept.owes, kept.room)) (paid-owed o)

  pub place : b.spare ≡ capacity - (length b.entries + due) → HasRoom b o → length b.entries < capacity
  place free room =
      let here : length b.entries + 1 + owed (changed b.machine s') ≤ capacity = fits free room (owed (changed b.machine s')) (omega (arith, kept.owes, owed-moves b.machine t o r s' kept.sound lawful)) in
      omega (arith, here)

-- one more event in a legal history
snoc : (l : Label) (es : List Entry) (stamp : ℕ) (e : Entry) (s s' : State) → IsHistory l es (record { at = length es; stamp = stamp; state = s })
    → e.object ≡ l.object → e.at ≡ suc (length es) → stamp < e.stamp → Lawful (record { kind = l.kind; threads = l.threads; state = s }) e.thread e.op e.reply s'
    → IsHistory l (es ++ e ∷ []) (record { at = length (es ++ e ∷ []); stamp = e.stamp; state = s' })
snoc l es stamp e s s' run object at rises lawful =
    let p : HistoryState = record { at = length es; stamp = stamp; state = s } in
    let q : HistoryState = record { at = length (es ++ e ∷ []); stamp = e.stamp; state = s' } in
    let f : Follows l p e q = record { object = object; at = at; rises = rises; lawful = lawful; now_at = omega (arith, length-append es (e ∷ []), at); now_stamp = refl } in
    Leads-snoc (Follows l) es e (first_history_state l) p q run f

module _ (b new : BookView) (due due' capacity : ℕ) (before later : TicketView) (o : Op) (e : Entry) (kept : IsKept b due capacity) (m : IsEntered b before o e new later) where
  grown : length new.entries ≡ length b.entries + 1
  grown = omega (arith, length-append b.entries (e ∷ []), ap length m.entries)

  history : IsHistory (label_of new) new.entries (history_state_of new)
  history = rw (m.entries, m.now_stamp, m.same_object, ap (λ h. h.kind) m.machine, ap (λ h. h.threads) m.machine)
      (snoc (label_of b) b.entries b.stamp e b.machine.state new.machine.state kept.history m.object m.at (omega (arith, m.stamp)) m.lawful)

  pub IsKept-entered : before.clock ≤ max (2 ^ 62) b.stamp → due' + paid o ≡ due + bit (is_wait e.reply) → length b.entries + 1 + due' ≤ capacity → IsKept new due' capacity
  IsKept-entered clock pays fit =
      record {
        history = history;
        sound = rw m.machine (Lawful-moves b.machine e.thread e.op e.reply new.machine.state kept.sound m.lawful).sound;
        bounded = omega (arith, m.now_stamp, m.stamp, clock, kept.bounded, grown);
        owes = omega (arith, pays, kept.owes, ap owed m.machine, ap paid m.op, owed-moves b.machine e.thread e.op e.reply new.machine.state kept.sound m.lawful);
        room = omega (arith, fit, grown);
      }

-- a book before its first event
pub IsKept-start : (object : ℕ) (k : Kind) (threads due spare capacity : ℕ) → due ≡ 1 + own_owed k (start_kind_state k) → due ≤ capacity
    → IsKept (record { object = object; machine = fresh k threads; entries = []; stamp = 0; spare = spare }) due capacity
IsKept-start object k threads due spare capacity owes room =
    record { history = refl; sound = start-sound k threads; bounded = omega arith; owes = omega (arith, owes, owed-start k threads); room = omega (arith, room) }

-- a call that was granted waits no more
pub granted-ready : (h : ObjectView) (t : ℕ) (r : Reply) → IsSound h → grant_of h.state t ≡ Some r → false ≡ is_waiting h.state t
granted-ready h t r sound granted =
    sym (false_from_ne_true (is_waiting h.state t) (λ waits. absurd (cc (granted, waiting-ungranted h.threads h.state sound.tidy t waits))))
