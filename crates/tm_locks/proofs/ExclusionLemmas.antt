-- What each row of the reader-writer lock's table leaves.
use Rattle.std.proofs.Common.{◌≡◌, ℕ, Bool, true, false, not, ◌&&◌, ◌||◌, ◌==◌, is_none, inl, inr, List, [], ◌∷◌, ◌++◌, filter, Option, Some, None, refl, sym, subst}
use Rattle.tm_base.specs.declared.operations.Op.{Op}
use Rattle.tm_base.specs.declared.operations.Op.TheVariants as op
use Rattle.tm_base.specs.declared.replies.Reply.{Reply}
use Rattle.tm_base.specs.declared.replies.Reply.TheVariants as reply
use Rattle.tm_base.specs.declared.kinds.Kind.{Kind}
use Rattle.tm_base.specs.declared.kinds.Kind.TheVariants as kind
use Rattle.tm_base.specs.declared.events.Entry.{Entry}
use Rattle.tm_base.specs.States.{KindState, State, Waiter, RwState, is_queued, emptied, start_kind_state}
use Rattle.tm_base.specs.TableRows.{Tests, Allows, Gives, makes, queues}
use Rattle.tm_base.specs.Steps.{Step}
use Rattle.tm_base.specs.ReaderWriter.{is_empty, is_writer, first_readers, after_readers, admitting_row, rw_row}
use Rattle.tm_base.specs.Machines.{ObjectView}
use Rattle.tm_base.specs.Histories.{Label, HistoryState, Follows, IsHistory, Lawful, first_history_state}
use Rattle.tm_laws.proofs.TableRowLemmas.{of_parts, either}
use Rattle.tm_laws.proofs.RunsLemmas.{Leads-keeps}
use Rattle.tm_locks.proofs.RowChoices.{by_test}
use Rattle.tm_locks.proofs.ReadersLemmas.{first_readers-reader, after_readers-reader, after_readers-writer}
use Rattle.tm_locks.specs.Exclusion.{IsExclusive}

-- nobody is inside and nobody waits; or a writer is inside alone; or readers are, and the oldest that
-- waits wants to write
abbrev InOrder : List ℕ → Option ℕ → List (Waiter Bool) → Type 0
InOrder [] None [] = Unit {0}
InOrder [] None (w ∷ queue) = ⊥
InOrder [] (Some x) queue = Unit {0}
InOrder (r ∷ readers) None [] = Unit {0}
InOrder (r ∷ readers) None (w ∷ queue) = w.value ≡ true
InOrder (r ∷ readers) (Some x) queue = ⊥

abbrev IsOrdered : KindState → Type 0
IsOrdered (RwState readers writer queue) = InOrder readers writer queue
IsOrdered own = Unit {0}

-- no reader is inside beside the writer
abbrev AreApart : Option ℕ → List ℕ → Type 0
AreApart None readers = Unit {0}
AreApart (Some x) [] = Unit {0}
AreApart (Some x) (r ∷ readers) = ⊥

given : {r : Reply} {s' : State} (answer : Reply) (next : State) → IsOrdered next.kind_state → Gives r s' answer next → IsOrdered s'.kind_state
given answer next o g = subst (λ (q : State). IsOrdered q.kind_state) (sym g.1) o

-- behind the readers at its head a queue begins with a writer
behind : (r : ℕ) (readers : List ℕ) (queue : List (Waiter Bool)) → InOrder (r ∷ readers) None (after_readers queue)
behind r readers [] = tt
behind r readers (w ∷ queue) = at w.value refl (behind r readers queue)
  where
    at : (b : Bool) → w.value ≡ b → InOrder (r ∷ readers) None (after_readers queue) → InOrder (r ∷ readers) None (after_readers (w ∷ queue))
    at true e rest = subst (InOrder (r ∷ readers) None) (sym (after_readers-writer w queue e)) e
    at false e rest = subst (InOrder (r ∷ readers) None) (sym (after_readers-reader w queue e)) rest

joined : (readers : List ℕ) (f : ℕ) (first : List ℕ) (queue : List (Waiter Bool)) → InOrder (readers ++ f ∷ first) None (after_readers queue)
joined [] f first queue = behind f first queue
joined (r ∷ readers) f first queue = behind r (readers ++ f ∷ first) queue

-- readers that are inside keep a writer at the head out
occupied : (readers : List ℕ) (w : Waiter Bool) (queue : List (Waiter Bool)) → w.value ≡ true → is_empty readers ≡ false → InOrder readers None (w ∷ queue)
occupied [] w queue e some = absurd cc
occupied (r ∷ readers) w queue e some = e

module _ (s : State) (r : Reply) (s' : State) where
  -- who may go in is admitted
  admits : (readers : List ℕ) (writer : Option ℕ) (queue : List (Waiter Bool)) → AreApart writer readers → Allows (admitting_row readers writer queue) s r s' → IsOrdered s'.kind_state
  admits [] None [] a h = given _ _ tt h
  admits [] (Some x) [] a h = given _ _ tt h
  admits (y ∷ readers) None [] a h = given _ _ tt h
  admits [] (Some x) (w ∷ queue) a h = given _ _ tt h
  admits (y ∷ readers) (Some x) queue a h = elim a [ ]
  admits readers None (w ∷ queue) a h =
      by_test w.value
      (λ writes g. by_test (is_empty readers) (λ _ g. given _ _ tt g) (λ some g. given _ _ (occupied readers w queue writes some) g) g)
      (λ reads g. given _ _ (subst (λ (first : List ℕ). InOrder (readers ++ first) None (after_readers (w ∷ queue))) (sym (first_readers-reader w queue reads)) (joined readers w.thread (first_readers queue) (w ∷ queue))) g) h

  -- the call goes in, or waits
  waits : (next : KindState) → IsOrdered s.kind_state → IsOrdered next → Allows (queues next) s r s' → IsOrdered s'.kind_state
  waits next before after h = either s.stopped (λ g. given _ _ before g) (λ g. given _ _ after g) h

module _ (g : List (Option Reply)) (b : Bool) (t : ℕ) (r : Reply) (s' : State) where
  abbrev at : List ℕ → Option ℕ → List (Waiter Bool) → State
  at readers writer queue = of_parts (RwState readers writer queue) g b

  reads : (readers : List ℕ) (writer : Option ℕ) (queue : List (Waiter Bool)) → InOrder readers writer queue
      → Allows (Tests (is_none writer && is_empty queue) (makes reply.Ok (RwState (readers ++ t ∷ []) writer queue)) (queues (RwState readers writer (queue ++ record { thread = t; value = false } ∷ [])))) (at readers writer queue) r s'
      → IsOrdered s'.kind_state
  reads [] None [] o h = given _ _ tt h
  reads [] None (w ∷ queue) o h = elim o [ ]
  reads [] (Some x) queue o h = waits (at [] (Some x) queue) r s' _ o tt h
  reads (y ∷ readers) None [] o h = given _ _ tt h
  reads (y ∷ readers) None (w ∷ queue) o h = waits (at (y ∷ readers) None (w ∷ queue)) r s' _ o o h
  reads (y ∷ readers) (Some x) queue o h = elim o [ ]

  writes : (readers : List ℕ) (writer : Option ℕ) (queue : List (Waiter Bool)) → InOrder readers writer queue
      → Allows (Tests (is_none writer && is_empty readers && is_empty queue) (makes reply.Ok (RwState readers (Some t) queue)) (queues (RwState readers writer (queue ++ record { thread = t; value = true } ∷ [])))) (at readers writer queue) r s'
      → IsOrdered s'.kind_state
  writes [] None [] o h = given _ _ tt h
  writes [] None (w ∷ queue) o h = elim o [ ]
  writes [] (Some x) queue o h = waits (at [] (Some x) queue) r s' _ o tt h
  writes (y ∷ readers) None [] o h = waits (at (y ∷ readers) None []) r s' _ o refl h
  writes (y ∷ readers) None (w ∷ queue) o h = waits (at (y ∷ readers) None (w ∷ queue)) r s' _ o o h
  writes (y ∷ readers) (Some x) queue o h = elim o [ ]

  -- who is left when a reader goes is still apart from the writer
  still_apart : (readers : List ℕ) (writer : Option ℕ) (queue : List (Waiter Bool)) → InOrder readers writer queue → AreApart writer (filter (λ x. not (x == t)) readers)
  still_apart readers None queue o = tt
  still_apart [] (Some x) queue o = tt
  still_apart (y ∷ readers) (Some x) queue o = elim o [ ]

  rw_row-ordered : (readers : List ℕ) (writer : Option ℕ) (queue : List (Waiter Bool)) (o : Op) → InOrder readers writer queue → Allows (rw_row readers writer queue t o) (at readers writer queue) r s' → IsOrdered s'.kind_state
  rw_row-ordered readers writer queue op.RLock order h =
      either (is_queued readers t || is_writer writer t) (λ g. given _ _ order g) (λ h. reads readers writer queue order h) h
  rw_row-ordered readers writer queue op.WLock order h =
      either (is_queued readers t || is_writer writer t) (λ g. given _ _ order g) (λ h. writes readers writer queue order h) h
  rw_row-ordered readers writer queue op.RUnlock order h =
      either (is_queued readers t) (λ h. admits (at readers writer queue) r s' (filter (λ x. not (x == t)) readers) writer queue (still_apart readers writer queue order) h) (λ g. given _ _ order g) h
  rw_row-ordered readers writer queue op.WUnlock order h =
      either (is_writer writer t) (λ h. admits (at readers writer queue) r s' readers None queue tt h) (λ g. given _ _ order g) h
  rw_row-ordered readers writer queue o order h = elim h [ ]

  Step-ordered : (own : KindState) (o : Op) → IsOrdered own → Step kind.Rw (of_parts own g b) t o r s' → IsOrdered s'.kind_state
  Step-ordered (RwState readers writer queue) o order h = rw_row-ordered readers writer queue o order h
  Step-ordered own o order h = elim h [ ]

-- a stop leaves who is inside
emptied-ordered : (readers : List ℕ) (writer : Option ℕ) (queue : List (Waiter Bool)) → InOrder readers writer queue → InOrder readers writer []
emptied-ordered [] None queue o = tt
emptied-ordered [] (Some x) queue o = tt
emptied-ordered (y ∷ readers) None queue o = tt
emptied-ordered (y ∷ readers) (Some x) queue o = elim o [ ]

stopped-ordered : (own : KindState) → IsOrdered own → IsOrdered (emptied own)
stopped-ordered (RwState readers writer queue) o = emptied-ordered readers writer queue o
stopped-ordered own o = tt

-- a reader-writer lock in this state
abbrev lock_at : ℕ → State → ObjectView
lock_at threads s = record { kind = kind.Rw; threads = threads; state = s }

Lawful-ordered : (threads : ℕ) (s : State) (t : ℕ) (o : Op) (r : Reply) (s' : State) → IsOrdered s.kind_state → Lawful (lock_at threads s) t o r s' → IsOrdered s'.kind_state
Lawful-ordered threads s t op.Resume r s' order e = subst (λ (q : State). IsOrdered q.kind_state) (sym e.cleared) order
Lawful-ordered threads s t op.Stop r s' order e = subst (λ (q : State). IsOrdered q.kind_state) (sym e.halted) (stopped-ordered s.kind_state order)
Lawful-ordered threads s t o r s' order e = Step-ordered s.granted s.stopped t r s' s.kind_state o order e.step

-- what holds of a lock in order
ordered-exclusive : (readers : List ℕ) (writer : Option ℕ) (queue : List (Waiter Bool)) → InOrder readers writer queue → IsExclusive (RwState readers writer queue)
ordered-exclusive [] None [] o = record { apart = inl refl; next_writes = λ some. absurd (some refl); in_use = λ some. absurd (some refl) }
ordered-exclusive [] None (w ∷ queue) o = elim o [ ]
ordered-exclusive [] (Some x) queue o = record { apart = inl refl; next_writes = λ some. absurd (some refl); in_use = λ _. inr (λ e. cc) }
ordered-exclusive (y ∷ readers) None [] o = record { apart = inr refl; next_writes = λ _ oldest (e : None ≡ Some oldest). absurd cc; in_use = λ some. absurd (some refl) }
ordered-exclusive (y ∷ readers) None (w ∷ queue) o =
    record { apart = inr refl; next_writes = λ _ oldest (e : Some w ≡ Some oldest). let same : w ≡ oldest = cc in subst (λ (v : Waiter Bool). v.value ≡ true) same o; in_use = λ _. inl (λ e. cc) }
ordered-exclusive (y ∷ readers) (Some x) queue o = elim o [ ]

state-exclusive : (own : KindState) → IsOrdered own → IsExclusive own
state-exclusive (RwState readers writer queue) o = ordered-exclusive readers writer queue o
state-exclusive own o = record { apart = inl refl; next_writes = λ some. absurd (some refl); in_use = λ some. absurd (some refl) }

module _ (l : Label) (its : l.kind ≡ kind.Rw) where
  Follows-ordered : (p : HistoryState) (e : Entry) (q : HistoryState) → IsOrdered p.state.kind_state → Follows l p e q → IsOrdered q.state.kind_state
  Follows-ordered p e q order f =
      Lawful-ordered l.threads p.state e.thread e.op e.reply q.state order
      (subst (λ (k : Kind). Lawful (record { kind = k; threads = l.threads; state = p.state }) e.thread e.op e.reply q.state) its f.lawful)

  pub history-exclusive : (es : List Entry) (p : HistoryState) → IsHistory l es p → IsExclusive p.state.kind_state
  history-exclusive es p run =
      state-exclusive p.state.kind_state
      (Leads-keeps (Follows l) (λ (p : HistoryState). IsOrdered p.state.kind_state) Follows-ordered es (first_history_state l) p (subst (λ (k : Kind). IsOrdered (start_kind_state k)) (sym its) tt) run)
