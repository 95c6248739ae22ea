-- Only a begin makes a thread object's thread begun, and only an end makes it ended.
use Rattle.std.proofs.Common.{⊎_elim, ◌≡◌, ℕ, Bool, true, false, ◌||◌, List, [], ◌∷◌, Option, refl, ap, sym, ◌∙◌, subst}
use Rattle.std.proofs.lemmas.Bool.{cases_Bool}
use Rattle.tm_base.specs.declared.operations.Op.{Op}
use Rattle.tm_base.specs.declared.operations.Op.TheVariants as op
use Rattle.tm_base.specs.declared.replies.Reply.{Reply}
use Rattle.tm_base.specs.declared.kinds.Kind.{Kind}
use Rattle.tm_base.specs.declared.kinds.Kind.TheVariants as kind
use Rattle.tm_base.specs.Fits.{fits}
use Rattle.tm_base.specs.States.{KindState, State, MutexState, ThreadObjectState, emptied}
use Rattle.tm_base.specs.TableRows.{AllowsReply}
use Rattle.tm_base.specs.Steps.{Step, row_of}
use Rattle.tm_base.specs.ThreadObject.{thread_row}
use Rattle.tm_base.specs.Machines.{ObjectView, IsInTurn}
use Rattle.tm_base.specs.Histories.{Calls, Lawful}
use Rattle.tm_laws.specs.Tidy.{IsStateOf, IsSound}
use Rattle.tm_laws.specs.Counts.{is_wait}
use Rattle.tm_laws.specs.ThreadObjects.{has_begun, has_ended, is_begin, is_end}
use Rattle.tm_laws.proofs.TableRowLemmas.{Leaves, Leaves-state, Allows-reply, of_parts}
use Rattle.tm_laws.proofs.StepRow.{Step-row}

-- what an event leaves of a thread's beginning and end
pub record Noted (o : Op) (before after : KindState) : Type 0 where
  pub begun : has_begun after ≡ (is_begin o || has_begun before)
  pub ended : has_ended after ≡ (is_end o || has_ended before)

noted : (o : Op) (before after : KindState) → has_begun after ≡ (is_begin o || has_begun before) → has_ended after ≡ (is_end o || has_ended before) → Noted o before after
noted o before after b e = record { begun = b; ended = e }

thread_row-noted : (own : ℕ) (started begun ended : Bool) (beginning joiners : List ℕ) (t : ℕ) (o : Op)
    → Leaves (Noted o (ThreadObjectState started begun ended beginning joiners)) (ThreadObjectState started begun ended beginning joiners) (thread_row own started begun ended beginning joiners t o)
thread_row-noted own true begun ended beginning joiners t op.Begin = noted _ _ _ refl refl
thread_row-noted own false begun ended beginning joiners t op.Begin = (noted _ _ _ refl refl, noted _ _ _ refl refl)
thread_row-noted own true begun ended beginning joiners t op.Start = noted _ _ _ refl refl
thread_row-noted own false begun ended (o ∷ beginning) joiners t op.Start = noted _ _ _ refl refl
thread_row-noted own false begun ended [] joiners t op.Start = noted _ _ _ refl refl
thread_row-noted own started begun true beginning joiners t op.Join = (noted _ _ _ refl refl, noted _ _ _ refl refl)
thread_row-noted own started begun false beginning joiners t op.Join = (noted _ _ _ refl refl, (noted _ _ _ refl refl, noted _ _ _ refl refl))
thread_row-noted own started begun ended beginning joiners t (op.End true) = noted _ _ _ refl refl
thread_row-noted own started begun ended beginning joiners t (op.End false) = noted _ _ _ refl refl
thread_row-noted own started begun ended beginning joiners t o = tt

abbrev pub is_thread : Kind → Bool
is_thread (kind.Thread own held) = true
is_thread k = false

-- an object of another kind has no such operations, and notes nothing
never : (k : Kind) (own : KindState) → IsStateOf k own → is_thread k ≡ false → (has_begun own ≡ false) × (has_ended own ≡ false)
never (kind.Thread o held) (ThreadObjectState started begun ended beginning joiners) x other = absurd cc
never k (ThreadObjectState started begun ended beginning joiners) x other = elim x [ ]
never k own x other = (refl, refl)

never_made : (o : Op) (k : Kind) → fits o k ≡ true → is_thread k ≡ false → (is_begin o ≡ false) × (is_end o ≡ false)
never_made op.Begin (kind.Thread own held) fit other = absurd cc
never_made op.Begin k fit other = absurd cc
never_made (op.End cut) (kind.Thread own held) fit other = absurd cc
never_made (op.End cut) k fit other = absurd cc
never_made o k fit other = (refl, refl)

other_noted : (k : Kind) (o : Op) (before after : KindState) → IsStateOf k before → IsStateOf k after → fits o k ≡ true → is_thread k ≡ false → Noted o before after
other_noted k o before after x y fit other =
    let made = never_made o k fit other in
    let old = never k before x other in
    let new = never k after y other in
    record { begun = rw (made.0, old.0) new.0; ended = rw (made.1, old.1) new.1 }

-- a step
Step-noted-by : (k : Kind) (old : KindState) (g : List (Option Reply)) (b : Bool) (t : ℕ) (o : Op) (r : Reply) (s' : State)
    → IsStateOf k old → IsStateOf k s'.kind_state → fits o k ≡ true → Step k (of_parts old g b) t o r s' → Noted o old s'.kind_state
Step-noted-by (kind.Thread own held) (ThreadObjectState started begun ended beginning joiners) g b t o r s' x y fit h =
    Leaves-state (Noted o (ThreadObjectState started begun ended beginning joiners)) (of_parts (ThreadObjectState started begun ended beginning joiners) g b) r s'
    (thread_row own started begun ended beginning joiners t o) (thread_row-noted own started begun ended beginning joiners t o) h
Step-noted-by (kind.Thread own held) other g b t o r s' x y fit h = elim x [ ]
Step-noted-by k old g b t o r s' x y fit h = other_noted k o old s'.kind_state x y fit refl

pub Step-noted : (h : ObjectView) (t : ℕ) (o : Op) (r : Reply) (s' : State) → IsStateOf h.kind h.state.kind_state → Calls h t o r s' → Noted o h.state.kind_state s'.kind_state
Step-noted h t o r s' shape e =
    let row = Step-row h t o r s' shape e.may e.step in
    Step-noted-by h.kind h.state.kind_state h.state.granted h.state.stopped t o r s' shape
    (subst (λ (s : State). IsStateOf h.kind s.kind_state) (sym row.next) row.shape) e.may.fit e.step

emptied-noted : (own : KindState) → (has_begun (emptied own) ≡ has_begun own) × (has_ended (emptied own) ≡ has_ended own)
emptied-noted (MutexState owner queue) = (refl, refl)
emptied-noted own = (refl, refl)

pub Lawful-noted : (h : ObjectView) (t : ℕ) (o : Op) (r : Reply) (s' : State) → IsSound h → Lawful h t o r s' → Noted o h.state.kind_state s'.kind_state
Lawful-noted h t op.Resume r s' sound e = record { begun = ap (λ s. has_begun s.kind_state) e.cleared; ended = ap (λ s. has_ended s.kind_state) e.cleared }
Lawful-noted h t op.Stop r s' sound e = record {
  begun = ap (λ s. has_begun s.kind_state) e.halted ∙ (emptied-noted h.state.kind_state).0;
  ended = ap (λ s. has_ended s.kind_state) e.halted ∙ (emptied-noted h.state.kind_state).1;
}
Lawful-noted h t o r s' sound e = Step-noted h t o r s' sound.kind_state e

-- only a thread object makes a begin or an end
pub Lawful-made : (h : ObjectView) (t : ℕ) (o : Op) (r : Reply) (s' : State) → Lawful h t o r s' → is_thread h.kind ≡ false → (is_begin o ≡ false) × (is_end o ≡ false)
Lawful-made h t op.Resume r s' e other = (refl, refl)
Lawful-made h t op.Stop r s' e other = (refl, refl)
Lawful-made h t o r s' e other = never_made o h.kind e.may.fit other

-- an end never waits
ThreadEnd-plain : (k : Kind) (old : KindState) (s : State) (t : ℕ) (cut : Bool) (r : Reply) → AllowsReply (row_of k old t (op.End cut)) s.stopped r → is_thread k ≡ true → is_wait r ≡ false
ThreadEnd-plain (kind.Thread n held) (ThreadObjectState true begun ended beginning joiners) s t true r e its = ap is_wait e
ThreadEnd-plain (kind.Thread n held) (ThreadObjectState true begun ended beginning joiners) s t false r e its = ap is_wait e
ThreadEnd-plain (kind.Thread n held) (ThreadObjectState false begun ended beginning joiners) s t true r e its = ap is_wait e
ThreadEnd-plain (kind.Thread n held) (ThreadObjectState false begun ended beginning joiners) s t false r e its = ap is_wait e
ThreadEnd-plain (kind.Thread n held) old s t cut r e its = elim e [ ]
ThreadEnd-plain k old s t cut r e its = absurd cc

pub End-plain : (h : ObjectView) (t : ℕ) (cut : Bool) (r : Reply) (s' : State) → Lawful h t (op.End cut) r s' → is_wait r ≡ false
End-plain h t cut r s' e = ⊎_elim
    (λ (its : is_thread h.kind ≡ true). ThreadEnd-plain h.kind h.state.kind_state h.state t cut r (Allows-reply h.state r s' (row_of h.kind h.state.kind_state t (op.End cut)) e.step) its)
    (λ (other : is_thread h.kind ≡ false). absurd (cc ((never_made (op.End cut) h.kind e.may.fit other).1))) (cases_Bool (is_thread h.kind))

-- on a thread's object a begin is the thread's own and comes once, and an end is its own, after it and once
Begin-own : (old : KindState) (n : ℕ) (held : Bool) (t : ℕ) → IsStateOf (kind.Thread n held) old → IsInTurn (kind.Thread n held) old t op.Begin → (t ≡ n) × (has_begun old ≡ false)
Begin-own (ThreadObjectState started begun ended beginning joiners) n held t x turn = turn
Begin-own old n held t x turn = elim x [ ]

End-own : (old : KindState) (n : ℕ) (held cut : Bool) (t : ℕ) → IsStateOf (kind.Thread n held) old → IsInTurn (kind.Thread n held) old t (op.End cut) → (t ≡ n) × (has_begun old ≡ true) × (has_ended old ≡ false)
End-own (ThreadObjectState started begun ended beginning joiners) n held cut t x turn = turn
End-own old n held cut t x turn = elim x [ ]

module _ (n : ℕ) (held : Bool) (threads : ℕ) (s : State) (t : ℕ) (r : Reply) (s' : State) (shape : IsStateOf (kind.Thread n held) s.kind_state) where
  pub Begin-turn : Lawful (record { kind = kind.Thread n held; threads = threads; state = s }) t op.Begin r s' → (t ≡ n) × (has_begun s.kind_state ≡ false)
  Begin-turn e = Begin-own s.kind_state n held t shape e.may.in_turn

  pub End-turn : (cut : Bool) → Lawful (record { kind = kind.Thread n held; threads = threads; state = s }) t (op.End cut) r s' → (t ≡ n) × (has_begun s.kind_state ≡ true) × (has_ended s.kind_state ≡ false)
  End-turn cut e = End-own s.kind_state n held cut t shape e.may.in_turn
