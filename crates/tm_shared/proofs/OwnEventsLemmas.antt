-- What a thread's own events say of it, by induction over the history.
use Rattle.std.proofs.Common.{◌≡◌, ◌≢◌, ℕ, ◌≤◌, Bool, true, false, ◌||◌, cond, if◌then◌else◌, ⊎_elim, List, [], ◌∷◌, fold, refl, ap, sym, ◌∙◌, subst, arith, eq-eqb, ne_eqb}
use Rattle.std.proofs.lemmas.Bool.{cases_eq, false_from_ne_true}
use Rattle.tm_base.specs.declared.operations.Op.{Op}
use Rattle.tm_base.specs.declared.operations.Op.TheVariants as op
use Rattle.tm_base.specs.declared.replies.Reply.{Reply}
use Rattle.tm_base.specs.declared.kinds.Kind.{Kind}
use Rattle.tm_base.specs.declared.kinds.Kind.TheVariants as kind
use Rattle.tm_base.specs.declared.events.Entry.{Entry}
use Rattle.tm_base.specs.States.{KindState, State, ThreadObjectState, start_kind_state, is_pending}
use Rattle.tm_base.specs.Machines.{IsInTurn}
use Rattle.tm_base.specs.Runs.{Leads}
use Rattle.tm_base.specs.Histories.{Label, HistoryState, Follows, IsHistory, Lawful, first_history_state, object_at}
use Rattle.tm_base.specs.Orders.{of_thread, last_stamp}
use Rattle.tm_base.specs.Fits.{is_stop}
use Rattle.tm_laws.specs.Counts.{is_wait}
use Rattle.tm_laws.specs.Tidy.{IsSound, IsStateOf}
use Rattle.tm_laws.specs.ThreadObjects.{has_begun, has_ended, is_begin, is_end}
use Rattle.tm_laws.proofs.Begun.{Begin-turn, End-turn, Lawful-noted}
use Rattle.tm_laws.proofs.Reaching.{Follows-moves}
use Rattle.tm_laws.proofs.StartStateLemmas.{start-free, start-sound}
use Rattle.tm_shared.specs.OwnEvents.{ends_waiting, has_stop, has_begin, has_end, IsInTurnAfter, EventsTell}

-- the events of a thread, after one that is its own or not
own-here : (e : Entry) (es : List Entry) (t : ℕ) → e.thread ≡ t → of_thread (e ∷ es) t ≡ e ∷ of_thread es t
own-here e es t is = ap (λ b. cond b (e ∷ of_thread es t) (of_thread es t)) (eq-eqb e.thread t is)

own-else : (e : Entry) (es : List Entry) (t : ℕ) → e.thread ≢ t → of_thread (e ∷ es) t ≡ of_thread es t
own-else e es t other = ap (λ b. cond b (e ∷ of_thread es t) (of_thread es t)) (ne_eqb e.thread t other)

module _ (l : Label) where
  pending-from : (es : List Entry) (p q : HistoryState) (t : ℕ) → IsSound (object_at l p.state) → Leads (Follows l) p es q
      → is_pending q.state t ≡ fold (λ waits e. is_wait e.reply) (is_pending p.state t) (of_thread es t)
  pending-from [] p q t sound run = ap (λ (x : HistoryState). is_pending x.state t) run
  pending-from (e ∷ es) p q t sound run =
      let moved = Follows-moves l p e run.0 sound run.1 in
      let rest = pending-from es run.0 q t moved.sound run.2 in
      let step = λ (waits : Bool) (f : Entry). is_wait f.reply in
      ⊎_elim
      (λ (is : e.thread ≡ t).
      let now : is_pending run.0.state t ≡ is_wait e.reply = moved.pending t ∙ ap (λ b. if b then is_wait e.reply else is_pending p.state t) (eq-eqb t e.thread (sym is)) in
      rest ∙ ap (λ b. fold step b (of_thread es t)) now ∙ ap (fold step (is_pending p.state t)) (sym (own-here e es t is)))
      (λ (other : e.thread ≡ t → ⊥).
      let now : is_pending run.0.state t ≡ is_pending p.state t = moved.pending t ∙ ap (λ b. if b then is_wait e.reply else is_pending p.state t) (ne_eqb t e.thread (λ s. other (sym s))) in
      rest ∙ ap (λ b. fold step b (of_thread es t)) now ∙ ap (fold step (is_pending p.state t)) (sym (own-else e es t other)))
      (cases_eq e.thread t)

  stamp-from : (es : List Entry) (p q : HistoryState) → Leads (Follows l) p es q → q.stamp ≡ fold (λ stamp e. e.stamp) p.stamp es
  stamp-from [] p q run = ap (λ (x : HistoryState). x.stamp) run
  stamp-from (e ∷ es) p q run = stamp-from es run.0 q run.2 ∙ ap (λ n. fold (λ stamp f. f.stamp) n es) run.1.now_stamp

  own_stamp-from : (es : List Entry) (p q : HistoryState) (t n : ℕ) → n ≤ p.stamp → Leads (Follows l) p es q → fold (λ stamp e. e.stamp) n (of_thread es t) ≤ q.stamp
  own_stamp-from [] p q t n le run = subst (λ (x : HistoryState). n ≤ x.stamp) (sym run) le
  own_stamp-from (e ∷ es) p q t n le run =
      let step = λ (stamp : ℕ) (f : Entry). f.stamp in
      let rises = run.1.rises in
      let now = run.1.now_stamp in
      ⊎_elim
      (λ (is : e.thread ≡ t). subst (λ (fs : List Entry). fold step n fs ≤ q.stamp) (sym (own-here e es t is)) (own_stamp-from es run.0 q t e.stamp (omega (arith, now)) run.2))
      (λ (other : e.thread ≡ t → ⊥). subst (λ (fs : List Entry). fold step n fs ≤ q.stamp) (sym (own-else e es t other)) (own_stamp-from es run.0 q t n (omega (arith, now, rises, le)) run.2))
      (cases_eq e.thread t)

or_shift : (a b c : Bool) → (b || (a || c)) ≡ ((a || b) || c)
or_shift true true c = refl
or_shift true false c = refl
or_shift false true c = refl
or_shift false false c = refl

module _ (l : Label) where
  stopped-from : (es : List Entry) (p q : HistoryState) → IsSound (object_at l p.state) → Leads (Follows l) p es q → q.state.stopped ≡ (has_stop es || p.state.stopped)
  stopped-from [] p q sound run = ap (λ (x : HistoryState). x.state.stopped) run
  stopped-from (e ∷ es) p q sound run =
      let moved = Follows-moves l p e run.0 sound run.1 in
      stopped-from es run.0 q moved.sound run.2 ∙ ap (λ b. has_stop es || b) moved.stopped ∙ or_shift (is_stop e.op) (has_stop es) p.state.stopped

-- on a thread object a begin and an end are the thread's own
module _ (own : ℕ) (held : Bool) (threads : ℕ) (s : State) (t : ℕ) (r : Reply) (s' : State) (shape : IsStateOf (kind.Thread own held) s.kind_state) where
  begins : (o : Op) → Lawful (record { kind = kind.Thread own held; threads = threads; state = s }) t o r s' → is_begin o ≡ true → t ≡ own
  begins op.Begin e is = (Begin-turn own held threads s t r s' shape e).0
  begins o e is = absurd cc

  ends : (o : Op) → Lawful (record { kind = kind.Thread own held; threads = threads; state = s }) t o r s' → is_end o ≡ true → t ≡ own
  ends (op.End cut) e is = (End-turn own held threads s t r s' shape cut e).0
  ends o e is = absurd cc

-- the own thread of a thread object has begun exactly where it made a begin, and ended where it made an end
pub record OwnMarks (own : ℕ) (es : List Entry) (before after : KindState) : Type 0 where
  pub begun : has_begun after ≡ (has_begin (of_thread es own) || has_begun before)
  pub ended : has_ended after ≡ (has_end (of_thread es own) || has_ended before)

module _ (l : Label) (own : ℕ) (held : Bool) (its : l.kind ≡ kind.Thread own held) where
  marks-from : (es : List Entry) (p q : HistoryState) → IsSound (object_at l p.state) → Leads (Follows l) p es q → OwnMarks own es p.state.kind_state q.state.kind_state
  marks-from [] p q sound run = record { begun = ap (λ (x : HistoryState). has_begun x.state.kind_state) run; ended = ap (λ (x : HistoryState). has_ended x.state.kind_state) run }
  marks-from (e ∷ es) p q sound run =
      let moved = Follows-moves l p e run.0 sound run.1 in
      let rest = marks-from es run.0 q moved.sound run.2 in
      let noted = Lawful-noted (object_at l p.state) e.thread e.op e.reply run.0.state sound run.1.lawful in
      let shape : IsStateOf (kind.Thread own held) p.state.kind_state = subst (λ (k : Kind). IsStateOf k p.state.kind_state) its sound.kind_state in
      let lawful : Lawful (record { kind = kind.Thread own held; threads = l.threads; state = p.state }) e.thread e.op e.reply run.0.state =
      subst (λ (k : Kind). Lawful (record { kind = k; threads = l.threads; state = p.state }) e.thread e.op e.reply run.0.state) its run.1.lawful in
      ⊎_elim
      (λ (is : e.thread ≡ own).
      let same = own-here e es own is in
      record {
        begun = rest.begun ∙ ap (λ b. has_begin (of_thread es own) || b) noted.begun
            ∙ or_shift (is_begin e.op) (has_begin (of_thread es own)) (has_begun p.state.kind_state)
            ∙ ap (λ fs. has_begin fs || has_begun p.state.kind_state) (sym same);
        ended = rest.ended ∙ ap (λ b. has_end (of_thread es own) || b) noted.ended
            ∙ or_shift (is_end e.op) (has_end (of_thread es own)) (has_ended p.state.kind_state)
            ∙ ap (λ fs. has_end fs || has_ended p.state.kind_state) (sym same);
      })
      (λ (other : e.thread ≡ own → ⊥).
      let same = own-else e es own other in
      let no_begin : is_begin e.op ≡ false = false_from_ne_true (is_begin e.op) (λ is. other (begins own held l.threads p.state e.thread e.reply run.0.state shape e.op lawful is)) in
      let no_end : is_end e.op ≡ false = false_from_ne_true (is_end e.op) (λ is. other (ends own held l.threads p.state e.thread e.reply run.0.state shape e.op lawful is)) in
      record {
        begun = rest.begun ∙ ap (λ b. has_begin (of_thread es own) || b) (noted.begun ∙ ap (λ b. b || has_begun p.state.kind_state) no_begin)
            ∙ ap (λ fs. has_begin fs || has_begun p.state.kind_state) (sym same);
        ended = rest.ended ∙ ap (λ b. has_end (of_thread es own) || b) (noted.ended ∙ ap (λ b. b || has_ended p.state.kind_state) no_end)
            ∙ ap (λ fs. has_end fs || has_ended p.state.kind_state) (sym same);
      })
      (cases_eq e.thread own)

or_false : (a : Bool) → (a || false) ≡ a
or_false true = refl
or_false false = refl

-- what is in turn by the own thread's events is in turn in the state
in_turn : (k : Kind) (s : KindState) (mine : List Entry) (t : ℕ) (o : Op)
    → ((own : ℕ) (held : Bool) → k ≡ kind.Thread own held → t ≡ own → (has_begun s ≡ has_begin mine) × (has_ended s ≡ has_end mine))
    → IsInTurnAfter k mine t o → IsInTurn k s t o
in_turn (kind.Thread own held) (ThreadObjectState started begun ended beginning joiners) mine t op.Begin same h = (h.0, (same own held refl h.0).0 ∙ h.1)
in_turn (kind.Thread own held) (ThreadObjectState started begun ended beginning joiners) mine t (op.End cut) same h =
    (h.0, (same own held refl h.0).0 ∙ h.1, (same own held refl h.0).1 ∙ h.2)
in_turn k s mine t o same h = tt

module _ (l : Label) (es : List Entry) (p : HistoryState) (run : IsHistory l es p) where
  first : HistoryState
  first = first_history_state l

  pending : (t : ℕ) → is_pending p.state t ≡ ends_waiting (of_thread es t)
  unfolding first
  pending t = pending-from l es first p t (start-sound l.kind l.threads) run ∙ ap (λ b. fold (λ waits e. is_wait e.reply) b (of_thread es t)) (start-free l.kind l.threads t)

  start-marks : (k : Kind) → (has_begun (start_kind_state k) ≡ false) × (has_ended (start_kind_state k) ≡ false)
  start-marks kind.Mutex = (refl, refl)
  start-marks k = (refl, refl)

  marks : (own : ℕ) (held : Bool) → l.kind ≡ kind.Thread own held → (t : ℕ) → t ≡ own
      → (has_begun p.state.kind_state ≡ has_begin (of_thread es t)) × (has_ended p.state.kind_state ≡ has_end (of_thread es t))
  unfolding first
  marks own held its t is =
      let found = marks-from l own held its es first p (start-sound l.kind l.threads) run in
      let start = start-marks l.kind in (
        found.begun ∙ ap (λ b. has_begin (of_thread es own) || b) start.0 ∙ or_false (has_begin (of_thread es own)) ∙ ap (λ n. has_begin (of_thread es n)) (sym is),
        found.ended ∙ ap (λ b. has_end (of_thread es own) || b) start.1 ∙ or_false (has_end (of_thread es own)) ∙ ap (λ n. has_end (of_thread es n)) (sym is),
      )

  pub events-tell : EventsTell l es p
  unfolding first
  events-tell =
      let stamp : p.stamp ≡ last_stamp es = stamp-from l es first p run in
      record {
        pending = pending;
        stamp = stamp;
        own_stamp = λ t. subst (λ n. last_stamp (of_thread es t) ≤ n) stamp (own_stamp-from l es first p t 0 (omega arith) run);
        stopped = stopped-from l es first p (start-sound l.kind l.threads) run ∙ or_false (has_stop es);
        may = λ t o m. record {
          program = m.program;
          known = m.known;
          free = pending t ∙ m.free;
          fit = m.fit;
          step = m.step;
          in_turn = in_turn l.kind p.state.kind_state (of_thread es t) t o (λ own held its is. marks own held its t is) m.in_turn;
        };
      }
