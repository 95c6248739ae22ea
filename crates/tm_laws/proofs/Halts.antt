-- What a stop leaves: nobody waits, each that waited was granted, and all else is as it was.
use Rattle.std.proofs.Common.{◌≡◌, ℕ, ◌≤◌, nat_lt, ⊎_elim, List, [], ◌∷◌, map, Some, None, slice_index_or, refl, ap, sym, ◌∙◌, arith}
use Rattle.std.proofs.lemmas.List.{length-map}
use Rattle.tm_base.specs.declared.replies.Reply.TheVariants as reply
use Rattle.tm_base.specs.declared.kinds.Kind.{Kind}
use Rattle.tm_base.specs.declared.kinds.Kind.TheVariants as kind
use Rattle.tm_base.specs.States.{KindState, State, MutexState, SemState, HoareState, MesaState, BarrierState, RwState, SyncState, AsyncState, ThreadObjectState, VarState, queued, emptied, all_of, is_pending, halted}
use Rattle.tm_laws.specs.Counts.{count_in, occurrences, is_grant}
use Rattle.tm_laws.specs.Tidy.{IsTidy, IsStateOf}
use Rattle.tm_laws.proofs.Tidiness.{is_pending-occurrences}
use Rattle.tm_laws.proofs.Grants.{length-grant_all, granted_at-grant_all, grant_all-from}

pub all_of-emptied : (queues : List (List ℕ)) → all_of (map (λ _. []) queues) ≡ []
all_of-emptied [] = refl
all_of-emptied (queue ∷ queues) = all_of-emptied queues

pub queued-emptied : (own : KindState) → queued (emptied own) ≡ []
queued-emptied (HoareState inside entrance urgent conditions) = all_of-emptied conditions
queued-emptied (MesaState inside entrance conditions) = all_of-emptied conditions
queued-emptied own = refl

module _ (threads : ℕ) (s : State) (tidy : IsTidy threads s) where
  pub halted-occurrences : (x : ℕ) → occurrences (halted s) x ≡ occurrences s x
  halted-occurrences x = omega (
    arith,
    ap (λ q. count_in q x) (queued-emptied s.kind_state),
    granted_at-grant_all (queued s.kind_state) reply.Stopped s.granted
        tidy.once
        (λ y h. let k : (1 ≤ y) × (y ≤ threads) = tidy.known y (omega arith) in omega (arith, k.1, tidy.long)) x,
  )

  pub halted-pending : (x : ℕ) → is_pending (halted s) x ≡ is_pending s x
  halted-pending x = is_pending-occurrences (halted s) x ∙ (ap (nat_lt 0) (halted-occurrences x) ∙ sym (is_pending-occurrences s x))

  pub halted-tidy : IsTidy threads (halted s)
  halted-tidy = record {
    long = length-grant_all (queued s.kind_state) reply.Stopped s.granted ∙ tidy.long;
    known = λ x h. tidy.known x (omega (arith, halted-occurrences x));
    once = λ x. omega (arith, halted-occurrences x, tidy.once x);
    final = λ x q e. ⊎_elim (λ (same : q ≡ reply.Stopped). ap is_grant same) (λ (old : slice_index_or s.granted x None ≡ Some q). tidy.final x q old) (grant_all-from (queued s.kind_state) reply.Stopped s.granted x q e);
    quiet = λ _. queued-emptied s.kind_state;
  }

pub emptied-own : (k : Kind) (own : KindState) → IsStateOf k own → IsStateOf k (emptied own)
emptied-own kind.Mutex (MutexState owner queue) h = tt
emptied-own (kind.Sem start) (SemState value queue) h = tt
emptied-own (kind.Hoare count) (HoareState inside entrance urgent conditions) h = length-map conditions (λ _. []) ∙ h
emptied-own (kind.Mesa count) (MesaState inside entrance conditions) h = length-map conditions (λ _. []) ∙ h
emptied-own (kind.Barrier parties) (BarrierState queue) h = tt
emptied-own kind.Rw (RwState readers writer queue) h = tt
emptied-own kind.Sync (SyncState senders receivers closed) h = tt
emptied-own (kind.Async capacity) (AsyncState messages senders receivers closed) h = tt
emptied-own (kind.Thread own held) (ThreadObjectState started begun ended beginning joiners) h = tt
emptied-own (kind.Var start) (VarState value) h = tt
emptied-own k own h = elim h [ ]
