-- A signal or a broadcast of a Mesa monitor leaves inside whoever is inside.
use Rattle.std.proofs.Common.{◌≡◌, ◌⊎◌, ℕ, Bool, List, [], ◌∷◌, Option, None, Some, ⊎_elim, refl, subst}
use Rattle.tm_base.specs.declared.operations.Op.{Op}
use Rattle.tm_base.specs.declared.operations.Op.TheVariants as op
use Rattle.tm_base.specs.declared.replies.Reply.{Reply}
use Rattle.tm_base.specs.declared.kinds.Kind.{Kind}
use Rattle.tm_base.specs.declared.kinds.Kind.TheVariants as kind
use Rattle.tm_base.specs.declared.events.Entry.{Entry}
use Rattle.tm_base.specs.States.{KindState, State, MesaState}
use Rattle.tm_base.specs.Mesa.{mesa_row, mesa_signal_row}
use Rattle.tm_base.specs.Steps.{Step}
use Rattle.tm_base.specs.Histories.{Lawful, Label, HistoryState, Follows, object_at}
use Rattle.tm_laws.proofs.TableRowLemmas.{of_parts, Leaves, Leaves-state}
use Rattle.tm_monitors.specs.MonitorStates.{inside_of}

-- the rows
notified-inside : (i : ℕ) (entrance : List ℕ) (conditions : List (List ℕ)) (c : ℕ) (waiting : List ℕ)
    → Leaves (λ own. inside_of own ≡ Some i) (MesaState (Some i) entrance conditions) (mesa_signal_row i entrance conditions c waiting)
notified-inside i entrance conditions c [] = refl
notified-inside i entrance conditions c (w ∷ waiting) = refl

signal-inside : (inside : Option ℕ) (entrance : List ℕ) (conditions : List (List ℕ)) (t c : ℕ)
    → Leaves (λ own. inside_of own ≡ inside) (MesaState inside entrance conditions) (mesa_row inside entrance conditions t (op.Signal c))
signal-inside None entrance conditions t c = refl
signal-inside (Some i) entrance conditions t c = (λ waiting e. notified-inside i entrance conditions c waiting, refl)

broadcast-inside : (inside : Option ℕ) (entrance : List ℕ) (conditions : List (List ℕ)) (t c : ℕ)
    → Leaves (λ own. inside_of own ≡ inside) (MesaState inside entrance conditions) (mesa_row inside entrance conditions t (op.Broadcast c))
broadcast-inside None entrance conditions t c = refl
broadcast-inside (Some i) entrance conditions t c = (λ waiting e. refl, refl)

-- the steps
module _ (count : ℕ) (g : List (Option Reply)) (b : Bool) (t c : ℕ) (r : Reply) (s' : State) where
  signal-keeps : (own : KindState) → Step (kind.Mesa count) (of_parts own g b) t (op.Signal c) r s' → inside_of s'.kind_state ≡ inside_of own
  signal-keeps (MesaState inside entrance conditions) h =
      Leaves-state (λ own. inside_of own ≡ inside) (of_parts (MesaState inside entrance conditions) g b) r s' (mesa_row inside entrance conditions t (op.Signal c)) (signal-inside inside entrance conditions t c) h
  signal-keeps own h = elim h [ ]

  broadcast-keeps : (own : KindState) → Step (kind.Mesa count) (of_parts own g b) t (op.Broadcast c) r s' → inside_of s'.kind_state ≡ inside_of own
  broadcast-keeps (MesaState inside entrance conditions) h =
      Leaves-state (λ own. inside_of own ≡ inside) (of_parts (MesaState inside entrance conditions) g b) r s' (mesa_row inside entrance conditions t (op.Broadcast c)) (broadcast-inside inside entrance conditions t c) h
  broadcast-keeps own h = elim h [ ]

pub notifying-keeps : (l : Label) (count : ℕ) (p : HistoryState) (e : Entry) (q : HistoryState) (c : ℕ) → l.kind ≡ kind.Mesa count → Follows l p e q
    → (e.op ≡ op.Signal c) ⊎ (e.op ≡ op.Broadcast c) → inside_of q.state.kind_state ≡ inside_of p.state.kind_state
notifying-keeps l count p e q c its f = ⊎_elim
    (λ (o : e.op ≡ op.Signal c). signal-keeps count p.state.granted p.state.stopped e.thread c e.reply q.state p.state.kind_state (here (op.Signal c) o).step)
    (λ (o : e.op ≡ op.Broadcast c). broadcast-keeps count p.state.granted p.state.stopped e.thread c e.reply q.state p.state.kind_state (here (op.Broadcast c) o).step)
  where
    here : (o : Op) → e.op ≡ o → Lawful (record { kind = kind.Mesa count; threads = l.threads; state = p.state }) e.thread o e.reply q.state
    here o same = subst (λ (k : Kind). Lawful (record { kind = k; threads = l.threads; state = p.state }) e.thread o e.reply q.state) its
        (subst (λ (o : Op). Lawful (object_at l p.state) e.thread o e.reply q.state) same f.lawful)
