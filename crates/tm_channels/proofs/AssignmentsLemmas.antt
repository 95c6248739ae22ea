-- A variable's value in every state of a legal history.
use Rattle.std.proofs.Common.{◌≡◌, ℕ, ℤ, ◌+ℤ◌, List, [], ◌∷◌, ◌++◌, refl, ap, sym, ◌∙◌, subst}
use Rattle.std.specs.Int.{w64, saturate_signed}
use Rattle.tm_base.specs.declared.operations.Op.{Op}
use Rattle.tm_base.specs.declared.operations.Op.TheVariants as op
use Rattle.tm_base.specs.declared.replies.Reply.{Reply}
use Rattle.tm_base.specs.declared.replies.Reply.TheVariants as reply
use Rattle.tm_base.specs.declared.kinds.Kind.{Kind}
use Rattle.tm_base.specs.declared.kinds.Kind.TheVariants as kind
use Rattle.tm_base.specs.declared.events.Entry.{Entry}
use Rattle.tm_base.specs.States.{State, VarState, start_state}
use Rattle.tm_base.specs.Steps.{Step}
use Rattle.tm_base.specs.Machines.{ObjectView}
use Rattle.tm_base.specs.Runs.{Leads}
use Rattle.tm_base.specs.Histories.{Label, HistoryState, Follows, IsHistory, Lawful, first_history_state}
use Rattle.tm_laws.proofs.RunsLemmas.{Leads-split}
use Rattle.tm_channels.specs.Assignments.{value_after, value_left, GetsValue}

-- the variable has this value
abbrev HasValue : ℤ → State → Type 0
HasValue value s = s.kind_state ≡ VarState value

-- the reply of an operation on a variable with this value
abbrev Got : ℤ → Op → Reply → Type 0
Got value op.Read r = r ≡ reply.Got value
Got value (op.Add k) r = r ≡ reply.Got (saturate_signed w64 (value +ℤ k))
Got value o r = Unit {0}

-- what an event at a variable leaves and answers
record Assigns (value : ℤ) (o : Op) (r : Reply) (s' : State) : Type 0 where
  pub left : HasValue (value_after value o) s'
  pub got : Got value o r

-- a call
Step-assigns : (start value : ℤ) (s : State) (t : ℕ) (o : Op) (r : Reply) (s' : State) → HasValue value s
    → Step (kind.Var start) (record { kind_state = VarState value; granted = s.granted; stopped = s.stopped }) t o r s' → Assigns value o r s'
Step-assigns start value s t op.Read r s' has h = record { left = ap (λ s. s.kind_state) h.1; got = h.0 }
Step-assigns start value s t (op.Write k) r s' has h = record { left = ap (λ s. s.kind_state) h.1; got = tt }
Step-assigns start value s t (op.Add k) r s' has h = record { left = ap (λ s. s.kind_state) h.1; got = h.0 }
Step-assigns start value s t o r s' has h = elim h [ ]

-- a variable in this state
abbrev variable_at : ℤ → ℕ → State → ObjectView
variable_at start threads s = record { kind = kind.Var start; threads = threads; state = s }

-- an event
Lawful-assigns : (start value : ℤ) (threads : ℕ) (s : State) (t : ℕ) (o : Op) (r : Reply) (s' : State) → HasValue value s
    → Lawful (variable_at start threads s) t o r s' → Assigns value o r s'
Lawful-assigns start value threads s t op.Resume r s' has e = record { left = ap (λ s. s.kind_state) e.cleared ∙ has; got = tt }
Lawful-assigns start value threads s t op.Stop r s' has e = record { left = rw (e.halted, has) refl; got = tt }
Lawful-assigns start value threads s t o r s' has e = Step-assigns start value s t o r s' has (rw has at e.step)

got-read : (value : ℤ) (o : Op) (r : Reply) → Got value o r → o ≡ op.Read → r ≡ reply.Got value
got-read value o r got e = rw e at got

got-add : (value : ℤ) (o : Op) (r : Reply) → Got value o r → (k : ℤ) → o ≡ op.Add k → r ≡ reply.Got (saturate_signed w64 (value +ℤ k))
got-add value o r got k e = rw e at got

module _ (l : Label) (start : ℤ) (its : l.kind ≡ kind.Var start) where
  event : (value : ℤ) (p : HistoryState) (e : Entry) (q : HistoryState) → HasValue value p.state → Follows l p e q → Assigns value e.op e.reply q.state
  event value p e q has f = Lawful-assigns start value l.threads p.state e.thread e.op e.reply q.state has
      (subst (λ (k : Kind). Lawful (record { kind = k; threads = l.threads; state = p.state }) e.thread e.op e.reply q.state) its f.lawful)

  Leads-value : (es : List Entry) (value : ℤ) (p q : HistoryState) → HasValue value p.state → Leads (Follows l) p es q → HasValue (value_left value es) q.state
  Leads-value [] value p q has run = subst (λ (x : HistoryState). HasValue value x.state) (sym run) has
  Leads-value (e ∷ es) value p q has run = Leads-value es (value_after value e.op) run.0 q (event value p e run.0 has run.1).left run.2

  first-value : HasValue start (first_history_state l).state
  first-value = subst (λ (k : Kind). HasValue start (start_state k l.threads)) (sym its) refl

  at-event : (prefix back : List Entry) (e : Entry) (p : HistoryState) → IsHistory l (prefix ++ e ∷ back) p → GetsValue (value_left start prefix) e
  at-event prefix back e p run =
      let parts = Leads-split (Follows l) prefix (e ∷ back) (first_history_state l) p run in
      let it = event (value_left start prefix) parts.0 e parts.2.0 (Leads-value prefix start (first_history_state l) parts.0 first-value parts.1) parts.2.1 in
      record { read = got-read (value_left start prefix) e.op e.reply it.got; add = got-add (value_left start prefix) e.op e.reply it.got }

  pub gets-value : (es : List Entry) (p : HistoryState) → IsHistory l es p → (prefix back : List Entry) (e : Entry) → es ≡ prefix ++ e ∷ back → GetsValue (value_left start prefix) e
  gets-value es p run prefix back e parts = at-event prefix back e p (subst (λ (xs : List Entry). IsHistory l xs p) parts run)
