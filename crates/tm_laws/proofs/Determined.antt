-- The old state and the call fix the reply, and leave one state.
use Rattle.std.proofs.Common.{◌≡◌, ℕ, List, Some, sym, ap, ◌∙◌, subst}
use Rattle.tm_base.specs.declared.operations.Op.{Op}
use Rattle.tm_base.specs.declared.operations.Op.TheVariants as op
use Rattle.tm_base.specs.declared.replies.Reply.{Reply}
use Rattle.tm_base.specs.declared.kinds.Kind.{Kind}
use Rattle.tm_base.specs.declared.events.Entry.{Entry}
use Rattle.tm_base.specs.States.{State}
use Rattle.tm_base.specs.Steps.{Step, row_of}
use Rattle.tm_base.specs.Machines.{ObjectView}
use Rattle.tm_base.specs.Histories.{Label, HistoryState, Lawful, Follows, IsHistory, first_history_state, object_at}
use Rattle.tm_laws.proofs.TableRowLemmas.{Allows-one}
use Rattle.tm_laws.proofs.RunsLemmas.{Leads-one}

pub Step-one : (k : Kind) (s : State) (t : ℕ) (o : Op) (r : Reply) (a b : State) → Step k s t o r a → Step k s t o r b → a ≡ b
Step-one k s t o r a b x y = (Allows-one s r r a b (row_of k s.kind_state t o) x y).1

pub Step-reply : (k : Kind) (s : State) (t : ℕ) (o : Op) (r q : Reply) (a b : State) → Step k s t o r a → Step k s t o q b → r ≡ q
Step-reply k s t o r q a b x y = (Allows-one s r q a b (row_of k s.kind_state t o) x y).0

pub Lawful-reply : (h : ObjectView) (t : ℕ) (o : Op) (r q : Reply) (a b : State) → Lawful h t o r a → Lawful h t o q b → r ≡ q
Lawful-reply h t op.Resume r q a b x y = let same : Some r ≡ Some q = sym x.granted ∙ y.granted in cc
Lawful-reply h t op.Stop r q a b x y = x.reply ∙ sym y.reply
Lawful-reply h t o r q a b x y = Step-reply h.kind h.state t o r q a b x.step y.step

pub Lawful-one : (h : ObjectView) (t : ℕ) (o : Op) (r : Reply) (a b : State) → Lawful h t o r a → Lawful h t o r b → a ≡ b
Lawful-one h t op.Resume r a b x y = x.cleared ∙ sym y.cleared
Lawful-one h t op.Stop r a b x y = x.halted ∙ sym y.halted
Lawful-one h t o r a b x y = Step-one h.kind h.state t o r a b x.step y.step

module _ (l : Label) where
  pub Follows-one : (p : HistoryState) (e : Entry) (a b : HistoryState) → Follows l p e a → Follows l p e b → a ≡ b
  Follows-one p e a b x y =
      let at : a.at ≡ b.at = x.now_at ∙ sym y.now_at in
      let stamp : a.stamp ≡ b.stamp = x.now_stamp ∙ sym y.now_stamp in
      let state : a.state ≡ b.state = Lawful-one (object_at l p.state) e.thread e.op e.reply a.state b.state x.lawful y.lawful in
      ap (λ n. record { at = n; stamp = a.stamp; state = a.state }) at
      ∙ (ap (λ n. record { at = b.at; stamp = n; state = a.state }) stamp ∙ ap (λ s. record { at = b.at; stamp = b.stamp; state = s }) state)

  -- what a thread may do next by one operation has one reply
  pub Follows-reply : (p : HistoryState) (d e : Entry) (a b : HistoryState) → Follows l p d a → Follows l p e b → d.thread ≡ e.thread → d.op ≡ e.op → d.reply ≡ e.reply
  Follows-reply p d e a b x y thread does =
      let here : Lawful (object_at l p.state) e.thread e.op d.reply a.state =
      subst (λ (o : Op). Lawful (object_at l p.state) e.thread o d.reply a.state) does
      (subst (λ (t : ℕ). Lawful (object_at l p.state) t d.op d.reply a.state) thread x.lawful) in
      Lawful-reply (object_at l p.state) e.thread e.op d.reply e.reply a.state b.state here y.lawful

  -- a legal history leaves one point
  pub history-one : (es : List Entry) (a b : HistoryState) → IsHistory l es a → IsHistory l es b → a ≡ b
  history-one es a b x y = Leads-one (Follows l) Follows-one es (first_history_state l) a b x y
