-- What an object answers, and what its machine then does.
use Rattle.std.proofs.Common.{◌≡◌, ◌≢◌, ℕ, Some, is_some, refl, ap, subst}
use Rattle.tm_base.specs.declared.operations.Op.{Op}
use Rattle.tm_base.specs.declared.operations.Op.TheVariants as op
use Rattle.tm_base.specs.declared.replies.Reply.{Reply}
use Rattle.tm_base.specs.declared.replies.Reply.TheVariants as reply
use Rattle.tm_base.specs.declared.events.Entry.{Entry}
use Rattle.tm_base.specs.States.{State, grant_of, halted, resumed}
use Rattle.tm_base.specs.Steps.{Step, row_of}
use Rattle.tm_base.specs.Machines.{Answers, ObjectView, changed}
use Rattle.tm_base.specs.Histories.{CanAnswer, Lawful}
use Rattle.tm_laws.proofs.TableRowLemmas.{AllowsReply-state}
use Rattle.tm_laws.proofs.Determined.{Lawful-reply}
use Rattle.tm_replay.specs.JointStates.{ObjectState}
use Rattle.tm_replay.specs.JointSteps.{entered}
use Rattle.tm_joint.specs.Refusals.{HasAnswer}

-- what is lawful can be answered
pub Lawful-can : (h : ObjectView) (t : ℕ) (o : Op) (r : Reply) (s' : State) → Lawful h t o r s' → CanAnswer h t o
Lawful-can h t op.Resume r s' lawful = ap is_some lawful.granted
Lawful-can h t op.Stop r s' lawful = (lawful.main, lawful.running)
Lawful-can h t o r s' lawful = lawful.may

-- a granted thread resumes, and an object that isn't stopped is stopped
pub HasAnswer-resume : (h : ObjectView) (t : ℕ) (r : Reply) → grant_of h.state t ≡ Some r → HasAnswer h t op.Resume r
HasAnswer-resume h t r granted = record { state = resumed h.state t; lawful = record { granted = granted; cleared = refl } }

pub HasAnswer-stop : (h : ObjectView) (t : ℕ) → CanAnswer h t op.Stop → HasAnswer h t op.Stop reply.Ok
HasAnswer-stop h t can = record { state = halted h.state; lawful = record { main = can.0; running = can.1; reply = refl; halted = refl } }

-- what is neither is a step of the table
Lawful-step : (h : ObjectView) (t : ℕ) (o : Op) (r : Reply) (s' : State) → o ≢ op.Resume → o ≢ op.Stop → CanAnswer h t o → Step h.kind h.state t o r s' → Lawful h t o r s'
Lawful-step h t op.Resume r s' resume stop can step = absurd (resume refl)
Lawful-step h t op.Stop r s' resume stop can step = absurd (stop refl)
Lawful-step h t o r s' resume stop can step = record { may = can; step = step }

pub HasAnswer-step : (h : ObjectView) (t : ℕ) (o : Op) (r : Reply) → o ≢ op.Resume → o ≢ op.Stop → CanAnswer h t o → Answers h t o r → HasAnswer h t o r
HasAnswer-step h t o r resume stop can answers =
    let step = AllowsReply-state h.state r (row_of h.kind h.state.kind_state t o) answers in
    record { state = step.0; lawful = Lawful-step h t o r step.0 resume stop can step.1 }

-- the machine's answer is the one that it has
pub entered-answer : (b : ObjectState) (e : Entry) (r : Reply) (h : ObjectView) → HasAnswer b.view e.thread e.op e.reply → Lawful b.view e.thread e.op r h.state → h ≡ changed b.view h.state
    → (s' : State) × Lawful b.view e.thread e.op e.reply s' × (record { view = h; at = e.at; stamp = e.stamp } ≡ entered b e s')
entered-answer b e r h has lawful same =
    let replies : r ≡ e.reply = Lawful-reply b.view e.thread e.op r e.reply h.state has.state lawful has.lawful in
    let V : ObjectView → ObjectState = λ v. record { view = v; at = e.at; stamp = e.stamp } in
    (h.state, subst (λ (q : Reply). Lawful b.view e.thread e.op q h.state) replies lawful, ap V same)
