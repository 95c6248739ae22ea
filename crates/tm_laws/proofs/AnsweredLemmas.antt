-- A sound object has a lawful event for each that it can answer.
use Rattle.std.proofs.Common.{◌≡◌, ℕ, Option, Some, None, IsSome, refl}
use Rattle.std.proofs.lemmas.Bool.{false≢true}
use Rattle.tm_base.specs.declared.operations.Op.{Op}
use Rattle.tm_base.specs.declared.operations.Op.TheVariants as op
use Rattle.tm_base.specs.declared.replies.Reply.{Reply}
use Rattle.tm_base.specs.declared.replies.Reply.TheVariants as reply
use Rattle.tm_base.specs.States.{State, grant_of, resumed, halted}
use Rattle.tm_base.specs.Steps.{row_of}
use Rattle.tm_base.specs.Machines.{ObjectView, CanStep}
use Rattle.tm_base.specs.Histories.{CanAnswer, Calls, Lawful, Resumes}
use Rattle.tm_laws.specs.Tidy.{IsSound}
use Rattle.tm_laws.proofs.StepRow.{row_of-made}
use Rattle.tm_laws.proofs.TableRowLemmas.{made-answers, AllowsReply-state}

Calls-answered : (h : ObjectView) (t : ℕ) (o : Op) → IsSound h → CanStep h t o → (r : Reply) × (s' : State) × Calls h t o r s'
Calls-answered h t o sound may =
    let made = row_of-made h.kind h.state.kind_state t o sound.kind_state may.fit may.step in
    let answer = made-answers h.kind h.state.kind_state t h.state.stopped (row_of h.kind h.state.kind_state t o) made in
    let after = AllowsReply-state h.state answer.0 (row_of h.kind h.state.kind_state t o) answer.1 in
    (answer.0, after.0, record { may = may; step = after.1 })

Resumes-answered : (s : State) (t : ℕ) → IsSome (grant_of s t) → (r : Reply) × (s' : State) × Resumes s t r s'
Resumes-answered s t h = go (grant_of s t) refl h
  where
    go : (g : Option Reply) → grant_of s t ≡ g → IsSome g → (r : Reply) × (s' : State) × Resumes s t r s'
    go None e no_grant = absurd (false≢true no_grant)
    go (Some r) e there = (r, resumed s t, record { granted = e; cleared = refl })

pub Lawful-answered : (h : ObjectView) (t : ℕ) (o : Op) → IsSound h → CanAnswer h t o → (r : Reply) × (s' : State) × Lawful h t o r s'
Lawful-answered h t op.Resume sound can = Resumes-answered h.state t can
Lawful-answered h t op.Stop sound can = (reply.Ok, halted h.state, record { main = can.0; running = can.1; reply = refl; halted = refl })
Lawful-answered h t o sound can = Calls-answered h t o sound can
