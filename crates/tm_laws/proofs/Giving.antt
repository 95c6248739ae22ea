-- A thread that a reply names is one of the program threads: it stood in a queue.
use Rattle.std.proofs.Common.{◌≡◌, ℕ, ◌≤◌, refl, arith}
use Rattle.std.proofs.lemmas.Bool.{false≢true}
use Rattle.tm_base.specs.declared.operations.Op.{Op}
use Rattle.tm_base.specs.declared.operations.Op.TheVariants as op
use Rattle.tm_base.specs.declared.replies.Reply.TheVariants as reply
use Rattle.tm_base.specs.States.{State}
use Rattle.tm_base.specs.Machines.{ObjectView}
use Rattle.tm_base.specs.Histories.{Lawful, Calls}
use Rattle.tm_laws.specs.Tidy.{IsSound}
use Rattle.tm_laws.proofs.StepRow.{Step-row}

Calls-gives : (h : ObjectView) (t : ℕ) (o : Op) (u : ℕ) (s' : State) → IsSound h → Calls h t o (reply.Gave u) s' → (1 ≤ u) × (u ≤ h.threads)
Calls-gives h t o u s' sound e =
    let row = Step-row h t o (reply.Gave u) s' sound.kind_state e.may e.step in
    sound.tidy.known u (omega (arith, row.named u refl, row.counts u))

pub Lawful-gives : (h : ObjectView) (t : ℕ) (o : Op) (u : ℕ) (s' : State) → IsSound h → Lawful h t o (reply.Gave u) s' → (1 ≤ u) × (u ≤ h.threads)
Lawful-gives h t op.Resume u s' sound e = absurd (false≢true (sound.tidy.final t (reply.Gave u) e.granted))
Lawful-gives h t op.Stop u s' sound e = absurd (let f : reply.Gave u ≡ reply.Ok = e.reply in cc)
Lawful-gives h t o u s' sound e = Calls-gives h t o u s' sound e
