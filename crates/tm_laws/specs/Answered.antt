-- What an object answers.
use Rattle.std.specs.Prelude.{ℕ, ◌≤◌}
use Rattle.tm_base.specs.declared.operations.Op.{Op}
use Rattle.tm_base.specs.declared.replies.Reply.{Reply}
use Rattle.tm_base.specs.declared.replies.Reply.TheVariants as reply
use Rattle.tm_base.specs.States.{State}
use Rattle.tm_base.specs.Steps.{Step}
use Rattle.tm_base.specs.Machines.{ObjectView, Answers}
use Rattle.tm_base.specs.Histories.{CanAnswer, Lawful}
use Rattle.tm_laws.specs.Tidy.{IsSound}

-- A sound object has a lawful event for each that it can answer: no table has a gap.
abbrev pub EventsAreAnswered : Type 0
EventsAreAnswered = (h : ObjectView) (t : ℕ) (o : Op) → IsSound h → CanAnswer h t o → (r : Reply) × (s' : State) × Lawful h t o r s'

-- The replies that a table allows are those of its steps.
abbrev pub AnswersAreThoseOfSteps : Type 0
AnswersAreThoseOfSteps = (h : ObjectView) (t : ℕ) (o : Op) (r : Reply) →
    (Answers h t o r → (s' : State) × Step h.kind h.state t o r s') × ((s' : State) → Step h.kind h.state t o r s' → Answers h t o r)

-- A thread that the reply `gave` names is a program thread of the object.
abbrev pub NamedThreadsAreKnown : Type 0
NamedThreadsAreKnown = (h : ObjectView) (t : ℕ) (o : Op) (heir : ℕ) (s' : State) → IsSound h → Lawful h t o (reply.Gave heir) s' → (1 ≤ heir) × (heir ≤ h.threads)
