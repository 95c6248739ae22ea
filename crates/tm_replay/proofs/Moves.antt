-- What a program thread's event is, and what it makes of the thread.
use Rattle.std.proofs.Common.{◌≡◌, ℕ, ℤ, Bool, true, false, ◌&&◌, inl, inr, List, Option, Some, None, option_map, slice_get, if◌then◌else◌, refl, ap, sym, ◌∙◌, subst}
use Rattle.tm_base.specs.declared.operations.Op.{Op}
use Rattle.tm_base.specs.declared.operations.Op.TheVariants as op
use Rattle.tm_base.specs.declared.replies.Reply.{Reply}
use Rattle.tm_base.specs.declared.replies.Reply.TheVariants as reply
use Rattle.tm_base.specs.declared.kinds.Kind.{Kind}
use Rattle.tm_base.specs.declared.asks.Ask.{Ask}
use Rattle.tm_base.specs.declared.asks.Ask.TheVariants as ask
use Rattle.std.proofs.lemmas.Option.{slice_get-map}
use Rattle.tm_base.specs.Bodies.{IsAskedAmong}
use Rattle.tm_base.specs.Fits.{fits, is_call, is_stop}
use Rattle.tm_laws.specs.Counts.{is_wait}
use Rattle.tm_laws.specs.ThreadObjects.{is_begin, is_end}
use Rattle.tm_text.specs.declared.exercises.Declaration.{Declaration}
use Rattle.tm_programs.specs.Calls.{AllCallsPass}
use Rattle.tm_text.specs.Exercises.{ExerciseView, is_call_on, kinds_of}
use Rattle.tm_text.proofs.ScriptsLemmas.{asked_calls_fit}
use Rattle.tm_programs.specs.Programs.{Program, Rest, answered, is_stopped, next_ask}
use Rattle.tm_replay.specs.declared.phases.Phase.{Phase}
use Rattle.tm_replay.specs.declared.phases.Phase.TheVariants as phase
use Rattle.tm_replay.specs.JointSteps.{MayIn, MayAsk, phase_by, rest_by}
use Rattle.tm_replay.specs.SoundStates.{is_main}

-- a program thread begins or ends on its own object, makes the call that its program asks, or resumes
pub data Does : ℕ → Phase → Rest → ℕ → Op → Type 0 where
  begins : {own object : ℕ} {p : Phase} {rest : Rest} {o : Op} → p ≡ phase.NotBegun → object ≡ own → o ≡ op.Begin → Does own p rest object o
  ends : {own object : ℕ} {p : Phase} {rest : Rest} {o : Op} → p ≡ phase.Free → object ≡ own → (cut : Bool) → o ≡ op.End cut → Does own p rest object o
  calls : {own object : ℕ} {p : Phase} {rest : Rest} {o : Op} → p ≡ phase.Free → next_ask rest.program rest.registers ≡ ask.Call object o → Does own p rest object o
  resumes : {own object : ℕ} {p : Phase} {rest : Rest} {o : Op} → p ≡ phase.Waits object → o ≡ op.Resume → Does own p rest object o

asks : (own : ℕ) (rest : Rest) (object : ℕ) (o : Op) (a : Ask) → next_ask rest.program rest.registers ≡ a → MayAsk own (Some a) object o → Does own phase.Free rest object o
asks own rest object o (ask.Call object' o') e (inl same) = calls refl (e ∙ ap (λ n. ask.Call n o') (sym same.0) ∙ ap (ask.Call object) (sym same.1))
asks own rest object o (ask.Call object' o') e (inr cut) = ends refl cut.0 true cut.1
asks own rest object o ask.Over e over = ends refl over.0 false over.1

free : (own : ℕ) (rest : Rest) (object : ℕ) (o : Op) (stopped : Bool)
    → MayAsk own (if stopped then None else Some (next_ask rest.program rest.registers)) object o → Does own phase.Free rest object o
free own rest object o true may = ends refl may.0 true may.1
free own rest object o false may = asks own rest object o (next_ask rest.program rest.registers) refl may

pub may-does : (own : ℕ) (p : Phase) (rest : Rest) (object : ℕ) (o : Op) → is_main p ≡ false → MayIn own p rest object o → Does own p rest object o
may-does own phase.Main rest object o main may = absurd cc
may-does own phase.NotBegun rest object o main may = begins refl may.0 may.1
may-does own phase.Free rest object o main may = free own rest object o (is_stopped rest.last) may
may-does own (phase.Waits at) rest object o main may = resumes (ap phase.Waits (sym may.0)) may.1
may-does own (phase.Ended cut) rest object o main may = elim may [ ]

-- what a well formed program asks: a call that its object has
pub record IsAsked (x : ExerciseView) (object : ℕ) (o : Op) : Type 0 where
  pub declaration : Declaration
  pub found : slice_get x.objects object ≡ Some declaration
  pub call : is_call o ≡ true
  pub fit : fits o declaration.kind ≡ true

and_both : (a b : Bool) → (a && b) ≡ true → (a ≡ true) × (b ≡ true)
and_both true b h = (refl, h)
and_both false b h = absurd cc

found-kind : (x : ExerciseView) (object : ℕ) (o : Op) (k : Kind) (found : Option Declaration) → slice_get x.objects object ≡ found
    → option_map (λ d. d.kind) found ≡ Some k → fits o k ≡ true → is_call o ≡ true → IsAsked x object o
found-kind x object o k None e h fit call = absurd cc
found-kind x object o k (Some d) e h fit call =
    let same : d.kind ≡ k = cc in
    record { declaration = d; found = e; call = call; fit = ap (fits o) same ∙ fit }

-- a program whose calls fit asks such a call
pub asked-called : (x : ExerciseView) (p : Program) (registers : List ℤ) (object : ℕ) (o : Op)
    → AllCallsPass (is_call_on x.objects) p → next_ask p registers ≡ ask.Call object o → IsAsked x object o
asked-called x p registers object o h e =
    let a = subst (IsAskedAmong (kinds_of x.objects)) e (asked_calls_fit (kinds_of x.objects) p registers h) in
    found-kind x object o a.kind (slice_get x.objects object) refl
    (sym (slice_get-map (λ (d : Declaration). d.kind) x.objects object) ∙ a.found) a.fit a.call

-- what an operation and its reply make of the thread
pub data Becomes : Op → Reply → ℕ → Rest → Type 0 where
  finished : {o : Op} {r : Reply} {object : ℕ} {rest : Rest} → (cut : Bool) → o ≡ op.End cut
      → phase_by o r object ≡ phase.Ended cut → rest_by o r rest ≡ rest → Becomes o r object rest
  waiting : {o : Op} {r : Reply} {object : ℕ} {rest : Rest} → is_wait r ≡ true → is_end o ≡ false
      → phase_by o r object ≡ phase.Waits object → rest_by o r rest ≡ rest → Becomes o r object rest
  freed : {o : Op} {r : Reply} {object : ℕ} {rest : Rest} → is_wait r ≡ false → is_end o ≡ false
      → phase_by o r object ≡ phase.Free → rest_by o r rest ≡ answered rest r → Becomes o r object rest

pub becomes : (o : Op) (r : Reply) (object : ℕ) (rest : Rest) → is_stop o ≡ false → Becomes o r object rest
becomes (op.End cut) r object rest h = finished cut refl refl refl
becomes op.Stop r object rest h = absurd cc
becomes o reply.Wait object rest h = waiting refl refl refl refl
becomes o r object rest h = freed refl refl refl refl

call-plain : (o : Op) → is_call o ≡ true → (is_stop o ≡ false) × (is_begin o ≡ false) × (is_end o ≡ false)
call-plain op.Begin e = absurd cc
call-plain (op.End cut) e = absurd cc
call-plain op.Resume e = absurd cc
call-plain op.Stop e = absurd cc
call-plain o e = (refl, refl, refl)

pub call-no_stop : (o : Op) → is_call o ≡ true → is_stop o ≡ false
call-no_stop o e = (call-plain o e).0

-- what a call changes of a thread's life: nothing
pub call-no_life : (o : Op) → is_call o ≡ true → (is_begin o ≡ false) × (is_end o ≡ false)
call-no_life o e = ((call-plain o e).1, (call-plain o e).2)
