-- Every event lowers the work that is left.
use Rattle.std.proofs.Common.{◌≡◌, ℕ, ◌+◌, ◌<◌, ◌≤◌, Bool, true, false, ◌||◌, ◌⊎◌, inl, inr, ⊎_elim, if◌then◌else◌, List, Some, slice_get, slice_set, sum_by, refl, ap, sym, ◌∙◌, subst, arith}
use Rattle.std.proofs.lemmas.Bool.{false≢true}
use Rattle.std.proofs.lemmas.List.Sums.{sum_by-set}
use Rattle.std.proofs.lemmas.Option.{slice_get_within, get_or_from_slice_get}
use Rattle.tm_base.specs.declared.operations.Op.{Op}
use Rattle.tm_base.specs.declared.operations.Op.TheVariants as op
use Rattle.tm_base.specs.declared.replies.Reply.{Reply}
use Rattle.tm_base.specs.declared.events.Entry.{Entry}
use Rattle.tm_base.specs.declared.asks.Ask.TheVariants as ask
use Rattle.tm_base.specs.Histories.{Lawful}
use Rattle.tm_laws.specs.Counts.{is_wait}
use Rattle.tm_laws.specs.Tidy.{Moves}
use Rattle.tm_laws.specs.ThreadObjects.{is_end}
use Rattle.tm_laws.proofs.Counting.{grant-plain}
use Rattle.tm_text.specs.Exercises.{ExerciseView, IsWellFormed, own_of}
use Rattle.tm_programs.specs.Programs.{Rest, next_ask}
use Rattle.tm_replay.specs.declared.phases.Phase.{Phase}
use Rattle.tm_replay.specs.declared.phases.Phase.TheVariants as phase
use Rattle.tm_replay.specs.JointStates.{JointState, ThreadState, ObjectState}
use Rattle.tm_base.specs.Fits.{is_call, is_stop}
use Rattle.tm_replay.specs.JointSteps.{JointStep, stepped, entered, phase_by, phase_after}
use Rattle.tm_replay.specs.SoundStates.{IsSoundJoint, is_main}
use Rattle.tm_replay.specs.Work.{work_in, work_of, stop_of, work}
use Rattle.tm_replay.proofs.Moves.{Does, begins, ends, calls, resumes, Becomes, finished, waiting, freed, asked-called}
use Rattle.tm_replay.proofs.Soundness.{step-moves, step-does, step-became, step-after, step-stands, step-stops, step-main}

-- where one element is set, the sum falls as it does
sum_by-lower : {A : Type 0} (f : A → ℕ) (xs : List A) (i : ℕ) (old new : A) → slice_get xs i ≡ Some old → sum_by f (slice_set xs i new) + f old ≡ sum_by f xs + f new
sum_by-lower f xs i old new h =
    subst (λ v. sum_by f (slice_set xs i new) + f v ≡ sum_by f xs + f new) (get_or_from_slice_get xs i old old h)
    (sum_by-set f xs i new old (slice_get_within xs i old h))

-- the work after the event, by its phase and how many calls were made
along : (limit : ℕ) (p p' q : Phase) (made made' : ℕ) → q ≡ p' → work_in limit p' made' + 1 ≤ work_in limit p made → work_in limit q made' + 1 ≤ work_in limit p made
along limit p p' q made made' e less = subst (λ (u : Phase). work_in limit u made' + 1 ≤ work_in limit p made) (sym e) less

-- how many calls were made, with this operation
abbrev with_op : ℕ → Op → ℕ
with_op made o = made + (if is_call o then 1 else 0)

counts : (made : ℕ) (o : Op) (call : Bool) → is_call o ≡ call → with_op made o ≡ made + (if call then 1 else 0)
counts made o call e = ap (λ b. made + (if b then 1 else 0)) e

-- what the thread could do before and after
module _ (limit made own : ℕ) (p : Phase) (rest : Rest) (object : ℕ) (o : Op) (r : Reply)
    (within : is_call o ≡ true → made < limit) (final : o ≡ op.Resume → is_wait r ≡ false)
    (does : Does own p rest object o) (asked : next_ask rest.program rest.registers ≡ ask.Call object o → is_call o ≡ true) where
  ended : work_in limit (phase.Ended true) (with_op made o) + 1 ≤ work_in limit p made
  ended = some does
    where
      some : Does own p rest object o → 1 ≤ work_in limit p made
      some (begins e a b) = rw e (omega arith)
      some (ends e a d b) = rw e (omega arith)
      some (calls e a) = rw e (omega arith)
      some (resumes e b) = rw e (omega arith)

  waits : is_wait r ≡ true → is_end o ≡ false → work_in limit (phase.Waits object) (with_op made o) + 1 ≤ work_in limit p made
  waits w n = some does
    where
      some : Does own p rest object o → work_in limit (phase.Waits object) (with_op made o) + 1 ≤ work_in limit p made
      some (begins e a b) = rw e (omega (arith, counts made o false (ap is_call b)))
      some (ends e a d b) = absurd (false≢true (sym n ∙ ap is_end b))
      some (calls e a) = rw e (omega (arith, counts made o true (asked a), within (asked a)))
      some (resumes e b) = absurd (false≢true (sym (final b) ∙ w))

  frees : is_end o ≡ false → work_in limit phase.Free (with_op made o) + 1 ≤ work_in limit p made
  frees n = some does
    where
      some : Does own p rest object o → work_in limit phase.Free (with_op made o) + 1 ≤ work_in limit p made
      some (begins e a b) = rw e (omega (arith, counts made o false (ap is_call b)))
      some (ends e a d b) = absurd (false≢true (sym n ∙ ap is_end b))
      some (calls e a) = rw e (omega (arith, counts made o true (asked a), within (asked a)))
      some (resumes e b) = rw e (omega (arith, counts made o false (ap is_call b)))

  falls : Becomes o r object rest → work_in limit (phase_by o r object) (with_op made o) + 1 ≤ work_in limit p made
  falls (finished cut c q e) = along limit p (phase.Ended cut) (phase_by o r object) made (with_op made o) q ended
  falls (waiting w n q e) = along limit p (phase.Waits object) (phase_by o r object) made (with_op made o) q (waits w n)
  falls (freed w n q e) = along limit p phase.Free (phase_by o r object) made (with_op made o) q (frees n)

bool_cases : (b : Bool) → (b ≡ true) ⊎ (b ≡ false)
bool_cases true = inl refl
bool_cases false = inr refl

module _ (x : ExerciseView) (limit : ℕ) (j k : JointState) (e : Entry) (formed : IsWellFormed x) (sound : IsSoundJoint x j) (step : JointStep x j e k)
    (within : is_call e.op ≡ true → step.happens.thread_state.made < limit) where
  abbrev seat : ThreadState
  seat = step.happens.thread_state

  abbrev object_state : ObjectState
  object_state = step.happens.object_state

  threads : sum_by (work_of limit) k.threads + work_of limit seat ≡ sum_by (work_of limit) j.threads + work_of limit (stepped seat e)
  threads = subst (λ (l : List ThreadState). sum_by (work_of limit) l + work_of limit seat ≡ sum_by (work_of limit) j.threads + work_of limit (stepped seat e)) (sym step.happens.threads)
      (sum_by-lower (work_of limit) j.threads e.thread seat (stepped seat e) step.happens.thread)

  objects : sum_by stop_of k.objects + stop_of object_state ≡ sum_by stop_of j.objects + stop_of (entered object_state e step.happens.state)
  objects = subst (λ (l : List ObjectState). sum_by stop_of l + stop_of object_state ≡ sum_by stop_of j.objects + stop_of (entered object_state e step.happens.state)) (sym step.happens.objects)
      (sum_by-lower stop_of j.objects e.object object_state (entered object_state e step.happens.state) step.happens.object)

  moved : Moves object_state.view e.thread e.op e.reply step.happens.state
  moved = step-moves x j k e formed sound step

  -- a resume's reply doesn't wait
  final : e.op ≡ op.Resume → is_wait e.reply ≡ false
  final b =
      let resumes' = subst (λ (o : Op). Lawful object_state.view e.thread o e.reply step.happens.state) b step.happens.lawful in
      grant-plain e.reply ((sound.objects e.object object_state step.happens.object).sound.tidy.final e.thread e.reply resumes'.granted)

  pub work-step : work limit k + 1 ≤ work limit j
  work-step = ⊎_elim main_case plain_case (bool_cases (is_main seat.phase))
    where
      main_case : is_main seat.phase ≡ true → work limit k + 1 ≤ work limit j
      main_case main =
          let stop : e.op ≡ op.Stop = step-stops x j k e formed sound step main in
          let halts = subst (λ (o : Op). Lawful object_state.view e.thread o e.reply step.happens.state) stop step.happens.lawful in
          let before : stop_of object_state ≡ 1 = ap (λ b. if b then 0 else 1) halts.running in
          let now : stop_of (entered object_state e step.happens.state) ≡ 0 = ap (λ s. if s.stopped then 0 else 1) halts.halted in
          let is : seat.phase ≡ phase.Main = (step-main x j k e formed sound step main).0 in
          let is' : phase_after seat.phase e ≡ phase.Main = (step-main x j k e formed sound step main).1 in
          let old : work_of limit seat ≡ 0 = ap (λ p. work_in limit p seat.made) is in
          let new : work_of limit (stepped seat e) ≡ 0 = ap (λ p. work_in limit p (stepped seat e).made) is' in
          omega (arith, threads, objects, before, now, old, new)

      plain_case : is_main seat.phase ≡ false → work limit k + 1 ≤ work limit j
      plain_case plain =
          let does = step-does x j k e formed sound step plain in
          let became = step-became x j k e formed sound step plain in
          let stopped : is_stop e.op ≡ false = step-after x j k e formed sound step plain in
          let same : stop_of (entered object_state e step.happens.state) ≡ stop_of object_state =
          ap (λ b. if b then 0 else 1) (moved.stopped ∙ ap (λ b. b || object_state.view.state.stopped) stopped) in
          let is : phase_after seat.phase e ≡ phase_by e.op e.reply e.object = (step-stands x j k e formed sound step).1 plain in
          let stands = sound.threads e.thread seat step.happens.thread in
          let asked = λ (a : next_ask seat.rest.program seat.rest.registers ≡ ask.Call e.object e.op). (asked-called x seat.rest.program seat.rest.registers e.object e.op stands.calls a).call in
          let less = falls limit seat.made (own_of x.objects e.thread) seat.phase seat.rest e.object e.op e.reply within final does asked became in
          let new : work_of limit (stepped seat e) ≡ work_in limit (phase_by e.op e.reply e.object) (with_op seat.made e.op) =
          ap (λ p. work_in limit p (with_op seat.made e.op)) is in
          omega (arith, threads, objects, same, new, less)
