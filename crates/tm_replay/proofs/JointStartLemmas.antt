-- Where nothing has happened yet.
use Rattle.std.proofs.Common.{◌≡◌, ℕ, zero, suc, ◌+◌, ◌*◌, ◌≤◌, false, List, [], ◌∷◌, map, length, Some, slice_get, sum_by, refl, ap, sym, ◌∙◌, subst, arith, ne_eqb}
use Rattle.std.proofs.Math.Nat.{mul-le-mul_right}
use Rattle.std.proofs.lemmas.List.{length-map}
use Rattle.std.proofs.lemmas.List.Sums.{sum_by-cons}
use Rattle.std.proofs.lemmas.Option.{get_or_from_slice_get}
use Rattle.tm_base.specs.declared.kinds.Kind.{Kind}
use Rattle.tm_base.specs.declared.kinds.Kind.TheVariants as kind
use Rattle.tm_base.specs.States.{start_kind_state, is_pending}
use Rattle.tm_laws.specs.ThreadObjects.{has_begun, has_ended}
use Rattle.tm_laws.proofs.StartStateLemmas.{start-sound, start-free}
use Rattle.tm_text.specs.declared.exercises.Declaration.{Declaration}
use Rattle.tm_programs.specs.declared.instructions.Instruction.{Instruction}
use Rattle.tm_programs.specs.Programs.{Over}
use Rattle.tm_programs.specs.Instructions.{program_of}
use Rattle.tm_programs.specs.Calls.{AllCallsPass}
use Rattle.tm_text.specs.Exercises.{ExerciseView, IsWellFormed, instructions_of, is_call_on, own_of}
use Rattle.tm_text.proofs.ThreadCalls.{calls_fit}
use Rattle.tm_replay.specs.declared.phases.Phase.TheVariants as phase
use Rattle.tm_replay.specs.JointStates.{ThreadState, ObjectState, first_thread_state, first_object_state, start, unbegun}
use Rattle.tm_replay.specs.SoundStates.{IsSoundJoint, IsObjectStateOf, IsThreadStateOf, is_begun, is_past, waits_at}
use Rattle.tm_replay.specs.Work.{IsCounted, work_of, stop_of, work}

-- what a mapped list has at a place comes from what the list has there
pub mapped-at : {A B : Type 0} (v : A → B) (xs : List A) (i : ℕ) (y : B) → slice_get (map v xs) i ≡ Some y → (x : A) × (slice_get xs i ≡ Some x) × (v x ≡ y)
mapped-at v [] i y h = absurd cc
mapped-at v (x ∷ xs) zero y h = (x, refl, cc)
mapped-at v (x ∷ xs) (suc i) y h = mapped-at v xs i y h

-- where each term is at most c, the sum is at most c for each element
mapped-sum : {A B : Type 0} (v : A → B) (f : B → ℕ) (c : ℕ) (xs : List A) → ((i : ℕ) (x : A) → slice_get xs i ≡ Some x → f (v x) ≤ c) → sum_by f (map v xs) ≤ length xs * c
mapped-sum v f c [] small = omega arith
mapped-sum v f c (x ∷ xs) small =
    let one = small 0 x refl in
    let others = mapped-sum v f c xs (λ i. small (suc i)) in
    subst (λ n. n ≤ suc (length xs) * c) (sym (sum_by-cons f (v x) (map v xs))) (omega (arith, one, others))

-- at most 64 of a number are at most 64 times it
times-most : (n c : ℕ) → n ≤ 64 → n * c ≤ 64 * c
times-most n c few = mul-le-mul_right c few

-- no object's thread has begun, whatever its kind
start-unborn : (k : Kind) → (has_begun (start_kind_state k) ≡ false) × (has_ended (start_kind_state k) ≡ false)
start-unborn (kind.Thread own held) = (refl, refl)
start-unborn k = (refl, refl)

module _ (x : ExerciseView) (formed : IsWellFormed x) where
  abbrev threads : ℕ
  threads = length x.programs

  abbrev place_of : Declaration → ObjectState
  place_of d = first_object_state threads d.kind

  abbrev IsPlaceAt : ℕ → ObjectState → Type 0
  IsPlaceAt o b = (d : Declaration) × (slice_get x.objects o ≡ Some d) × (place_of d ≡ b)

  abbrev IsSeatAt : ℕ → ThreadState → Type 0
  IsSeatAt t s = (p : List Instruction) × (slice_get x.programs t ≡ Some p) × (unbegun p ≡ s)

  place-at : (o : ℕ) (b : ObjectState) → slice_get (start x).objects o ≡ Some b → IsPlaceAt o b
  place-at o b h = mapped-at place_of x.objects o b h

  seat-at : (t : ℕ) (s : ThreadState) → slice_get (start x).threads (suc t) ≡ Some s → IsSeatAt t s
  seat-at t s h = mapped-at unbegun x.programs t s h

  main-at : (s : ThreadState) → slice_get (start x).threads 0 ≡ Some s → first_thread_state phase.Main Over ≡ s
  main-at s h = cc

  program-at : (t : ℕ) (p : List Instruction) → slice_get x.programs t ≡ Some p → instructions_of x (suc t) ≡ p
  program-at t p h = get_or_from_slice_get x.programs t p [] h

  placed-start : (o : ℕ) (b : ObjectState) → slice_get (start x).objects o ≡ Some b → IsObjectStateOf x o b
  placed-start o b h =
      let at = place-at o b h in
      subst (IsObjectStateOf x o) at.2 (record { declaration = at.0; found = at.1; kind = refl; threads = refl; sound = start-sound at.0.kind threads })

  stands-start : (t : ℕ) (s : ThreadState) → slice_get (start x).threads t ≡ Some s → IsThreadStateOf x t s
  stands-start zero s h = subst (IsThreadStateOf x 0) (main-at s h) (record { main = refl; calls = tt; answered = tt; among = tt })
  stands-start (suc t) s h =
      let at = seat-at t s h in
      subst (IsThreadStateOf x (suc t)) at.2 (record { main = sym (ne_eqb (suc t) 0 (λ e. omega (arith, e))); calls = subst (λ (p : List Instruction). AllCallsPass (is_call_on x.objects) (program_of p)) (program-at t at.0 at.1) (calls_fit x (suc t) formed); answered = refl; among = tt })

  pending-start : (t o : ℕ) (s : ThreadState) (b : ObjectState) → 1 ≤ t → slice_get (start x).threads t ≡ Some s → slice_get (start x).objects o ≡ Some b → is_pending b.view.state t ≡ waits_at s.phase o
  pending-start zero o s b h hs hb = absurd (omega (arith, h))
  pending-start (suc t) o s b h hs hb =
      let at = place-at o b hb in
      sym (ap (λ c. is_pending c.view.state (suc t)) at.2) ∙ start-free at.0.kind threads (suc t) ∙ ap (λ r. waits_at r.phase o) (seat-at t s hs).2

  life-start : (t : ℕ) (s : ThreadState) (b : ObjectState) → 1 ≤ t → slice_get (start x).threads t ≡ Some s → slice_get (start x).objects (own_of x.objects t) ≡ Some b
      → (has_begun b.view.state.kind_state ≡ is_begun s.phase) × (has_ended b.view.state.kind_state ≡ is_past s.phase)
  life-start zero s b h hs hb = absurd (omega (arith, h))
  life-start (suc t) s b h hs hb =
      let at = place-at (own_of x.objects (suc t)) b hb in
      let unborn = start-unborn at.0.kind in
      let seat = (seat-at t s hs).2 in (
        sym (ap (λ c. has_begun c.view.state.kind_state) at.2) ∙ unborn.0 ∙ ap (λ r. is_begun r.phase) seat,
        sym (ap (λ c. has_ended c.view.state.kind_state) at.2) ∙ unborn.1 ∙ ap (λ r. is_past r.phase) seat,
      )

  counted-thread_state : (t : ℕ) (s : ThreadState) → slice_get (start x).threads t ≡ Some s → (s.next ≤ 0 + 1) × (s.stamp ≤ 0) × (s.made ≤ 0)
  counted-thread_state zero s h = subst (λ (r : ThreadState). (r.next ≤ 0 + 1) × (r.stamp ≤ 0) × (r.made ≤ 0)) (main-at s h) (omega arith, omega arith, omega arith)
  counted-thread_state (suc t) s h = subst (λ (r : ThreadState). (r.next ≤ 0 + 1) × (r.stamp ≤ 0) × (r.made ≤ 0)) (seat-at t s h).2 (omega arith, omega arith, omega arith)

  counted-place : (o : ℕ) (b : ObjectState) → slice_get (start x).objects o ≡ Some b → (b.at ≤ 0) × (b.stamp ≤ 0)
  counted-place o b h = subst (λ (c : ObjectState). (c.at ≤ 0) × (c.stamp ≤ 0)) (place-at o b h).2 (omega arith, omega arith)

-- nothing yet is a sound joint state
pub IsSoundJoint-start : (x : ExerciseView) → IsWellFormed x → IsSoundJoint x (start x)
IsSoundJoint-start x formed = record {
  object_count = length-map x.objects (place_of x formed);
  thread_count = ap suc (length-map x.programs unbegun);
  objects = placed-start x formed;
  threads = stands-start x formed;
  pending = pending-start x formed;
  life = life-start x formed;
}

pub IsCounted-start : (x : ExerciseView) → IsWellFormed x → IsCounted 0 (start x)
IsCounted-start x formed = record { threads = counted-thread_state x formed; objects = counted-place x formed }

-- an exercise's sizes bound the work: 64 threads of so many calls, and 256 objects to stop
pub work-start : (x : ExerciseView) (limit : ℕ) → IsWellFormed x → work limit (start x) ≤ 64 * (2 * limit + 3) + 256
work-start x limit formed = omega (
  arith,
  formed.few_threads,
  formed.few_objects,
  sum_by-cons (work_of limit) (first_thread_state phase.Main Over) (map unbegun x.programs),
  mapped-sum unbegun (work_of limit) (2 * limit + 3) x.programs (λ _ _ _. omega arith),
  times-most (length x.programs) (2 * limit + 3) formed.few_threads,
  mapped-sum (place_of x formed) stop_of 1 x.objects (λ _ _ _. omega arith),
)
