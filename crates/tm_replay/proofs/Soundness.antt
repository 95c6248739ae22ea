-- A joint step leads from a sound joint state to a sound one.
use Rattle.std.proofs.Common.{◌≡◌, ◌≢◌, ℕ, ◌<◌, ◌≤◌, Bool, true, false, ◌||◌, ◌==◌, ◌⊎◌, inl, inr, ⊎_elim, if◌then◌else◌, List, length, Some, IsSome, slice_get, refl, ap, sym, ◌∙◌, subst, arith, eq-eqb, ne_eqb, length-set}
use Rattle.std.proofs.lemmas.Bool.{cases_Bool, cases_eq, false≢true}
use Rattle.std.proofs.lemmas.Option.{slice_get_within}
use Rattle.tm_base.specs.declared.operations.Op.{Op}
use Rattle.tm_base.specs.declared.operations.Op.TheVariants as op
use Rattle.tm_base.specs.declared.events.Entry.{Entry}
use Rattle.tm_base.specs.States.{KindState, is_pending}
use Rattle.tm_base.specs.Histories.{Lawful}
use Rattle.tm_base.specs.Fits.{is_stop}
use Rattle.tm_laws.specs.Counts.{is_wait}
use Rattle.tm_laws.specs.Tidy.{Moves}
use Rattle.tm_laws.specs.ThreadObjects.{has_begun, has_ended, is_begin, is_end}
use Rattle.tm_laws.proofs.LawfulMoves.{Lawful-moves}
use Rattle.tm_laws.proofs.Begun.{Noted, Lawful-noted, End-plain}
use Rattle.tm_text.specs.Exercises.{ExerciseView, IsWellFormed, is_call_on, own_of, thread_of}
use Rattle.tm_programs.specs.Programs.{Rest}
use Rattle.tm_programs.specs.Calls.{AllCallsPass}
use Rattle.tm_programs.proofs.CallsLemmas.{AllCalls-answered}
use Rattle.tm_text.proofs.Owns.{own_of-found}
use Rattle.tm_replay.specs.declared.phases.Phase.{Phase}
use Rattle.tm_replay.specs.declared.phases.Phase.TheVariants as phase
use Rattle.tm_replay.specs.JointStates.{JointState, ThreadState, ObjectState}
use Rattle.tm_replay.specs.JointSteps.{JointStep, MayIn, stepped, entered, phase_by, phase_after, rest_by}
use Rattle.tm_replay.specs.SoundStates.{IsSoundJoint, IsObjectStateOf, IsThreadStateOf, IsAnswered, IsAmong, is_main, is_begun, is_past, waits_at}
use Rattle.tm_replay.proofs.SliceLemmas.{slice_get-set_cases}
use Rattle.tm_replay.proofs.Moves.{Does, begins, ends, calls, resumes, may-does, Becomes, finished, waiting, freed, becomes, call-no_stop, call-no_life, asked-called}

-- the phase of a program thread is that of its operation and reply
phase_after-plain : (p : Phase) (e : Entry) → is_main p ≡ false → phase_after p e ≡ phase_by e.op e.reply e.object
phase_after-plain phase.Main e h = absurd cc
phase_after-plain p e h = refl

phase_after-main : (p : Phase) (e : Entry) → is_main p ≡ true → phase_after p e ≡ phase.Main
phase_after-main phase.Main e h = refl
phase_after-main phase.NotBegun e h = absurd cc
phase_after-main phase.Free e h = absurd cc
phase_after-main (phase.Waits o) e h = absurd cc
phase_after-main (phase.Ended cut) e h = absurd cc

-- only `main` is in the phase of main
pub is_main-phase : (p : Phase) → is_main p ≡ true → p ≡ phase.Main
is_main-phase phase.Main h = refl
is_main-phase phase.NotBegun h = absurd cc
is_main-phase phase.Free h = absurd cc
is_main-phase (phase.Waits o) h = absurd cc
is_main-phase (phase.Ended cut) h = absurd cc

module _ (x : ExerciseView) (j k : JointState) (e : Entry) (formed : IsWellFormed x) (sound : IsSoundJoint x j) (step : JointStep x j e k) where
  abbrev seat : ThreadState
  seat = step.happens.thread_state

  abbrev object_state : ObjectState
  object_state = step.happens.object_state

  placed : IsObjectStateOf x e.object object_state
  placed = sound.objects e.object object_state step.happens.object

  stands : IsThreadStateOf x e.thread seat
  stands = sound.threads e.thread seat step.happens.thread

  moved : Moves object_state.view e.thread e.op e.reply step.happens.state
  moved = Lawful-moves object_state.view e.thread e.op e.reply step.happens.state placed.sound step.happens.lawful

  noted : Noted e.op object_state.view.state.kind_state step.happens.state.kind_state
  noted = Lawful-noted object_state.view e.thread e.op e.reply step.happens.state placed.sound step.happens.lawful

  -- what the thread does, where it isn't `main`
  does : is_main seat.phase ≡ false → Does (own_of x.objects e.thread) seat.phase seat.rest e.object e.op
  does plain = may-does (own_of x.objects e.thread) seat.phase seat.rest e.object e.op plain step.may

  no_stop : is_main seat.phase ≡ false → is_stop e.op ≡ false
  no_stop plain = go (does plain)
    where
      go : Does (own_of x.objects e.thread) seat.phase seat.rest e.object e.op → is_stop e.op ≡ false
      go (begins p o b) = ap is_stop b
      go (ends p o cut b) = ap is_stop b
      go (calls p asked) = call-no_stop e.op (asked-called x seat.rest.program seat.rest.registers e.object e.op stands.calls asked).call
      go (resumes p b) = ap is_stop b

  stops : is_main seat.phase ≡ true → e.op ≡ op.Stop
  stops main = subst (λ (p : Phase). MayIn (own_of x.objects e.thread) p seat.rest e.object e.op) (is_main-phase seat.phase main) step.may

  became : is_main seat.phase ≡ false → Becomes e.op e.reply e.object seat.rest
  became plain = becomes e.op e.reply e.object seat.rest (no_stop plain)

  among : e.object < length x.objects
  among = rw (← sound.object_count) (slice_get_within j.objects e.object object_state step.happens.object)

  abbrev after : Phase
  after = phase_after seat.phase e

  abbrev rest' : Rest
  rest' = rest_by e.op e.reply seat.rest

  by_phase : is_main seat.phase ≡ false → after ≡ phase_by e.op e.reply e.object
  by_phase plain = phase_after-plain seat.phase e plain

  -- the thread goes on with its program
  still : IsThreadStateOf x e.thread (stepped seat e)
  still = ⊎_elim main_case plain_case (cases_Bool (is_main seat.phase))
    where
      main_case : is_main seat.phase ≡ true → IsThreadStateOf x e.thread (stepped seat e)
      main_case main =
          let is : after ≡ phase.Main = phase_after-main seat.phase e main in
          let same : rest' ≡ seat.rest = ap (λ o. rest_by o e.reply seat.rest) (stops main) in
          record {
            main = ap is_main is ∙ sym main ∙ stands.main;
            calls = subst (λ (q : Rest). AllCallsPass (is_call_on x.objects) q.program) (sym same) stands.calls;
            answered = subst (λ (p : Phase). IsAnswered p rest'.last) (sym is) tt;
            among = subst (λ (p : Phase). IsAmong p (length x.objects)) (sym is) tt;
          }

      plain_case : is_main seat.phase ≡ false → IsThreadStateOf x e.thread (stepped seat e)
      plain_case plain = go (became plain)
        where
          go : Becomes e.op e.reply e.object seat.rest → IsThreadStateOf x e.thread (stepped seat e)
          go (finished cut b p r) =
              let is : after ≡ phase.Ended cut = by_phase plain ∙ p in
              record {
                main = ap is_main is ∙ sym plain ∙ stands.main;
                calls = subst (λ (q : Rest). AllCallsPass (is_call_on x.objects) q.program) (sym r) stands.calls;
                answered = subst (λ (q : Phase). IsAnswered q rest'.last) (sym is) tt;
                among = subst (λ (q : Phase). IsAmong q (length x.objects)) (sym is) tt;
              }
          go (waiting w n p r) =
              let is : after ≡ phase.Waits e.object = by_phase plain ∙ p in
              record {
                main = ap is_main is ∙ sym plain ∙ stands.main;
                calls = subst (λ (q : Rest). AllCallsPass (is_call_on x.objects) q.program) (sym r) stands.calls;
                answered = subst (λ (q : Phase). IsAnswered q rest'.last) (sym is) tt;
                among = subst (λ (q : Phase). IsAmong q (length x.objects)) (sym is) among;
              }
          go (freed w n p r) =
              let is : after ≡ phase.Free = by_phase plain ∙ p in
              let more = AllCalls-answered _ seat.rest e.reply stands.calls in
              let last : IsSome rest'.last = subst (λ (q : Rest). IsSome q.last) (sym r) refl in
              record {
                main = ap is_main is ∙ sym plain ∙ stands.main;
                calls = subst (λ (q : Rest). AllCallsPass (is_call_on x.objects) q.program) (sym r) more;
                answered = subst (λ (q : Phase). IsAnswered q rest'.last) (sym is) last;
                among = subst (λ (q : Phase). IsAmong q (length x.objects)) (sym is) tt;
              }

  -- the thread's own object, where it acts there as its life begins or ends
  own_only : is_main seat.phase ≡ false → (is_begin e.op ≡ true) ⊎ (is_end e.op ≡ true) → e.object ≡ own_of x.objects e.thread
  own_only plain turns = go (does plain)
    where
      go : Does (own_of x.objects e.thread) seat.phase seat.rest e.object e.op → e.object ≡ own_of x.objects e.thread
      go (begins p o b) = o
      go (ends p o cut b) = o
      go (calls p asked) =
          let none = call-no_life e.op (asked-called x seat.rest.program seat.rest.registers e.object e.op stands.calls asked).call in
          ⊎_elim (λ (y : is_begin e.op ≡ true). absurd (false≢true (sym none.0 ∙ y))) (λ (y : is_end e.op ≡ true). absurd (false≢true (sym none.1 ∙ y))) turns
      go (resumes p b) =
          ⊎_elim (λ (y : is_begin e.op ≡ true). absurd (false≢true (sym (ap is_begin b) ∙ y))) (λ (y : is_end e.op ≡ true). absurd (false≢true (sym (ap is_end b) ∙ y))) turns

  -- what the event makes of the thread's life
  lived : is_main seat.phase ≡ false → (is_begun after ≡ (is_begin e.op || is_begun seat.phase)) × (is_past after ≡ (is_end e.op || is_past seat.phase))
  lived plain = go (does plain) (became plain)
    where
      go : Does (own_of x.objects e.thread) seat.phase seat.rest e.object e.op → Becomes e.op e.reply e.object seat.rest
          → (is_begun after ≡ (is_begin e.op || is_begun seat.phase)) × (is_past after ≡ (is_end e.op || is_past seat.phase))
      go (begins p o b) (finished cut c q r) = let f : op.Begin ≡ op.End cut = sym b ∙ c in absurd cc
      go (begins p o b) (waiting w n q r) = rw (by_phase plain, q, p, b) (refl, refl)
      go (begins p o b) (freed w n q r) = rw (by_phase plain, q, p, b) (refl, refl)
      go (ends p o cut b) (finished d c q r) = rw (by_phase plain, q, p, b) (refl, refl)
      go (ends p o cut b) (waiting w n q r) = absurd (false≢true (sym n ∙ ap is_end b))
      go (ends p o cut b) (freed w n q r) = absurd (false≢true (sym n ∙ ap is_end b))
      go (calls p asked) b =
          let none = call-no_life e.op (asked-called x seat.rest.program seat.rest.registers e.object e.op stands.calls asked).call in
          called none.0 none.1 p b
        where
          called : is_begin e.op ≡ false → is_end e.op ≡ false → seat.phase ≡ phase.Free → Becomes e.op e.reply e.object seat.rest
              → (is_begun after ≡ (is_begin e.op || is_begun seat.phase)) × (is_past after ≡ (is_end e.op || is_past seat.phase))
          called nb ne p (finished cut c q r) = absurd (false≢true (sym ne ∙ ap is_end c))
          called nb ne p (waiting w n q r) = rw (by_phase plain, q, p, nb, ne) (refl, refl)
          called nb ne p (freed w n q r) = rw (by_phase plain, q, p, nb, ne) (refl, refl)
      go (resumes p b) (finished cut c q r) = let f : op.Resume ≡ op.End cut = sym b ∙ c in absurd cc
      go (resumes p b) (waiting w n q r) = rw (by_phase plain, q, p, b) (refl, refl)
      go (resumes p b) (freed w n q r) = rw (by_phase plain, q, p, b) (refl, refl)

  -- the reply makes the thread wait at the object, or nowhere
  waits_here : is_main seat.phase ≡ false → is_wait e.reply ≡ waits_at after e.object
  waits_here plain = go (became plain)
    where
      go : Becomes e.op e.reply e.object seat.rest → is_wait e.reply ≡ waits_at after e.object
      go (finished cut c q r) =
          let over : is_wait e.reply ≡ false = End-plain object_state.view e.thread cut e.reply step.happens.state
          (subst (λ (o : Op). Lawful object_state.view e.thread o e.reply step.happens.state) c step.happens.lawful) in
          over ∙ sym (ap (λ p. waits_at p e.object) (by_phase plain ∙ q))
      go (waiting w n q r) = w ∙ sym (eq-eqb e.object e.object refl) ∙ sym (ap (λ p. waits_at p e.object) (by_phase plain ∙ q))
      go (freed w n q r) = w ∙ sym (ap (λ p. waits_at p e.object) (by_phase plain ∙ q))

  -- elsewhere the thread waited at most where it acts now
  waits_elsewhere : is_main seat.phase ≡ false → (o : ℕ) → o ≢ e.object → waits_at seat.phase o ≡ waits_at after o
  waits_elsewhere plain o ne = before (does plain) ∙ sym (later (became plain))
    where
      apart : (e.object == o) ≡ false
      apart = ne_eqb e.object o (λ same. ne (sym same))

      before : Does (own_of x.objects e.thread) seat.phase seat.rest e.object e.op → waits_at seat.phase o ≡ false
      before (begins p a b) = ap (λ q. waits_at q o) p
      before (ends p a cut b) = ap (λ q. waits_at q o) p
      before (calls p asked) = ap (λ q. waits_at q o) p
      before (resumes p b) = ap (λ q. waits_at q o) p ∙ apart

      later : Becomes e.op e.reply e.object seat.rest → waits_at after o ≡ false
      later (finished cut c q r) = ap (λ p. waits_at p o) (by_phase plain ∙ q)
      later (waiting w n q r) = ap (λ p. waits_at p o) (by_phase plain ∙ q) ∙ apart
      later (freed w n q r) = ap (λ p. waits_at p o) (by_phase plain ∙ q)

  -- a program thread isn't `main`
  plain_thread : 1 ≤ e.thread → is_main seat.phase ≡ false
  plain_thread h = stands.main ∙ ne_eqb e.thread 0 (λ same. omega (arith, same))

  abbrev TheSeat : ℕ → ThreadState → Type 0
  TheSeat t r = ((t ≡ e.thread) × (r ≡ stepped seat e)) ⊎ ((t ≢ e.thread) × (slice_get j.threads t ≡ Some r))

  abbrev TheSpot : ℕ → ObjectState → Type 0
  TheSpot o c = ((o ≡ e.object) × (c ≡ entered object_state e step.happens.state)) ⊎ ((o ≢ e.object) × (slice_get j.objects o ≡ Some c))

  seat_of : (t : ℕ) (r : ThreadState) → slice_get k.threads t ≡ Some r → TheSeat t r
  seat_of t r h = slice_get-set_cases j.threads e.thread t (stepped seat e) r (subst (λ (l : List ThreadState). slice_get l t ≡ Some r) step.happens.threads h)

  spot_of : (o : ℕ) (c : ObjectState) → slice_get k.objects o ≡ Some c → TheSpot o c
  spot_of o c h = slice_get-set_cases j.objects e.object o (entered object_state e step.happens.state) c (subst (λ (l : List ObjectState). slice_get l o ≡ Some c) step.happens.objects h)

  -- other threads' calls stay as they are
  others_pending : (t : ℕ) → t ≢ e.thread → is_pending step.happens.state t ≡ is_pending object_state.view.state t
  others_pending t ne =
      subst (λ (b : Bool). is_pending step.happens.state t ≡ (if b then is_wait e.reply else is_pending object_state.view.state t)) (ne_eqb t e.thread ne) (moved.pending t)

  own_pending : is_pending step.happens.state e.thread ≡ is_wait e.reply
  own_pending =
      subst (λ (b : Bool). is_pending step.happens.state e.thread ≡ (if b then is_wait e.reply else is_pending object_state.view.state e.thread)) (eq-eqb e.thread e.thread refl) (moved.pending e.thread)

  pending_after : (t o : ℕ) (r : ThreadState) (c : ObjectState) → 1 ≤ t → TheSeat t r → TheSpot o c → is_pending c.view.state t ≡ waits_at r.phase o
  pending_after t o r c h (inl mine) (inl here) =
      let acts : 1 ≤ e.thread = subst (λ (u : ℕ). 1 ≤ u) mine.0 h in
      let there : is_pending step.happens.state e.thread ≡ waits_at after e.object = own_pending ∙ waits_here (plain_thread acts) in
      ap (λ b. is_pending b.view.state t) here.1 ∙ ap (is_pending step.happens.state) mine.0 ∙ there
      ∙ sym (ap (waits_at after) here.0) ∙ sym (ap (λ s. waits_at s.phase o) mine.1)
  pending_after t o r c h (inl mine) (inr here) =
      let acts : 1 ≤ e.thread = subst (λ (u : ℕ). 1 ≤ u) mine.0 h in
      ap (is_pending c.view.state) mine.0 ∙ sound.pending e.thread o seat c acts step.happens.thread here.1
      ∙ waits_elsewhere (plain_thread acts) o here.0 ∙ sym (ap (λ s. waits_at s.phase o) mine.1)
  pending_after t o r c h (inr mine) (inl here) =
      ap (λ b. is_pending b.view.state t) here.1 ∙ others_pending t mine.0 ∙ sound.pending t e.object r object_state h mine.1 step.happens.object
      ∙ sym (ap (waits_at r.phase) here.0)
  pending_after t o r c h (inr mine) (inr here) = sound.pending t o r c h mine.1 here.1

  abbrev Lives : KindState → Phase → Type 0
  Lives own p = (has_begun own ≡ is_begun p) × (has_ended own ≡ is_past p)

  -- a thread that stands in the joint state has a program
  known : (t : ℕ) (r : ThreadState) → slice_get j.threads t ≡ Some r → t ≤ length x.programs
  known t r h = omega (arith, slice_get_within j.threads t r h, sound.thread_count)

  -- two threads have no own object in common
  owns_apart : (t : ℕ) → 1 ≤ t → t ≤ length x.programs → 1 ≤ e.thread → own_of x.objects t ≡ own_of x.objects e.thread → t ≡ e.thread
  owns_apart t h few acts same =
      let a = own_of-found x formed t h few in
      let b = own_of-found x formed e.thread acts (known e.thread seat step.happens.thread) in
      let found : Some a.0 ≡ Some b.0 = sym a.1 ∙ ap (slice_get x.objects) same ∙ b.1 in
      let same_declared : a.0 ≡ b.0 = cc in
      let one : Some t ≡ Some e.thread = sym a.2 ∙ ap thread_of same_declared ∙ b.2 in
      cc

  -- on its own object a thread's life goes on as it does in the thread
  life_here : 1 ≤ e.thread → own_of x.objects e.thread ≡ e.object → Lives step.happens.state.kind_state after
  life_here acts own =
      let was : Lives object_state.view.state.kind_state seat.phase =
      sound.life e.thread seat object_state acts step.happens.thread (subst (λ (o : ℕ). slice_get j.objects o ≡ Some object_state) (sym own) step.happens.object) in
      let now = lived (plain_thread acts) in
      (noted.begun ∙ ap (λ b. is_begin e.op || b) was.0 ∙ sym now.0, noted.ended ∙ ap (λ b. is_end e.op || b) was.1 ∙ sym now.1)

  -- the event begins and ends no thread's life where it is made on an object that isn't the thread's own
  lifeless : (1 ≤ e.thread → e.object ≢ own_of x.objects e.thread) → (is_begin e.op ≡ false) × (is_end e.op ≡ false)
  lifeless away = ⊎_elim main_case plain_case (cases_Bool (is_main seat.phase))
    where
      main_case : is_main seat.phase ≡ true → (is_begin e.op ≡ false) × (is_end e.op ≡ false)
      main_case main = (ap is_begin (stops main), ap is_end (stops main))

      acting : is_main seat.phase ≡ false → 1 ≤ e.thread
      acting plain = ⊎_elim
          (λ (zero' : e.thread ≡ 0). absurd (false≢true (sym plain ∙ stands.main ∙ ap (λ t. t == 0) zero')))
          (λ (ne : e.thread ≢ 0). omega (arith, ne)) (cases_eq e.thread 0)

      plain_case : is_main seat.phase ≡ false → (is_begin e.op ≡ false) × (is_end e.op ≡ false)
      plain_case plain = (
        ⊎_elim (λ (y : is_begin e.op ≡ true). absurd (away (acting plain) (own_only plain (inl y)))) (λ (n : is_begin e.op ≡ false). n) (cases_Bool (is_begin e.op)),
        ⊎_elim (λ (y : is_end e.op ≡ true). absurd (away (acting plain) (own_only plain (inr y)))) (λ (n : is_end e.op ≡ false). n) (cases_Bool (is_end e.op)),
      )

  life_after : (t : ℕ) (r : ThreadState) (c : ObjectState) → 1 ≤ t → TheSeat t r → TheSpot (own_of x.objects t) c → Lives c.view.state.kind_state r.phase
  life_after t r c h (inl mine) (inl here) =
      let acts : 1 ≤ e.thread = subst (λ (u : ℕ). 1 ≤ u) mine.0 h in
      let own : own_of x.objects e.thread ≡ e.object = sym (ap (own_of x.objects) mine.0) ∙ here.0 in
      let lives = life_here acts own in (
        ap (λ b. has_begun b.view.state.kind_state) here.1 ∙ lives.0 ∙ sym (ap (λ s. is_begun s.phase) mine.1),
        ap (λ b. has_ended b.view.state.kind_state) here.1 ∙ lives.1 ∙ sym (ap (λ s. is_past s.phase) mine.1),
      )
  life_after t r c h (inl mine) (inr here) =
      let acts : 1 ≤ e.thread = subst (λ (u : ℕ). 1 ≤ u) mine.0 h in
      let away : own_of x.objects e.thread ≢ e.object = λ same. here.0 (ap (own_of x.objects) mine.0 ∙ same) in
      let none = lifeless (λ _ same. away (sym same)) in
      let now = lived (plain_thread acts) in
      let was : Lives c.view.state.kind_state seat.phase =
      sound.life e.thread seat c acts step.happens.thread (subst (λ (u : ℕ). slice_get j.objects (own_of x.objects u) ≡ Some c) mine.0 here.1) in (
        was.0 ∙ sym (now.0 ∙ ap (λ b. b || is_begun seat.phase) none.0) ∙ sym (ap (λ s. is_begun s.phase) mine.1),
        was.1 ∙ sym (now.1 ∙ ap (λ b. b || is_past seat.phase) none.1) ∙ sym (ap (λ s. is_past s.phase) mine.1),
      )
  life_after t r c h (inr mine) (inl here) =
      let was : Lives object_state.view.state.kind_state r.phase = sound.life t r object_state h mine.1 (subst (λ (o : ℕ). slice_get j.objects o ≡ Some object_state) (sym here.0) step.happens.object) in
      let none = lifeless (λ acts same. mine.0 (owns_apart t h (known t r mine.1) acts (here.0 ∙ same))) in (
        ap (λ b. has_begun b.view.state.kind_state) here.1 ∙ noted.begun ∙ ap (λ b. b || has_begun object_state.view.state.kind_state) none.0 ∙ was.0,
        ap (λ b. has_ended b.view.state.kind_state) here.1 ∙ noted.ended ∙ ap (λ b. b || has_ended object_state.view.state.kind_state) none.1 ∙ was.1,
      )
  life_after t r c h (inr mine) (inr here) = sound.life t r c h mine.1 here.1

  placed_after : (o : ℕ) (c : ObjectState) → TheSpot o c → IsObjectStateOf x o c
  placed_after o c (inl here) =
      subst (IsObjectStateOf x o) (sym here.1) (record {
        declaration = placed.declaration;
        found = ap (slice_get x.objects) here.0 ∙ placed.found;
        kind = placed.kind;
        threads = placed.threads;
        sound = moved.sound;
      })
  placed_after o c (inr here) = sound.objects o c here.1

  stands_after : (t : ℕ) (r : ThreadState) → TheSeat t r → IsThreadStateOf x t r
  stands_after t r (inl mine) = subst (λ (u : ℕ). IsThreadStateOf x u r) (sym mine.0) (subst (IsThreadStateOf x e.thread) (sym mine.1) still)
  stands_after t r (inr mine) = sound.threads t r mine.1

  pub IsSoundJoint-step : IsSoundJoint x k
  IsSoundJoint-step = record {
    object_count = ap length step.happens.objects ∙ length-set j.objects e.object (entered object_state e step.happens.state) ∙ sound.object_count;
    thread_count = ap length step.happens.threads ∙ length-set j.threads e.thread (stepped seat e) ∙ sound.thread_count;
    objects = λ o c h. placed_after o c (spot_of o c h);
    threads = λ t r h. stands_after t r (seat_of t r h);
    pending = λ t o r c h hr hc. pending_after t o r c h (seat_of t r hr) (spot_of o c hc);
    life = λ t r c h hr hc. life_after t r c h (seat_of t r hr) (spot_of (own_of x.objects t) c hc);
  }

  -- what the event does to the object's calls
  pub step-moves : Moves step.happens.object_state.view e.thread e.op e.reply step.happens.state
  step-moves = moved

  pub step-does : is_main step.happens.thread_state.phase ≡ false → Does (own_of x.objects e.thread) step.happens.thread_state.phase step.happens.thread_state.rest e.object e.op
  step-does = does

  pub step-became : is_main step.happens.thread_state.phase ≡ false → Becomes e.op e.reply e.object step.happens.thread_state.rest
  step-became = became

  -- a program thread doesn't stop objects, and `main` does nothing else
  pub step-after : is_main step.happens.thread_state.phase ≡ false → is_stop e.op ≡ false
  step-after = no_stop

  pub step-stops : is_main step.happens.thread_state.phase ≡ true → e.op ≡ op.Stop
  step-stops = stops

  pub step-main : is_main step.happens.thread_state.phase ≡ true → (step.happens.thread_state.phase ≡ phase.Main) × (phase_after step.happens.thread_state.phase e ≡ phase.Main)
  step-main main = (is_main-phase seat.phase main, phase_after-main seat.phase e main)

  pub step-stands : IsAnswered step.happens.thread_state.phase step.happens.thread_state.rest.last × (is_main step.happens.thread_state.phase ≡ false → phase_after step.happens.thread_state.phase e ≡ phase_by e.op e.reply e.object)
  step-stands = (stands.answered, by_phase)
