-- What a turn leaves, from what it prepares and attempts.
use Rattle.std.proofs.Common.{◌≡◌, ℕ, Bool, true, false, MatchBool, inl, inr, List, [], ◌∷◌, ◌++◌, slice_get, refl, ap, sym, ◌∙◌, subst, arith}
use Rattle.std.proofs.lemmas.Option.{slice_get_within}
use Rattle.tm_base.specs.declared.asks.Ask.{Ask}
use Rattle.tm_base.specs.declared.asks.Ask.TheVariants as ask
use Rattle.tm_base.specs.declared.operations.Op.{Op}
use Rattle.tm_base.specs.declared.replies.Reply.{Reply}
use Rattle.tm_base.specs.declared.events.Entry.{Entry}
use Rattle.tm_base.specs.Bodies.{goes_on_after}
use Rattle.tm_base.specs.Tickets.{TicketView, opening}
use Rattle.tm_shared.specs.OwnEvents.{ends_waiting}
use Rattle.tm_turn.specs.Passes.{PassView, TurnView}
use Rattle.tm_worker.specs.declared.phases.Phase.{Phase}
use Rattle.tm_worker.specs.declared.phases.Phase.TheVariants as phase
use Rattle.tm_worker.specs.declared.turned.Turned.{Turned}
use Rattle.tm_worker.specs.declared.turned.Turned.TheVariants as turned
use Rattle.tm_worker.specs.Logs.{LogView, IsOwnStep, KeepsLog, AreSamePasses}
use Rattle.tm_worker.specs.Outcomes.{SuitsPasses}
use Rattle.tm_worker.specs.Progresses.{ProgressView, GivesUpIn, GoesOn, PreparesIn, TurnsTo, ending, short_of_room}
use Rattle.tm_worker.specs.Standings.{is_own_at, kinds_of, kinds_of_passes}
use Rattle.tm_worker.specs.Turning.{Attempts, LostAtNext, SawItWaitAt, SendsNone, SendsOne, Tries, Turns}
use Rattle.tm_worker.specs.Workers.{AreFreshPasses}
use Rattle.tm_worker.proofs.Elements.{found_at, maps_alike}

pub suits_later : (shared : List TurnView) (old new : List PassView) (t t' : ℕ) → SuitsPasses shared old t → AreSamePasses old new → t' ≡ t → SuitsPasses shared new t'
suits_later shared old new t t' suits same is =
    record {
      count = suits.count ∙ sym same.count;
      of = λ k s q s_at q_at.
          let within = slice_get_within new k q q_at in
          let count = same.count in
          let p = found_at old k (omega (arith, within, count)) in
          let of = suits.of k s p.0 s_at p.1 in
          let now = (same.each k p.0 q p.1 q_at).same in
          (ap (λ (x : PassView). x.turn) now ∙ of.0, ap (λ (x : PassView). x.label) now ∙ of.1);
      known = λ k s s_at. let known = suits.known k s s_at in omega (arith, known, is);
    }

pub kinds_are : (shared : List TurnView) (passes : List PassView) (t : ℕ) → SuitsPasses shared passes t → kinds_of shared ≡ kinds_of_passes passes
kinds_are shared passes t suits =
    maps_alike (λ (s : TurnView). s.label.kind) (λ (p : PassView). p.label.kind) shared passes suits.count
    (λ k s p s_at p_at. sym (ap (λ l. l.kind) (suits.of k s p s_at p_at).1))

-- a log that has recorded nothing
pub keeps-first : (passes : List PassView) (t : ℕ) → AreFreshPasses t passes → KeepsLog passes (opening t) []
keeps-first passes t fresh =
    record {
      run = refl;
      each = λ k p at.
          let f = fresh.each k p at in
          record { number = f.number; of = f.of; idle = f.idle; own = sym f.none; waits = ap ends_waiting f.none; clock = λ w. absurd cc };
      there = λ k w. absurd cc;
    }

abbrev is_waits : Phase → Bool
is_waits (phase.Waits o) = true
is_waits p = false

sends_since : (old mid new : LogView) (e : Entry) → SendsNone old mid → SendsOne mid e new → SendsOne old e new
sends_since old mid new e none one =
    record {
      sent = one.sent ∙ ap (λ es. es ++ e ∷ []) none.sent;
      step = subst (λ (t : TicketView). IsOwnStep new.passes t e new.ticket) none.ticket one.step;
      ring = one.ring ∙ none.ring;
    }

none_since : (old mid new : LogView) → SendsNone old mid → SendsNone mid new → SendsNone old new
none_since old mid new none next = record { sent = next.sent ∙ none.sent; ticket = next.ticket ∙ none.ticket; ring = next.ring ∙ none.ring }

lost_before : (own : _) (now : Phase) (old mid new : LogView) (holder : ℕ) → AreSamePasses old.passes mid.passes → LostAtNext own now mid new holder → LostAtNext own now old new holder
lost_before own now old mid new holder same lost =
    let within = slice_get_within mid.passes lost.object lost.lost.before lost.lost.found in
    let count = same.count in
    let p = found_at old.passes lost.object (omega (arith, within, count)) in
    let is = same.each lost.object p.0 lost.lost.before p.1 lost.lost.found in
    let few = is.misses in
    let more = lost.lost.changed.misses in
    let number : lost.lost.before.number ≡ p.0.number = ap (λ (x : PassView). x.number) is.same in
    record {
      object = lost.object;
      o = lost.o;
      next = lost.next;
      lost = record {
        before = p.0;
        after = lost.lost.after;
        found = p.1;
        now = lost.lost.now;
        changed = record { misses = omega (arith, few, more); missed = lost.lost.changed.missed; other = λ h. lost.lost.changed.other (h ∙ sym number) };
      };
    }

module _ {B : Type 0} where
  -- nothing is given up
  pub gives_none : (now : Phase) (s : ProgressView B) → GivesUpIn now s s
  gives_none (phase.Asked o p) s = inl refl
  gives_none now s = refl

  pub gives_call : (now : Phase) (o : ℕ) (p : Op) (s : ProgressView B) → now ≡ phase.Asked o p → GivesUpIn now s (short_of_room s)
  gives_call now o p s is = subst (λ (x : Phase). GivesUpIn x s (short_of_room s)) (sym is) (inr refl)

  -- an attempt after an object had no room for a call
  pub attempts_since : (own : _) (m : ProgressView B) (old mid : LogView) (t : Turned) (s' : ProgressView B) (new : LogView) → is_waits m.phase ≡ false → SendsNone old mid → AreSamePasses old.passes mid.passes
      → Attempts own m mid t s' new → Attempts own m old t s' new
  attempts_since own m old mid (turned.Made e) s' new not none same a = (a.0, a.1, sends_since old mid new e none a.2)
  attempts_since own m old mid turned.NotYet s' new not none same a = absurd (let clash : false ≡ true = sym not ∙ ap is_waits a.2.waits in cc)
  attempts_since own m old mid (turned.Busy h) s' new not none same a = (a.0, none_since old mid new none a.1, lost_before own m.phase old mid new h same a.2)
  attempts_since own m old mid turned.Over s' new not none same a = a

  pub short_not_waits : (s : ProgressView B) → is_waits (short_of_room s).phase ≡ false
  short_not_waits s = refl

  gives_waits : (now : Phase) (s m : ProgressView B) → GivesUpIn now s m → is_waits m.phase ≡ true → m ≡ s
  gives_waits (phase.Asked o p) s m (inl same) waits = same
  gives_waits (phase.Asked o p) s m (inr short) waits = absurd (let clash : false ≡ true = sym (ap (λ (x : ProgressView B). is_waits x.phase) short) ∙ waits in cc)
  gives_waits phase.NotBegun s m g waits = g
  gives_waits (phase.Waits o) s m g waits = g
  gives_waits (phase.Replied r) s m g waits = g
  gives_waits (phase.Ends cut) s m g waits = g
  gives_waits phase.Ended s m g waits = g

  turns_waits : (limit : ℕ) (a : Ask) (s m : ProgressView B) → TurnsTo limit a s m → is_waits m.phase ≡ false
  turns_waits limit ask.Over s m t = ap (λ (x : ProgressView B). is_waits x.phase) t
  turns_waits limit (ask.Call o p) s m (inl (few, inl is)) = ap (λ (x : ProgressView B). is_waits x.phase) is
  turns_waits limit (ask.Call o p) s m (inl (few, inr is)) = ap (λ (x : ProgressView B). is_waits x.phase) is
  turns_waits limit (ask.Call o p) s m (inr (many, is)) = ap (λ (x : ProgressView B). is_waits x.phase) is

module _ {B : Type 0} (asked : B → Reply → Ask) (rest : B → Reply → B) (limit : ℕ) where
  reply_waits : (goes : Bool) (a : Ask) (s t m : ProgressView B) → MatchBool goes (TurnsTo limit a t m) (m ≡ ending s true) → is_waits m.phase ≡ false
  reply_waits true a s t m h = turns_waits limit a t m h
  reply_waits false a s t m h = ap (λ (x : ProgressView B). is_waits x.phase) h

  prepared_waits : (now : Phase) (s m : ProgressView B) → PreparesIn asked rest limit now s m → is_waits m.phase ≡ true → m ≡ s
  prepared_waits (phase.Replied r) s m h waits =
      absurd (let clash : false ≡ true = sym (reply_waits (goes_on_after r) (asked s.body r) s (record s { body = rest s.body r }) m h) ∙ waits in cc)
  prepared_waits phase.NotBegun s m h waits = h
  prepared_waits (phase.Waits o) s m h waits = h
  prepared_waits (phase.Asked o p) s m h waits = h
  prepared_waits (phase.Ends cut) s m h waits = h
  prepared_waits phase.Ended s m h waits = h

  module _ (own : ℕ → Bool) (s s0 : ProgressView B) (old mid : LogView) (prepares : PreparesIn asked rest limit s.phase s s0)
      (same : mid ≡ record old { outbox = record old.outbox { spare = mid.outbox.spare } }) where
    none_yet : SendsNone old mid
    none_yet =
        record {
          sent = ap (λ (l : LogView). l.outbox.sent) same;
          ticket = ap (λ (l : LogView). l.ticket) same;
          ring = ap (λ (l : LogView). l.outbox.ring) same;
        }

    passes_are : mid.passes ≡ old.passes
    passes_are = ap (λ (l : LogView). l.passes) same

    own_same : (shared : List TurnView) → is_own_at shared mid.ticket.thread ≡ is_own_at shared old.ticket.thread
    own_same shared = ap (λ (l : LogView). is_own_at shared l.ticket.thread) same

    turn_done : (t : Turned) (s' : ProgressView B) (new : LogView) → Tries own s0 mid t s' new → Turns asked rest limit own s old t s' new
    turn_done (turned.Made e) s' new tries = (
      record { turned = tries.turned; goes_on = inr (record { turned = s0; prepares = prepares; gives_up = tries.gives_up }); next = tries.attempts.0; after = tries.attempts.1 },
      sends_since old mid new e none_yet tries.attempts.2,
    )
    turn_done turned.NotYet s' new tries = still
      where
        waits : is_waits tries.turned.phase ≡ true
        waits = ap is_waits tries.attempts.2.waits

        first : tries.turned ≡ s0
        first = gives_waits s0.phase s0 tries.turned tries.gives_up waits

        second : s0 ≡ s
        second = prepared_waits s.phase s s0 prepares (ap (λ (x : ProgressView B). is_waits x.phase) (sym first) ∙ waits)

        still : (s' ≡ s) × SendsNone old new × SawItWaitAt s.phase old new
        still = (
          tries.attempts.0 ∙ first ∙ second,
          none_since old mid new none_yet tries.attempts.1,
          record {
            object = tries.attempts.2.object;
            waits = ap (λ (x : ProgressView B). x.phase) (sym second) ∙ ap (λ (x : ProgressView B). x.phase) (sym first) ∙ tries.attempts.2.waits;
            saw = record {
              before = tries.attempts.2.saw.before;
              after = tries.attempts.2.saw.after;
              found = ap (λ ps. slice_get ps tries.attempts.2.object) (sym passes_are) ∙ tries.attempts.2.saw.found;
              now = tries.attempts.2.saw.now;
              changed = tries.attempts.2.saw.changed;
            };
          },
        )
    turn_done (turned.Busy h) s' new tries =
        let lost = tries.attempts.2 in
        let here : LostAtNext own tries.turned.phase old new h =
        record {
          object = lost.object;
          o = lost.o;
          next = lost.next;
          lost = record {
            before = lost.lost.before;
            after = lost.lost.after;
            found = ap (λ ps. slice_get ps lost.object) (sym passes_are) ∙ lost.lost.found;
            now = lost.lost.now;
            changed = lost.lost.changed;
          };
        } in
        let prepared : GoesOn asked rest limit s tries.turned = inr (record { turned = s0; prepares = prepares; gives_up = tries.gives_up }) in (
          subst (λ (x : ProgressView B). GoesOn asked rest limit s x) (sym tries.attempts.0) prepared,
          none_since old mid new none_yet tries.attempts.1,
          subst (λ (x : ProgressView B). LostAtNext own x.phase old new h) (sym tries.attempts.0) here,
        )
    turn_done turned.Over s' new tries = absurd tries.attempts

    -- the same, where the attempt says by its own log which object is the thread's own
    pub turn_of : (shared : List TurnView) → own ≡ is_own_at shared old.ticket.thread → (t : Turned) (s' : ProgressView B) (new : LogView)
        → Tries (is_own_at shared mid.ticket.thread) s0 mid t s' new → Turns asked rest limit own s old t s' new
    turn_of shared is t s' new tries = turn_done t s' new (subst (λ (o : ℕ → Bool). Tries o s0 mid t s' new) (own_same shared ∙ sym is) tries)

-- a turn leaves the thread
pub turn_thread : {B : Type 0} (asked : B → Reply → Ask) (rest : B → Reply → B) (limit : ℕ) (own : ℕ → Bool) (s : ProgressView B) (old : LogView) (t : Turned) (s' : ProgressView B) (new : LogView)
    → Turns asked rest limit own s old t s' new → new.ticket.thread ≡ old.ticket.thread
turn_thread asked rest limit own s old (turned.Made e) s' new h = ap (λ (x : TicketView). x.thread) h.1.step.ticket
turn_thread asked rest limit own s old turned.NotYet s' new h = ap (λ (x : TicketView). x.thread) h.1.ticket
turn_thread asked rest limit own s old (turned.Busy k) s' new h = ap (λ (x : TicketView). x.thread) h.1.ticket
turn_thread asked rest limit own s old turned.Over s' new h = ap (λ (l : LogView). l.ticket.thread) h.1
