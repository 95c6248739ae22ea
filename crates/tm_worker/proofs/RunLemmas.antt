-- What turns of a worker leave, one after another.
use Rattle.std.proofs.Common.{◌≡◌, ℕ, Bool, true, false, MatchBool, inl, inr, [], ◌∷◌, ◌++◌, refl, ap, sym, ◌∙◌, subst}
use Rattle.std.proofs.lemmas.List.{append-nil, append_assoc}
use Rattle.tm_base.specs.declared.asks.Ask.{Ask}
use Rattle.tm_base.specs.declared.asks.Ask.TheVariants as ask
use Rattle.tm_base.specs.declared.replies.Reply.{Reply}
use Rattle.tm_base.specs.Bodies.{goes_on_after}
use Rattle.tm_base.specs.Tickets.{TicketView}
use Rattle.tm_laws.proofs.RunsLemmas.{Leads-snoc}
use Rattle.tm_worker.specs.declared.phases.Phase.{Phase}
use Rattle.tm_worker.specs.declared.phases.Phase.TheVariants as phase
use Rattle.tm_worker.specs.declared.turned.Turned.{Turned}
use Rattle.tm_worker.specs.declared.turned.Turned.TheVariants as turned
use Rattle.tm_worker.specs.Logs.{LogView}
use Rattle.tm_worker.specs.Progresses.{ProgressView, GivesUpIn, GoesOn, PreparesIn, Prepares, ProgramStep, TurnsTo, ending}
use Rattle.tm_worker.specs.Turning.{Ran, Turns}

abbrev is_replied : Phase → Bool
is_replied (phase.Replied r) = true
is_replied p = false

module _ {B : Type 0} where
  turns_replied : (limit : ℕ) (a : Ask) (s m : ProgressView B) → TurnsTo limit a s m → is_replied m.phase ≡ false
  turns_replied limit ask.Over s m t = ap (λ (x : ProgressView B). is_replied x.phase) t
  turns_replied limit (ask.Call o p) s m (inl (few, inl is)) = ap (λ (x : ProgressView B). is_replied x.phase) is
  turns_replied limit (ask.Call o p) s m (inl (few, inr is)) = ap (λ (x : ProgressView B). is_replied x.phase) is
  turns_replied limit (ask.Call o p) s m (inr (many, is)) = ap (λ (x : ProgressView B). is_replied x.phase) is

  gives_replied : (now : Phase) (s m : ProgressView B) → is_replied s.phase ≡ false → GivesUpIn now s m → is_replied m.phase ≡ false
  gives_replied (phase.Asked o p) s m not (inl same) = ap (λ (x : ProgressView B). is_replied x.phase) same ∙ not
  gives_replied (phase.Asked o p) s m not (inr short) = ap (λ (x : ProgressView B). is_replied x.phase) short
  gives_replied phase.NotBegun s m not g = ap (λ (x : ProgressView B). is_replied x.phase) g ∙ not
  gives_replied (phase.Waits o) s m not g = ap (λ (x : ProgressView B). is_replied x.phase) g ∙ not
  gives_replied (phase.Replied r) s m not g = ap (λ (x : ProgressView B). is_replied x.phase) g ∙ not
  gives_replied (phase.Ends cut) s m not g = ap (λ (x : ProgressView B). is_replied x.phase) g ∙ not
  gives_replied phase.Ended s m not g = ap (λ (x : ProgressView B). is_replied x.phase) g ∙ not

  -- a call is given up once
  gives_twice : (now : Phase) (s m n : ProgressView B) → GivesUpIn now s m → GivesUpIn m.phase m n → now ≡ s.phase → GivesUpIn now s n
  gives_twice (phase.Asked o p) s m n (inl same) g is = subst (λ (x : ProgressView B). GivesUpIn (phase.Asked o p) x n) same
      (subst (λ (ph : Phase). GivesUpIn ph m n) (ap (λ (x : ProgressView B). x.phase) same ∙ sym is) g)
  gives_twice (phase.Asked o p) s m n (inr short) g is =
      let ends : GivesUpIn (phase.Ends true) m n = subst (λ (ph : Phase). GivesUpIn ph m n) (ap (λ (x : ProgressView B). x.phase) short) g in
      inr (ends ∙ short)
  gives_twice phase.NotBegun s m n same g is =
      let again : GivesUpIn phase.NotBegun m n = subst (λ (ph : Phase). GivesUpIn ph m n) (ap (λ (x : ProgressView B). x.phase) same ∙ sym is) g in
      again ∙ same
  gives_twice (phase.Waits o) s m n same g is =
      let again : GivesUpIn (phase.Waits o) m n = subst (λ (ph : Phase). GivesUpIn ph m n) (ap (λ (x : ProgressView B). x.phase) same ∙ sym is) g in
      again ∙ same
  gives_twice (phase.Replied r) s m n same g is =
      let again : GivesUpIn (phase.Replied r) m n = subst (λ (ph : Phase). GivesUpIn ph m n) (ap (λ (x : ProgressView B). x.phase) same ∙ sym is) g in
      again ∙ same
  gives_twice (phase.Ends cut) s m n same g is =
      let again : GivesUpIn (phase.Ends cut) m n = subst (λ (ph : Phase). GivesUpIn ph m n) (ap (λ (x : ProgressView B). x.phase) same ∙ sym is) g in
      again ∙ same
  gives_twice phase.Ended s m n same g is =
      let again : GivesUpIn phase.Ended m n = subst (λ (ph : Phase). GivesUpIn ph m n) (ap (λ (x : ProgressView B). x.phase) same ∙ sym is) g in
      again ∙ same

module _ {B : Type 0} (asked : B → Reply → Ask) (rest : B → Reply → B) (limit : ℕ) where
  reply_replied : (goes : Bool) (a : Ask) (s t m : ProgressView B) → MatchBool goes (TurnsTo limit a t m) (m ≡ ending s true) → is_replied m.phase ≡ false
  reply_replied true a s t m h = turns_replied limit a t m h
  reply_replied false a s t m h = ap (λ (x : ProgressView B). is_replied x.phase) h

  prepared_replied : (now : Phase) (s m : ProgressView B) → now ≡ s.phase → PreparesIn asked rest limit now s m → is_replied m.phase ≡ false
  prepared_replied (phase.Replied r) s m is h = reply_replied (goes_on_after r) (asked s.body r) s (record s { body = rest s.body r }) m h
  prepared_replied phase.NotBegun s m is h = ap (λ (x : ProgressView B). is_replied x.phase) h ∙ ap is_replied (sym is)
  prepared_replied (phase.Waits o) s m is h = ap (λ (x : ProgressView B). is_replied x.phase) h ∙ ap is_replied (sym is)
  prepared_replied (phase.Asked o p) s m is h = ap (λ (x : ProgressView B). is_replied x.phase) h ∙ ap is_replied (sym is)
  prepared_replied (phase.Ends cut) s m is h = ap (λ (x : ProgressView B). is_replied x.phase) h ∙ ap is_replied (sym is)
  prepared_replied phase.Ended s m is h = ap (λ (x : ProgressView B). is_replied x.phase) h ∙ ap is_replied (sym is)

  -- a thread that needn't ask prepares nothing
  prepares_none : (now : Phase) (s m : ProgressView B) → is_replied now ≡ false → PreparesIn asked rest limit now s m → m ≡ s
  prepares_none (phase.Replied r) s m not h = absurd cc
  prepares_none phase.NotBegun s m not h = h
  prepares_none (phase.Waits o) s m not h = h
  prepares_none (phase.Asked o p) s m not h = h
  prepares_none (phase.Ends cut) s m not h = h
  prepares_none phase.Ended s m not h = h

  prepares_trans : (s m n : ProgressView B) → Prepares asked rest limit s m → Prepares asked rest limit m n → Prepares asked rest limit s n
  prepares_trans s m n p q =
      let first = prepared_replied s.phase s p.turned refl p.prepares in
      let second = gives_replied p.turned.phase p.turned m first p.gives_up in
      let same : q.turned ≡ m = prepares_none m.phase m q.turned second q.prepares in
      let again : GivesUpIn m.phase m n = subst (λ (x : ProgressView B). GivesUpIn x.phase x n) same q.gives_up in
      record { turned = p.turned; prepares = p.prepares; gives_up = gives_twice p.turned.phase p.turned m n p.gives_up again refl }

  goes_trans : (s m n : ProgressView B) → GoesOn asked rest limit s m → GoesOn asked rest limit m n → GoesOn asked rest limit s n
  goes_trans s m n (inl same) next = subst (λ (x : ProgressView B). GoesOn asked rest limit x n) same next
  goes_trans s m n (inr p) (inl same) = inr (subst (λ (x : ProgressView B). Prepares asked rest limit s x) (sym same) p)
  goes_trans s m n (inr p) (inr q) = inr (prepares_trans s m n p q)

  -- nothing was made
  pub ran_none : (own : ℕ → Bool) (s : ProgressView B) (log : LogView) → Ran asked rest limit own s log s log
  ran_none own s log =
      record {
        made = [];
        run = record { last = s; run = refl; goes_on = inl refl };
        sent = sym (append-nil log.outbox.sent);
        ring = refl;
        thread = refl;
      }

  -- one more turn
  pub ran_more : (own : ℕ → Bool) (s m n : ProgressView B) (old mid new : LogView) (t : Turned) → Ran asked rest limit own s old m mid → Turns asked rest limit own m mid t n new → Ran asked rest limit own s old n new
  ran_more own s m n old mid new (turned.Made e) r (step, one) =
      let next : ProgramStep asked rest limit own r.run.last e n =
      record { turned = step.turned; goes_on = goes_trans r.run.last m step.turned r.run.goes_on step.goes_on; next = step.next; after = step.after } in
      record {
        made = r.made ++ e ∷ [];
        run = record { last = n; run = Leads-snoc (ProgramStep asked rest limit own) r.made e s r.run.last n r.run.run next; goes_on = inl refl };
        sent = one.sent ∙ ap (λ es. es ++ e ∷ []) r.sent ∙ append_assoc old.outbox.sent r.made (e ∷ []);
        ring = one.ring ∙ r.ring;
        thread = ap (λ (x : TicketView). x.thread) one.step.ticket ∙ r.thread;
      }
  ran_more own s m n old mid new turned.NotYet r (same, none, saw) =
      record {
        made = r.made;
        run = record { last = r.run.last; run = r.run.run; goes_on = subst (λ (x : ProgressView B). GoesOn asked rest limit r.run.last x) (sym same) r.run.goes_on };
        sent = none.sent ∙ r.sent;
        ring = none.ring ∙ r.ring;
        thread = ap (λ (x : TicketView). x.thread) none.ticket ∙ r.thread;
      }
  ran_more own s m n old mid new (turned.Busy h) r (goes, none, lost) =
      record {
        made = r.made;
        run = record { last = r.run.last; run = r.run.run; goes_on = goes_trans r.run.last m n r.run.goes_on goes };
        sent = none.sent ∙ r.sent;
        ring = none.ring ∙ r.ring;
        thread = ap (λ (x : TicketView). x.thread) none.ticket ∙ r.thread;
      }
  ran_more own s m n old mid new turned.Over r (same, still) =
      subst (λ (x : ProgressView B). Ran asked rest limit own s old x new) (sym same) (subst (λ (x : LogView). Ran asked rest limit own s old m x) (sym still) r)

  -- the same, where the limit and the own object are said by another state of the worker
  pub ran_on : (most : ℕ) (own its : ℕ → Bool) (s m n : ProgressView B) (old mid new : LogView) (t : Turned) → most ≡ limit → its ≡ own
      → Ran asked rest limit own s old m mid → Turns asked rest most its m mid t n new → Ran asked rest limit own s old n new
  ran_on most own its s m n old mid new t few same r turns =
      ran_more own s m n old mid new t r
      (subst (λ (k : ℕ). Turns asked rest k own m mid t n new) few (subst (λ (o : ℕ → Bool). Turns asked rest most o m mid t n new) same turns))
