-- What a row of a table does, whatever the kind.
use Rattle.std.proofs.Common.{◌≡◌, ℕ, ◌+◌, ◌≤◌, Bool, true, false, ◌==◌, MatchBool, IsSomeAnd, List, [], ◌∷◌, Option, Some, None, option_to_list, refl, sym, ap, ◌∙◌, subst, arith, eq-eqb}
use Rattle.tm_base.specs.declared.replies.Reply.{Reply}
use Rattle.tm_base.specs.declared.replies.Reply.TheVariants as reply
use Rattle.tm_base.specs.declared.kinds.Kind.{Kind}
use Rattle.tm_base.specs.States.{KindState, State, queued, with_state, granting}
use Rattle.tm_base.specs.TableRows.{Row, Replies, Grants, HandsOver, Waits, Notes, Yields, Tests, Looks, Never, Gives, Allows, AllowsReply, handing_reply, waiting_reply}
use Rattle.tm_laws.specs.Counts.{bit, count_in, is_wait, is_grant, joins}
use Rattle.tm_laws.specs.Tidy.{IsStateOf}
use Rattle.tm_laws.specs.WellMadeRows.{IsWellMade, is_plain}
use Rattle.tm_laws.proofs.Counting.{bit-true}

-- The new state of the kind, who is granted which reply, that each thread is still where it was: in a
-- queue, or granted, or joining by the reply `wait`; and that a thread which the reply names is served.
pub record RowStep (k : Kind) (s : State) (t : ℕ) (r : Reply) (s' : State) : Type 0 where
  pub kind_state : KindState
  pub served : List ℕ
  pub answer : Reply
  pub next : s' ≡ granting s kind_state served answer
  pub shape : IsStateOf k kind_state
  pub final : is_grant answer ≡ true
  pub counts : (x : ℕ) → count_in (queued s.kind_state) x + joins r t x ≡ count_in served x + count_in (queued kind_state) x
  pub running : s.stopped ≡ true → queued s.kind_state ≡ [] → is_wait r ≡ false
  pub named : (u : ℕ) → r ≡ reply.Gave u → 1 ≤ count_in served u

-- a state in its parts
abbrev pub of_parts : KindState → List (Option Reply) → Bool → State
of_parts kind_state granted stopped = record { kind_state = kind_state; granted = granted; stopped = stopped }

pub either : {P Q R : Type 0} (b : Bool) → (P → R) → (Q → R) → MatchBool b P Q → R
either true f g h = f h
either false f g h = g h

pub joins-none : (r : Reply) (t x : ℕ) → is_wait r ≡ false → joins r t x ≡ 0
joins-none reply.Wait t x e = absurd cc
joins-none r t x e = refl

plain-no_wait : (r : Reply) → is_plain r ≡ true → is_wait r ≡ false
plain-no_wait reply.Wait e = absurd cc
plain-no_wait r e = refl

plain-names : (r : Reply) (u : ℕ) → is_plain r ≡ true → r ≡ reply.Gave u → ⊥
plain-names r u plain e = let none : false ≡ true = sym (ap is_plain e) ∙ plain in absurd cc

-- the row whose reply is r0
module _ {k : Kind} {s : State} {t : ℕ} {r : Reply} {s' : State} (r0 : Reply) (next : KindState) (served : List ℕ) (answer : Reply) where
  step : IsStateOf k next → is_grant answer ≡ true
      → ((x : ℕ) → count_in (queued s.kind_state) x + joins r0 t x ≡ count_in served x + count_in (queued next) x)
      → (s.stopped ≡ true → queued s.kind_state ≡ [] → is_wait r0 ≡ false)
      → ((u : ℕ) → r0 ≡ reply.Gave u → 1 ≤ count_in served u)
      → Gives r s' r0 (granting s next served answer) → RowStep k s t r s'
  step shape final counts running named g =
      let at : RowStep k s t r0 s' =
      record { kind_state = next; served = served; answer = answer; next = g.1; shape = shape; final = final; counts = counts; running = running; named = named } in
      subst (λ (q : Reply). RowStep k s t q s') (sym g.0) at

  -- nobody joins, and the reply names nobody
  serves : IsStateOf k next → is_grant answer ≡ true → is_plain r0 ≡ true
      → ((x : ℕ) → count_in (queued s.kind_state) x ≡ count_in served x + count_in (queued next) x)
      → Gives r s' r0 (granting s next served answer) → RowStep k s t r s'
  serves shape final plain counts g =
      step shape final (λ x. omega (arith, counts x, joins-none r0 t x (plain-no_wait r0 plain))) (λ _ _. plain-no_wait r0 plain) (λ u e. absurd (plain-names r0 u plain e)) g

-- a call that waits
waits : {k : Kind} {s : State} {t : ℕ} {r : Reply} {s' : State} (next : KindState) (served : List ℕ) → IsStateOf k next
    → ((x : ℕ) → count_in (queued s.kind_state) x + bit (t == x) ≡ count_in served x + count_in (queued next) x)
    → (s.stopped ≡ true → queued s.kind_state ≡ [] → ⊥) → Gives r s' reply.Wait (granting s next served reply.Ok) → RowStep k s t r s'
waits next served shape counts runs g = step reply.Wait next served reply.Ok shape refl counts (λ on none. absurd (runs on none)) (λ u e. absurd cc) g

module _ (k : Kind) (s : State) (t : ℕ) (shape : IsStateOf k s.kind_state) (r : Reply) (s' : State) where
  -- what a stopped object answers, and what another one does
  waits_by : (stopped : Bool) → s.stopped ≡ stopped → (noted next : KindState) (served : List ℕ)
      → IsStateOf k noted → IsStateOf k next
      → ((x : ℕ) → count_in (queued s.kind_state) x ≡ count_in (queued noted) x)
      → ((x : ℕ) → count_in (queued s.kind_state) x + bit (t == x) ≡ count_in served x + count_in (queued next) x)
      → MatchBool stopped (Gives r s' reply.Stopped (with_state s noted)) (Gives r s' reply.Wait (granting s next served reply.Ok)) → RowStep k s t r s'
  waits_by true e noted next served left right kept counts g = serves reply.Stopped noted [] reply.Ok left refl refl (λ x. omega (arith, kept x)) g
  waits_by false e noted next served left right kept counts g =
      waits next served right counts (λ (on : s.stopped ≡ true) none. let f : false ≡ true = sym e ∙ on in cc) g

  handed : (heir : Option ℕ) (granted : Reply) (next : KindState) → is_grant granted ≡ true → IsStateOf k next
      → ((x : ℕ) → count_in (queued s.kind_state) x ≡ count_in (option_to_list heir) x + count_in (queued next) x)
      → Gives r s' (handing_reply heir) (granting s next (option_to_list heir) granted) → RowStep k s t r s'
  handed None granted next final right counts g = serves reply.Ok next [] granted right final refl counts g
  handed (Some h) granted next final right counts g =
      step (reply.Gave h) next (h ∷ []) granted right final (λ x. omega (arith, counts x)) (λ _ _. refl)
      (λ u e. let same : h ≡ u = cc in omega (arith, bit-true (h == u) (eq-eqb h u same))) g

  -- what a well-made row allows is such a step
  pub Allows-step : (row : Row) → IsWellMade k s.kind_state t row → Allows row s r s' → RowStep k s t r s'
  Allows-step (Replies answer) made g = serves answer s.kind_state [] reply.Ok shape refl made (λ x. omega arith) g
  Allows-step (Grants answer served granted next) made g = serves answer next served granted made.2 made.1 made.0 made.3 g
  Allows-step (HandsOver heir granted next) made g = handed heir granted next made.0 made.1 made.2 g
  Allows-step (Waits heir next) made g = waits_by s.stopped refl s.kind_state next (option_to_list heir) shape made.0 (λ x. refl) made.1 g
  Allows-step (Notes noted next) made g = waits_by s.stopped refl noted next [] made.0 made.1 (λ x. omega (arith, made.2 x)) made.3 g
  Allows-step (Yields heir next) made g =
      waits next (heir ∷ []) made.0 made.2 (λ _ (none : queued s.kind_state ≡ []). absurd (omega (arith, made.1, ap (λ q. count_in q heir) none))) g
  Allows-step (Tests test passes fails) made g = either test (Allows-step passes made.0) (Allows-step fails made.1) g
  Allows-step (Looks queue row) made g = Allows-step (row made.0) made.2 (subst (λ (q : Option (List ℕ)). IsSomeAnd q (λ w. Allows (row w) s r s')) made.1 g)
  Allows-step Never made g = elim made [ ]

-- rows fix the reply and the new state
one : {r q answer : Reply} {a b next : State} → Gives r a answer next → Gives q b answer next → (r ≡ q) × (a ≡ b)
one left right = (left.0 ∙ sym right.0, left.1 ∙ sym right.1)

both : {P Q P' Q' R : Type 0} (test : Bool) → (P → P' → R) → (Q → Q' → R) → MatchBool test P Q → MatchBool test P' Q' → R
both true f g left right = f left right
both false f g left right = g left right

module _ (s : State) (r q : Reply) (a b : State) where
  pub Allows-one : (row : Row) → Allows row s r a → Allows row s q b → (r ≡ q) × (a ≡ b)
  Allows-one (Replies answer) x y = one x y
  Allows-one (Grants answer served granted next) x y = one x y
  Allows-one (HandsOver heir granted next) x y = one x y
  Allows-one (Waits heir next) x y = both s.stopped one one x y
  Allows-one (Notes noted next) x y = both s.stopped one one x y
  Allows-one (Yields heir next) x y = one x y
  Allows-one (Tests test passes fails) x y = both test (Allows-one passes) (Allows-one fails) x y
  Allows-one (Looks None row) x y = elim x [ ]
  Allows-one (Looks (Some waiting) row) x y = Allows-one (row waiting) x y
  Allows-one Never x y = elim x [ ]

-- each reply that a row allows leaves a state
module _ (s : State) (r : Reply) where
  waits_allowed : (stopped : Bool) (kept next : State) → r ≡ waiting_reply stopped → (s' : State) × MatchBool stopped (Gives r s' reply.Stopped kept) (Gives r s' reply.Wait next)
  waits_allowed true kept next e = (kept, (e, refl))
  waits_allowed false kept next e = (next, (e, refl))

  tests_allowed : (test : Bool) (P Q : State → Type 0) (P' Q' : Type 0) → (P' → (s' : State) × P s') → (Q' → (s' : State) × Q s') → MatchBool test P' Q' → (s' : State) × MatchBool test (P s') (Q s')
  tests_allowed true P Q P' Q' f g h = f h
  tests_allowed false P Q P' Q' f g h = g h

  pub AllowsReply-state : (row : Row) → AllowsReply row s.stopped r → (s' : State) × Allows row s r s'
  AllowsReply-state (Replies answer) e = (s, (e, refl))
  AllowsReply-state (Grants answer served granted next) e = (granting s next served granted, (e, refl))
  AllowsReply-state (HandsOver heir granted next) e = (granting s next (option_to_list heir) granted, (e, refl))
  AllowsReply-state (Waits heir next) e = waits_allowed s.stopped s (granting s next (option_to_list heir) reply.Ok) e
  AllowsReply-state (Notes noted next) e = waits_allowed s.stopped (with_state s noted) (with_state s next) e
  AllowsReply-state (Yields heir next) e = (granting s next (heir ∷ []) reply.Ok, (e, refl))
  AllowsReply-state (Tests test passes fails) e =
      tests_allowed test (λ s'. Allows passes s r s') (λ s'. Allows fails s r s') (AllowsReply passes s.stopped r) (AllowsReply fails s.stopped r) (AllowsReply-state passes) (AllowsReply-state fails) e
  AllowsReply-state (Looks None row) e = elim e [ ]
  AllowsReply-state (Looks (Some waiting) row) e = AllowsReply-state (row waiting) e
  AllowsReply-state Never e = elim e [ ]

-- and each reply of a step is one that the row allows
module _ (s : State) (r : Reply) (s' : State) where
  waited_reply : (stopped : Bool) (kept next : State) → MatchBool stopped (Gives r s' reply.Stopped kept) (Gives r s' reply.Wait next) → r ≡ waiting_reply stopped
  waited_reply true kept next g = g.0
  waited_reply false kept next g = g.0

  pub Allows-reply : (row : Row) → Allows row s r s' → AllowsReply row s.stopped r
  Allows-reply (Replies answer) g = g.0
  Allows-reply (Grants answer served granted next) g = g.0
  Allows-reply (HandsOver heir granted next) g = g.0
  Allows-reply (Waits heir next) g = waited_reply s.stopped s (granting s next (option_to_list heir) reply.Ok) g
  Allows-reply (Notes noted next) g = waited_reply s.stopped (with_state s noted) (with_state s next) g
  Allows-reply (Yields heir next) g = g.0
  Allows-reply (Tests true passes fails) g = Allows-reply passes g
  Allows-reply (Tests false passes fails) g = Allows-reply fails g
  Allows-reply (Looks None row) g = elim g [ ]
  Allows-reply (Looks (Some waiting) row) g = Allows-reply (row waiting) g
  Allows-reply Never g = elim g [ ]

-- a well-made row has a reply
module _ (k : Kind) (old : KindState) (t : ℕ) (stopped : Bool) where
  pub made-answers : (row : Row) → IsWellMade k old t row → (r : Reply) × AllowsReply row stopped r
  made-answers (Replies answer) made = (answer, refl)
  made-answers (Grants answer served granted next) made = (answer, refl)
  made-answers (HandsOver heir granted next) made = (handing_reply heir, refl)
  made-answers (Waits heir next) made = (waiting_reply stopped, refl)
  made-answers (Notes noted next) made = (waiting_reply stopped, refl)
  made-answers (Yields heir next) made = (reply.Wait, refl)
  made-answers (Tests true passes fails) made = made-answers passes made.0
  made-answers (Tests false passes fails) made = made-answers fails made.1
  made-answers (Looks queue row) made =
      let there = made-answers (row made.0) made.2 in
      (there.0, subst (λ (q : Option (List ℕ)). IsSomeAnd q (λ w. AllowsReply (row w) stopped there.0)) (sym made.1) there.1)
  made-answers Never made = elim made [ ]

-- each state of the kind that the row can leave has the property
abbrev pub Leaves : (KindState → Type 0) → KindState → Row → Type 0
Leaves P old (Replies answer) = P old
Leaves P old (Grants answer served granted next) = P next
Leaves P old (HandsOver heir granted next) = P next
Leaves P old (Waits heir next) = P old × P next
Leaves P old (Notes noted next) = P noted × P next
Leaves P old (Yields heir next) = P next
Leaves P old (Tests test passes fails) = Leaves P old passes × Leaves P old fails
Leaves P old (Looks queue row) = (waiting : List ℕ) → queue ≡ Some waiting → Leaves P old (row waiting)
Leaves P old Never = Unit {0}

module _ (P : KindState → Type 0) (s : State) (r : Reply) (s' : State) where
  left : (r0 : Reply) (next : State) → P next.kind_state → Gives r s' r0 next → P s'.kind_state
  left r0 next p g = subst (λ (q : State). P q.kind_state) (sym g.1) p

  pub Leaves-state : (row : Row) → Leaves P s.kind_state row → Allows row s r s' → P s'.kind_state
  Leaves-state (Replies answer) p g = left answer s p g
  Leaves-state (Grants answer served granted next) p g = left answer (granting s next served granted) p g
  Leaves-state (HandsOver heir granted next) p g = left (handing_reply heir) (granting s next (option_to_list heir) granted) p g
  Leaves-state (Waits heir next) p g = either s.stopped (left reply.Stopped s p.0) (left reply.Wait (granting s next (option_to_list heir) reply.Ok) p.1) g
  Leaves-state (Notes noted next) p g = either s.stopped (left reply.Stopped (with_state s noted) p.0) (left reply.Wait (with_state s next) p.1) g
  Leaves-state (Yields heir next) p g = left reply.Wait (granting s next (heir ∷ []) reply.Ok) p g
  Leaves-state (Tests test passes fails) p g = either test (Leaves-state passes p.0) (Leaves-state fails p.1) g
  Leaves-state (Looks None row) p g = elim g [ ]
  Leaves-state (Looks (Some waiting) row) p g = Leaves-state (row waiting) (p waiting refl) g
  Leaves-state Never p g = elim g [ ]
