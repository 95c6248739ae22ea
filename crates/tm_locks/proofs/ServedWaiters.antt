-- By which events a thread that waits can be granted `ok`.
use Rattle.std.proofs.Common.{◌≡◌, ℕ, true, ⊎_elim, List, Option, Some, None, slice_index_or, ap, sym, ◌∙◌, subst}
use Rattle.std.proofs.lemmas.Bool.{cases_eq}
use Rattle.tm_base.specs.declared.operations.Op.{Op}
use Rattle.tm_base.specs.declared.operations.Op.TheVariants as op
use Rattle.tm_base.specs.declared.replies.Reply.{Reply}
use Rattle.tm_base.specs.declared.replies.Reply.TheVariants as reply
use Rattle.tm_base.specs.declared.kinds.Kind.{Kind}
use Rattle.tm_base.specs.States.{State, queued, is_waiting, grant_of, halted, resumed}
use Rattle.tm_base.specs.Steps.{Step}
use Rattle.tm_base.specs.Histories.{Lawful}
use Rattle.tm_laws.specs.Tidy.{IsTidy}
use Rattle.tm_laws.proofs.Grants.{grant_all-from}
use Rattle.tm_laws.proofs.Resumes.{grant_of-resumed_self, grant_of-resumed_other}
use Rattle.tm_laws.proofs.WaitersLemmas.{waiting-ungranted}

-- a resume grants nothing
resumed-none : (s : State) (t u : ℕ) → grant_of s u ≡ None → grant_of (resumed s t) u ≡ None
resumed-none s t u none = ⊎_elim
    (λ (e : t ≡ u). subst (λ (x : ℕ). grant_of (resumed s t) x ≡ None) e (grant_of-resumed_self s t))
    (λ (ne : t ≡ u → ⊥). grant_of-resumed_other s t u ne ∙ none) (cases_eq t u)

-- and a stop no `ok`
halted-no_ok : (s : State) (u : ℕ) → grant_of s u ≡ None → grant_of (halted s) u ≡ Some reply.Ok → ⊥
halted-no_ok s u none had = ⊎_elim
    (λ (f : reply.Ok ≡ reply.Stopped). cc)
    (λ (before : slice_index_or s.granted u None ≡ Some reply.Ok). cc) (grant_all-from (queued s.kind_state) reply.Stopped s.granted u reply.Ok had)

-- so it is a step that grants it
pub served-by_step : (k : Kind) (threads : ℕ) (s : State) (t u : ℕ) (o : Op) (r : Reply) (s' : State) → IsTidy threads s → is_waiting s u ≡ true → grant_of s' u ≡ Some reply.Ok
    → Lawful (record { kind = k; threads = threads; state = s }) t o r s' → Step k s t o r s'
served-by_step k threads s t u op.Resume r s' tidy waits had e =
    let none : grant_of s' u ≡ None = ap (λ (x : State). grant_of x u) e.cleared ∙ resumed-none s t u (waiting-ungranted threads s tidy u waits) in
    absurd cc
served-by_step k threads s t u op.Stop r s' tidy waits had e =
    absurd (halted-no_ok s u (waiting-ungranted threads s tidy u waits) (ap (λ (x : State). grant_of x u) (sym e.halted) ∙ had))
served-by_step k threads s t u o r s' tidy waits had e = e.step

-- a thread that was granted nothing isn't granted it by a state with the same granted replies
pub ungranted : {A : Type 0} (g : List (Option Reply)) (u : ℕ) (s' next : State) → slice_index_or g u None ≡ None → next.granted ≡ g → grant_of s' u ≡ Some reply.Ok → s' ≡ next → A
ungranted g u s' next none same had e =
    let left : grant_of s' u ≡ None = ap (λ (x : State). grant_of x u) e ∙ ap (λ (x : List (Option Reply)). slice_index_or x u None) same ∙ none in
    absurd cc
