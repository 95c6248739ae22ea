-- An ended thread made its end.
use Rattle.std.proofs.Common.{◌≡◌, Bool, true, false, ◌||◌, ◌⊎◌, inl, inr, ⊎_elim, List, [], ◌∷◌, Contains, refl, ap, sym, ◌∙◌, subst}
use Rattle.std.proofs.lemmas.List.Elements.{Contains-push, Contains-append_left, Contains-append_right}
use Rattle.tm_base.specs.declared.kinds.Kind.{Kind}
use Rattle.tm_base.specs.declared.kinds.Kind.TheVariants as kind
use Rattle.tm_base.specs.declared.events.Entry.{Entry}
use Rattle.tm_base.specs.States.{start_kind_state}
use Rattle.tm_base.specs.Runs.{Leads}
use Rattle.tm_base.specs.Histories.{Label, HistoryState, Follows, IsHistory, first_history_state, object_at}
use Rattle.tm_laws.specs.Tidy.{IsSound}
use Rattle.tm_laws.specs.ThreadObjects.{has_ended, is_end}
use Rattle.tm_laws.proofs.Begun.{Lawful-noted}
use Rattle.tm_laws.proofs.Reaching.{Follows-moves}
use Rattle.tm_laws.proofs.StartStateLemmas.{start-sound}

-- where a run leaves an ended thread, that had ended before, or one of the run's events is an end
ended-by : (l : Label) (es : List Entry) (p q : HistoryState) → IsSound (object_at l p.state) → Leads (Follows l) p es q → has_ended q.state.kind_state ≡ true
    → (has_ended p.state.kind_state ≡ true) ⊎ ((a : Entry) × Contains es a × (is_end a.op ≡ true))
ended-by l [] p q sound run h = inl (subst (λ (x : HistoryState). has_ended x.state.kind_state ≡ true) run h)
ended-by l (e ∷ es) p q sound run h = first (is_end e.op) refl (ended-by l es run.0 q (Follows-moves l p e run.0 sound run.1).sound run.2 h)
  where
    first : (b : Bool) → is_end e.op ≡ b → (has_ended run.0.state.kind_state ≡ true) ⊎ ((a : Entry) × Contains es a × (is_end a.op ≡ true))
        → (has_ended p.state.kind_state ≡ true) ⊎ ((a : Entry) × Contains (e ∷ es) a × (is_end a.op ≡ true))
    first true it rest = inr (e, Contains-append_left (e ∷ []) es e (Contains-push [] e), it)
    first false it rest = ⊎_elim
        (λ (k : has_ended run.0.state.kind_state ≡ true).
        let noted : has_ended run.0.state.kind_state ≡ (is_end e.op || has_ended p.state.kind_state) = (Lawful-noted (object_at l p.state) e.thread e.op e.reply run.0.state sound run.1.lawful).ended in
        inl (ap (λ b. b || has_ended p.state.kind_state) (sym it) ∙ sym noted ∙ k))
        (λ x. inr (x.0, Contains-append_right (e ∷ []) es x.0 x.1, x.2)) rest

start-unended : (k : Kind) → has_ended (start_kind_state k) ≡ false
start-unended kind.Mutex = refl
start-unended k = refl

-- a history begins before the end
pub end-made : (l : Label) (es : List Entry) (p : HistoryState) → IsHistory l es p → has_ended p.state.kind_state ≡ true → (e : Entry) × Contains es e × (is_end e.op ≡ true)
end-made l es p run ended = ⊎_elim
    (λ (k : has_ended (start_kind_state l.kind) ≡ true). absurd (cc (start-unended l.kind, k)))
    (λ made. made)
    (ended-by l es (first_history_state l) p (start-sound l.kind l.threads) run ended)
