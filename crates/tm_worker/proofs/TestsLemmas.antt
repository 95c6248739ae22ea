-- Workers over three objects: two threads' own, and a third.
use Rattle.std.proofs.Common.{◌≡◌, ℕ, zero, suc, true, false, List, [], ◌∷◌, refl, ap, sym, ◌∙◌, subst}
use Rattle.tm_base.specs.declared.kinds.Kind.{Kind}
use Rattle.tm_base.specs.declared.kinds.Kind.TheVariants as kind
use Rattle.tm_base.specs.Histories.{Label}
use Rattle.tm_base.specs.Tickets.{TicketView, opening}
use Rattle.tm_turn.specs.Passes.{TurnView}
use Rattle.tm_worker.specs.Standings.{HasOwn, is_own, is_own_at}

abbrev pub label_for : ℕ → Kind → Label
label_for o k = record { object = o; kind = k; threads = 2 }

module _ (a b m : TurnView) (a_is : a.label ≡ label_for 0 (kind.Thread 1 false)) (b_is : b.label ≡ label_for 1 (kind.Thread 2 false)) (m_is : m.label ≡ label_for 2 kind.Mutex) where
  own_kind : (t : ℕ) (l : Label) (o : ℕ) (j : Kind) → l ≡ label_for o j → is_own t l.kind ≡ is_own t j
  own_kind t l o j is = ap (λ (x : Label). is_own t x.kind) is

  own_one : HasOwn (a ∷ b ∷ m ∷ []) 1
  own_one = record { object = 0; own = own_kind 1 a.label 0 (kind.Thread 1 false) a_is; only = only }
    where
      only : (i : ℕ) → is_own_at (a ∷ b ∷ m ∷ []) 1 i ≡ true → i ≡ 0
      only zero h = refl
      only (suc zero) h = absurd (let clash : false ≡ true = sym (own_kind 1 b.label 1 (kind.Thread 2 false) b_is) ∙ h in cc)
      only (suc (suc zero)) h = absurd (let clash : false ≡ true = sym (own_kind 1 m.label 2 kind.Mutex m_is) ∙ h in cc)
      only (suc (suc (suc i))) h = absurd cc

  own_two : HasOwn (a ∷ b ∷ m ∷ []) 2
  own_two = record { object = 1; own = own_kind 2 b.label 1 (kind.Thread 2 false) b_is; only = only }
    where
      only : (i : ℕ) → is_own_at (a ∷ b ∷ m ∷ []) 2 i ≡ true → i ≡ 1
      only zero h = absurd (let clash : false ≡ true = sym (own_kind 2 a.label 0 (kind.Thread 1 false) a_is) ∙ h in cc)
      only (suc zero) h = refl
      only (suc (suc zero)) h = absurd (let clash : false ≡ true = sym (own_kind 2 m.label 2 kind.Mutex m_is) ∙ h in cc)
      only (suc (suc (suc i))) h = absurd cc

  pub first_owns : (ss : List TurnView) (x : TicketView) → ss ≡ a ∷ b ∷ m ∷ [] → x ≡ opening 1 → HasOwn ss x.thread
  first_owns ss x all is = subst (λ (l : List TurnView). HasOwn l x.thread) (sym all) (subst (λ (y : TicketView). HasOwn (a ∷ b ∷ m ∷ []) y.thread) (sym is) own_one)

  pub second_owns : (ss : List TurnView) (x : TicketView) → ss ≡ a ∷ b ∷ m ∷ [] → x ≡ opening 2 → HasOwn ss x.thread
  second_owns ss x all is = subst (λ (l : List TurnView). HasOwn l x.thread) (sym all) (subst (λ (y : TicketView). HasOwn (a ∷ b ∷ m ∷ []) y.thread) (sym is) own_two)
