-- Runs of steps: one after another, one more at the end, and along a function of the states.
use Rattle.std.proofs.Common.{◌≡◌, List, [], ◌∷◌, ◌++◌, refl, sym, ap, ◌∙◌, subst}
use Rattle.tm_base.specs.Runs.{Leads}

module _ {S E : Type 0} (step : S → E → S → Type 0) where
  pub Leads-append : (es fs : List E) (p q r : S) → Leads step p es q → Leads step q fs r → Leads step p (es ++ fs) r
  Leads-append [] fs p q r prefix back = subst (λ (x : S). Leads step x fs r) prefix back
  Leads-append (e ∷ es) fs p q r prefix back = (prefix.0, prefix.1, Leads-append es fs prefix.0 q r prefix.2 back)

  pub Leads-snoc : (es : List E) (e : E) (p q r : S) → Leads step p es q → step q e r → Leads step p (es ++ e ∷ []) r
  Leads-snoc es e p q r prefix last = Leads-append es (e ∷ []) p q r prefix (r, last, refl)

  -- a run's parts
  pub Leads-split : (es fs : List E) (p r : S) → Leads step p (es ++ fs) r → (q : S) × Leads step p es q × Leads step q fs r
  Leads-split [] fs p r run = (p, refl, run)
  Leads-split (e ∷ es) fs p r run =
      let parts = Leads-split es fs run.0 r run.2 in (parts.0, (run.0, run.1, parts.1), parts.2)

  pub Leads-unsnoc : (es : List E) (e : E) (p r : S) → Leads step p (es ++ e ∷ []) r → (q : S) × Leads step p es q × step q e r
  Leads-unsnoc es e p r run =
      let parts = Leads-split es (e ∷ []) p r run in
      (parts.0, parts.1, subst (λ (x : S). step parts.0 e x) (sym parts.2.2) parts.2.1)

  -- what each step keeps holds at the end
  pub Leads-keeps : (Keeps : S → Type 0) → ((p : S) (e : E) (q : S) → Keeps p → step p e q → Keeps q) → (es : List E) (p q : S) → Keeps p → Leads step p es q → Keeps q
  Leads-keeps Keeps keep [] p q holds run = subst Keeps (sym run) holds
  Leads-keeps Keeps keep (e ∷ es) p q holds run = Leads-keeps Keeps keep es run.0 q (keep p e run.0 holds run.1) run.2

  -- where from each state an item leads to one alone, a run leads to one alone
  pub Leads-one : ((p : S) (e : E) (a b : S) → step p e a → step p e b → a ≡ b) → (es : List E) (p a b : S) → Leads step p es a → Leads step p es b → a ≡ b
  Leads-one one [] p a b left right = left ∙ sym right
  Leads-one one (e ∷ es) p a b left right =
      Leads-one one es left.0 a b left.2 (subst (λ (m : S). Leads step m es b) (sym (one p e left.0 right.0 left.1 right.1)) right.2)

-- a run of one relation is a run of another, along a function of the states
pub Leads-map : {S T E : Type 0} (step : S → E → S → Type 0) (step' : T → E → T → Type 0) (f : S → T)
    → ((p : S) (e : E) (q : S) → step p e q → step' (f p) e (f q)) → (es : List E) (p q : S) → Leads step p es q → Leads step' (f p) es (f q)
Leads-map step step' f along [] p q run = ap f run
Leads-map step step' f along (e ∷ es) p q run = (f run.0, along p e run.0 run.1, Leads-map step step' f along es run.0 q run.2)
