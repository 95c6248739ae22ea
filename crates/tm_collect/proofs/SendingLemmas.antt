-- What is sent in two steps.
use Rattle.std.proofs.Common.{◌≡◌, ℕ, Bool, true, false, List, [], ◌++◌, MatchBool, refl, sym, ap, ◌∙◌, subst, append_assoc}
use Rattle.std.proofs.lemmas.Bool.{false≢true}
use Rattle.tm_base.specs.Counters.{next_count}
use Rattle.tm_outside.specs.Appending.{Appends, AppendsPrefix, AppendsProperPrefix}
use Rattle.tm_outside.proofs.AppendingLemmas.{Appends-none, Appends-trans, AppendsPrefix-none, AppendsPrefix-proper, AppendsPrefix-whole, AppendsProperPrefix-after, AppendsProperPrefix-more}
use Rattle.tm_collect.specs.Sending.{Outlet, IsSent, Sends, SendsPrefix}

abbrev Fails : Outlet → Outlet → List ℕ → Type 0
Fails o p bytes = (p.faults ≡ next_count o.faults) × AppendsProperPrefix o.written p.written bytes

abbrev Goes : Outlet → Outlet → List ℕ → Type 0
Goes o p bytes = (p.faults ≡ o.faults) × Appends o.written p.written bytes

module _ (o p q : Outlet) (a b : List ℕ) where
  joined : (f g h : Bool) → o.failed ≡ f → p.failed ≡ g → q.failed ≡ h → MatchBool f (p ≡ o) (MatchBool g (Fails o p a) (Goes o p a)) → MatchBool g (q ≡ p) (MatchBool h (Fails p q b) (Goes p q b))
      → MatchBool f (q ≡ o) (MatchBool h (Fails o q (a ++ b)) (Goes o q (a ++ b)))
  joined true true h fe ge he s t = t ∙ s
  joined true false h fe ge he s t = absurd (false≢true (sym ge ∙ ap (λ (r : Outlet). r.failed) s ∙ fe))
  joined false true true fe ge he s t =
      subst (λ (r : Outlet). Fails o r (a ++ b)) (sym t) (s.0, AppendsProperPrefix-more o.written p.written a b s.1)
  joined false true false fe ge he s t = absurd (false≢true (sym he ∙ ap (λ (r : Outlet). r.failed) t ∙ ge))
  joined false false true fe ge he s t =
      (t.0 ∙ ap next_count s.0, AppendsProperPrefix-after o.written p.written q.written a b s.1 t.1)
  joined false false false fe ge he s t = (t.0 ∙ s.0, Appends-trans o.written p.written q.written a b s.1 t.1)

  pub Sends-join : Sends o p a → Sends p q b → Sends o q (a ++ b)
  Sends-join s t = joined o.failed p.failed q.failed refl refl refl s t

pub Sends-none : (o : Outlet) → Sends o o []
Sends-none o = go o.failed refl
  where
    go : (f : Bool) → o.failed ≡ f → MatchBool f (o ≡ o) (MatchBool o.failed (Fails o o []) (Goes o o []))
    go true e = refl
    go false e = rw e (refl, Appends-none o.written o.written refl)

pub SendsPrefix-join : (o p q : Outlet) (a b : List ℕ) → Sends o p a → SendsPrefix p q b → SendsPrefix o q (a ++ b)
SendsPrefix-join o p q a b s t = record {
  prefix = a ++ t.prefix;
  back = t.back;
  split = ap (λ (l : List ℕ). a ++ l) t.split ∙ sym (append_assoc a t.prefix t.back);
  sent = Sends-join o p q a t.prefix s t.sent;
}

-- nothing was sent of these bytes
pub SendsPrefix-none : (o : Outlet) (bytes : List ℕ) → SendsPrefix o o bytes
SendsPrefix-none o bytes = record { prefix = []; back = bytes; split = refl; sent = Sends-none o }

-- what was sent is a prefix of the bytes
pub Sends-prefix : (o p : Outlet) (bytes : List ℕ) → Sends o p bytes → AppendsPrefix o.written p.written bytes
Sends-prefix o p bytes sent = by_old o.failed sent
  where
    by_new : (g : Bool) → MatchBool g (Fails o p bytes) (Goes o p bytes) → AppendsPrefix o.written p.written bytes
    by_new true h = AppendsPrefix-proper o.written p.written bytes h.1
    by_new false h = AppendsPrefix-whole o.written p.written bytes h.1

    by_old : (f : Bool) → MatchBool f (p ≡ o) (IsSent o p bytes) → AppendsPrefix o.written p.written bytes
    by_old true same = AppendsPrefix-none o.written p.written bytes (ap (λ (q : Outlet). q.written) same)
    by_old false h = by_new p.failed h
