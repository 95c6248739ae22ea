-- How far a settling has come.
use Rattle.std.proofs.Common.{◌≡◌, ℕ, ◌+◌, List, [], ◌∷◌, ◌++◌, length, length-append, refl, subst, arith}
use Rattle.std.proofs.lemmas.List.Sorted.{length_permutation}
use Rattle.tm_base.specs.declared.events.Entry.{Entry}
use Rattle.tm_base.specs.Runs.{Leads}
use Rattle.tm_merge.specs.declared.arrivals.Arrivals.{Arrivals}
use Rattle.tm_merge.specs.MergerViews.{MergerView}
use Rattle.tm_merge.specs.Showing.{Shows}
use Rattle.tm_merge.specs.ReadyThreads.{KeepsAll}
use Rattle.tm_merge.specs.StoredArrivals.{view_of}

-- From the first arrivals this many events were shown, each time the next one.
pub record IsUnderWay (first : Arrivals) (count : ℕ) (now : Arrivals) : Type 0 where
  pub keeps : KeepsAll now
  pub news : List Entry
  pub steps : Leads Shows (view_of first) news (view_of now)
  pub counted : count ≡ length news
  pub left : count + now.held ≡ first.held

-- one more event is shown at the end
shows-snoc : (es : List Entry) (e : Entry) (u v w : MergerView) → Leads Shows u es v → Shows v e w → Leads Shows u (es ++ e ∷ []) w
shows-snoc [] e u v w run step = (w, subst (λ (x : MergerView). Shows x e w) run step, refl)
shows-snoc (d ∷ es) e u v w run step = (run.0, run.1, shows-snoc es e run.0 v w run.2 step)

pub one_more : (first : Arrivals) (count : ℕ) (now then' : Arrivals) (e : Entry) → IsUnderWay first count now → KeepsAll then' → Shows (view_of now) e (view_of then') → IsUnderWay first (count + 1) then'
one_more first count now then' e way keeps step =
    let fewer = length_permutation (view_of now).held (e ∷ (view_of then').held) step.held in
    let before = way.keeps.keeps.count in
    let after = keeps.keeps.count in
    let counted = way.counted in
    let left = way.left in
    let longer = length-append way.news (e ∷ []) in
    record {
      keeps = keeps;
      news = way.news ++ e ∷ [];
      steps = shows-snoc way.news e (view_of first) (view_of now) (view_of then') way.steps step;
      counted = omega (arith, counted, longer);
      left = omega (arith, left, before, after, fewer);
    }
