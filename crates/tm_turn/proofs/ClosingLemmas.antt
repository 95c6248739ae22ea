-- What is known when a turn is closed with pass 0, which has absorbed every number that it gave.
use Rattle.std.proofs.Common.{◌≡◌, ◌≢◌, ℕ, ◌⊎◌, ⊎_elim, inl, inr, Bool, true, false, List, [], Option, Some, None, refl, ap, sym, ◌∙◌, subst}
use mathlib.Core.Logic.{dite}
use mathlib.Core.Option.{some, some-injective}
use native.Mathlib.Decide.{ℕ_discrete}
use lib.ListN.{get_elem?}
use Rattle.atomic_table.specs.Table.{State, Final, Seen}
use Rattle.tm_base.specs.declared.events.Entry.{Entry}
use Rattle.tm_base.specs.Histories.{Label}
use Rattle.tm_base.specs.Orders.{of_thread}
use Rattle.tm_turn.specs.declared.views.LocalView.{LocalView}
use Rattle.tm_turn.specs.Prefixes.{AreOf, has}
use Rattle.tm_turn.specs.Rule.{IsHome, IsHeld, FollowsRule}
use Rattle.tm_turn.proofs.PrefixesLemmas.{clash, none_before, all_of_it}

true_or_false : (b : Bool) → (b ≡ true) ⊎ (b ≡ false)
true_or_false true = inl refl
true_or_false false = inr refl

module _ {V : Type 0} (entries : V → List Entry) (label : V → Label) (key : Label) where
  -- The value that a closed turn hands back.
  pub record Closes (v : LocalView) (found : Option V) : Type 0 where
    pub value : V
    pub is : found ≡ Some value
    pub list : entries value ≡ v.seen
    pub same_label : label value ≡ key
    pub numbers : AreOf v.absorbed (entries value)

  module _ (s : State (Option V) LocalView) (r : FollowsRule entries label key s) (id : ℕ) (v : LocalView) (at : get_elem? s.views id ≡ some v) (lives : v.lives ≡ true) (knows : v.knows ≡ true)
      (idle : v.holds ≡ false) (root : v.number ≡ 0) (back : (n : ℕ) → has n v.given ≡ true → has n v.absorbed ≡ true) where
    -- nobody else is left who could hold the turn
    at_home : (holder : Option ℕ) → IsHeld entries label key s r.history holder → IsHome entries label key s.homes r.history
    at_home None held = held.1
    at_home (Some j) held =
        let u : LocalView = held.0 in
        let is = ((r.each id v at).live lives).root root in
        let live = (r.each j u held.1).live held.2.lives in
        absurd
        (dite (ℕ_discrete u.number 0)
        (λ none.
        let same : u ≡ v = some-injective u v (sym held.1 ∙ ap (get_elem? s.views) (r.apart j id u v held.1 at held.2.lives lives (none ∙ sym root)) ∙ at) in
        clash v.holds (ap (λ (x : LocalView). x.holds) (sym same) ∙ held.2.holds) idle)
        (λ other.
        let given = live.other other in
        let gave : has u.number v.given ≡ true = ap (has u.number) is.given_all ∙ given.in_given in
        clash (has u.number r.absorbed) (ap (has u.number) (sym is.absorbed_all) ∙ back u.number gave) given.still_out))

    -- a number that wasn't absorbed wasn't given
    nothing_of : (n : ℕ) → n ≢ 0 → has n v.absorbed ≡ false → of_thread r.history n ≡ []
    nothing_of n some_number out =
        let is = ((r.each id v at).live lives).root root in
        ⊎_elim
        (λ (gave : has n v.given ≡ true). absurd (clash (has n v.absorbed) (back n gave) out))
        (λ (kept : has n v.given ≡ false). r.strangers n some_number (ap (has n) (sym is.given_all) ∙ kept))
        (true_or_false (has n v.given))

    -- pass 0 has seen all that there is
    same_of : (n : ℕ) → of_thread r.history n ≡ of_thread v.seen n
    same_of n =
        let seated = r.each id v at in
        let live = seated.live lives in
        let is = live.root root in
        dite (ℕ_discrete n 0)
        (λ none. subst (λ (k : ℕ). of_thread r.history k ≡ of_thread v.seen k) (root ∙ sym none) live.mine)
        (λ other.
        ⊎_elim
        (λ (known : has n v.absorbed ≡ true). is.theirs n (ap (has n) (sym is.absorbed_all) ∙ known))
        (λ (out : has n v.absorbed ≡ false). let none = nothing_of n other out in none ∙ sym (none_before r.history v.seen n (seated.begins knows) none))
        (true_or_false (has n v.absorbed)))

    closes_at : (xs : List (Option V)) (found : Option V) → ((k : ℕ) (y : Option V) → get_elem? s.homes k ≡ some (some y) → get_elem? xs k ≡ some y) → get_elem? xs 0 ≡ some found → Closes v found
    closes_at xs found home is =
        let h = at_home r.holder r.turn in
        let whole = all_of_it r.history v.seen ((r.each id v at).begins knows) same_of in
        record {
          value = h.value;
          is = some-injective found (Some h.value) (sym is ∙ home 0 (Some h.value) h.home);
          list = h.list ∙ whole;
          same_label = h.same_label;
          numbers = record { no_other = λ n k out. ap (λ (l : List Entry). of_thread l n) h.list ∙ nothing_of n k out };
        }

  pub closes : (id : ℕ) (v : LocalView) (words : List ℕ) (xs : List (Option V)) (found : Option V) → Final (Seen (FollowsRule entries label key) id v) words xs
      → v.lives ≡ true → v.knows ≡ true → v.holds ≡ false → v.number ≡ 0 → ((n : ℕ) → has n v.given ≡ true → has n v.absorbed ≡ true) → get_elem? xs 0 ≡ some found → Closes v found
  closes id v words xs found end lives knows idle root back is = closes_at end.0 end.1.0 id v end.1.1 lives knows idle root back xs found end.4 is
