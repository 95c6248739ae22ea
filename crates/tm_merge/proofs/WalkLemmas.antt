-- The walk from a held event to the place that is missing.
use Rattle.std.proofs.Common.{◌≡◌, suc, ◌-◌, ◌<◌, ◌≤◌, Bool, true, false, cond, ◌==◌, ◌&&◌, ◌||◌, List, [], ◌∷◌, ◌++◌, find, Option, Some, None, is_some, MatchOption, Contains, refl, sym, ap, ◌∙◌, subst, arith}
use Rattle.std.specs.Option.{option_or}
use Rattle.std.proofs.lemmas.Bool.{eqb-true, eq-eqb, and_parts, and_from, or_left, or_right}
use Rattle.std.proofs.lemmas.List.Folds.{find-append}
use Rattle.std.proofs.lemmas.List.Elements.{Contains-append_right}
use Rattle.tm_base.specs.declared.events.Entry.{Entry}
use Rattle.tm_base.specs.Orders.{IsDirect}
use Rattle.tm_base.specs.Runs.{Leads}
use Rattle.tm_merge.specs.declared.arrivals.Arrivals.{Arrivals}
use Rattle.tm_merge.specs.declared.holds.Missing.TheVariants as missing
use Rattle.tm_merge.specs.HeldOrder.{IsBehind}
use Rattle.tm_merge.specs.Holding.{gap, WaitsFor}
use Rattle.tm_merge.specs.MergerViews.{MergerView, arrived}
use Rattle.tm_merge.specs.Places.{at_place, at_object, has_place, has_at}
use Rattle.tm_merge.specs.Showing.{IsSettled}
use Rattle.tm_merge.specs.StoredArrivals.{view_of, KeepsArrivals}
use Rattle.tm_merge.proofs.OrderLemmas.{arrived_own, find-element}

-- How far a walk has come.
pub record IsOnWalk (v : MergerView) (first now : Entry) : Type 0 where
  pub walk : List Entry
  pub steps : Leads (WaitsFor v) first walk now
  pub held : Contains v.held now

module _ (a : Arrivals) (keeps : KeepsArrivals a) where
  abbrev v : MergerView
  v = view_of a

  in_arrived : (e : Entry) → Contains v.held e → Contains (arrived v) e
  in_arrived e h = Contains-append_right a.shown.items v.held e h

  pub place_positive : (e : Entry) → Contains v.held e → 1 ≤ e.place
  place_positive e h = let positive = ((arrived_own a keeps).counted e (in_arrived e h)).0 in omega (arith, positive)

  pub at_positive : (e : Entry) → Contains v.held e → 1 ≤ e.at
  at_positive e h = let positive = ((arrived_own a keeps).counted e (in_arrived e h)).1 in omega (arith, positive)

  module _ (e : Entry) (h : Contains v.held e) (no_gap : gap v e ≡ None) where
    -- the held event before it in its thread
    in_thread : (b : Entry) → at_place v.held e.thread (e.place - 1) ≡ Some b → Contains v.held b × (b.stamp < e.stamp)
    in_thread b found =
        let element = find-element (λ x. x.thread == e.thread && x.place == e.place - 1) v.held b found in
        let both = and_parts (b.thread == e.thread) (b.place == e.place - 1) element.1 in
        let positive = place_positive e h in
        let places : b.place ≡ e.place - 1 = eqb-true b.place (e.place - 1) both.1 in
        let next : suc b.place ≡ e.place = omega (arith, positive, places) in
        let direct : IsDirect b e = or_left (b.thread == e.thread && suc b.place == e.place) (b.object == e.object && suc b.at == e.at)
        (and_from (b.thread == e.thread) (suc b.place == e.place) both.0 (eq-eqb (suc b.place) e.place next)) in
        (element.0, keeps.rise b e (in_arrived b element.0) (in_arrived e h) direct)

    at_its_object : (b : Entry) → at_object v.held e.object (e.at - 1) ≡ Some b → Contains v.held b × (b.stamp < e.stamp)
    at_its_object b found =
        let element = find-element (λ x. x.object == e.object && x.at == e.at - 1) v.held b found in
        let both = and_parts (b.object == e.object) (b.at == e.at - 1) element.1 in
        let positive = at_positive e h in
        let ats : b.at ≡ e.at - 1 = eqb-true b.at (e.at - 1) both.1 in
        let next : suc b.at ≡ e.at = omega (arith, positive, ats) in
        let direct : IsDirect b e = or_right (b.thread == e.thread && suc b.place == e.place) (b.object == e.object && suc b.at == e.at)
        (and_from (b.object == e.object) (suc b.at == e.at) both.0 (eq-eqb (suc b.at) e.at next)) in
        (element.0, keeps.rise b e (in_arrived b element.0) (in_arrived e h) direct)

    pub behind_in_thread : (b : Entry) → at_place v.held e.thread (e.place - 1) ≡ Some b → IsBehind v e b
    behind_in_thread b found =
        let facts = in_thread b found in
        record {
          waits = record { no_gap = no_gap; first = ap (λ o. option_or o (at_object v.held e.object (e.at - 1))) found; here = refl };
          held = facts.0;
          smaller = facts.1;
        }

    -- nothing of a list behind another is found: it is found in the other
    found_first : (p : Entry → Bool) → find p v.held ≡ None → is_some (find p (arrived v)) ≡ is_some (find p a.shown.items)
    found_first p none = ap is_some (find-append p a.shown.items v.held) ∙ drop (find p a.shown.items) (find p v.held) none
      where
        drop : (o q : Option Entry) → q ≡ None → is_some (option_or o q) ≡ is_some o
        drop None q is = ap is_some is
        drop (Some x) q is = refl

    -- what directly before it arrived
    both_arrived : (has_place (arrived v) e.thread (e.place - 1) ≡ true) × (has_at (arrived v) e.object (e.at - 1) ≡ true)
    both_arrived = parts (has_place (arrived v) e.thread (e.place - 1)) (has_at (arrived v) e.object (e.at - 1)) no_gap
      where
        parts : (x y : Bool) → cond x (cond y None (Some (missing.Object e.object (e.at - 1)))) (Some (missing.Thread e.thread (e.place - 1))) ≡ None → (x ≡ true) × (y ≡ true)
        parts true true is = (refl, refl)
        parts true false is = absurd cc
        parts false y is = absurd cc

    pub behind : IsSettled v → at_place v.held e.thread (e.place - 1) ≡ None → (o : Option Entry) → o ≡ at_object v.held e.object (e.at - 1) → MatchOption o (is_some (gap v e) ≡ true) (λ b. IsBehind v e b)
    behind settled none None is =
        let shown_place : has_place a.shown.items e.thread (e.place - 1) ≡ true = ap (λ t. e.place - 1 == 0 || t) (sym (found_first (λ x. x.thread == e.thread && x.place == e.place - 1) none)) ∙ both_arrived.0 in
        let shown_at : has_at a.shown.items e.object (e.at - 1) ≡ true = ap (λ t. e.at - 1 == 0 || t) (sym (found_first (λ x. x.object == e.object && x.at == e.at - 1) (sym is))) ∙ both_arrived.1 in
        let ready = and_from (has_place a.shown.items e.thread (e.place - 1)) (has_at a.shown.items e.object (e.at - 1)) shown_place shown_at in
        let lacks = settled e h in
        absurd cc
    behind settled none (Some b) is =
        let facts = at_its_object b (sym is) in
        record {
          waits = record { no_gap = no_gap; first = ap (λ o. option_or o (at_object v.held e.object (e.at - 1))) none ∙ sym is; here = refl };
          held = facts.0;
          smaller = facts.1;
        }

-- one step further
pub walk_more : (v : MergerView) (first now b : Entry) → IsOnWalk v first now → IsBehind v now b → IsOnWalk v first b
walk_more v first now b on behind = record { walk = on.walk ++ b ∷ []; steps = snoc on.walk first on.steps; held = behind.held }
  where
    snoc : (es : List Entry) (e : Entry) → Leads (WaitsFor v) e es now → Leads (WaitsFor v) e (es ++ b ∷ []) b
    snoc [] e run = (b, subst (λ x. WaitsFor v x b b) run behind.waits, refl)
    snoc (d ∷ es) e run = (run.0, run.1, snoc es run.0 run.2)
