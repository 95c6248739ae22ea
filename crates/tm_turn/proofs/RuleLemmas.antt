-- What the rule says, and that a step of one pass that lives keeps it.
use Rattle.std.proofs.Common.{◌≡◌, ◌≢◌, ℕ, ⊎_elim, Bool, true, false, List, length, set, Option, Some, None, refl, ap, sym, ◌∙◌, subst, slice_index}
use mathlib.Core.Logic.{dite}
use mathlib.Core.Option.{some, some-injective}
use mathlib.Core.Option as maybe
use native.Mathlib.Decide.{ℕ_discrete}
use lib.ListN.{get_elem?}
use Rattle.atomic_table.specs.Table.{State}
use Rattle.atomic_table.proofs.Lists.{at_set, set_else}
use Rattle.tm_base.specs.declared.events.Entry.{Entry}
use Rattle.tm_base.specs.Histories.{Label}
use Rattle.tm_base.specs.Orders.{of_thread}
use Rattle.tm_turn.specs.declared.views.LocalView.{LocalView}
use Rattle.tm_turn.specs.Prefixes.{StartsWith, has}
use Rattle.tm_turn.specs.Rule.{IsConsistent, IsHolder, IsHeld, FollowsRule}
use Rattle.tm_turn.proofs.PrefixesLemmas.{clash, StartsWith-trans}

-- A view that has changed in a step of its own: the number, the label and the lists of numbers stay.
abbrev pub stepping : LocalView → List Entry → Bool → ℕ → ℕ → ℕ → Bool → List Entry → List Entry → Option ℕ → LocalView
stepping v seen holds turns misses missed keeps first second joined =
    record v { seen = seen; holds = holds; turns = turns; misses = misses; missed = missed; keeps = keeps; first = first; second = second; joined = joined }

-- what stood at i before the seat id changed, with the same number
pub stood : (views : List LocalView) (id i : ℕ) (v w u : LocalView) → get_elem? views id ≡ some v → v.lives ≡ true → v.number ≡ w.number → get_elem? (set views id w) i ≡ some u
    → (was : LocalView) × (get_elem? views i ≡ some was) × (was.number ≡ u.number) × (u.lives ≡ true → was.lives ≡ true)
stood views id i v w u at lives same h =
    ⊎_elim
    (λ (here : (i ≡ id) × (w ≡ u)). (v, ap (get_elem? views) here.0 ∙ at, same ∙ ap (λ (x : LocalView). x.number) here.1, λ _. lives))
    (λ (else : (i ≢ id) × (get_elem? views i ≡ some u)). (u, else.1, refl, λ l. l))
    (at_set views id i w u h)

module _ {V : Type 0} (entries : V → List Entry) (label : V → Label) (key : Label) where
  abbrev pub Table : Type 0
  Table = State (Option V) LocalView

  abbrev pub Follows : State (Option V) LocalView → Type 0
  Follows = FollowsRule entries label key

  -- a view that doesn't hold the turn may change, and the holder stays
  pub still_held : (words new : List ℕ) (homes : List (maybe.Option (Option V))) (views : List LocalView) (history : List Entry) (id : ℕ) (v w : LocalView) (holder : Option ℕ)
      → get_elem? views id ≡ some v → v.holds ≡ false → slice_index new 0 ≡ slice_index words 0
      → IsHeld entries label key (record { words = words; homes = homes; views = views }) history holder
      → IsHeld entries label key (record { words = new; homes = homes; views = set views id w }) history holder
  still_held words new homes views history id v w None at idle same held = (same ∙ held.0, held.1)
  still_held words new homes views history id v w (Some j) at idle same held =
      let other : j ≢ id = λ e. clash held.0.holds held.2.holds (ap (λ (x : LocalView). x.holds) (some-injective held.0 v (sym held.1 ∙ ap (get_elem? views) e ∙ at)) ∙ idle) in (
        held.0,
        set_else views id j w other ∙ held.1,
        subst (λ (n : ℕ). IsHolder n history held.0) (sym same) held.2,
      )

  module _ (s : State (Option V) LocalView) (r : FollowsRule entries label key s) (id : ℕ) (v : LocalView) (at : get_elem? s.views id ≡ some v) where
    -- no number that was absorbed is a living pass's
    pub absorbed_out : v.lives ≡ true → (n : ℕ) → has n r.absorbed ≡ true → n ≢ v.number
    absorbed_out lives n h same =
        let live = (r.each id v at).live lives in
        dite (ℕ_discrete v.number 0)
        (λ zero. (r.given_first n h).1 (same ∙ zero))
        (λ other. clash (has v.number r.absorbed) (ap (λ (k : ℕ). has k r.absorbed) (sym same) ∙ h) (live.other other).still_out)

    -- no number that was not given is a living pass's, but 0
    pub ungiven_out : v.lives ≡ true → (n : ℕ) → n ≢ 0 → has n r.given ≡ false → n ≢ v.number
    ungiven_out lives n some_number h same =
        let live = (r.each id v at).live lives in
        dite (ℕ_discrete v.number 0)
        (λ zero. some_number (same ∙ zero))
        (λ other. clash (has v.number r.given) (live.other other).in_given (ap (λ (k : ℕ). has k r.given) (sym same) ∙ h))

    -- who holds the turn is the holder
    pub its_turn : v.holds ≡ true → IsHolder (slice_index s.words 0) r.history v
    its_turn holds =
        let held : IsHeld entries label key s r.history (Some id) = subst (IsHeld entries label key s r.history) ((r.each id v at).holds holds) r.turn in
        subst (IsHolder (slice_index s.words 0) r.history) (some-injective held.0 v (sym held.1 ∙ at)) held.2

    module _ (lives : v.lives ≡ true) (knows : v.knows ≡ true) (seen : List Entry) (holds : Bool) (turns misses missed : ℕ) (keeps : Bool) (first second : List Entry) (joined : Option ℕ) (history : List Entry) (holder : Option ℕ) where
      abbrev after : LocalView
      after = stepping v seen holds turns misses missed keeps first second joined

      -- What a step of the pass owes: the history grows by its own events alone, it has seen a beginning
      -- of it with all of its own, and nobody else loses the turn.
      pub record Owed : Type 0 where
        pub grows : StartsWith history r.history
        pub others : (n : ℕ) → n ≢ v.number → of_thread history n ≡ of_thread r.history n
        pub begins : StartsWith history seen
        pub mine : of_thread history v.number ≡ of_thread seen v.number
        pub theirs : v.number ≡ 0 → (n : ℕ) → has n r.absorbed ≡ true → of_thread history n ≡ of_thread seen n
        pub holds_it : holds ≡ true → holder ≡ Some id
        pub leaves_it : (j : ℕ) → j ≢ id → r.holder ≡ Some j → holder ≡ Some j
        pub keeps_none : keeps ≡ false

      own_seated : Owed → IsConsistent key history r.given r.absorbed holder id after
      own_seated o =
          let was = r.each id v at in
          let live = was.live lives in
          record {
            label = was.label;
            begins = λ _. o.begins;
            live = λ _. record {
              small = live.small;
              mine = o.mine;
              root = λ zero. let root = live.root zero in record { given_all = root.given_all; absorbed_all = root.absorbed_all; theirs = o.theirs zero };
              other = λ n. let given = live.other n in record { in_given = given.in_given; still_out = given.still_out; absorbs_none = given.absorbs_none };
            };
            holds = o.holds_it;
            joined = λ k. absurd (clash keeps k o.keeps_none);
          }

      other_seated : Owed → (j : ℕ) (u : LocalView) → j ≢ id → get_elem? s.views j ≡ some u → IsConsistent key history r.given r.absorbed holder j u
      other_seated o j u other there =
          let was = r.each j u there in
          record {
            label = was.label;
            begins = λ k. StartsWith-trans history r.history u.seen o.grows (was.begins k);
            live = λ l.
                let live = was.live l in
                record {
                  small = live.small;
                  mine = o.others u.number (λ e. other (r.apart j id u v there at l lives e)) ∙ live.mine;
                  root = λ zero.
                      let root = live.root zero in
                      record {
                        given_all = root.given_all;
                        absorbed_all = root.absorbed_all;
                        theirs = λ n h. o.others n (absorbed_out lives n h) ∙ root.theirs n h;
                      };
                  other = live.other;
                };
            holds = λ h. o.leaves_it j other (was.holds h);
            joined = was.joined;
          }

      pub moved : Owed → (words : List ℕ) (homes : List (maybe.Option (Option V))) → length words ≡ 2 → slice_index words 1 ≡ length history
          → IsHeld entries label key (record { words = words; homes = homes; views = set s.views id after }) history holder
          → FollowsRule entries label key (record { words = words; homes = homes; views = set s.views id after })
      moved o words homes wide count held =
          record {
            history = history;
            given = r.given;
            absorbed = r.absorbed;
            holder = holder;
            wide = wide;
            count = count;
            turn = held;
            each = λ j u e.
                ⊎_elim
                (λ (here : (j ≡ id) × (after ≡ u)). subst (λ (y : ℕ × LocalView). IsConsistent key history r.given r.absorbed holder y.0 y.1) (λ k. (sym here.0 k, here.1 k)) (own_seated o))
                (λ (else : (j ≢ id) × (get_elem? s.views j ≡ some u)). other_seated o j u else.0 else.1)
                (at_set s.views id j after u e);
            apart = λ i j u w there here l m same.
                let one = stood s.views id i v after u at lives refl there in
                let two = stood s.views id j v after w at lives refl here in
                r.apart i j one.0 two.0 one.1 two.1 (one.3 l) (two.3 m) (one.2 ∙ same ∙ sym two.2);
            given_first = r.given_first;
            strangers = λ n some_number none. o.others n (ungiven_out lives n some_number none) ∙ r.strangers n some_number none;
          }
