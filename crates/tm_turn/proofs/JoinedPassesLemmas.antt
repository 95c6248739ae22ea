-- A split and a join keep the rule, and what the table tells of them.
use Rattle.std.proofs.Common.{◌≡◌, ◌≢◌, ℕ, ◌^◌, ◌<◌, ⊎_elim, Bool, true, false, List, [], ◌∷◌, ◌++◌, length, set, Option, Some, None, refl, ap, sym, ◌∙◌, subst, arith, slice_index, length-set}
use mathlib.Core.Logic.{dite}
use mathlib.Core.Option.{some, some-injective}
use mathlib.Core.Option as maybe
use native.Mathlib.Decide.{ℕ_discrete}
use lib.ListN.{get_elem?}
use Rattle.atomic_table.specs.Table.{State, keeps, Allows, Splits, Joins}
use Rattle.atomic_table.proofs.Lists.{at_set, set_else, at_longer}
use Rattle.tm_base.specs.declared.events.Entry.{Entry}
use Rattle.tm_base.specs.Histories.{Label}
use Rattle.tm_base.specs.Orders.{of_thread}
use Rattle.tm_turn.specs.declared.views.LocalView.{LocalView}
use Rattle.tm_turn.specs.Prefixes.{has, longer}
use Rattle.tm_turn.specs.Rule.{IsConsistent, IsHeld, FollowsRule}
use Rattle.tm_turn.specs.LocalViews.{newcomer, splitting, note_of, absorbing, meeting, learning, spent}
use Rattle.tm_turn.specs.TurnSteps.{Looks, Learns}
use Rattle.tm_turn.proofs.PrefixesLemmas.{clash, StartsWith-self, at_end, has-here, has-else, has-cases, has-more, has-none, squeezed, none_before, longer_begins}
use Rattle.tm_turn.proofs.RuleLemmas.{stood, still_held, moved}
use Rattle.tm_turn.proofs.TurnStepsLemmas.{set_first, second_kept}

is_false : (b : Bool) → (b ≡ true → ⊥) → b ≡ false
is_false true h = absurd (h refl)
is_false false h = refl

module _ {V : Type 0} (entries : V → List Entry) (label : V → Label) (key : Label) where
  abbrev Rule : State (Option V) LocalView → Type 0
  Rule = FollowsRule entries label key

  held_longer : (words : List ℕ) (homes : List (maybe.Option (Option V))) (views more : List LocalView) (history : List Entry) (holder : Option ℕ)
      → IsHeld entries label key (record { words = words; homes = homes; views = views }) history holder
      → IsHeld entries label key (record { words = words; homes = homes; views = views ++ more }) history holder
  held_longer words homes views more history None held = held
  held_longer words homes views more history (Some j) held = (held.0, at_longer views more j held.0 held.1, held.2)

  module _ (s : State (Option V) LocalView) (r : FollowsRule entries label key s) (id : ℕ) (v : LocalView) (at : get_elem? s.views id ≡ some v) (lives : v.lives ≡ true) (idle : v.holds ≡ false) where
    module _ (left right : LocalView) (given : List ℕ) where
      -- What a split owes: both views are seated, and the others still are.
      record Cut : Type 0 where
        pub same : v.number ≡ left.number
        pub seated : IsConsistent key r.history given r.absorbed r.holder id left
        pub others : (j : ℕ) (u : LocalView) → j ≢ id → get_elem? s.views j ≡ some u → IsConsistent key r.history given r.absorbed r.holder j u
        pub fresh : (j : ℕ) → IsConsistent key r.history given r.absorbed r.holder j right
        pub apart : right.lives ≡ true → (j : ℕ) (u : LocalView) → get_elem? s.views j ≡ some u → u.lives ≡ true → u.number ≢ right.number
        pub given_first : (n : ℕ) → has n r.absorbed ≡ true → (has n given ≡ true) × (n ≢ 0)
        pub strangers : (n : ℕ) → n ≢ 0 → has n given ≡ false → of_thread r.history n ≡ []

      cut : Cut → Rule (record { words = s.words; homes = s.homes; views = set s.views id left ++ right ∷ [] })
      cut c =
          let views : List LocalView = set s.views id left in
          let old = λ (i : ℕ) (u : LocalView) (h : get_elem? views i ≡ some u). stood s.views id i v left u at lives c.same h in
          record {
            history = r.history;
            given = given;
            absorbed = r.absorbed;
            holder = r.holder;
            wide = r.wide;
            count = r.count;
            turn = held_longer s.words s.homes views (right ∷ []) r.history r.holder (still_held entries label key s.words s.words s.homes s.views r.history id v left r.holder at idle refl r.turn);
            each = λ j u e.
                ⊎_elim
                (λ (there : get_elem? views j ≡ some u).
                ⊎_elim
                (λ (here : (j ≡ id) × (left ≡ u)). subst (λ (y : ℕ × LocalView). IsConsistent key r.history given r.absorbed r.holder y.0 y.1) (λ k. (sym here.0 k, here.1 k)) c.seated)
                (λ (else : (j ≢ id) × (get_elem? s.views j ≡ some u)). c.others j u else.0 else.1)
                (at_set s.views id j left u there))
                (λ (new : (j ≡ length views) × (right ≡ u)). subst (IsConsistent key r.history given r.absorbed r.holder j) new.1 (c.fresh j))
                (at_end views right u j e);
            apart = λ i j u w there here l m same.
                ⊎_elim
                (λ (old_u : get_elem? views i ≡ some u).
                let one = old i u old_u in
                ⊎_elim
                (λ (old_w : get_elem? views j ≡ some w).
                let two = old j w old_w in
                r.apart i j one.0 two.0 one.1 two.1 (one.3 l) (two.3 m) (one.2 ∙ same ∙ sym two.2))
                (λ (new_w : (j ≡ length views) × (right ≡ w)).
                absurd (c.apart (ap (λ (x : LocalView). x.lives) new_w.1 ∙ m) i one.0 one.1 (one.3 l) (one.2 ∙ same ∙ ap (λ (x : LocalView). x.number) (sym new_w.1))))
                (at_end views right w j here))
                (λ (new_u : (i ≡ length views) × (right ≡ u)).
                ⊎_elim
                (λ (old_w : get_elem? views j ≡ some w).
                let two = old j w old_w in
                absurd (c.apart (ap (λ (x : LocalView). x.lives) new_u.1 ∙ l) j two.0 two.1 (two.3 m) (two.2 ∙ sym same ∙ ap (λ (x : LocalView). x.number) (sym new_u.1))))
                (λ (new_w : (j ≡ length views) × (right ≡ w)). new_u.0 ∙ sym new_w.0)
                (at_end views right w j here))
                (at_end views right u i there);
            given_first = c.given_first;
            strangers = c.strangers;
          }

    module _ (other : ℕ) (w : LocalView) (elsewhere : other ≢ id) (there : get_elem? s.views other ≡ some w) (idle_other : w.holds ≡ false) (both : LocalView) (absorbed : List ℕ) where
      -- What a join owes: the joined view is seated, and the others still are.
      record Merged : Type 0 where
        pub same : v.number ≡ both.number
        pub seated : IsConsistent key r.history r.given absorbed r.holder id both
        pub others : (j : ℕ) (u : LocalView) → j ≢ id → j ≢ other → get_elem? s.views j ≡ some u → IsConsistent key r.history r.given absorbed r.holder j u
        pub given_first : (n : ℕ) → has n absorbed ≡ true → (has n r.given ≡ true) × (n ≢ 0)

      abbrev between : List LocalView
      between = set s.views id both

      abbrev last : List LocalView
      last = set between other spent

      seated_spent : IsConsistent key r.history r.given absorbed r.holder other spent
      seated_spent =
          record {
            label = λ h. absurd (clash false h refl);
            begins = λ h. absurd (clash false h refl);
            live = λ h. absurd (clash false h refl);
            holds = λ h. absurd (clash false h refl);
            joined = λ h. absurd (clash false h refl);
          }

      was_living : Merged → (i : ℕ) (u : LocalView) → get_elem? last i ≡ some u → u.lives ≡ true → (was : LocalView) × (get_elem? s.views i ≡ some was) × (was.number ≡ u.number) × (was.lives ≡ true)
      was_living c i u h l =
          ⊎_elim
          (λ (gone : (i ≡ other) × (spent ≡ u)). absurd (clash false (ap (λ (x : LocalView). x.lives) gone.1 ∙ l) refl))
          (λ (still : (i ≢ other) × (get_elem? between i ≡ some u)). let was = stood s.views id i v both u at lives c.same still.1 in (was.0, was.1, was.2, was.3 l))
          (at_set between other i spent u h)

      merged : Merged → Rule (record { words = s.words; homes = s.homes; views = last })
      merged c =
          let first_held = still_held entries label key s.words s.words s.homes s.views r.history id v both r.holder at idle refl r.turn in
          record {
            history = r.history;
            given = r.given;
            absorbed = absorbed;
            holder = r.holder;
            wide = r.wide;
            count = r.count;
            turn = still_held entries label key s.words s.words s.homes between r.history other w spent r.holder (set_else s.views id other both elsewhere ∙ there) idle_other refl first_held;
            each = λ j u e.
                ⊎_elim
                (λ (gone : (j ≡ other) × (spent ≡ u)). subst (λ (y : ℕ × LocalView). IsConsistent key r.history r.given absorbed r.holder y.0 y.1) (λ k. (sym gone.0 k, gone.1 k)) seated_spent)
                (λ (still : (j ≢ other) × (get_elem? between j ≡ some u)).
                ⊎_elim
                (λ (here : (j ≡ id) × (both ≡ u)). subst (λ (y : ℕ × LocalView). IsConsistent key r.history r.given absorbed r.holder y.0 y.1) (λ k. (sym here.0 k, here.1 k)) c.seated)
                (λ (else : (j ≢ id) × (get_elem? s.views j ≡ some u)). c.others j u else.0 still.0 else.1)
                (at_set s.views id j both u still.1))
                (at_set between other j spent u e);
            apart = λ i j u x here_i here_j l m same.
                let one = was_living c i u here_i l in
                let two = was_living c j x here_j m in
                r.apart i j one.0 two.0 one.1 two.1 one.3 two.3 (one.2 ∙ same ∙ sym two.2);
            given_first = c.given_first;
            strangers = r.strangers;
          }

  -- pass 0 gives a number to a new pass
  pub splits : (id n : ℕ) (v : LocalView) → v.lives ≡ true → v.knows ≡ true → v.keeps ≡ false → v.holds ≡ false → v.number ≡ 0 → 0 < n → n < 2 ^ 32 → has n v.given ≡ false
      → Splits Rule id v (splitting v n) (newcomer v.label n v.seen)
  splits id n v lives knows still idle root some_number small unused s r at =
      let seated = r.each id v at in
      let live = seated.live lives in
      let is = live.root root in
      let begins = seated.begins knows in
      let not_zero : n ≢ 0 = λ e. omega arith in
      let not_given : has n r.given ≡ false = ap (has n) (sym is.given_all) ∙ unused in
      let not_absorbed : has n r.absorbed ≡ false = is_false (has n r.absorbed) (λ h. clash (has n r.given) (r.given_first n h).0 not_given) in
      let nothing : of_thread r.history n ≡ [] = r.strangers n not_zero not_given in
      cut s r id v at lives idle (splitting v n) (newcomer v.label n v.seen) (n ∷ r.given)
      (record {
        same = refl;
        seated = record {
          label = seated.label;
          begins = seated.begins;
          live = λ _. record {
            small = live.small;
            mine = live.mine;
            root = λ _. record { given_all = ap (λ (ns : List ℕ). n ∷ ns) is.given_all; absorbed_all = is.absorbed_all; theirs = is.theirs };
            other = λ other. absurd (other root);
          };
          holds = seated.holds;
          joined = λ k. absurd (clash v.keeps k still);
        };
        others = λ j u other there.
            let was = r.each j u there in
            record {
              label = was.label;
              begins = was.begins;
              live = λ l.
                  let live_u = was.live l in
                  record {
                    small = live_u.small;
                    mine = live_u.mine;
                    root = λ none. absurd (other (r.apart j id u v there at l lives (none ∙ sym root)));
                    other = λ k. let given = live_u.other k in record { in_given = has-more n u.number r.given given.in_given; still_out = given.still_out; absorbs_none = given.absorbs_none };
                  };
              holds = was.holds;
              joined = was.joined;
            };
        fresh = λ j. record {
          label = λ _. seated.label knows;
          begins = λ _. begins;
          live = λ _. record {
            small = small;
            mine = nothing ∙ sym (none_before r.history v.seen n begins nothing);
            root = λ none. absurd (not_zero none);
            other = λ _. record { in_given = has-here n r.given; still_out = not_absorbed; absorbs_none = refl };
          };
          holds = λ h. absurd (clash false h refl);
          joined = λ h. absurd (clash false h refl);
        };
        apart = λ _ j u there l same.
            dite (ℕ_discrete u.number 0)
            (λ none. not_zero (sym same ∙ none))
            (λ k. clash (has n r.given) (ap (λ (m : ℕ). has m r.given) (sym same) ∙ (((r.each j u there).live l).other k).in_given) not_given);
        given_first = λ m h. let first = r.given_first m h in (has-more n m r.given first.0, first.1);
        strangers = λ m k h. r.strangers m k (has-none n m r.given h).1;
      })

  -- what a pass has seen is split off as a note
  pub tells : (id : ℕ) (v : LocalView) → v.lives ≡ true → v.knows ≡ true → v.holds ≡ false → Splits Rule id v v (note_of v)
  tells id v lives knows idle s r at =
      let seated = r.each id v at in
      cut s r id v at lives idle v (note_of v) r.given
      (record {
        same = refl;
        seated = seated;
        others = λ j u _ there. r.each j u there;
        fresh = λ j. record {
          label = λ _. seated.label knows;
          begins = λ _. seated.begins knows;
          live = λ h. absurd (clash false h refl);
          holds = λ h. absurd (clash false h refl);
          joined = λ h. absurd (clash false h refl);
        };
        apart = λ h. absurd (clash false h refl);
        given_first = r.given_first;
        strangers = r.strangers;
      })

  -- pass 0 takes in what another pass has seen
  pub absorbs : (id other : ℕ) (v w : LocalView) → v.lives ≡ true → v.knows ≡ true → v.holds ≡ false → v.number ≡ 0 → w.lives ≡ true → w.knows ≡ true → w.holds ≡ false
      → Joins Rule id v other w (absorbing v w) spent
  absorbs id other v w lives knows idle root lives_w knows_w idle_w s r at elsewhere at_other =
      let both : LocalView = absorbing v w in
      let there : get_elem? s.views other ≡ some w = sym (set_else s.views id other both elsewhere) ∙ at_other in
      let seated = r.each id v at in
      let live = seated.live lives in
      let is = live.root root in
      let seated_w = r.each other w there in
      let live_w = seated_w.live lives_w in
      let not_zero : w.number ≢ 0 = λ e. elsewhere (r.apart other id w v there at lives_w lives (e ∙ sym root)) in
      let given = live_w.other not_zero in
      let long = longer_begins r.history v.seen w.seen (seated.begins knows) (seated_w.begins knows_w) in
      let l : List Entry = longer v.seen w.seen in
      let mine : of_thread r.history v.number ≡ of_thread l v.number = squeezed r.history l v.seen v.number long.0 long.1 live.mine in
      let theirs : of_thread r.history w.number ≡ of_thread l w.number = squeezed r.history l w.seen w.number long.0 long.2 live_w.mine in
      let before : (m : ℕ) → has m r.absorbed ≡ true → of_thread r.history m ≡ of_thread l m = λ m h. squeezed r.history l v.seen m long.0 long.1 (is.theirs m h) in
      merged s r id v at lives idle other w elsewhere there idle_w both (w.number ∷ r.absorbed)
      (record {
        same = refl;
        seated = record {
          label = seated.label;
          begins = λ _. long.0;
          live = λ _. record {
            small = live.small;
            mine = mine;
            root = λ _. record {
              given_all = is.given_all;
              absorbed_all = ap (λ (ns : List ℕ). w.number ∷ ns) is.absorbed_all;
              theirs = λ m h.
                  ⊎_elim
                  (λ (same : w.number ≡ m). subst (λ (k : ℕ). of_thread r.history k ≡ of_thread l k) same theirs)
                  (λ (else : (w.number ≢ m) × (has m r.absorbed ≡ true)). before m else.1)
                  (has-cases w.number m r.absorbed h);
            };
            other = λ k. absurd (k root);
          };
          holds = seated.holds;
          joined = λ _. record {
            begins = long.1;
            begins_other = long.2;
            mine = sym mine ∙ live.mine;
            before = λ m h unlike.
                ⊎_elim
                (λ (same : w.number ≡ m). absurd (unlike (ap Some same)))
                (λ (else : (w.number ≢ m) × (has m v.absorbed ≡ true)).
                let known : has m r.absorbed ≡ true = ap (has m) (sym is.absorbed_all) ∙ else.1 in
                sym (before m known) ∙ is.theirs m known)
                (has-cases w.number m v.absorbed h);
            theirs = λ m joined. let same : w.number ≡ m = cc in subst (λ (k : ℕ). of_thread l k ≡ of_thread w.seen k) same (sym theirs ∙ live_w.mine);
            once = λ m earlier joined absorbed.
                let numbers : w.number ≡ m = cc in
                let rest : v.absorbed ≡ earlier = cc in
                ap (λ (ns : List ℕ). has m ns) (sym rest ∙ is.absorbed_all) ∙ ap (λ (k : ℕ). has k r.absorbed) (sym numbers) ∙ given.still_out;
          };
        };
        others = λ j u other_id other_w at_u.
            let was = r.each j u at_u in
            record {
              label = was.label;
              begins = was.begins;
              live = λ h.
                  let live_u = was.live h in
                  record {
                    small = live_u.small;
                    mine = live_u.mine;
                    root = λ none. absurd (other_id (r.apart j id u v at_u at h lives (none ∙ sym root)));
                    other = λ k.
                        let given_u = live_u.other k in
                        record {
                          in_given = given_u.in_given;
                          still_out = has-else w.number u.number r.absorbed (λ e. other_w (r.apart j other u w at_u there h lives_w (sym e))) ∙ given_u.still_out;
                          absorbs_none = given_u.absorbs_none;
                        };
                  };
              holds = was.holds;
              joined = was.joined;
            };
        given_first = λ m h.
            ⊎_elim
            (λ (same : w.number ≡ m). subst (λ (k : ℕ). (has k r.given ≡ true) × (k ≢ 0)) same (given.in_given, not_zero))
            (λ (else : (w.number ≢ m) × (has m r.absorbed ≡ true)). r.given_first m else.1)
            (has-cases w.number m r.absorbed h);
      })

  -- a pass takes in what a note says
  pub meets : (id other : ℕ) (v w : LocalView) → v.lives ≡ true → v.knows ≡ true → v.holds ≡ false → w.lives ≡ false → w.knows ≡ true → w.holds ≡ false
      → Joins Rule id v other w (meeting v w) spent
  meets id other v w lives knows idle dead_w knows_w idle_w s r at elsewhere at_other =
      let both : LocalView = meeting v w in
      let there : get_elem? s.views other ≡ some w = sym (set_else s.views id other both elsewhere) ∙ at_other in
      let seated = r.each id v at in
      let live = seated.live lives in
      let seated_w = r.each other w there in
      let long = longer_begins r.history v.seen w.seen (seated.begins knows) (seated_w.begins knows_w) in
      let l : List Entry = longer v.seen w.seen in
      let mine : of_thread r.history v.number ≡ of_thread l v.number = squeezed r.history l v.seen v.number long.0 long.1 live.mine in
      merged s r id v at lives idle other w elsewhere there idle_w both r.absorbed
      (record {
        same = refl;
        seated = record {
          label = seated.label;
          begins = λ _. long.0;
          live = λ _. record {
            small = live.small;
            mine = mine;
            root = λ none.
                let is = live.root none in
                record {
                  given_all = is.given_all;
                  absorbed_all = is.absorbed_all;
                  theirs = λ m h. squeezed r.history l v.seen m long.0 long.1 (is.theirs m h);
                };
            other = λ k. let given = live.other k in record { in_given = given.in_given; still_out = given.still_out; absorbs_none = given.absorbs_none };
          };
          holds = seated.holds;
          joined = λ _. record {
            begins = long.1;
            begins_other = long.2;
            mine = sym mine ∙ live.mine;
            before = λ m h unlike.
                dite (ℕ_discrete v.number 0)
                (λ none.
                let is = live.root none in
                let known : has m r.absorbed ≡ true = ap (has m) (sym is.absorbed_all) ∙ h in
                sym (squeezed r.history l v.seen m long.0 long.1 (is.theirs m known)) ∙ is.theirs m known)
                (λ k. absurd (clash false (ap (has m) (sym (live.other k).absorbs_none) ∙ h) refl));
            theirs = λ m joined. absurd (cc joined);
            once = λ m earlier joined absorbed. absurd (cc joined);
          };
        };
        others = λ j u _ _ at_u. r.each j u at_u;
        given_first = r.given_first;
      })

  module _ (slots id : ℕ) (v : LocalView) (lives : v.lives ≡ true) (knows : v.knows ≡ true) (idle : v.holds ≡ false) (c : List (ℕ × Option V)) where
    -- pass 0 looks before it splits
    pub looks : v.keeps ≡ false → v.number ≡ 0 → Allows Rule slots id (v, c) 0 (λ n. n) (λ _ after. Looks (v, c) after)
    looks still root s r wide at small =
        let seated = r.each id v at in
        let live = seated.live lives in
        let is = live.root root in
        let begins = seated.begins knows in
        let n : ℕ = slice_index s.words 0 in
        let words : List ℕ = set s.words 0 n in (
          v,
          keeps,
          tt,
          moved entries label key s r id v at lives knows v.seen v.holds v.turns v.misses v.missed v.keeps v.first v.second v.joined r.history r.holder
              (record {
                grows = StartsWith-self r.history;
                others = λ m _. refl;
                begins = begins;
                mine = live.mine;
                theirs = λ _ m h. is.theirs m h;
                holds_it = λ h. absurd (clash v.holds h idle);
                leaves_it = λ j _ e. e;
                keeps_none = still;
              })
              words s.homes (length-set s.words 0 n ∙ r.wide) (second_kept s.words n ∙ r.count)
              (still_held entries label key s.words words s.homes s.views r.history id v v r.holder at idle (set_first s.words n r.wide) r.turn),
          (refl, λ m k h. none_before r.history v.seen m begins (r.strangers m k (ap (has m) (sym is.given_all) ∙ h))),
        )

    -- a pass learns what the rule says of the lists that it keeps
    pub learns : v.keeps ≡ true → Allows Rule slots id (v, c) 0 (λ n. n) (λ _ after. Learns (v, c) after)
    learns keeps_lists s r wide at small =
        let seated = r.each id v at in
        let live = seated.live lives in
        let w : LocalView = learning v in
        let n : ℕ = slice_index s.words 0 in
        let words : List ℕ = set s.words 0 n in (
          w,
          keeps,
          tt,
          moved entries label key s r id v at lives knows v.seen v.holds v.turns v.misses v.missed false [] [] None r.history r.holder
              (record {
                grows = StartsWith-self r.history;
                others = λ m _. refl;
                begins = seated.begins knows;
                mine = live.mine;
                theirs = λ none m h. (live.root none).theirs m h;
                holds_it = λ h. absurd (clash v.holds h idle);
                leaves_it = λ j _ e. e;
                keeps_none = refl;
              })
              words s.homes (length-set s.words 0 n ∙ r.wide) (second_kept s.words n ∙ r.count)
              (still_held entries label key s.words words s.homes s.views r.history id v w r.holder at idle (set_first s.words n r.wide) r.turn),
          (seated.joined keeps_lists, refl, refl),
        )
