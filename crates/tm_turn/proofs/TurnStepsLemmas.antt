-- The steps of the holder, and of who wants to be it.
use Rattle.std.proofs.Common.{◌≡◌, ◌≢◌, ℕ, zero, suc, ◌+◌, ◌%◌, ◌^◌, ◌<◌, eqb, true, false, List, [], ◌∷◌, ◌++◌, length, set, Option, Some, None, refl, ap, sym, ◌∙◌, subst, arith, slice_index, length-set, length-append}
use mathlib.Core.Option.{none, some, some-injective}
use mathlib.Core.Option as maybe
use lib.ListN.{get_elem?}
use prog.Atomic.{either}
use Rattle.atomic_table.specs.Table.{State, Me, Act, keeps, takes, gives, Valid, Allows, stepped, carried_after, opening}
use Rattle.atomic_table.proofs.Lists.{set_here, exchanged}
use Rattle.tm_base.specs.declared.events.Entry.{Entry}
use Rattle.tm_base.specs.Histories.{Label}
use Rattle.tm_base.specs.Orders.{of_thread}
use Rattle.tm_turn.specs.declared.views.LocalView.{LocalView}
use Rattle.tm_turn.specs.Prefixes.{StartsWith}
use Rattle.tm_turn.specs.Rule.{IsConsistent, IsHolder, IsHome, IsHeld, FollowsRule}
use Rattle.tm_turn.specs.LocalViews.{newcomer, taking, missing, noting, giving}
use Rattle.tm_turn.specs.TurnSteps.{Tries, Notes, Gives}
use Rattle.tm_turn.proofs.PrefixesLemmas.{clash, StartsWith-self, StartsWith-snoc, of_thread-other}
use Rattle.tm_turn.proofs.RuleLemmas.{its_turn, still_held, moved}

-- the two words of a table, after a write into one of them
pub set_first : (ws : List ℕ) (n : ℕ) → length ws ≡ 2 → slice_index (set ws 0 n) 0 ≡ n
set_first [] n wide = absurd (omega arith)
set_first (w ∷ ws) n wide = refl

pub set_second : (ws : List ℕ) (n : ℕ) → length ws ≡ 2 → slice_index (set ws 1 n) 1 ≡ n
set_second [] n wide = absurd (omega arith)
set_second (w ∷ []) n wide = absurd (omega arith)
set_second (w ∷ x ∷ ws) n wide = refl

pub first_kept : (ws : List ℕ) (n : ℕ) → slice_index (set ws 1 n) 0 ≡ slice_index ws 0
first_kept [] n = refl
first_kept (w ∷ ws) n = refl

pub second_kept : (ws : List ℕ) (n : ℕ) → slice_index (set ws 0 n) 1 ≡ slice_index ws 1
second_kept [] n = refl
second_kept (w ∷ ws) n = refl

pub within : {A : Type 0} (l : List A) (i : ℕ) (a : A) → get_elem? l i ≡ some a → i < length l
within [] i a h = absurd (maybe.some-ne-none a (sym h))
within (x ∷ xs) zero a h = omega arith
within (x ∷ xs) (suc i) a h = let k : i < length xs = within xs i a h in omega arith

alone : {A : Type 0} (a b : A) (j : ℕ) → get_elem? (a ∷ []) j ≡ some b → (j ≡ 0) × (a ≡ b)
alone a b zero h = (refl, some-injective a b h)
alone a b (suc j) h = absurd (maybe.some-ne-none b (sym h))

module _ {V : Type 0} (entries : V → List Entry) (label : V → Label) (key : Label) where
  abbrev Rule : State (Option V) LocalView → Type 0
  Rule = FollowsRule entries label key

  -- where the word is 0 the value is at home
  free_turn : (s : State (Option V) LocalView) (history : List Entry) (holder : Option ℕ) → IsHeld entries label key s history holder → slice_index s.words 0 ≡ 0
      → (holder ≡ None) × IsHome entries label key s.homes history
  free_turn s history None held unheld = (refl, held.1)
  free_turn s history (Some j) held unheld = let named = held.2.named in absurd (omega arith)

  -- where it isn't, one seat holds the turn
  taken_turn : (s : State (Option V) LocalView) (history : List Entry) (holder : Option ℕ) → IsHeld entries label key s history holder → slice_index s.words 0 ≢ 0
      → (j : ℕ) × (v : LocalView) × (get_elem? s.views j ≡ some v) × IsHolder (slice_index s.words 0) history v
  taken_turn s history None held some_word = absurd (some_word held.0)
  taken_turn s history (Some j) held some_word = (j, held.0, held.1, held.2)

  module _ (slots id : ℕ) (v : LocalView) (lives : v.lives ≡ true) (knows : v.knows ≡ true) (still : v.keeps ≡ false) where
    module _ (idle : v.holds ≡ false) (word : ℕ) (is_word : word ≡ suc v.number) where
      module _ (s : State (Option V) LocalView) (r : FollowsRule entries label key s) (at : get_elem? s.views id ≡ some v) where
        abbrev Next : ℕ → Type 0
        Next x = (w : LocalView) × (a : Act (Option V)) × Valid s.homes [] a × FollowsRule entries label key (stepped s 0 x id [] w a) × Tries entries label (v, []) (slice_index s.words 0) (w, carried_after [] a)

        wins : slice_index s.words 0 ≡ 0 → Next word
        wins unheld =
            let free = free_turn s r.history r.holder r.turn unheld in
            let home = free.1 in
            let seated = r.each id v at in
            let live = seated.live lives in
            let w : LocalView = taking v r.history in
            let words : List ℕ = set s.words 0 word in
            let same : r.history ≡ entries home.value = sym home.list in (
              w,
              takes 0 (Some home.value),
              home.home,
              moved entries label key s r id v at lives knows r.history true (suc v.turns) v.misses v.missed v.keeps v.first v.second v.joined r.history (Some id)
                  (record {
                    grows = StartsWith-self r.history;
                    others = λ n _. refl;
                    begins = StartsWith-self r.history;
                    mine = refl;
                    theirs = λ _ n _. refl;
                    holds_it = λ _. refl;
                    leaves_it = λ j _ e. absurd (cc (free.0, e));
                    keeps_none = still;
                  })
                  words (set s.homes 0 none) (length-set s.words 0 word ∙ r.wide) (second_kept s.words word ∙ r.count)
                  (w, set_here s.views id w (within s.views id v at), record { holds = refl; knows = knows; lives = lives; whole = refl; named = set_first s.words word r.wide ∙ is_word }),
              (
                (λ _. record {
                  value = home.value;
                  took = refl;
                  view = ap (taking v) same;
                  same_label = home.same_label ∙ sym (seated.label knows);
                  begins = subst (λ (l : List Entry). StartsWith l v.seen) same (seated.begins knows);
                  mine = ap (λ (l : List Entry). of_thread l v.number) (sym same) ∙ live.mine;
                }),
                λ other. absurd (other unheld),
              ),
            )

        loses : slice_index s.words 0 ≢ 0 → Next (slice_index s.words 0)
        loses some_word =
            let n : ℕ = slice_index s.words 0 in
            let taken = taken_turn s r.history r.holder r.turn some_word in
            let u : LocalView = taken.1 in
            let seated = r.each id v at in
            let live = seated.live lives in
            let other_live = (r.each taken.0 u taken.2).live taken.3.lives in
            let named = taken.3.named in
            let w : LocalView = missing v n in
            let words : List ℕ = set s.words 0 n in
            let same_word : slice_index words 0 ≡ n = set_first s.words n r.wide in
            let is_it : u.number ≡ v.number → u ≡ v =
            λ e. some-injective u v (sym taken.2 ∙ ap (get_elem? s.views) (r.apart taken.0 id u v taken.2 at taken.3.lives lives e) ∙ at) in (
              w,
              keeps,
              tt,
              moved entries label key s r id v at lives knows v.seen v.holds v.turns (suc v.misses) n v.keeps v.first v.second v.joined r.history r.holder
                  (record {
                    grows = StartsWith-self r.history;
                    others = λ n _. refl;
                    begins = seated.begins knows;
                    mine = live.mine;
                    theirs = λ none n h. (live.root none).theirs n h;
                    holds_it = λ h. absurd (clash v.holds h idle);
                    leaves_it = λ j _ e. e;
                    keeps_none = still;
                  })
                  words s.homes (length-set s.words 0 n ∙ r.wide) (second_kept s.words n ∙ r.count)
                  (still_held entries label key s.words words s.homes s.views r.history id v w r.holder at idle same_word r.turn),
              (
                λ unheld. absurd (some_word unheld),
                λ _. record {
                  took = refl;
                  view = refl;
                  other = λ e. let same : u.number ≡ v.number = omega arith in clash v.holds (ap (λ (x : LocalView). x.holds) (sym (is_it same)) ∙ taken.3.holds) idle;
                  small = let low = other_live.small in omega arith;
                },
              ),
            )

      tries_empty : Allows Rule slots id (v, []) 0 (λ n. either (eqb n 0) word n) (λ found after. Tries entries label (v, []) found after)
      tries_empty s r wide at small = exchanged (slice_index s.words 0) 0 word (Next s r at) (wins s r at) (loses s r at)

      pub tries : (c : List (ℕ × Option V)) → c ≡ [] → Allows Rule slots id (v, c) 0 (λ n. either (eqb n 0) word n) (λ found after. Tries entries label (v, c) found after)
      tries c empty = subst (λ (l : List (ℕ × Option V)). Allows Rule slots id (v, l) 0 (λ n. either (eqb n 0) word n) (λ found after. Tries entries label (v, l) found after)) (sym empty) tries_empty

    module _ (holds : v.holds ≡ true) where
      pub notes : (c : List (ℕ × Option V)) (e : Entry) → e.thread ≡ v.number → suc (length v.seen) < 2 ^ 64
          → Allows Rule slots id (v, c) 1 (λ n. (n + 1) % 2 ^ 64) (λ _ after. Notes e (v, c) after)
      notes c e own short s r wide at small =
          let turn = its_turn entries label key s r id v at holds in
          let seated = r.each id v at in
          let live = seated.live lives in
          let w : LocalView = noting v e in
          let n : ℕ = (slice_index s.words 1 + 1) % 2 ^ 64 in
          let words : List ℕ = set s.words 1 n in
          let history : List Entry = v.seen ++ e ∷ [] in
          let whole : v.seen ≡ r.history = turn.whole in
          let counted : slice_index s.words 1 ≡ length v.seen = r.count ∙ ap length (sym whole) in
          let others : (k : ℕ) → k ≢ v.number → of_thread history k ≡ of_thread r.history k =
          λ k other. of_thread-other v.seen e k (λ same. other (sym same ∙ own)) ∙ ap (λ (l : List Entry). of_thread l k) whole in (
            w,
            keeps,
            tt,
            moved entries label key s r id v at lives knows history v.holds v.turns v.misses v.missed v.keeps v.first v.second v.joined history (Some id)
                (record {
                  grows = subst (StartsWith history) whole (StartsWith-snoc v.seen e);
                  others = others;
                  begins = StartsWith-self history;
                  mine = refl;
                  theirs = λ _ n _. refl;
                  holds_it = λ _. refl;
                  leaves_it = λ j _ e. sym (seated.holds holds) ∙ e;
                  keeps_none = still;
                })
                words s.homes (length-set s.words 1 n ∙ r.wide)
                (set_second s.words n r.wide ∙ omega (arith, length-append v.seen (e ∷ [])))
                (w, set_here s.views id w (within s.views id v at), record { holds = holds; knows = knows; lives = lives; whole = refl; named = first_kept s.words n ∙ turn.named }),
            (refl, refl),
          )

      gives_home : (x : V) → slots ≡ 1 → entries x ≡ v.seen → label x ≡ v.label
          → Allows Rule slots id (v, (0, Some x) ∷ []) 0 (λ _. 0) (λ _ after. Gives (v, (0, Some x) ∷ []) after)
      gives_home x one list same s r wide at small =
          let turn = its_turn entries label key s r id v at holds in
          let seated = r.each id v at in
          let live = seated.live lives in
          let w : LocalView = giving v in
          let words : List ℕ = set s.words 0 0 in (
            w,
            gives,
            tt,
            moved entries label key s r id v at lives knows v.seen false v.turns v.misses v.missed v.keeps v.first v.second v.joined r.history None
                (record {
                  grows = StartsWith-self r.history;
                  others = λ n _. refl;
                  begins = seated.begins knows;
                  mine = live.mine;
                  theirs = λ none n h. (live.root none).theirs n h;
                  holds_it = λ h. absurd (clash false h refl);
                  leaves_it = λ j other e. let mine = seated.holds holds in absurd (other (cc (mine, e)));
                  keeps_none = still;
                })
                words (set s.homes 0 (some (Some x))) (length-set s.words 0 0 ∙ r.wide) (second_kept s.words 0 ∙ r.count)
                (set_first s.words 0 r.wide, record { value = x; home = set_here s.homes 0 (some (Some x)) (omega arith); list = list ∙ turn.whole; same_label = same ∙ seated.label knows }),
            (refl, refl),
          )

      pub gives_back : (x : V) (m : Me (Option V) LocalView) → m ≡ (v, (0, Some x) ∷ []) → slots ≡ 1 → entries x ≡ v.seen → label x ≡ v.label
          → Allows Rule slots id m 0 (λ _. 0) (λ _ after. Gives m after)
      gives_back x m is one list same = subst (λ (n : Me (Option V) LocalView). Allows Rule slots id n 0 (λ _. 0) (λ _ after. Gives n after)) (sym is) (gives_home x one list same)

  pub opens : (value : V) → entries value ≡ [] → label value ≡ key → Rule (opening (0 ∷ 0 ∷ []) (Some value ∷ []) (newcomer key 0 []))
  opens value empty same =
      let v : LocalView = newcomer key 0 [] in
      let seated : IsConsistent key [] [] [] None 0 v =
      record {
        label = λ _. refl;
        begins = λ _. StartsWith-self [];
        live = λ _. record {
          small = omega arith;
          mine = refl;
          root = λ _. record { given_all = refl; absorbed_all = refl; theirs = λ n h. refl };
          other = λ other. absurd (other refl);
        };
        holds = λ h. absurd (clash false h refl);
        joined = λ h. absurd (clash false h refl);
      } in
      record {
        history = [];
        given = [];
        absorbed = [];
        holder = None;
        wide = refl;
        count = refl;
        turn = (refl, record { value = value; home = refl; list = empty; same_label = same });
        each = λ j u h. let is = alone v u j h in subst (λ (y : ℕ × LocalView). IsConsistent key [] [] [] None y.0 y.1) (λ k. (sym is.0 k, is.1 k)) seated;
        apart = λ i j u w there here _ _ _. (alone v u i there).0 ∙ sym (alone v w j here).0;
        given_first = λ n h. absurd (clash false h refl);
        strangers = λ n _ _. refl;
      }
