-- What a plain merger does, and how far a plain merger has come in settling.
use Rattle.std.proofs.Common.{◌≡◌, ℕ, ◌+◌, Bool, List, [], ◌∷◌, ◌++◌, find, Some, None, slice_get, remove, length, length-append, refl, sym, ap, ◌∙◌, subst, arith}
use Rattle.std.specs.Option.{option_or}
use Rattle.std.specs.List.Sorted.{IsPermutation}
use Rattle.std.proofs.lemmas.List.Folds.{find-append}
use Rattle.std.proofs.lemmas.Option.{get_or_from_slice_get, slice_get_within}
use Rattle.std.proofs.lemmas.List.Sorted.{length_permutation, IsPermutation-sym, IsPermutation-to_front, IsPermutation-remove}
use Rattle.tm_base.specs.declared.events.Entry.{Entry}
use Rattle.tm_base.specs.Runs.{Leads}
use Rattle.tm_merge.specs.MergerViews.{MergerView}
use Rattle.tm_merge.specs.PlainCandidates.{IsNextAt, ShowsOne}
use Rattle.tm_merge.specs.Showing.{IsNext, Joins, Shows}

-- From the first view events were shown, each time the next one.
pub record HasShown (v w : MergerView) : Type 0 where
  pub news : List Entry
  pub steps : Leads Shows v news w
  pub left : length news + length w.held ≡ length v.held

pub shows_more : (u v w : MergerView) → HasShown u v → ShowsOne v w → HasShown u w
shows_more u v w way one =
    let fewer = length_permutation v.held (one.entry ∷ w.held) one.shows.held in
    let longer = length-append way.news (one.entry ∷ []) in
    let left = way.left in
    record { news = way.news ++ one.entry ∷ []; steps = snoc way.news u way.steps; left = omega (arith, fewer, longer, left) }
  where
    snoc : (es : List Entry) (x : MergerView) → Leads Shows x es v → Leads Shows x (es ++ one.entry ∷ []) w
    snoc [] x run = (w, subst (λ y. Shows y one.entry w) run one.shows, refl)
    snoc (d ∷ es) x run = (run.0, run.1, snoc es run.0 run.2)

-- what is found in two lists, one behind the other
pub find-in_first : (p : Entry → Bool) (xs ys : List Entry) (e : Entry) → find p xs ≡ Some e → find p (xs ++ ys) ≡ Some e
find-in_first p xs ys e h = find-append p xs ys ∙ ap (λ o. option_or o (find p ys)) h

pub find-in_second : (p : Entry → Bool) (xs ys : List Entry) → find p xs ≡ None → find p (xs ++ ys) ≡ find p ys
find-in_second p xs ys h = find-append p xs ys ∙ ap (λ o. option_or o (find p ys)) h

-- an event arrives at the end of those that are held
pub joins-end : (v : MergerView) (e : Entry) (w : MergerView) → w.threads ≡ v.threads → w.objects ≡ v.objects → w.shown ≡ v.shown → w.held ≡ v.held ++ e ∷ [] → Joins v e w
joins-end v e w threads objects shown held = record {
  same_threads = threads;
  same_objects = objects;
  shown = shown;
  held = subst (IsPermutation (e ∷ v.held)) (sym held) (IsPermutation-sym (v.held ++ e ∷ []) (e ∷ v.held) (IsPermutation-to_front v.held e));
}

-- the next event is taken out of those that are held
pub shows-removed : (v : MergerView) (i : ℕ) (x : Entry) (w : MergerView) → IsNextAt v i → slice_get v.held i ≡ Some x → w.threads ≡ v.threads → w.objects ≡ v.objects → w.shown ≡ v.shown ++ x ∷ [] → w.held ≡ remove v.held i → ShowsOne v w
shows-removed v i x w at there threads objects shown held =
    let own = at.there in
    let same : at.entry ≡ x = cc in
    record {
      entry = x;
      shows = record {
        next = subst (IsNext v) same at.next;
        same_threads = threads;
        same_objects = objects;
        shown = shown;
        held = subst (λ es. IsPermutation v.held (x ∷ es)) (sym held) (IsPermutation-remove v.held i x (slice_get_within v.held i x there) (sym (get_or_from_slice_get v.held i x x there)));
      };
    }
