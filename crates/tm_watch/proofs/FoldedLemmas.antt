-- Entries told one after another leave the fold of each watcher.
use Rattle.std.proofs.Common.{◌≡◌, Bool, true, false, cond, List, [], ◌∷◌, map, filter, refl, ap, sym, ◌∙◌}
use Rattle.tm_base.specs.declared.events.Entry.{Entry}
use Rattle.tm_watch.specs.Watchers.{Watch, told, after_entry, after_entries, stays_at, stays_through}
use Rattle.tm_watch.proofs.TellingLemmas.{map-cond}
use Rattle.tm_watch.specs.WatchersFolded.{WatchersAreFolded}

-- No entries leave every watcher as it is.
unchanged : (ws : List Watch) → ws ≡ map (λ w. after_entries w []) (filter (λ w. stays_through w []) ws)
unchanged [] = refl
unchanged (w ∷ ws) = ap (λ rest. w ∷ rest) (unchanged ws)

-- An element that may be taken away, and a filter that may drop it: it is kept by both or by none.
map-filter-cond : {X Y : Type 0} (f : X → Y) (p : X → Bool) (b : Bool) (x : X) (xs : List X) →
    map f (filter p (cond b (x ∷ xs) xs)) ≡ cond (cond b (p x) false) (f x ∷ map f (filter p xs)) (map f (filter p xs))
map-filter-cond f p true x xs = map-cond f (p x) x (filter p xs)
map-filter-cond f p false x xs = refl

-- The fold over those that the first entry leaves is the fold over one entry more at the front.
told-folded : (ws : List Watch) (e : Entry) (es : List Entry) →
    map (λ w. after_entries w es) (filter (λ w. stays_through w es) (told ws e))
    ≡ map (λ w. after_entries w (e ∷ es)) (filter (λ w. stays_through w (e ∷ es)) ws)
told-folded [] e es = refl
told-folded (w ∷ ws) e es =
    map-filter-cond (λ v. after_entries v es) (λ v. stays_through v es) (stays_at w e) (after_entry w e) (told ws e)
    ∙ ap (λ rest. cond (stays_through w (e ∷ es)) (after_entries w (e ∷ es) ∷ rest) rest) (told-folded ws e es)
    ∙ sym (map-cond (λ v. after_entries v (e ∷ es)) (stays_through w (e ∷ es)) w (filter (λ v. stays_through v (e ∷ es)) ws))

pub told_all-folded : WatchersAreFolded
told_all-folded ws [] = unchanged ws
told_all-folded ws (e ∷ es) = told_all-folded (told ws e) es ∙ told-folded ws e es
