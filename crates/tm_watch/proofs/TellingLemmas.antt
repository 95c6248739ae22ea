-- What `retain_mut` leaves of a list of watchers, by what each call of its closure does.
use Rattle.std.proofs.Common.{◌≡◌, Bool, true, false, cond, List, [], ◌∷◌, map, refl, ap, subst, ◌∙◌}
use Rattle.std.specs.List.Retain.{RetainsInTurn}
use Rattle.tm_base.specs.declared.events.Entry.{Entry}
use Rattle.tm_watch.specs.Watchers.{Watch, after_entry, stays_at, told}

-- An element that may be left out of a list may be left out once the list is mapped.
pub map-cond : {X Y : Type 0} (f : X → Y) (b : Bool) (x : X) (xs : List X) →
    map f (cond b (x ∷ xs) xs) ≡ cond b (f x ∷ map f xs) (map f xs)
map-cond f true x xs = refl
map-cond f false x xs = refl

-- The closure changes each watcher by the entry and answers whether it stays; it is itself the same afterwards.
pub told-from_retain : {X F : Type 0} (watch : X → Watch) (e : Entry) (R : F → X → Bool → F → X → Type 0) (f : F)
    (step : (x : X) (b : Bool) (f' : F) (y : X) → R f x b f' y → (b ≡ stays_at (watch x) e) × (watch y ≡ after_entry (watch x) e) × (f' ≡ f))
    (xs ys : List X) → RetainsInTurn R f xs ys → map watch ys ≡ told (map watch xs) e
told-from_retain watch e R f step [] ys none = ap (map watch) none
told-from_retain watch e R f step (x ∷ xs) ys (b, f', y, called, zs, others, are) =
    let done = step x b f' y called in
    let rest = told-from_retain watch e R f step xs zs (subst (λ k. RetainsInTurn R k xs zs) done.2 others) in
    ap (map watch) are
    ∙ map-cond watch b y zs
    ∙ ap (λ stays. cond stays (watch y ∷ map watch zs) (map watch zs)) done.0
    ∙ ap (λ w. cond (stays_at (watch x) e) (w ∷ map watch zs) (map watch zs)) done.1
    ∙ ap (λ ws. cond (stays_at (watch x) e) (after_entry (watch x) e ∷ ws) ws) rest
