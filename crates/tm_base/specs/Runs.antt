-- Steps, one after another.
use Rattle.std.specs.Prelude.{◌≡◌, List, [], ◌∷◌}

-- From `p` the steps of the relation, one for each item in turn, lead to `q`.
abbrev pub Leads : {S E : Type 0} → (S → E → S → Type 0) → S → List E → S → Type 0
Leads step p [] q = q ≡ p
Leads {S} step p (e ∷ es) q = (mid : S) × step p e mid × Leads step mid es q
