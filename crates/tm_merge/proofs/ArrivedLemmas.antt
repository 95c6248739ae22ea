-- All events that arrived, as one arrives and as events are shown.
use Rattle.std.proofs.Common.{List, [], ◌∷◌, ◌++◌, sym, subst}
use Rattle.std.specs.List.Sorted.{IsPermutation}
use Rattle.std.proofs.lemmas.List.{append_assoc}
use Rattle.std.proofs.lemmas.List.Sorted.{IsPermutation-refl, IsPermutation-sym, IsPermutation-trans, IsPermutation-middle, IsPermutation-append_right}
use Rattle.tm_base.specs.declared.events.Entry.{Entry}
use Rattle.tm_base.specs.Runs.{Leads}
use Rattle.tm_merge.specs.MergerViews.{MergerView, arrived}
use Rattle.tm_merge.specs.Showing.{Joins, Shows}

pub arrived-joins : (v : MergerView) (e : Entry) (w : MergerView) → Joins v e w → IsPermutation (e ∷ arrived v) (arrived w)
arrived-joins v e w joins =
    let inside : IsPermutation (e ∷ arrived v) (v.shown ++ e ∷ v.held) = IsPermutation-sym (v.shown ++ e ∷ v.held) (e ∷ arrived v) (IsPermutation-middle v.shown e v.held) in
    let held : IsPermutation (v.shown ++ e ∷ v.held) (v.shown ++ w.held) = IsPermutation-append_right v.shown (e ∷ v.held) w.held joins.held in
    subst (λ es. IsPermutation (e ∷ arrived v) (es ++ w.held)) (sym joins.shown) (IsPermutation-trans (e ∷ arrived v) (v.shown ++ e ∷ v.held) (v.shown ++ w.held) inside held)

pub arrived-shows : (v : MergerView) (e : Entry) (w : MergerView) → Shows v e w → IsPermutation (arrived v) (arrived w)
arrived-shows v e w shows =
    let held : IsPermutation (arrived v) (v.shown ++ e ∷ w.held) = IsPermutation-append_right v.shown v.held (e ∷ w.held) shows.held in
    let moved : IsPermutation (arrived v) ((v.shown ++ e ∷ []) ++ w.held) = subst (IsPermutation (arrived v)) (sym (append_assoc v.shown (e ∷ []) w.held)) held in
    subst (λ es. IsPermutation (arrived v) (es ++ w.held)) (sym shows.shown) moved

arrived-leads : (es : List Entry) (v w : MergerView) → Leads Shows v es w → IsPermutation (arrived v) (arrived w)
arrived-leads [] v w run = subst (λ u. IsPermutation (arrived v) (arrived u)) (sym run) (IsPermutation-refl (arrived v))
arrived-leads (e ∷ es) v w run = IsPermutation-trans (arrived v) (arrived run.0) (arrived w) (arrived-shows v e run.0 run.1) (arrived-leads es run.0 w run.2)

pub arrived-settles : (v w : MergerView) (news : List Entry) → Leads Shows v news w → IsPermutation (arrived v) (arrived w)
arrived-settles v w news steps = arrived-leads news v w steps
