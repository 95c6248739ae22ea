use Rattle.std.proofs.Common.{◌≡◌, ℕ, [], ◌∷◌, ◌++◌, length, map, take, IfSome, arith, ap, sym, ◌∙◌, subst}
use Rattle.tm_base.specs.declared.kinds.Kind.{Kind}
use Rattle.tm_book.specs.Made.{CanMake}
use Rattle.tm_text.specs.declared.exercises.Declaration.{Declaration}
use Rattle.tm_replay.specs.JointStates.{first_object_state}
use Rattle.tm_replay.proofs.SliceLemmas.{found_at}
use Rattle.tm_joint.proofs.Making.{can_make, map-take_more}
use Rattle.tm_joint.proofs.joints.make_objects.Goals as goal

pub make-requires : goal.make-requires
make-requires c =
    let x = c.args.exercise.now in
    let o = c.loop-object.object in
    let d = found_at x.objects o (omega (arith, c.loop-object-test.true, c.objects-object-end.ensures.value)) in
    let is : c.kind.result ≡ d.0.kind = subst (λ s. IfSome s (λ (e : Declaration). c.kind.result ≡ e.kind)) d.1 c.kind.ensures in
    subst (λ (n : ℕ). CanMake c.kind.result n) (sym c.threads-threads.ensures.value)
    (subst (λ (k : Kind). CanMake k (length x.programs)) (sym is) (can_make x c.threads-threads.ensures.well_formed o d.0 d.1))

pub loop-object-preserved : goal.loop-object-preserved
loop-object-preserved c =
    let x = c.args.exercise.now in
    let o = c.loop-object.object in
    let f = λ (d : Declaration). first_object_state (length x.programs) d.kind in
    let d = found_at x.objects o (omega (arith, c.loop-object-test.true, c.objects-object-end.ensures.value)) in
    let is : c.kind.result ≡ d.0.kind = subst (λ s. IfSome s (λ (e : Declaration). c.kind.result ≡ e.kind)) d.1 c.kind.ensures in
    let b = c.in_ok-make.field-0 in
    let made : b ≡ f d.0 = c.in_ok-make.ensures ∙ ap (λ n. first_object_state n c.kind.result) c.threads-threads.ensures.value ∙ ap (first_object_state (length x.programs)) is in
    c.in_ok-push.ensures.items ∙ ap (λ l. l ++ b ∷ []) c.loop-object.invariant
    ∙ ap (λ p. map f (take o x.objects) ++ p ∷ []) made ∙ sym (map-take_more f x.objects o d.0 d.1)
