use Rattle.std.proofs.Common.{◌≡◌, ℕ, [], ◌∷◌, ◌++◌, length, length-append, map, take, IfSome, arith, ap, sym, ◌∙◌, subst}
use Rattle.std.proofs.lemmas.List.{map-append}
use Rattle.tm_base.specs.declared.kinds.Kind.{Kind}
use Rattle.tm_base.specs.Machines.{fresh}
use Rattle.tm_book.specs.Books.{BookView}
use Rattle.tm_book.specs.Made.{CanMake}
use Rattle.tm_text.specs.declared.exercises.Declaration.{Declaration}
use Rattle.tm_replay.specs.JointStates.{ObjectState, first_object_state}
use Rattle.tm_session.specs.Noting.{object_state_of}
use Rattle.tm_session.proofs.Growing.{map-take_more}
use Rattle.tm_session.proofs.BooksLemmas.{fresh-more}
use Rattle.tm_session.proofs.Making.{can_make}
use Rattle.tm_session.proofs.DeclarationLemmas.{declared_at}
use Rattle.tm_session.proofs.alone_runs.make_books.Goals as goal

pub make-requires : goal.make-requires
make-requires c =
    let x = c.args.exercise.now in
    let o = c.loop-object.object in
    let d = declared_at x o (omega (arith, c.loop-object-test.true, c.objects-object-end.ensures.value)) in
    let is : c.kind.result ≡ d.0.kind = subst (λ s. IfSome s (λ (e : Declaration). c.kind.result ≡ e.kind)) d.1 c.kind.ensures in
    subst (λ (n : ℕ). CanMake c.kind.result n) (sym c.threads-threads.ensures.value)
    (subst (λ (k : Kind). CanMake k (length x.programs)) (sym is) (can_make x c.threads-threads.ensures.well_formed o d.0 d.1))

-- a book without events is its object's first place
first : (b : BookView) (threads : ℕ) (k : Kind) → b.machine ≡ fresh k threads → b.entries ≡ [] → b.stamp ≡ 0 → object_state_of b ≡ first_object_state threads k
first b threads k machine entries stamp =
    ap (λ h. let p : ObjectState = record { view = h; at = length b.entries; stamp = b.stamp } in p) machine
    ∙ ap (λ es. let p : ObjectState = record { view = fresh k threads; at = length es; stamp = b.stamp } in p) entries
    ∙ ap (λ n. let p : ObjectState = record { view = fresh k threads; at = 0; stamp = n } in p) stamp

pub loop-object-preserved : goal.loop-object-preserved
loop-object-preserved c =
    let x = c.args.exercise.now in
    let o = c.loop-object.object in
    let f = λ (d : Declaration). first_object_state (length x.programs) d.kind in
    let d = declared_at x o (omega (arith, c.loop-object-test.true, c.objects-object-end.ensures.value)) in
    let is : c.kind.result ≡ d.0.kind = subst (λ s. IfSome s (λ (e : Declaration). c.kind.result ≡ e.kind)) d.1 c.kind.ensures in
    let b = c.in_ok-make.field-0 in
    let m = c.in_ok-make.ensures in
    let made : object_state_of b ≡ f d.0 = first b c.threads-threads.result c.kind.result m.machine m.entries m.stamp ∙ ap (λ n. first_object_state n c.kind.result) c.threads-threads.ensures.value ∙ ap (first_object_state (length x.programs)) is in
    let items = c.in_ok-push.ensures.items in
    let old = c.loop-object.invariant in
    record {
      places = ap (map object_state_of) items ∙ map-append object_state_of c.loop-object.books.items (b ∷ []) ∙ ap (λ l. l ++ object_state_of b ∷ []) old.places
          ∙ ap (λ p. map f (take o x.objects) ++ p ∷ []) made ∙ sym (map-take_more f x.objects o d.0 d.1);
      fresh = rw items (fresh-more c.loop-object.books.items b old.fresh (m.object ∙ sym old.count) m.entries);
      count = omega (arith, ap length items, length-append c.loop-object.books.items (b ∷ []), old.count);
    }
