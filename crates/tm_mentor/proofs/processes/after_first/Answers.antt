use Rattle.std.proofs.Common.{◌≡◌, ◌<◌, List, [], ◌∷◌, ◌++◌, length, drop, Option, Some, None, IsSome, refl, sym, ap, ◌∙◌, append-nil, arith}
use Rattle.std.specs.Option.{option_to_list}
use Rattle.std.specs.Vec.Iter.{into_iter_items}
use Rattle.tm_mentor.proofs.processes.after_first.Goals as goal

emptied : {A : Type 0} (xs : List A) → length xs ≡ 0 → xs ≡ []
emptied [] none = refl
emptied (x ∷ xs) none = absurd (omega arith)

-- what is left once the first was taken, if there was one
after_one : {A : Type 0} (xs ys : List A) (first : Option A) → xs ≡ option_to_list first ++ ys → (0 < length xs → IsSome first) → ys ≡ drop 1 xs
after_one xs ys (Some x) parts some = sym (ap (drop 1) parts)
after_one [] ys None parts some = sym parts
after_one {A = A} (x ∷ xs) ys None parts some = let never : IsSome {T = A} None = some (omega arith) in cc

pub returns : goal.returns
returns c =
    let none : into_iter_items c.loop-word.word-iterator ≡ [] = emptied _ (omega (arith, c.in-None.ensures.steps, c.loop-word.word-iterator.rest.ok.0)) in
    let all : c.loop-word.words.items ≡ into_iter_items c.into_iter-word-iterator.result =
    sym (append-nil c.loop-word.words.items) ∙ ap (λ l. c.loop-word.words.items ++ l) (sym none) ∙ c.loop-word.invariant in
    let rest : into_iter_items c.into_iter-word-iterator.result ≡ into_iter_items c.next-name.new.self = ap into_iter_items c.into_iter-word-iterator.ensures.into_iter_gives in
    all ∙ rest ∙ after_one _ _ c.next-name.result c.next-name.ensures.items (λ some. c.next-name.ensures.variant.1 (omega (arith, c.args.arguments.rest.ok.0)))
