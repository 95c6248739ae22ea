use Rattle.std.proofs.Common.{◌≡◌, ◌<◌, ◌≤◌, ◌+◌, ◌∷◌, drop, length, sym, ap, ◌∙◌, arith}
use Rattle.std.proofs.lemmas.List.{drop_all}
use Rattle.tm_lines.specs.Found.{found_by, or_found}
use Rattle.tm_lines.proofs.WordsLemmas.{drop-first, found_by-more, found_by-no_words, or_found-nothing, slots_of-few}
use Rattle.tm_lines.proofs.line_faults.found_by.Goals as goal

pub returns-then-words-i : goal.returns-then-words-i
returns-then-words-i c = λ ws are.
    let p = c.args.place.now in
    let f = c.args.first in
    let k = c.args.kind in
    let i = c.loop-i.i in
    let left = drop i c.slots-slots.result.now in
    let past : length ws ≤ i + 1 = omega (arith, are.count, c.if-words-i.true) in
    sym (or_found-nothing c.loop-i.found)
    ∙ ap (or_found c.loop-i.found) (sym (ap (found_by p f k left) (drop_all (i + 1) ws past) ∙ found_by-no_words p f k left))
    ∙ c.loop-i.invariant ws are ∙ ap (λ ss. found_by p f k ss (drop 1 ws)) c.slots-slots.ensures

pub loop-i-preserved : goal.loop-i-preserved
loop-i-preserved c = λ ws are.
    let p = c.args.place.now in
    let f = c.args.first in
    let k = c.args.kind in
    let i = c.loop-i.i in
    let ss = c.slots-slots.result.now in
    let found = c.loop-i.found in
    let word = c.at.result.now in
    let within : i < length ss = omega arith in
    let few : i + 1 < 4 = omega (arith, slots_of-few f, ap length c.slots-slots.ensures) in
    let there : i + 1 < length ws = omega (arith, are.count, c.if-words-i.false) in
    let cut : drop (i + 1) ws ≡ word ∷ drop (i + 1 + 1) ws = drop-first c.args.words.now ws (i + 1) word are c.at.ensures few there in
    let now = c.or-found.ensures ∙ ap (or_found found) c.found_in.ensures in
    ap (λ x. or_found x (found_by p f k (drop (i + 1) ss) (drop (i + 1 + 1) ws))) now
    ∙ found_by-more p f k found ss i _ word (drop (i + 1 + 1) ws) within
    ∙ ap (λ xs. or_found found (found_by p f k (drop i ss) xs)) (sym cut) ∙ c.loop-i.invariant ws are
