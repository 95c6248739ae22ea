-- Lines and words are cut where they were joined.
use Rattle.std.proofs.Common.{◌≡◌, ℕ, ◌<◌, Bool, true, false, ◌&&◌, ◌==◌, nat_le, List, [], ◌∷◌, ◌++◌, length, map, flat_map, refl, ap, ◌∙◌, arith}
use Rattle.std.specs.List.{list_all}
use Rattle.std.proofs.lemmas.Bool.{and_from, and_parts, cond-false}
use Rattle.std.proofs.lemmas.Bool.Decides.{nat_tests}
use Rattle.std.proofs.lemmas.List.{append-nil}
use Rattle.tm_lines.specs.Lines.{is_blank, is_printed, lines_of, put_first, without_cr, words_of}
use Rattle.tm_lines.specs.TextFaults.{text_lines}

-- a byte that prints and is no blank
abbrev pub is_graph : ℕ → Bool
is_graph b = nat_le 33 b && nat_le b 126

-- a word of such bytes, at least one
pub record Solid (w : List ℕ) : Type 0 where
  pub some : 0 < length w
  pub graph : list_all is_graph w ≡ true

abbrev pub AllSolid : List (List ℕ) → Type 0
AllSolid [] = Unit {0}
AllSolid (w ∷ ws) = Solid w × AllSolid ws

-- words with one space between
abbrev pub spaced : List (List ℕ) → List ℕ
spaced ws = flat_map (λ w. 32 ∷ w) ws

graph-blank : (b : ℕ) → is_graph b ≡ true → is_blank b ≡ false
graph-blank b h = grind (arith, nat_tests)

graph-printed : (b : ℕ) → is_graph b ≡ true → is_printed b ≡ true
graph-printed b h = grind (arith, nat_tests)

printed-lf : (b : ℕ) → is_printed b ≡ true → b == 10 ≡ false
printed-lf b h = grind (arith, nat_tests)

printed-cr : (b : ℕ) → is_printed b ≡ true → b == 13 ≡ false
printed-cr b h = grind (arith, nat_tests)

-- a line that ends in an LF is the first
lines_of-line : (line rest : List ℕ) → list_all is_printed line ≡ true → lines_of (line ++ 10 ∷ rest) ≡ line ∷ lines_of rest
lines_of-line [] rest h = refl
lines_of-line (b ∷ line) rest h =
    let parts = and_parts (is_printed b) (list_all is_printed line) h in
    cond-false (b == 10) _ _ (printed-lf b parts.0) ∙ ap (put_first b) (lines_of-line line rest parts.1)

without_cr-printed : (line : List ℕ) → list_all is_printed line ≡ true → without_cr line ≡ line
without_cr-printed [] h = refl
without_cr-printed (b ∷ []) h = cond-false (b == 13) [] (b ∷ []) (printed-cr b (and_parts (is_printed b) true h).0)
without_cr-printed (b ∷ c ∷ line) h = ap (λ l. b ∷ l) (without_cr-printed (c ∷ line) (and_parts (is_printed b) (list_all is_printed (c ∷ line)) h).1)

pub line_cut : (line rest : List ℕ) → list_all is_printed line ≡ true → text_lines (line ++ 10 ∷ rest) ≡ line ∷ text_lines rest
line_cut line rest h =
    ap (map without_cr) (lines_of-line line rest h) ∙ ap (λ l. l ∷ text_lines rest) (without_cr-printed line h)

-- a word at the end of a line, and one before a space
word_last : (b : ℕ) (bs : List ℕ) → list_all is_graph (b ∷ bs) ≡ true → words_of (b ∷ bs) ≡ (b ∷ bs) ∷ []
word_last b [] h = cond-false (is_blank b) _ _ (graph-blank b (and_parts (is_graph b) true h).0)
word_last b (c ∷ bs) h =
    let parts = and_parts (is_graph b) (list_all is_graph (c ∷ bs)) h in
    let next = and_parts (is_graph c) (list_all is_graph bs) parts.1 in
    cond-false (is_blank b) _ _ (graph-blank b parts.0) ∙ cond-false (is_blank c) _ _ (graph-blank c next.0) ∙ ap (put_first b) (word_last c bs parts.1)

word_first : (b : ℕ) (bs rest : List ℕ) → list_all is_graph (b ∷ bs) ≡ true → words_of ((b ∷ bs) ++ 32 ∷ rest) ≡ (b ∷ bs) ∷ words_of rest
word_first b [] rest h = cond-false (is_blank b) _ _ (graph-blank b (and_parts (is_graph b) true h).0)
word_first b (c ∷ bs) rest h =
    let parts = and_parts (is_graph b) (list_all is_graph (c ∷ bs)) h in
    let next = and_parts (is_graph c) (list_all is_graph bs) parts.1 in
    cond-false (is_blank b) _ _ (graph-blank b parts.0) ∙ cond-false (is_blank c) _ _ (graph-blank c next.0) ∙ ap (put_first b) (word_first c bs rest parts.1)

pub words_cut : (w : List ℕ) (ws : List (List ℕ)) → Solid w → AllSolid ws → words_of (w ++ spaced ws) ≡ w ∷ ws
words_cut [] ws solid all = absurd (let some = solid.some in omega arith)
words_cut (b ∷ bs) [] solid all = ap words_of (append-nil (b ∷ bs)) ∙ word_last b bs solid.graph
words_cut (b ∷ bs) (v ∷ ws) solid all = word_first b bs (v ++ spaced ws) solid.graph ∙ ap (λ us. (b ∷ bs) ∷ us) (words_cut v ws all.0 all.1)

-- and the line prints
printed-append : (xs ys : List ℕ) → list_all is_printed xs ≡ true → list_all is_printed ys ≡ true → list_all is_printed (xs ++ ys) ≡ true
printed-append [] ys h g = g
printed-append (x ∷ xs) ys h g =
    let parts = and_parts (is_printed x) (list_all is_printed xs) h in
    and_from (is_printed x) (list_all is_printed (xs ++ ys)) parts.0 (printed-append xs ys parts.1 g)

all_printed : (w : List ℕ) → list_all is_graph w ≡ true → list_all is_printed w ≡ true
all_printed [] h = refl
all_printed (b ∷ bs) h =
    let parts = and_parts (is_graph b) (list_all is_graph bs) h in
    and_from (is_printed b) (list_all is_printed bs) (graph-printed b parts.0) (all_printed bs parts.1)

spaced_printed : (ws : List (List ℕ)) → AllSolid ws → list_all is_printed (spaced ws) ≡ true
spaced_printed [] all = refl
spaced_printed (w ∷ ws) all = printed-append (32 ∷ w) (spaced ws) (all_printed w all.0.graph) (spaced_printed ws all.1)

pub line_printed : (w : List ℕ) (ws : List (List ℕ)) → Solid w → AllSolid ws → list_all is_printed (w ++ spaced ws) ≡ true
line_printed w ws solid all = printed-append w (spaced ws) (all_printed w solid.graph) (spaced_printed ws all)
