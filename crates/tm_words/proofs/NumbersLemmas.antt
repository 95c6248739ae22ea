-- What words that are numbers say word by word.
use Rattle.std.proofs.Common.{◌≡◌, ℕ, ◌<◌, zero, suc, List, [], ◌∷◌, length, get_or, Bor, ◌^◌, ◌≤◌, sym, subst, ◌∙◌, arith, refl}
use Rattle.std.proofs.lemmas.List.{get_or-map}
use Rattle.std.specs.List.{AllByRecursion}
use Rattle.clap.specs.Walk.{texts}
use Rattle.tm_words.specs.Numbers.{IsNumber}
use Rattle.tm_words.specs.MakeWords.{AreNumbers}

pub are-length : (ws : List (List ℕ)) (ns : List ℕ) → AreNumbers ws ns → length ws ≡ length ns
are-length [] [] are = refl
are-length [] (n ∷ ns) are = absurd are
are-length (w ∷ ws) [] are = absurd are
are-length (w ∷ ws) (n ∷ ns) are = let more = are-length ws ns are.1 in omega arith

pub are-at : (ws : List (List ℕ)) (ns : List ℕ) (i : ℕ) → AreNumbers ws ns → i < length ws → IsNumber (get_or ws i []) (get_or ns i 0)
are-at [] [] i are h = absurd (omega arith)
are-at [] (n ∷ ns) i are h = absurd are
are-at (w ∷ ws) [] i are h = absurd are
are-at (w ∷ ws) (n ∷ ns) zero are h = are.0
are-at (w ∷ ws) (n ∷ ns) (suc i) are h = are-at ws ns i are.1 (omega arith)

pub are-all : (ws : List (List ℕ)) (ns : List ℕ) → length ws ≡ length ns → ((i : ℕ) → i < length ws → IsNumber (get_or ws i []) (get_or ns i 0)) → AreNumbers ws ns
are-all [] [] e each = tt
are-all [] (n ∷ ns) e each = absurd (omega arith)
are-all (w ∷ ws) [] e each = absurd (omega arith)
are-all (w ∷ ws) (n ∷ ns) e each = (each 0 (omega arith), are-all ws ns (omega arith) (λ i h. each (suc i) (omega arith)))

pub are-one : (ws : List (List ℕ)) (ms ns : List ℕ) → AreNumbers ws ms → AreNumbers ws ns → ms ≡ ns
are-one [] [] [] a b = refl
are-one [] [] (n ∷ ns) a b = absurd b
are-one [] (m ∷ ms) ns a b = absurd a
are-one (w ∷ ws) [] ns a b = absurd a
are-one (w ∷ ws) (m ∷ ms) [] a b = absurd b
are-one (w ∷ ws) (m ∷ ms) (n ∷ ns) a b =
    let first : m ≡ n = sym a.0.1 ∙ b.0.1 in
    let more = are-one ws ms ns a.1 b.1 in
    (cc)

-- the text of one word
pub word-at : (ws : List (Bor (List ℕ))) (i : ℕ) (d : Bor (List ℕ)) → i < length ws → get_or (texts ws) i [] ≡ (get_or ws i d).now
word-at ws i d h = get_or-map (λ (t : Bor (List ℕ)). t.now) ws i d [] h

pub all-at : (ns : List ℕ) (i : ℕ) → AllByRecursion (λ n. n < 2 ^ 32) ns → i < length ns → get_or ns i 0 < 2 ^ 32
all-at [] i all h = absurd (omega arith)
all-at (n ∷ ns) zero all h = all.0
all-at (n ∷ ns) (suc i) all h = all-at ns i all.1 (omega arith)

-- a word that is no number below 2^32
pub none-are : (ws : List (List ℕ)) (i : ℕ) (bytes : List ℕ) → get_or ws i [] ≡ bytes → i < length ws → ((n : ℕ) → IsNumber bytes n → 2 ^ 32 ≤ n) → (ns : List ℕ) → AllByRecursion (λ n. n < 2 ^ 32) ns → ¬ AreNumbers ws ns
none-are ws i bytes e h none ns small are =
    let same = are-length ws ns are in
    let within : i < length ns = omega arith in
    let P : List ℕ → Type 0 = λ b. IsNumber b (get_or ns i 0) in
    let low = all-at ns i small within in
    let high = none (get_or ns i 0) (subst P e (are-at ws ns i are h)) in
    absurd (omega arith)
