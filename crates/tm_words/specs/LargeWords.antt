-- What the words after `large` spell: the number that an exercise is drawn from.
use Rattle.std.specs.Prelude.{◌≡◌, ℕ, ◌<◌, ◌^◌, List, [], ◌∷◌}
use Rattle.tm_words.specs.Numbers.{IsNumber}

-- The words are one word, the digits of this number, which has 64 bits.
pub record SpellsNumber (words : List (List ℕ)) (n : ℕ) : Type 0 where
  pub digits : List ℕ
  pub written : words ≡ digits ∷ []
  pub value : IsNumber digits n
  pub bound : n < 2 ^ 64
