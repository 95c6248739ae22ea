-- Texts without a faulty line, line by line.
use Rattle.std.proofs.Common.{◌≡◌, ℕ, suc, Bool, true, false, cond, nat_lt, List, [], ◌∷◌, length, Option, Some, None, refl, ap}
use Rattle.std.specs.List.{find, list_all}
use Rattle.std.proofs.lemmas.Bool.{cond_both}
use Rattle.tm_base.specs.declared.kinds.Kind.{Kind}
use Rattle.tm_lines.specs.declared.faults.Fault.{Fault}
use Rattle.tm_lines.specs.declared.faults.Fault.TheVariants as fault
use Rattle.tm_lines.specs.declared.first_words.FirstWord.{FirstWord}
use Rattle.tm_lines.specs.declared.limits.TheConstants.{MOST_BYTES}
use Rattle.tm_lines.specs.FirstWords.{first_word_of}
use Rattle.tm_lines.specs.LineFaults.{Place, applies, fault_of_line, fault_of_words, first_place, place_after, place_by, place_by_first, word_faults}
use Rattle.tm_lines.specs.Lines.{is_ignored, is_printed, words_of}
use Rattle.tm_lines.specs.NamedLines.{word_at}
use Rattle.tm_lines.specs.TextFaults.{fault_or, first_fault, first_fault_from, named_in, said_words, text_lines}

-- no kind of fault applies to the line of these words
pub record Fine (p : Place) (f : FirstWord) (k : Option Kind) (ws : List (List ℕ)) : Type 0 where
  pub allowed : applies p f k ws fault.Word ≡ false
  pub count : applies p f k ws fault.Count ≡ false
  pub name : applies p f k ws fault.Name ≡ false
  pub unknown : applies p f k ws fault.Unknown ≡ false
  pub of_kind : applies p f k ws fault.Kind ≡ false
  pub number : applies p f k ws fault.Number ≡ false
  pub depth : applies p f k ws fault.Depth ≡ false
  pub idle : applies p f k ws fault.Idle ≡ false
  pub limit : applies p f k ws fault.Limit ≡ false

-- a line that isn't faulty begins with this first word
pub record Begins (named : List ℕ → Option Kind) (p : Place) (ws : List (List ℕ)) : Type 0 where
  pub first : FirstWord
  pub is_first : first_word_of (word_at 0 ws) ≡ Some first
  pub fine : Fine p first (named (word_at 1 ws)) ws

-- none of these lines is faulty
abbrev pub Faultless : (List ℕ → Option Kind) → Place → List (List (List ℕ)) → Type 0
Faultless named p [] = p.inside ≡ false
Faultless named p (ws ∷ wss) = Begins named p ws × Faultless named (place_by p ws) wss

-- none of these passes the test
abbrev pub NonePasses : {X : Type 0} → (X → Bool) → List X → Type 0
NonePasses test [] = Unit {0}
NonePasses test (x ∷ xs) = (test x ≡ false) × NonePasses test xs

pub find-none : {X : Type 0} (test : X → Bool) (xs : List X) → find test xs ≡ None → NonePasses test xs
find-none test [] h = tt
find-none test (x ∷ xs) h =
    cond_both (test x) (Some x) (find test xs) (λ r. r ≡ None → (test x ≡ false) × NonePasses test xs) (λ t n. absurd (cc)) (λ f n. (f, find-none test xs n)) h

fine : (p : Place) (f : FirstWord) (k : Option Kind) (ws : List (List ℕ)) → find (applies p f k ws) word_faults ≡ None → Fine p f k ws
fine p f k ws h =
    let none : NonePasses (applies p f k ws) word_faults = find-none (applies p f k ws) word_faults h in
    record {
      allowed = none.0;
      count = none.1.0;
      name = none.1.1.0;
      unknown = none.1.1.1.0;
      of_kind = none.1.1.1.1.0;
      number = none.1.1.1.1.1.0;
      depth = none.1.1.1.1.1.1.1.0;
      idle = none.1.1.1.1.1.1.1.1.0;
      limit = none.1.1.1.1.1.1.1.1.1.0;
    }

begins_with : (named : List ℕ → Option Kind) (p : Place) (ws : List (List ℕ)) (found : Option FirstWord) → first_word_of (word_at 0 ws) ≡ found → fault_of_words p (named (word_at 1 ws)) ws found ≡ None → Begins named p ws
begins_with named p ws None e h = absurd (cc)
begins_with named p ws (Some f) e h = record { first = f; is_first = e; fine = fine p f (named (word_at 1 ws)) ws h }

pub begins : (named : List ℕ → Option Kind) (p : Place) (line : List ℕ) → fault_of_line named p line ≡ None → Begins named p (words_of line)
begins named p line h =
    cond_both (list_all is_printed line) (fault_of_words p (named (word_at 1 (words_of line))) (words_of line) (first_word_of (word_at 0 (words_of line)))) (Some fault.Byte)
    (λ r. r ≡ None → Begins named p (words_of line))
    (λ t n. begins_with named p (words_of line) (first_word_of (word_at 0 (words_of line))) refl n) (λ f n. absurd (cc)) h

none_of : (n : ℕ) (own : Option Fault) (later : _) → fault_or n own later ≡ None → (own ≡ None) × (later ≡ None)
none_of n None later h = (refl, h)
none_of n (Some k) later h = absurd (cc)

-- where no line of a text is faulty, none is as words
faultless_from : (named : List ℕ → Option Kind) (n : ℕ) (p : Place) (lines : List (List ℕ)) → first_fault_from named n p lines ≡ None → Faultless named p (said_words lines)
faultless_from named n p [] h =
    cond_both p.inside (Some (record { line = n; kind = fault.NotEnded })) None (λ r. r ≡ None → p.inside ≡ false) (λ t no. absurd (cc)) (λ f no. f) h
faultless_from named n p (line ∷ lines) h =
    let later = first_fault_from named (suc n) (place_by p (words_of line)) lines in
    cond_both (is_ignored (words_of line)) (first_fault_from named (suc n) p lines) (fault_or n (fault_of_line named p line) later)
    (λ r. r ≡ None → Faultless named p (said_words (line ∷ lines)))
    (λ t none. rw t (faultless_from named (suc n) p lines none))
    (λ f none.
    let parts = none_of n (fault_of_line named p line) later none in
    rw f (begins named p line parts.0, faultless_from named (suc n) (place_by p (words_of line)) lines parts.1)) h

unless : {X : Type 0} (b : Bool) (x : X) (later : Option X) → cond b (Some x) later ≡ None → later ≡ None
unless true x later h = absurd (cc)
unless false x later h = h

pub faultless : (bytes : List ℕ) → first_fault bytes ≡ None → Faultless (named_in (text_lines bytes)) first_place (said_words (text_lines bytes))
faultless bytes h =
    faultless_from (named_in (text_lines bytes)) 1 first_place (text_lines bytes)
    (unless (nat_lt MOST_BYTES (length bytes)) (record { line = 0; kind = fault.Size }) (first_fault_from (named_in (text_lines bytes)) 1 first_place (text_lines bytes)) h)

-- the place after a line with this first word
pub place-first : (p : Place) (ws : List (List ℕ)) (f : FirstWord) → first_word_of (word_at 0 ws) ≡ Some f → place_by p ws ≡ place_after p f (word_at 1 ws)
place-first p ws f e = ap (λ w. place_by_first p w (word_at 1 ws)) e
