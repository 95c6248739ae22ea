-- Lines whose values fit have no fault when they are written, and say what was written.
use Rattle.std.proofs.Common.{◌≡◌, ℕ, suc, Bool, true, false, not, ◌&&◌, nat_le, List, [], ◌∷◌, ◌++◌, length, map, find, filter_map, Option, Some, None, refl, sym, ap, ◌∙◌, arith}
use Rattle.std.specs.List.{cons_option, list_all}
use Rattle.std.proofs.lemmas.Bool.{cond-false, cond-true, or_from}
use Rattle.std.proofs.lemmas.List.{append_assoc, length-map}
use Rattle.std.proofs.lemmas.List.Folds.{flat_map-map}
use Rattle.tm_base.specs.declared.kinds.Kind.{Kind}
use Rattle.tm_base.specs.declared.opcodes.Opcode.{Opcode}
use Rattle.tm_base.specs.declared.opcodes.Opcode.TheVariants as opcode
use Rattle.tm_base.specs.Opcodes.{word_of}
use Rattle.tm_programs.specs.declared.limits.TheConstants.{MOST_BLOCKS}
use Rattle.tm_lines.specs.declared.faults.Fault.{Fault}
use Rattle.tm_lines.specs.declared.faults.Fault.TheVariants as fault
use Rattle.tm_lines.specs.declared.first_words.Declarator.{Declarator}
use Rattle.tm_lines.specs.declared.first_words.Declarator.TheVariants as declares
use Rattle.tm_lines.specs.declared.first_words.FirstWord.{FirstWord}
use Rattle.tm_lines.specs.declared.first_words.FirstWord.TheVariants as first
use Rattle.tm_lines.specs.FirstWords.{declarator_word, first_word_of, has_count, is_allowed, slots_of, spelling}
use Rattle.tm_lines.specs.LineFaults.{Place, applies, ends_idle, fault_of_line, fault_of_words, is_beyond, one_breaks, opens, place_after, place_by, word_faults}
use Rattle.tm_lines.specs.Lines.{is_ignored, is_printed, words_of}
use Rattle.tm_lines.specs.NamedLines.{word_at}
use Rattle.tm_lines.specs.TextFaults.{fault_or, first_fault_from, said_words, text_lines}
use Rattle.tm_text.specs.CanonicalTexts.{lines_text, value_word}
use Rattle.tm_text.specs.SaidLines.{line_by, line_said}
use Rattle.tm_text.specs.SpelledLines.{SpelledLine}
use Rattle.tm_text.proofs.Faultless.{NonePasses, place-first}
use Rattle.tm_text.proofs.FittingValues.{AllFit, all_said, all_solid, all_unbroken}
use Rattle.tm_text.proofs.JoinedWords.{Solid, line_cut, line_printed, spaced, words_cut}

-- the words of a line
abbrev pub words_in : SpelledLine → List (List ℕ)
words_in l = spelling l.first ∷ map value_word l.values

-- the line stands well at this place
pub record Sound (named : List ℕ → Option Kind) (p : Place) (l : SpelledLine) : Type 0 where
  pub back : first_word_of (spelling l.first) ≡ Some l.first
  pub fits : AllFit p l.first (named (word_at 1 (words_in l))) (slots_of l.first) l.values
  pub allowed : is_allowed p.inside l.first ≡ true
  pub count : has_count l.first (suc (length l.values)) ≡ true
  pub depth : (opens l.first && nat_le MOST_BLOCKS (length p.blocks)) ≡ false
  pub idle : ends_idle l.first p.blocks ≡ false
  pub limit : is_beyond p l.first ≡ false

abbrev pub AllSound : (List ℕ → Option Kind) → Place → List SpelledLine → Type 0
AllSound named p [] = p.inside ≡ false
AllSound named p (l ∷ ls) = Sound named p l × AllSound named (place_after p l.first (word_at 1 (words_in l))) ls

-- a first word is one word, and begins no comment
solid_call : (c : Opcode) → Solid (word_of c)
solid_call opcode.Lock = record { some = omega arith; graph = refl }
solid_call c = record { some = omega arith; graph = refl }

solid_declarator : (d : Declarator) → Solid (declarator_word d)
solid_declarator declares.Mutex = record { some = omega arith; graph = refl }
solid_declarator d = record { some = omega arith; graph = refl }

solid_spelling : (f : FirstWord) → Solid (spelling f)
solid_spelling (first.Declares d) = solid_declarator d
solid_spelling (first.Calls c) = solid_call c
solid_spelling f = record { some = omega arith; graph = refl }

said_call : (c : Opcode) (ws : List (List ℕ)) → is_ignored (word_of c ∷ ws) ≡ false
said_call opcode.Lock ws = refl
said_call c ws = refl

said_declarator : (d : Declarator) (ws : List (List ℕ)) → is_ignored (declarator_word d ∷ ws) ≡ false
said_declarator declares.Mutex ws = refl
said_declarator d ws = refl

not_ignored : (f : FirstWord) (ws : List (List ℕ)) → is_ignored (spelling f ∷ ws) ≡ false
not_ignored (first.Declares d) ws = said_declarator d ws
not_ignored (first.Calls c) ws = said_call c ws
not_ignored f ws = refl

-- the bytes of a line without its LF
abbrev bytes_in : SpelledLine → List ℕ
bytes_in l = spelling l.first ++ spaced (map value_word l.values)

line_first : (l : SpelledLine) (ls : List SpelledLine) → lines_text (l ∷ ls) ≡ bytes_in l ++ 10 ∷ lines_text ls
line_first l ls = simp append_assoc (ap (λ bs. spelling l.first ++ (bs ++ 10 ∷ lines_text ls)) (sym (flat_map-map (λ w. 32 ∷ w) value_word l.values)))

-- where no test passes, none is found
none_found : {X : Type 0} (test : X → Bool) (xs : List X) → NonePasses test xs → find test xs ≡ None
none_found test [] h = refl
none_found test (x ∷ xs) h = cond-false (test x) (Some x) (find test xs) h.0 ∙ none_found test xs h.1

module _ (named : List ℕ → Option Kind) where
  module _ (p : Place) (l : SpelledLine) (sound : Sound named p l) where
    line_words : words_of (bytes_in l) ≡ words_in l
    line_words = words_cut (spelling l.first) (map value_word l.values) (solid_spelling l.first) (all_solid p l.first (named (word_at 1 (words_in l))) (slots_of l.first) l.values sound.fits)

    line_is_printed : list_all is_printed (bytes_in l) ≡ true
    line_is_printed = line_printed (spelling l.first) (map value_word l.values) (solid_spelling l.first) (all_solid p l.first (named (word_at 1 (words_in l))) (slots_of l.first) l.values sound.fits)

    text_cut : (ls : List SpelledLine) → text_lines (lines_text (l ∷ ls)) ≡ bytes_in l ∷ text_lines (lines_text ls)
    text_cut ls = ap text_lines (line_first l ls) ∙ line_cut (bytes_in l) (lines_text ls) line_is_printed

    none_applies : find (applies p l.first (named (word_at 1 (words_in l))) (words_in l)) word_faults ≡ None
    none_applies =
        let k = named (word_at 1 (words_in l)) in
        let ss = slots_of l.first in
        let unbroken : (about : Fault) → one_breaks p l.first k about ss (map value_word l.values) ≡ false = λ about. all_unbroken p l.first k about ss l.values sound.fits in
        let count : has_count l.first (length (words_in l)) ≡ true = ap (λ n. has_count l.first (suc n)) (length-map l.values value_word) ∙ sound.count in
        none_found (applies p l.first k (words_in l)) word_faults
        (or_from (not (is_allowed p.inside l.first)) (one_breaks p l.first k fault.Word ss (map value_word l.values)) (ap not sound.allowed) (unbroken fault.Word), (ap not count, (unbroken fault.Name, (unbroken fault.Unknown, (unbroken fault.Kind, (unbroken fault.Number, (unbroken fault.Register, (sound.depth, (sound.idle, (sound.limit, tt))))))))))

    faultless_line : fault_of_line named p (bytes_in l) ≡ None
    faultless_line =
        let k = named (word_at 1 (words_in l)) in
        let of : List (List ℕ) → Option Fault = λ ws. fault_of_words p (named (word_at 1 ws)) ws (first_word_of (word_at 0 ws)) in
        cond-true (list_all is_printed (bytes_in l)) (of (words_of (bytes_in l))) (Some fault.Byte) line_is_printed
        ∙ ap of line_words ∙ ap (fault_of_words p k (words_in l)) sound.back ∙ none_applies

    place_behind : place_by p (words_of (bytes_in l)) ≡ place_after p l.first (word_at 1 (words_in l))
    place_behind = ap (place_by p) line_words ∙ place-first p (words_in l) l.first sound.back

    not_comment : is_ignored (words_of (bytes_in l)) ≡ false
    not_comment = ap is_ignored line_words ∙ not_ignored l.first (map value_word l.values)

    line_back : line_said (words_in l) ≡ Some l
    line_back =
        ap (λ o. line_by o (words_in l)) sound.back
        ∙ ap (λ vs. Some (record { first = l.first; values = vs })) (all_said p l.first (named (word_at 1 (words_in l))) (slots_of l.first) l.values sound.fits)

  -- no line is faulty
  pub no_fault : (n : ℕ) (p : Place) (ls : List SpelledLine) → AllSound named p ls → first_fault_from named n p (text_lines (lines_text ls)) ≡ None
  no_fault n p [] h = cond-false p.inside (Some (record { line = n; kind = fault.NotEnded })) None h
  no_fault n p (l ∷ ls) h =
      let line = bytes_in l in
      let rest = text_lines (lines_text ls) in
      ap (first_fault_from named n p) (text_cut p l h.0 ls)
      ∙ cond-false (is_ignored (words_of line)) (first_fault_from named (suc n) p rest) (fault_or n (fault_of_line named p line) (first_fault_from named (suc n) (place_by p (words_of line)) rest)) (not_comment p l h.0)
      ∙ ap (λ o. fault_or n o (first_fault_from named (suc n) (place_by p (words_of line)) rest)) (faultless_line p l h.0)
      ∙ ap (λ q. first_fault_from named (suc n) q rest) (place_behind p l h.0)
      ∙ no_fault (suc n) (place_after p l.first (word_at 1 (words_in l))) ls h.1

  -- the words of the text are those that were written
  pub words_back : (p : Place) (ls : List SpelledLine) → AllSound named p ls → said_words (text_lines (lines_text ls)) ≡ map words_in ls
  words_back p [] h = refl
  words_back p (l ∷ ls) h =
      let rest = text_lines (lines_text ls) in
      ap said_words (text_cut p l h.0 ls)
      ∙ cond-true (not (is_ignored (words_of (bytes_in l)))) (words_of (bytes_in l) ∷ said_words rest) (said_words rest) (ap not (not_comment p l h.0))
      ∙ ap (λ ws. ws ∷ said_words rest) (line_words p l h.0) ∙ ap (λ wss. words_in l ∷ wss) (words_back (place_after p l.first (word_at 1 (words_in l))) ls h.1)

  -- and say what was written
  pub lines_back : (p : Place) (ls : List SpelledLine) → AllSound named p ls → filter_map line_said (map words_in ls) ≡ ls
  lines_back p [] h = refl
  lines_back p (l ∷ ls) h =
      ap (λ r. cons_option r (filter_map line_said (map words_in ls))) (line_back p l h.0)
      ∙ ap (λ rest. l ∷ rest) (lines_back (place_after p l.first (word_at 1 (words_in l))) ls h.1)
