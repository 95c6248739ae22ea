-- The programs that lines spell, one line more.
use Rattle.std.proofs.Common.{◌≡◌, ℕ, zero, suc, ◌<◌, not, List, [], ◌∷◌, ◌++◌, length, Some, refl, sym, ap, ◌∙◌, subst, arith}
use Rattle.std.proofs.lemmas.Bool.{cond-true, cond-false}
use Rattle.std.proofs.lemmas.List.{append_assoc, append-nil}
use Rattle.tm_programs.specs.declared.instructions.Instruction.{Instruction}
use Rattle.tm_programs.specs.declared.instructions.Instruction.TheVariants as instruction
use Rattle.tm_lines.specs.declared.first_words.FirstWord.{FirstWord}
use Rattle.tm_lines.specs.declared.first_words.FirstWord.TheVariants as first
use Rattle.tm_lines.specs.declared.saying.Line.TheVariants as line
use Rattle.tm_lines.specs.declared.saying.Said.{Said}
use Rattle.tm_lines.specs.declared.words.Words.{Words}
use Rattle.tm_lines.specs.Checks.{Check, Follows}
use Rattle.tm_lines.specs.Lines.{is_ignored, words_of}
use Rattle.tm_lines.specs.NamedLines.{word_at}
use Rattle.tm_lines.specs.Saying.{AreFirst}
use Rattle.tm_lines.specs.TextFaults.{said_words, text_lines}
use Rattle.tm_text.specs.declared.exercises.Declaration.{Declaration}
use Rattle.tm_text.specs.Objects.{DeclaredObjects, IsDeclarable, TakesLine, declarations_of, with_lines}
use Rattle.tm_text.specs.SpelledPrograms.{NamesObject, Spelled, after_end, after_line, put_begun, with_said, words_after}
use Rattle.tm_text.specs.Readings.{GoesOn}
use Rattle.tm_text.specs.Texts.{instruction_said, programs_by, programs_said, put_instruction}
use Rattle.tm_text.proofs.SaidKnown.{names_object}

put_begun-one : (begun : List Instruction) (i : Instruction) (ps : List (List Instruction)) → put_begun (begun ++ i ∷ []) ps ≡ put_begun begun (put_instruction i ps)
put_begun-one begun i [] = refl
put_begun-one begun i (p ∷ ps) = ap (λ q. q ∷ ps) (append_assoc begun (i ∷ []) p)

put_begun-none : (ps : List (List Instruction)) → put_begun [] ps ≡ ps
put_begun-none [] = refl
put_begun-none (p ∷ ps) = refl

-- an instruction more
one_more : (v : Spelled) (i : Instruction) (ps : List (List Instruction)) → v.ended ++ put_begun (v.begun ++ i ∷ []) ps ≡ v.ended ++ put_begun v.begun (put_instruction i ps)
one_more v i ps = ap (λ qs. v.ended ++ qs) (put_begun-one v.begun i ps)

end_more : (ds : List Declaration) (v : Spelled) (n : ℕ) (ws : List (List ℕ)) (lines : List (List (List ℕ))) → with_said ds (after_end v n) lines ≡ v.ended ++ put_begun v.begun (programs_by ds (Some first.End) n ws (λ d. programs_said ds d lines))
end_more ds v zero ws lines =
    let later = programs_said ds 0 lines in
    ap (λ qs. (v.ended ++ v.begun ∷ []) ++ qs) (put_begun-none later) ∙ append_assoc v.ended (v.begun ∷ []) later
    ∙ ap (λ p. v.ended ++ p ∷ later) (sym (append-nil v.begun))
end_more ds v (suc n) ws lines = one_more v instruction.End (programs_said ds n lines)

line_more : (ds : List Declaration) (v : Spelled) (f : FirstWord) (ws : List (List ℕ)) (lines : List (List (List ℕ))) → with_said ds (after_line v f (instruction_said ds f ws)) lines ≡ v.ended ++ put_begun v.begun (programs_by ds (Some f) v.depth ws (λ d. programs_said ds d lines))
line_more ds v (first.Declares d) ws lines = refl
line_more ds v first.End ws lines = end_more ds v v.depth ws lines
line_more ds v first.Repeat ws lines = one_more v (instruction_said ds first.Repeat ws) (programs_said ds (suc v.depth) lines)
line_more ds v first.While ws lines = one_more v (instruction_said ds first.While ws) (programs_said ds (suc v.depth) lines)
line_more ds v first.If ws lines = one_more v (instruction_said ds first.If ws) (programs_said ds (suc v.depth) lines)
line_more ds v (first.Calls c) ws lines = one_more v (instruction_said ds (first.Calls c) ws) (programs_said ds v.depth lines)
line_more ds v first.Set ws lines = one_more v (instruction_said ds first.Set ws) (programs_said ds v.depth lines)
line_more ds v first.Inc ws lines = one_more v (instruction_said ds first.Inc ws) (programs_said ds v.depth lines)

-- a line takes no more than four of its words
instruction_said-words : (ds : List Declaration) (f : FirstWord) (ws : List (List ℕ)) → instruction_said ds f ([] ∷ word_at 1 ws ∷ word_at 2 ws ∷ word_at 3 ws ∷ []) ≡ instruction_said ds f ws
instruction_said-words ds (first.Declares d) ws = refl
instruction_said-words ds (first.Calls c) ws = refl
instruction_said-words ds first.Set ws = refl
instruction_said-words ds first.Inc ws = refl
instruction_said-words ds first.Repeat ws = refl
instruction_said-words ds first.While ws = refl
instruction_said-words ds first.If ws = refl
instruction_said-words ds first.End ws = refl

words_after-are : (words : Words) (ws : List (List ℕ)) → AreFirst words ws → words_after words ≡ [] ∷ word_at 1 ws ∷ word_at 2 ws ∷ word_at 3 ws ∷ []
words_after-are words ws are =
    ap (λ w. [] ∷ w ∷ words.third.now ∷ words.fourth.now ∷ []) are.second
    ∙ ap (λ w. [] ∷ word_at 1 ws ∷ w ∷ words.fourth.now ∷ []) are.third ∙ ap (λ w. [] ∷ word_at 1 ws ∷ word_at 2 ws ∷ w ∷ []) are.fourth

shorter : (old new : Check) (bytes : List ℕ) → text_lines old.rest ≡ bytes ∷ text_lines new.rest → length (text_lines new.rest) < length (text_lines old.rest)
shorter old new bytes lines = let one : length (text_lines old.rest) ≡ suc (length (text_lines new.rest)) = ap length lines in omega arith

-- a line that is ignored
pub ignored_more : (old new : Check) (a : DeclaredObjects) (v : Spelled) → Follows old line.Ignored new → GoesOn old new a a v v
ignored_more old new a v follows =
    let same : said_words (text_lines new.rest) ≡ said_words (text_lines old.rest) =
    sym (cond-false (not (is_ignored (words_of follows.bytes))) (words_of follows.bytes ∷ said_words (text_lines new.rest)) (said_words (text_lines new.rest)) (ap not follows.is_line.0))
    ∙ ap said_words (sym follows.lines) in
    record {
      fault = sym follows.fault;
      text = follows.text;
      shorter = shorter old new follows.bytes follows.lines;
      objects = λ declarable. ap (with_lines a) same;
      programs = ap (with_said (declarations_of old.text) v) same;
    }

-- a line that says something
pub said_more : (old new : Check) (a b : DeclaredObjects) (v w : Spelled) (said : Said) (i : Instruction) → Follows old (line.Said said) new → TakesLine a said.first said.words b → ((ds : List Declaration) → NamesObject ds said said.first → i ≡ instruction_said ds said.first (words_after said.words)) → w ≡ after_line v said.first i → GoesOn old new a b v w
said_more old new a b v w said i follows takes is after =
    let ds = declarations_of old.text in
    let ws = words_of follows.bytes in
    let later = said_words (text_lines new.rest) in
    let is_said = follows.is_line.2 in
    let left : said_words (text_lines old.rest) ≡ ws ∷ later = ap said_words follows.lines ∙ cond-true (not (is_ignored ws)) (ws ∷ later) later (ap not follows.is_line.0) in
    let own : i ≡ instruction_said ds said.first ws =
    is ds (names_object (text_lines old.text) old.place follows.bytes said follows.is_line.1 is_said)
    ∙ ap (instruction_said ds said.first) (words_after-are said.words ws is_said.words) ∙ instruction_said-words ds said.first ws in
    record {
      fault = sym follows.fault;
      text = follows.text;
      shorter = shorter old new follows.bytes follows.lines;
      objects = λ declarable. takes ws later is_said.first is_said.words (subst (λ ls. IsDeclarable (with_lines a ls)) left declarable) ∙ ap (with_lines a) (sym left);
      programs =
          ap (λ x. with_said ds x later) after ∙ ap (λ j. with_said ds (after_line v said.first j) later) own
          ∙ line_more ds v said.first ws later
          ∙ sym (ap (λ o. v.ended ++ put_begun v.begun (programs_by ds o v.depth ws (λ d. programs_said ds d later))) is_said.first)
          ∙ ap (with_said ds v) (sym left);
    }
