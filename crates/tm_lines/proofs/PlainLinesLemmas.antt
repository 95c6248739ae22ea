-- Lines that are cut off word by word.
use Rattle.std.proofs.Common.{◌≡◌, ℕ, zero, suc, ◌<◌, Bool, true, false, cond, ◌&&◌, ◌||◌, ◌==◌, List, [], ◌∷◌, ◌++◌, map, length, take, drop, refl, sym, ap, ◌∙◌, subst, append_assoc, arith}
use Rattle.std.specs.List.{list_all, prefix_len}
use Rattle.std.proofs.lemmas.Bool.{cond_both, cond-true, cond-false}
use Rattle.std.proofs.lemmas.Bool.Decides.{nat_tests}
use Rattle.tm_lines.specs.declared.plain_lines.CutLine.{CutLine}
use Rattle.tm_lines.specs.Lines.{is_blank, is_printed, lines_of, put_first, put_word, without_cr, words_of}
use Rattle.tm_lines.specs.PlainLines.{CutsWords, EndsLine, IsCutOff, after_line, ends_word, is_plain, line_of}
use Rattle.tm_lines.specs.Saying.{AreFirst}
use Rattle.tm_lines.specs.TextFaults.{text_lines}
use Rattle.tm_lines.proofs.LinesLemmas.{goes_on}

plain-lf : (b : ℕ) → is_plain b ≡ true → (b == 10) ≡ false
plain-lf b h = grind (arith, nat_tests)

plain-blank : (b : ℕ) → is_plain b ≡ true → is_blank b ≡ false
plain-blank b h = grind (arith, nat_tests)

plain-printed : (b : ℕ) → is_plain b ≡ true → is_printed b ≡ true
plain-printed b h = grind (arith, nat_tests)

blank-lf : (b : ℕ) → is_blank b ≡ true → (b == 10) ≡ false
blank-lf b h = grind (arith, nat_tests)

blank-printed : (b : ℕ) → is_blank b ≡ true → is_printed b ≡ true
blank-printed b h = grind (arith, nat_tests)

printed-cr : (b : ℕ) → is_printed b ≡ true → (b == 13) ≡ false
printed-cr b h = grind (arith, nat_tests)

and_left : (a b : Bool) → (a && b) ≡ true → a ≡ true
and_left true b h = refl
and_left false b h = absurd (cc)

or_left : (a b : Bool) → (a || b) ≡ true → b ≡ false → a ≡ true
or_left true b h e = refl
or_left false b h e = absurd (cc)

and_right : (a b : Bool) → (a && b) ≡ true → b ≡ true
and_right true b h = h
and_right false b h = absurd (cc)

cut_by : (t : Bool) (b : ℕ) (bs : List ℕ) → put_first b (lines_of bs) ≡ (b ∷ line_of bs) ∷ lines_of (after_line bs) → cond t ([] ∷ lines_of bs) (put_first b (lines_of bs)) ≡ cond t [] (b ∷ line_of bs) ∷ lines_of (cond t bs (after_line bs))
cut_by true b bs h = refl
cut_by false b bs h = h

-- the first line, and what is behind it
lines_of-line : (b : ℕ) (bs : List ℕ) → lines_of (b ∷ bs) ≡ line_of (b ∷ bs) ∷ lines_of (after_line (b ∷ bs))
lines_of-line b [] = cut_by (b == 10) b [] refl
lines_of-line b (c ∷ bs) = cut_by (b == 10) b (c ∷ bs) (ap (put_first b) (lines_of-line c bs))

-- behind a line there are fewer bytes
after_line-shorter : (b : ℕ) (bs : List ℕ) → length (after_line (b ∷ bs)) < length (b ∷ bs)
after_line-shorter b [] = cond_both (b == 10) [] [] (λ r. length r < length (b ∷ [])) (λ e. omega arith) (λ e. omega arith)
after_line-shorter b (c ∷ bs) =
    let later = after_line-shorter c bs in
    cond_both (b == 10) (c ∷ bs) (after_line (c ∷ bs)) (λ r. length r < length (b ∷ c ∷ bs)) (λ e. omega arith) (λ e. omega arith)

-- blanks in front are passed over
pub after_blanks-cuts : (bytes : List ℕ) (n : ℕ) → prefix_len is_blank bytes ≡ n → CutsWords bytes [] (drop n bytes)
after_blanks-cuts [] zero e = record { words = refl; printed = refl; after = refl }
after_blanks-cuts [] (suc n) e = absurd (omega arith)
after_blanks-cuts (b ∷ bs) zero e = record { words = refl; printed = refl; after = refl }
after_blanks-cuts (b ∷ bs) (suc n) e =
    let g = goes_on (is_blank b) (prefix_len is_blank bs) n e in
    let later = after_blanks-cuts bs n g.1 in
    let no_lf = blank-lf b g.0 in
    let line : line_of (b ∷ bs) ≡ b ∷ line_of bs = cond-false (b == 10) _ _ no_lf in
    record {
      words = ap words_of line ∙ cond-true (is_blank b) _ _ g.0 ∙ later.words;
      printed = ap (list_all is_printed) line ∙ ap (λ t. t && list_all is_printed (line_of bs)) (blank-printed b g.0) ∙ later.printed;
      after = cond-false (b == 10) _ _ no_lf ∙ later.after;
    }

-- a byte that a word ends behind
put_word-ends : (b : ℕ) (bs : List ℕ) (ws : List (List ℕ)) → ends_word bs ≡ true → put_word b (line_of bs) ws ≡ (b ∷ []) ∷ ws
put_word-ends b [] ws h = refl
put_word-ends b (c ∷ bs) ws h =
    cond_both (c == 10) [] (c ∷ line_of bs) (λ l. put_word b l ws ≡ (b ∷ []) ∷ ws) (λ e. refl)
    (λ e. cond-true (is_blank c) _ _ (or_left (is_blank c) (c == 10) h e))

-- a byte that a word goes on behind
put_word-more : (b c : ℕ) (bs : List ℕ) (ws : List (List ℕ)) → is_plain c ≡ true → put_word b (line_of (c ∷ bs)) ws ≡ put_first b ws
put_word-more b c bs ws h =
    ap (λ l. put_word b l ws) (cond-false (c == 10) [] (c ∷ line_of bs) (plain-lf c h)) ∙ cond-false (is_blank c) _ _ (plain-blank c h)

-- a word is cut off
pub word-cuts : (bytes : List ℕ) (n : ℕ) → prefix_len is_plain bytes ≡ suc n → ends_word (drop (suc n) bytes) ≡ true → CutsWords bytes (take (suc n) bytes ∷ []) (drop (suc n) bytes)
word-cuts [] n e h = absurd (omega arith)
word-cuts (b ∷ bs) zero e h =
    let g = goes_on (is_plain b) (prefix_len is_plain bs) 0 e in
    let line : line_of (b ∷ bs) ≡ b ∷ line_of bs = cond-false (b == 10) _ _ (plain-lf b g.0) in
    record {
      words = ap words_of line ∙ cond-false (is_blank b) _ _ (plain-blank b g.0) ∙ put_word-ends b bs (words_of (line_of bs)) h;
      printed = ap (list_all is_printed) line ∙ ap (λ t. t && list_all is_printed (line_of bs)) (plain-printed b g.0);
      after = cond-false (b == 10) _ _ (plain-lf b g.0);
    }
word-cuts (b ∷ []) (suc n) e h = absurd (let g = goes_on (is_plain b) 0 (suc n) e in omega arith)
word-cuts (b ∷ c ∷ bs) (suc n) e h =
    let g = goes_on (is_plain b) (prefix_len is_plain (c ∷ bs)) (suc n) e in
    let f = goes_on (is_plain c) (prefix_len is_plain bs) n g.1 in
    let later = word-cuts (c ∷ bs) n g.1 h in
    let line : line_of (b ∷ c ∷ bs) ≡ b ∷ line_of (c ∷ bs) = cond-false (b == 10) _ _ (plain-lf b g.0) in
    record {
      words = ap words_of line ∙ cond-false (is_blank b) _ _ (plain-blank b g.0)
          ∙ put_word-more b c bs (words_of (line_of (c ∷ bs))) f.0 ∙ ap (put_first b) later.words;
      printed = ap (list_all is_printed) line ∙ ap (λ t. t && list_all is_printed (line_of (c ∷ bs))) (plain-printed b g.0) ∙ later.printed;
      after = cond-false (b == 10) _ _ (plain-lf b g.0) ∙ later.after;
    }

pub cuts-then : (bytes : List ℕ) (ws : List (List ℕ)) (middle : List ℕ) (vs : List (List ℕ)) (rest : List ℕ) → CutsWords bytes ws middle → CutsWords middle vs rest → CutsWords bytes (ws ++ vs) rest
cuts-then bytes ws middle vs rest one two = record {
  words = one.words ∙ ap (λ x. ws ++ x) two.words ∙ sym (append_assoc ws vs (words_of (line_of rest)));
  printed = one.printed ∙ two.printed;
  after = one.after ∙ two.after;
}

-- a line whose bytes all print has no CR at its end
without_cr-printed : (line : List ℕ) → list_all is_printed line ≡ true → without_cr line ≡ line
without_cr-printed [] h = refl
without_cr-printed (b ∷ []) h = cond-false (b == 13) [] (b ∷ []) (printed-cr b (and_left (is_printed b) true h))
without_cr-printed (b ∷ c ∷ line) h =
    ap (λ l. b ∷ l) (without_cr-printed (c ∷ line) (and_right (is_printed b) (list_all is_printed (c ∷ line)) h))

-- words were cut off until the line's end
pub plain_line-ends : (bytes : List ℕ) (ws : List (List ℕ)) (last : List ℕ) (cut : CutLine) → 0 < length bytes → CutsWords bytes ws last → EndsLine last cut.rest.now → cut.is_printed ≡ true → AreFirst cut.words (ws ++ []) → IsCutOff bytes cut
plain_line-ends [] ws last cut some cuts ends whole are = absurd (omega arith)
plain_line-ends (b ∷ bs) ws last cut some cuts ends whole are =
    let line = line_of (b ∷ bs) in
    let printed : list_all is_printed line ≡ true = cuts.printed ∙ ap (list_all is_printed) ends.line in
    let words : words_of line ≡ ws ++ [] = cuts.words ∙ ap (λ l. ws ++ words_of l) ends.line in
    record {
      line = line;
      lines = ap (map without_cr) (lines_of-line b bs)
          ∙ ap (λ l. l ∷ text_lines (after_line (b ∷ bs))) (without_cr-printed line printed)
          ∙ ap (λ r. line ∷ text_lines r) (cuts.after ∙ ends.after);
      shorter = subst (λ r. length r < length (b ∷ bs)) (cuts.after ∙ ends.after) (after_line-shorter b bs);
      printed = whole ∙ sym printed;
      words = subst (AreFirst cut.words) (sym words) are;
    }

-- the same of a word and a rest that are equal to the parts of the bytes
pub word-cut : (bytes word rest : List ℕ) (n : ℕ) → prefix_len is_plain bytes ≡ n → word ≡ take n bytes → rest ≡ drop n bytes → length word ≡ n → 0 < length word → ends_word rest ≡ true → CutsWords bytes (word ∷ []) rest
word-cut bytes word rest zero e front back len some ends = absurd (omega arith)
word-cut bytes word rest (suc n) e front back len some ends =
    rw (front, back) (word-cuts bytes n e (ap ends_word (sym back) ∙ ends))
