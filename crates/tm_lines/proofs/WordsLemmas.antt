-- How many words a line has, and what they break.
use Rattle.std.proofs.Common.{◌≡◌, ℕ, zero, suc, ◌+◌, ◌<◌, ◌≤◌, Bool, true, false, ◌||◌, List, [], ◌∷◌, drop, get_or, length, add-one, drop-cons, Option, refl, sym, ap, ◌∙◌, arith}
use Rattle.std.proofs.lemmas.Bool.{cond_both}
use Rattle.tm_base.specs.declared.kinds.Kind.{Kind}
use Rattle.tm_base.specs.declared.opcodes.Opcode.{Opcode}
use Rattle.tm_base.specs.declared.opcodes.Opcode.TheVariants as opcode
use Rattle.tm_lines.specs.declared.first_words.Declarator.{Declarator}
use Rattle.tm_lines.specs.declared.first_words.Declarator.TheVariants as declares
use Rattle.tm_lines.specs.declared.first_words.FirstWord.{FirstWord}
use Rattle.tm_lines.specs.declared.first_words.FirstWord.TheVariants as first
use Rattle.tm_lines.specs.declared.first_words.Slot.{Slot}
use Rattle.tm_lines.specs.declared.found.Found.{Found}
use Rattle.tm_lines.specs.declared.words.Words.{Words}
use Rattle.tm_lines.specs.FirstWords.{declarator_slots, operand_slots, slots_of}
use Rattle.tm_lines.specs.Found.{found_by, found_in, nothing_found, or_found}
use Rattle.tm_lines.specs.LineFaults.{Place}
use Rattle.tm_lines.specs.Lines.{is_blank, put_first, put_word, words_of}
use Rattle.tm_lines.specs.NamedLines.{word_at}
use Rattle.tm_lines.specs.Saying.{AreFirst}

put_first-length : (b : ℕ) (ws : List (List ℕ)) → length (put_first b ws) ≤ suc (length ws)
put_first-length b [] = omega arith
put_first-length b (w ∷ ws) = omega arith

put_word-length : (b : ℕ) (bs : List ℕ) (ws : List (List ℕ)) → length (put_word b bs ws) ≤ suc (length ws)
put_word-length b [] ws = omega arith
put_word-length b (c ∷ bs) ws =
    cond_both (is_blank c) ((b ∷ []) ∷ ws) (put_first b ws) (λ r. length r ≤ suc (length ws)) (λ e. omega arith) (λ e. put_first-length b ws)

-- a line has no more words than bytes
pub words_of-length : (line : List ℕ) → length (words_of line) ≤ length line
words_of-length [] = omega arith
words_of-length (b ∷ bs) =
    let later = words_of-length bs in
    cond_both (is_blank b) (words_of bs) (put_word b bs (words_of bs)) (λ r. length r ≤ length (b ∷ bs))
    (λ e. omega arith) (λ e. let most = put_word-length b bs (words_of bs) in omega arith)

or_assoc : (a b c : Bool) → ((a || b) || c) ≡ (a || (b || c))
or_assoc true b c = refl
or_assoc false b c = refl

or_none : (a : Bool) → (a || false) ≡ a
or_none true = refl
or_none false = refl

pub or_found-assoc : (a b c : Found) → or_found (or_found a b) c ≡ or_found a (or_found b c)
or_found-assoc a b c = simp or_assoc

pub or_found-nothing : (a : Found) → or_found a nothing_found ≡ a
or_found-nothing a = simp or_none

pub found_by-no_words : (p : Place) (f : FirstWord) (k : Option Kind) (ss : List Slot) → found_by p f k ss [] ≡ nothing_found
found_by-no_words p f k [] = refl
found_by-no_words p f k (s ∷ ss) = refl

-- one slot and one word more
pub found_by-step : (p : Place) (f : FirstWord) (k : Option Kind) (found : Found) (s : Slot) (ss : List Slot) (w : List ℕ) (ws : List (List ℕ)) → or_found (or_found found (found_in p f k s w)) (found_by p f k ss ws) ≡ or_found found (found_by p f k (s ∷ ss) (w ∷ ws))
found_by-step p f k found s ss w ws = or_found-assoc found (found_in p f k s w) (found_by p f k ss ws)

pub found_by-more : (p : Place) (f : FirstWord) (k : Option Kind) (found : Found) (ss : List Slot) (i : ℕ) (d : Slot) (w : List ℕ) (ws : List (List ℕ)) → i < length ss → or_found (or_found found (found_in p f k (get_or ss i d) w)) (found_by p f k (drop (i + 1) ss) ws) ≡ or_found found (found_by p f k (drop i ss) (w ∷ ws))
found_by-more p f k found ss i d w ws h = rw (add-one, drop-cons ss i d) (found_by-step p f k found (get_or ss i d) (drop (suc i) ss) w ws)

-- a word, and those after it
drop-word : (n : ℕ) (ws : List (List ℕ)) → n < length ws → drop n ws ≡ word_at n ws ∷ drop (suc n) ws
drop-word n [] h = absurd (omega arith)
drop-word zero (w ∷ ws) h = refl
drop-word (suc n) (w ∷ ws) h = drop-word n ws (omega arith)

word_at-first : (words : Words) (ws : List (List ℕ)) (n : ℕ) → AreFirst words ws → n < 4 → word_at n (words.first.now ∷ words.second.now ∷ words.third.now ∷ words.fourth.now ∷ []) ≡ word_at n ws
word_at-first words ws zero are h = are.first
word_at-first words ws (suc zero) are h = are.second
word_at-first words ws (suc (suc zero)) are h = are.third
word_at-first words ws (suc (suc (suc zero))) are h = are.fourth
word_at-first words ws (suc (suc (suc (suc n)))) are h = absurd (omega arith)

pub drop-first : (words : Words) (ws : List (List ℕ)) (n : ℕ) (w : List ℕ) → AreFirst words ws → w ≡ word_at n (words.first.now ∷ words.second.now ∷ words.third.now ∷ words.fourth.now ∷ []) → n < 4 → n < length ws → drop n ws ≡ w ∷ drop (n + 1) ws
drop-first words ws n w are is few h =
    let next : suc n ≡ n + 1 = omega arith in
    drop-word n ws h ∙ ap (λ v. v ∷ drop (suc n) ws) (sym (is ∙ word_at-first words ws n are few)) ∙ ap (λ m. w ∷ drop m ws) next

-- no first word has more than three slots
declarator_slots-few : (d : Declarator) → length (declarator_slots d) ≤ 3
declarator_slots-few declares.Mutex = omega arith
declarator_slots-few declares.Rwlock = omega arith
declarator_slots-few declares.Sync = omega arith
declarator_slots-few declares.Sem = omega arith
declarator_slots-few declares.Monitor = omega arith
declarator_slots-few declares.Barrier = omega arith
declarator_slots-few declares.Async = omega arith
declarator_slots-few declares.Var = omega arith
declarator_slots-few declares.Thread = omega arith

operand_slots-few : (c : Opcode) → length (operand_slots c) ≤ 1
operand_slots-few opcode.Begin = omega arith
operand_slots-few opcode.End = omega arith
operand_slots-few opcode.Resume = omega arith
operand_slots-few opcode.Stop = omega arith
operand_slots-few opcode.Lock = omega arith
operand_slots-few opcode.TryLock = omega arith
operand_slots-few opcode.Unlock = omega arith
operand_slots-few opcode.P = omega arith
operand_slots-few opcode.TryP = omega arith
operand_slots-few opcode.V = omega arith
operand_slots-few opcode.Enter = omega arith
operand_slots-few opcode.Leave = omega arith
operand_slots-few opcode.Wait = omega arith
operand_slots-few opcode.Signal = omega arith
operand_slots-few opcode.Broadcast = omega arith
operand_slots-few opcode.Arrive = omega arith
operand_slots-few opcode.RLock = omega arith
operand_slots-few opcode.RUnlock = omega arith
operand_slots-few opcode.WLock = omega arith
operand_slots-few opcode.WUnlock = omega arith
operand_slots-few opcode.Send = omega arith
operand_slots-few opcode.Recv = omega arith
operand_slots-few opcode.Close = omega arith
operand_slots-few opcode.Read = omega arith
operand_slots-few opcode.Write = omega arith
operand_slots-few opcode.Add = omega arith
operand_slots-few opcode.Start = omega arith
operand_slots-few opcode.Join = omega arith

pub slots_of-few : (f : FirstWord) → length (slots_of f) ≤ 3
slots_of-few (first.Declares d) = declarator_slots-few d
slots_of-few (first.Calls c) = let few = operand_slots-few c in omega arith
slots_of-few first.Set = omega arith
slots_of-few first.Inc = omega arith
slots_of-few first.Repeat = omega arith
slots_of-few first.While = omega arith
slots_of-few first.If = omega arith
slots_of-few first.End = omega arith
