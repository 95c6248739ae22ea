-- The places of the words of an event's text.
use Rattle.std.proofs.Common.{◌≡◌, ℕ, Bool, true, false, not, ◌&&◌, ◌||◌, ◌==◌, nat_le, List, [], ◌∷◌, ◌++◌, drop, take, length, suc, ◌+◌, refl, ap, ◌∙◌, arith}
use Rattle.std.specs.Fmt.{decimal, signed_decimal}
use Rattle.std.specs.List.{list_all, position_or_len}
use Rattle.std.proofs.lemmas.Bool.{and_parts, cond-true}
use Rattle.std.proofs.lemmas.Bool.Decides.{nat_tests}
use Rattle.std.proofs.lemmas.List.Folds.{list_any-append}
use Rattle.std.proofs.Math.Seq.{take-append_seam, drop-append-add}
use Rattle.tm_base.specs.declared.events.Entry.{Entry}
use Rattle.tm_base.specs.declared.operations.Op.{Op}
use Rattle.tm_base.specs.declared.operations.Op.TheVariants as op
use Rattle.tm_base.specs.declared.replies.Reply.{Reply}
use Rattle.tm_base.specs.declared.replies.Reply.TheVariants as reply
use Rattle.tm_base.specs.Names.{IsName, is_digit, is_letter, is_word}
use Rattle.tm_base.specs.Opcodes.{opcode_of, word_of}
use Rattle.tm_lines.specs.NamedLines.{word_at}
use Rattle.tm_text.specs.Exercises.{ExerciseView, name_of}
use Rattle.tm_timeline.specs.Rows.{thread_name}
use Rattle.tm_timeline.specs.Words.{reply_word}
use Rattle.tm_event_lines.specs.EventWords.{Parts, behind_if, has_point, is_numbered, parts_behind, parts_of, takes_detail, takes_operand, word_if}
use Rattle.tm_event_lines.specs.SaidWords.{name_in, place_in}
use Rattle.tm_event_lines.proofs.WrittenEvents.{detail_words, operand_words, pointed, words_behind}

-- the operand and the detail as words, which are empty where there is none
abbrev pub operand_part : Op → List ℕ
operand_part (op.Wait condition) = decimal condition
operand_part (op.Signal condition) = decimal condition
operand_part (op.Broadcast condition) = decimal condition
operand_part (op.Send value) = signed_decimal value
operand_part (op.Write value) = signed_decimal value
operand_part (op.Add value) = signed_decimal value
operand_part o = []

abbrev pub detail_part : ExerciseView → Reply → List ℕ
detail_part x (reply.Gave thread) = thread_name x thread
detail_part x (reply.Got value) = signed_decimal value
detail_part x r = []

operand_taken : (o : Op) (rest : List (List ℕ)) → (word_if (takes_operand (word_of (opcode_of o))) (operand_words o ++ rest) ≡ operand_part o) × (behind_if (takes_operand (word_of (opcode_of o))) (operand_words o ++ rest) ≡ rest)
operand_taken (op.Wait condition) rest = (refl, refl)
operand_taken (op.Signal condition) rest = (refl, refl)
operand_taken (op.Broadcast condition) rest = (refl, refl)
operand_taken (op.Send value) rest = (refl, refl)
operand_taken (op.Write value) rest = (refl, refl)
operand_taken (op.Add value) rest = (refl, refl)
operand_taken o rest = (refl, refl)

detail_taken : (x : ExerciseView) (r : Reply) (behind : List (List ℕ)) → (word_if (takes_detail (reply_word r)) (detail_words x r ++ behind) ≡ detail_part x r) × (behind_if (takes_detail (reply_word r)) (detail_words x r ++ behind) ≡ behind)
detail_taken x (reply.Gave thread) behind = (refl, refl)
detail_taken x (reply.Got value) behind = (refl, refl)
detail_taken x r behind = (refl, refl)

-- the parts of an event's text with a number in front and words behind
abbrev pub written_parts : ExerciseView → Entry → List ℕ → List (List ℕ) → Parts
written_parts x e number behind = record {
  number = number;
  stamp = decimal e.stamp;
  thread = pointed (thread_name x e.thread) e.place;
  object = pointed (name_of x.objects e.object) e.at;
  operation = word_of (opcode_of e.op);
  operand = operand_part e.op;
  reply = reply_word e.reply;
  detail = detail_part x e.reply;
  behind = behind;
}

-- the same, by the words from the operand on and those from the reply on
abbrev by_rest : ExerciseView → Entry → List ℕ → List ℕ → List (List ℕ) → Parts
by_rest x e number operand rest = record {
  number = number;
  stamp = decimal e.stamp;
  thread = pointed (thread_name x e.thread) e.place;
  object = pointed (name_of x.objects e.object) e.at;
  operation = word_of (opcode_of e.op);
  operand = operand;
  reply = word_at 0 rest;
  detail = word_if (takes_detail (word_at 0 rest)) (drop 1 rest);
  behind = behind_if (takes_detail (word_at 0 rest)) (drop 1 rest);
}

abbrev by_behind : ExerciseView → Entry → List ℕ → List ℕ → List (List ℕ) → Parts
by_behind x e number detail behind = record {
  number = number;
  stamp = decimal e.stamp;
  thread = pointed (thread_name x e.thread) e.place;
  object = pointed (name_of x.objects e.object) e.at;
  operation = word_of (opcode_of e.op);
  operand = operand_part e.op;
  reply = reply_word e.reply;
  detail = detail;
  behind = behind;
}

pub parts_written : (x : ExerciseView) (e : Entry) (number : List ℕ) (behind : List (List ℕ)) → parts_behind number (decimal e.stamp ∷ words_behind x e behind) ≡ written_parts x e number behind
parts_written x e number behind =
    let rest = reply_word e.reply ∷ (detail_words x e.reply ++ behind) in
    let takes = takes_operand (word_of (opcode_of e.op)) in
    let operand = operand_taken e.op rest in
    let detail = detail_taken x e.reply behind in
    ap (λ r. by_rest x e number (word_if takes (operand_words e.op ++ rest)) r) operand.1
    ∙ ap (λ w. by_rest x e number w rest) operand.0
    ∙ ap (λ w. by_behind x e number w (behind_if (takes_detail (reply_word e.reply)) (detail_words x e.reply ++ behind))) detail.0
    ∙ ap (λ ws. by_behind x e number (detail_part x e.reply) ws) detail.1

-- a word with a point has one, and digits have none
pointed_has : (name : List ℕ) (n : ℕ) → has_point (pointed name n) ≡ true
pointed_has name n = list_any-append (λ b. b == 46) name (46 ∷ decimal n) ∙ either (has_point name)
  where
    either : (b : Bool) → (b || true) ≡ true
    either true = refl
    either false = refl

digits_pointless : (ds : List ℕ) → list_all is_digit ds ≡ true → has_point ds ≡ false
digits_pointless [] h = refl
digits_pointless (b ∷ ds) h =
    let parts = and_parts (is_digit b) (list_all is_digit ds) h in
    let no : (b == 46) ≡ false = digit_no_point b parts.0 in
    ap (λ t. t || has_point ds) no ∙ digits_pointless ds parts.1
  where
    digit_no_point : (b : ℕ) → is_digit b ≡ true → (b == 46) ≡ false
    digit_no_point b h = grind (arith, nat_tests)

-- the parts of an event's text alone
pub alone : (x : ExerciseView) (e : Entry) (behind : List (List ℕ)) → parts_of (decimal e.stamp ∷ words_behind x e behind) ≡ written_parts x e [] behind
alone x e behind =
    let ws = decimal e.stamp ∷ words_behind x e behind in
    let unnumbered : is_numbered ws ≡ false = ap not (pointed_has (thread_name x e.thread) e.place) in
    ap (λ b. parts_behind (word_if b ws) (behind_if b ws)) unnumbered ∙ parts_written x e [] behind

-- and with a number in front
pub numbered : (x : ExerciseView) (e : Entry) (number : List ℕ) (behind : List (List ℕ)) → list_all is_digit (decimal e.stamp) ≡ true → parts_of (number ∷ decimal e.stamp ∷ words_behind x e behind) ≡ written_parts x e number behind
numbered x e number behind digits =
    let ws = number ∷ decimal e.stamp ∷ words_behind x e behind in
    let is : is_numbered ws ≡ true = ap not (digits_pointless (decimal e.stamp) digits) in
    ap (λ b. parts_behind (word_if b ws) (behind_if b ws)) is ∙ parts_written x e number behind

-- the name and the place of a pointed word
pub point_at : (name rest : List ℕ) → has_point name ≡ false → position_or_len (λ b. b == 46) (name ++ 46 ∷ rest) ≡ length name
point_at [] rest h = refl
point_at (b ∷ name) rest h =
    let first = split (b == 46) (has_point name) h in
    let later = point_at name rest first.1 in
    cond-true (not (b == 46)) _ _ (ap not first.0) ∙ (let more : 1 + position_or_len (λ c. c == 46) (name ++ 46 ∷ rest) ≡ suc (length name) = omega arith in more)
  where
    split : (a b : Bool) → (a || b) ≡ false → (a ≡ false) × (b ≡ false)
    split true b h = absurd (cc)
    split false b h = (refl, h)

pub name_back : (name : List ℕ) (n : ℕ) → has_point name ≡ false → name_in (pointed name n) ≡ name
name_back name n h = ap (λ k. take k (pointed name n)) (point_at name (decimal n) h) ∙ take-append_seam name (46 ∷ decimal n)

pub place_back : (name : List ℕ) (n : ℕ) → has_point name ≡ false → place_in (pointed name n) ≡ decimal n
place_back name n h = ap (λ k. drop (k + 1) (pointed name n)) (point_at name (decimal n) h) ∙ drop-append-add name (46 ∷ decimal n) 1

-- a name has no point
words_pointless : (bs : List ℕ) → list_all is_word bs ≡ true → has_point bs ≡ false
words_pointless [] h = refl
words_pointless (b ∷ bs) h =
    let parts = and_parts (is_word b) (list_all is_word bs) h in
    let no : (b == 46) ≡ false = word_no_point b parts.0 in
    ap (λ t. t || has_point bs) no ∙ words_pointless bs parts.1
  where
    word_no_point : (b : ℕ) → is_word b ≡ true → (b == 46) ≡ false
    word_no_point b h = grind (arith, nat_tests)

pub name_pointless : (name : List ℕ) → IsName name → has_point name ≡ false
name_pointless [] h = refl
name_pointless (b ∷ bs) h =
    let outer = and_parts (is_letter b && list_all is_word bs) (nat_le (length bs) 15) h in
    let inner = and_parts (is_letter b) (list_all is_word bs) outer.0 in
    let no : (b == 46) ≡ false = letter_no_point b inner.0 in
    ap (λ t. t || has_point bs) no ∙ words_pointless bs inner.1
  where
    letter_no_point : (b : ℕ) → is_letter b ≡ true → (b == 46) ≡ false
    letter_no_point b h = grind (arith, nat_tests)
