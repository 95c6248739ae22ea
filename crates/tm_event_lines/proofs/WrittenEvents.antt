-- The words of an event's text.
use Rattle.std.proofs.Common.{◌≡◌, ℕ, List, [], ◌∷◌, ◌++◌, flat_map, refl, sym, ap, ◌∙◌, append_assoc}
use Rattle.std.specs.Fmt.{decimal, signed_decimal}
use Rattle.std.proofs.lemmas.Grind.{flat_map-append}
use Rattle.std.proofs.lemmas.List.{append-nil}
use Rattle.tm_base.specs.declared.bars.Bar.{Bar}
use Rattle.tm_base.specs.declared.events.Entry.{Entry}
use Rattle.tm_base.specs.declared.operations.Op.{Op}
use Rattle.tm_base.specs.declared.operations.Op.TheVariants as op
use Rattle.tm_base.specs.declared.replies.Reply.{Reply}
use Rattle.tm_base.specs.declared.replies.Reply.TheVariants as reply
use Rattle.tm_base.specs.Opcodes.{opcode_of, word_of}
use Rattle.tm_text.specs.Exercises.{ExerciseView, name_of}
use Rattle.tm_text.proofs.JoinedWords.{spaced}
use Rattle.tm_timeline.specs.Rows.{detail_text, event_text, operand_text, thread_name}
use Rattle.tm_timeline.specs.Words.{bar_letter, reply_word}
use Rattle.tm_event_lines.specs.EventTexts.{row_line}

-- a name, a point and a number
abbrev pub pointed : List ℕ → ℕ → List ℕ
pointed name n = name ++ 46 ∷ decimal n

abbrev pub operand_words : Op → List (List ℕ)
operand_words (op.Wait condition) = decimal condition ∷ []
operand_words (op.Signal condition) = decimal condition ∷ []
operand_words (op.Broadcast condition) = decimal condition ∷ []
operand_words (op.Send value) = signed_decimal value ∷ []
operand_words (op.Write value) = signed_decimal value ∷ []
operand_words (op.Add value) = signed_decimal value ∷ []
operand_words o = []

abbrev pub detail_words : ExerciseView → Reply → List (List ℕ)
detail_words x (reply.Gave thread) = thread_name x thread ∷ []
detail_words x (reply.Got value) = signed_decimal value ∷ []
detail_words x r = []

abbrev pub bars_word : List Bar → List ℕ
bars_word bars = 91 ∷ flat_map bar_letter bars ++ 93 ∷ []

-- the words behind the stamp
abbrev pub words_behind : ExerciseView → Entry → List (List ℕ) → List (List ℕ)
words_behind x e behind =
    pointed (thread_name x e.thread) e.place ∷ pointed (name_of x.objects e.object) e.at ∷ word_of (opcode_of e.op)
    ∷ (operand_words e.op ++ (reply_word e.reply ∷ (detail_words x e.reply ++ behind)))

one_word : (w : List ℕ) → 32 ∷ w ≡ spaced (w ∷ [])
one_word w = sym (append-nil (32 ∷ w))

operand_spaced : (o : Op) → operand_text o ≡ spaced (operand_words o)
operand_spaced (op.Wait condition) = one_word (decimal condition)
operand_spaced (op.Signal condition) = one_word (decimal condition)
operand_spaced (op.Broadcast condition) = one_word (decimal condition)
operand_spaced (op.Send value) = one_word (signed_decimal value)
operand_spaced (op.Write value) = one_word (signed_decimal value)
operand_spaced (op.Add value) = one_word (signed_decimal value)
operand_spaced o = refl

detail_spaced : (x : ExerciseView) (r : Reply) → detail_text x r ≡ spaced (detail_words x r)
detail_spaced x (reply.Gave thread) = one_word (thread_name x thread)
detail_spaced x (reply.Got value) = one_word (signed_decimal value)
detail_spaced x r = refl

regroup : (s t p o a w n r d : List ℕ)
    → s ++ 32 ∷ [] ++ (t ++ 46 ∷ [] ++ p ++ 32 ∷ [] ++ o ++ 46 ∷ [] ++ a) ++ 32 ∷ [] ++ w ++ n ++ 32 ∷ [] ++ r ++ d
    ≡ s ++ ((32 ∷ (t ++ 46 ∷ p)) ++ ((32 ∷ (o ++ 46 ∷ a)) ++ ((32 ∷ w) ++ (n ++ ((32 ∷ r) ++ d)))))
regroup s t p o a w n r d = simp append_assoc

-- an event's text is its words with a space between
pub text_spaced : (x : ExerciseView) (e : Entry) → event_text x e ≡ decimal e.stamp ++ spaced (words_behind x e [])
text_spaced x e =
    let t = thread_name x e.thread in
    let p = decimal e.place in
    let o = name_of x.objects e.object in
    let a = decimal e.at in
    let w = word_of (opcode_of e.op) in
    let r = reply_word e.reply in
    let tail : spaced (operand_words e.op) ++ ((32 ∷ r) ++ spaced (detail_words x e.reply)) ≡ spaced (operand_words e.op ++ (r ∷ (detail_words x e.reply ++ []))) =
    ap (λ ds. spaced (operand_words e.op) ++ ((32 ∷ r) ++ spaced ds)) (sym (append-nil (detail_words x e.reply)))
    ∙ sym (flat_map-append (λ v. 32 ∷ v) (operand_words e.op) (r ∷ (detail_words x e.reply ++ []))) in
    regroup (decimal e.stamp) t p o a w (operand_text e.op) r (detail_text x e.reply)
    ∙ ap (λ n. decimal e.stamp ++ ((32 ∷ (t ++ 46 ∷ p)) ++ ((32 ∷ (o ++ 46 ∷ a)) ++ ((32 ∷ w) ++ (n ++ ((32 ∷ r) ++ detail_text x e.reply)))))) (operand_spaced e.op)
    ∙ ap (λ d. decimal e.stamp ++ ((32 ∷ (t ++ 46 ∷ p)) ++ ((32 ∷ (o ++ 46 ∷ a)) ++ ((32 ∷ w) ++ (spaced (operand_words e.op) ++ ((32 ∷ r) ++ d)))))) (detail_spaced x e.reply)
    ∙ ap (λ l. decimal e.stamp ++ ((32 ∷ (t ++ 46 ∷ p)) ++ ((32 ∷ (o ++ 46 ∷ a)) ++ ((32 ∷ w) ++ l)))) tail

around : (n s v b : List ℕ) → n ++ 32 ∷ [] ++ (s ++ v) ++ 32 ∷ 91 ∷ [] ++ b ++ 93 ∷ [] ≡ n ++ ((32 ∷ s) ++ (v ++ (32 ∷ 91 ∷ (b ++ 93 ∷ []))))
around n s v b = simp append_assoc

behind_last : (x : ExerciseView) (e : Entry) (behind : List (List ℕ)) → words_behind x e [] ++ behind ≡ words_behind x e behind
behind_last x e behind =
    let r = reply_word e.reply in
    let ds = detail_words x e.reply in
    let front = λ (l : List (List ℕ)). pointed (thread_name x e.thread) e.place ∷ pointed (name_of x.objects e.object) e.at ∷ word_of (opcode_of e.op) ∷ l in
    ap front (append_assoc (operand_words e.op) (r ∷ (ds ++ [])) behind) ∙ ap (λ l. front (operand_words e.op ++ (r ∷ l))) (ap (λ l. l ++ behind) (append-nil ds))

-- and so is a row without its LF
pub row_spaced : (x : ExerciseView) (n : ℕ) (e : Entry) (bars : List Bar) → row_line x n e bars ≡ decimal n ++ spaced (decimal e.stamp ∷ words_behind x e (bars_word bars ∷ []))
row_spaced x n e bars =
    let v = spaced (words_behind x e []) in
    let last : v ++ (32 ∷ bars_word bars) ≡ spaced (words_behind x e (bars_word bars ∷ [])) =
    ap (λ l. v ++ l) (one_word (bars_word bars)) ∙ sym (flat_map-append (λ w. 32 ∷ w) (words_behind x e []) (bars_word bars ∷ [])) ∙ ap spaced (behind_last x e (bars_word bars ∷ [])) in
    ap (λ t. decimal n ++ 32 ∷ [] ++ t ++ 32 ∷ 91 ∷ [] ++ flat_map bar_letter bars ++ 93 ∷ []) (text_spaced x e)
    ∙ around (decimal n) (decimal e.stamp) v (flat_map bar_letter bars)
    ∙ ap (λ l. decimal n ++ ((32 ∷ decimal e.stamp) ++ l)) last
