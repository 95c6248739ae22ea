-- The text of an event that a trace can have is an event line of it.
use Rattle.std.proofs.Common.{◌≡◌, ℕ, ◌^◌, ◌<◌, ◌↔◌, ℤ, pos, Bool, true, false, not, ◌&&◌, ◌||◌, cond, is_none, List, [], ◌∷◌, ◌++◌, flat_map, length, Option, Some, unwrap_or, refl, sym, ap, ◌∙◌, arith}
use Rattle.std.specs.Fmt.{decimal, signed_decimal}
use Rattle.std.specs.List.{list_all}
use Rattle.std.proofs.lemmas.Bool.{and_from, ne_eqb, or_from}
use Rattle.std.proofs.lemmas.List.Folds.{list_all-append}
use Rattle.tm_base.specs.declared.bars.Bar.{Bar}
use Rattle.tm_base.specs.declared.bars.Bar.TheVariants as bar
use Rattle.tm_base.specs.declared.events.Entry.{Entry}
use Rattle.tm_base.specs.declared.opcodes.Opcode.{Opcode}
use Rattle.tm_base.specs.declared.opcodes.Opcode.TheVariants as opcode
use Rattle.tm_base.specs.declared.operations.Op.{Op}
use Rattle.tm_base.specs.declared.operations.Op.TheVariants as op
use Rattle.tm_base.specs.declared.replies.Reply.{Reply}
use Rattle.tm_base.specs.declared.replies.Reply.TheVariants as reply
use Rattle.tm_base.specs.Names.{is_digit}
use Rattle.tm_base.specs.Opcodes.{opcode_of, word_of}
use Rattle.tm_lines.specs.Lines.{is_printed, words_of}
use Rattle.tm_text.specs.Exercises.{ExerciseView, IsWellFormed, name_of}
use Rattle.tm_text.specs.Texts.{number_in}
use Rattle.tm_text.proofs.JoinedWords.{AllSolid, Solid, is_graph, line_printed, words_cut}
use Rattle.tm_text.proofs.WrittenValues.{decimal_solid, number_solid}
use Rattle.tm_timeline.specs.Rows.{NamesThread, event_text, thread_name}
use Rattle.tm_timeline.specs.TraceableEvents.{IsSaidWith, IsTraceable}
use Rattle.tm_timeline.specs.Words.{bar_letter, reply_word}
use Rattle.tm_event_lines.specs.EventFaults.{are_bars, has_unknown_name, has_unknown_word, has_wrong_count, has_wrong_number, has_wrong_operand, has_wrong_value, is_bar_letter, is_missing, is_unknown_operation, is_unknown_reply, lacks_detail, lacks_operand, lacks_word}
use Rattle.tm_event_lines.specs.EventLines.{IsEventLine}
use Rattle.tm_event_lines.specs.EventTexts.{BringsLongValue, HasLongValue, HasLongValues, IsLong, row_line}
use Rattle.tm_event_lines.specs.EventWords.{is_gave, is_got, operation_of, parts_of, reply_of, takes_detail, takes_operand}
use Rattle.tm_event_lines.specs.SaidWords.{condition_of, counted_of, entry_said, is_cut, name_in, op_said, place_in, thread_in, thread_named, value_of}
use Rattle.tm_event_lines.proofs.BarLemmas.{closes_bars-last}
use Rattle.tm_event_lines.proofs.FaultLemmas.{none_applies}
use Rattle.tm_event_lines.proofs.WrittenEvents.{bars_word, detail_words, operand_words, pointed, row_spaced, text_spaced, words_behind}
use Rattle.tm_event_lines.proofs.WrittenParts.{alone, detail_part, name_back, numbered, operand_part, place_back, written_parts}
use Rattle.tm_event_lines.proofs.WrittenValuesBack.{condition_back, counted_back, counted_small, decimal_digits, granted_back, long_value, object_found, pointed_solid, thread_back, value_back}

not_missing : (w : List ℕ) → Solid w → is_missing w ≡ false
not_missing w solid = let some = solid.some in ne_eqb (length w) 0 (λ e. omega arith)

-- the words of operations and replies
operation_solid : (c : Opcode) → Solid (word_of c)
operation_solid opcode.Lock = record { some = omega arith; graph = refl }
operation_solid c = record { some = omega arith; graph = refl }

reply_solid : (r : Reply) → Solid (reply_word r)
reply_solid reply.Ok = record { some = omega arith; graph = refl }
reply_solid r = record { some = omega arith; graph = refl }

known_operation : (o : Op) → is_unknown_operation (word_of (opcode_of o)) ≡ false
known_operation op.Lock = refl
known_operation o = refl

known_reply : (r : Reply) → is_unknown_reply (reply_word r) ≡ false
known_reply reply.Ok = refl
known_reply r = refl

-- the operand
operand_solid : (o : Op) (r : Reply) → IsSaidWith r o → HasLongValue o → AllSolid (operand_words o)
operand_solid (op.Wait condition) r small long = (decimal_solid condition (omega arith), tt)
operand_solid (op.Signal condition) r small long = (decimal_solid condition (omega arith), tt)
operand_solid (op.Broadcast condition) r small long = (decimal_solid condition (omega arith), tt)
operand_solid (op.Send value) r small long = (number_solid value (long_value value long), tt)
operand_solid (op.Write value) r small long = (number_solid value (long_value value long), tt)
operand_solid (op.Add value) r small long = (number_solid value (long_value value long), tt)
operand_solid o r small long = tt

has_operand : (o : Op) → AllSolid (operand_words o) → (takes_operand (word_of (opcode_of o)) && is_missing (operand_part o)) ≡ false
has_operand (op.Wait condition) s = not_missing (decimal condition) s.0
has_operand (op.Signal condition) s = not_missing (decimal condition) s.0
has_operand (op.Broadcast condition) s = not_missing (decimal condition) s.0
has_operand (op.Send value) s = not_missing (signed_decimal value) s.0
has_operand (op.Write value) s = not_missing (signed_decimal value) s.0
has_operand (op.Add value) s = not_missing (signed_decimal value) s.0
has_operand o s = refl

right_condition : (n : ℕ) → n < 16 → (is_none (condition_of (decimal n)) || false) ≡ false
right_condition n h = ap (λ r. is_none r || false) (condition_back n h)

right_operand : (o : Op) (r : Reply) → IsSaidWith r o → HasLongValue o → has_wrong_operand (word_of (opcode_of o)) (operand_part o) ≡ false
right_operand (op.Wait condition) r small long = right_condition condition small
right_operand (op.Signal condition) r small long = right_condition condition small
right_operand (op.Broadcast condition) r small long = right_condition condition small
right_operand (op.Send value) r small long = ap is_none (value_back value long)
right_operand (op.Write value) r small long = ap is_none (value_back value long)
right_operand (op.Add value) r small long = ap is_none (value_back value long)
right_operand o r small long = refl

cut_back : (cut : Bool) (r : Reply) → (cut ≡ true) ↔ (r ≡ reply.Cut) → cut ≡ is_cut r
cut_back true r h = sym (ap is_cut (h.0 refl))
cut_back false reply.Cut h = h.1 refl
cut_back false r h = refl

condition_in : (n : ℕ) → n < 16 → n ≡ unwrap_or (condition_of (decimal n)) 0
condition_in n h = sym (ap (λ r. unwrap_or r 0) (condition_back n h))

value_in : (k : ℤ) → IsLong k → k ≡ unwrap_or (value_of (signed_decimal k)) (pos 0)
value_in k h = sym (ap (λ r. unwrap_or r (pos 0)) (value_back k h))

op_back : (o : Op) (r : Reply) → IsSaidWith r o → HasLongValue o
    → o ≡ op_said (unwrap_or (operation_of (word_of (opcode_of o))) opcode.Stop) (unwrap_or (condition_of (operand_part o)) 0) (unwrap_or (value_of (operand_part o)) (pos 0)) r
op_back (op.Wait condition) r small long = ap op.Wait (condition_in condition small)
op_back (op.Signal condition) r small long = ap op.Signal (condition_in condition small)
op_back (op.Broadcast condition) r small long = ap op.Broadcast (condition_in condition small)
op_back (op.Send value) r small long = ap op.Send (value_in value long)
op_back (op.Write value) r small long = ap op.Write (value_in value long)
op_back (op.Add value) r small long = ap op.Add (value_in value long)
op_back (op.End cut) r said long = ap op.End (cut_back cut r said)
op_back o r said long = refl

-- what the reply names or brings
detail_solid : (x : ExerciseView) → IsWellFormed x → (r : Reply) → NamesThread x r → BringsLongValue r → AllSolid (detail_words x r)
detail_solid x formed (reply.Gave thread) names long = ((granted_back x formed thread names).0.solid, tt)
detail_solid x formed (reply.Got value) names long = (number_solid value (long_value value long), tt)
detail_solid x formed r names long = tt

has_detail : (x : ExerciseView) (r : Reply) → AllSolid (detail_words x r) → (takes_detail (reply_word r) && is_missing (detail_part x r)) ≡ false
has_detail x (reply.Gave thread) s = not_missing (thread_name x thread) s.0
has_detail x (reply.Got value) s = not_missing (signed_decimal value) s.0
has_detail x r s = refl

abbrev granted_part : ExerciseView → Reply → Option ℕ
granted_part x r = cond (is_gave (reply_word r)) (thread_in x.objects (detail_part x r)) (Some 0)

right_name : (x : ExerciseView) → IsWellFormed x → (r : Reply) → NamesThread x r → is_none (granted_part x r) ≡ false
right_name x formed (reply.Gave thread) names = ap is_none (granted_back x formed thread names).1
right_name x formed r names = refl

right_detail : (x : ExerciseView) (r : Reply) → BringsLongValue r → (is_got (reply_word r) && is_none (value_of (detail_part x r))) ≡ false
right_detail x (reply.Got value) long = ap is_none (value_back value long)
right_detail x r long = refl

reply_back : (x : ExerciseView) → IsWellFormed x → (r : Reply) → NamesThread x r → BringsLongValue r
    → r ≡ unwrap_or (reply_of (unwrap_or (granted_part x r) 0) (unwrap_or (value_of (detail_part x r)) (pos 0)) (reply_word r)) reply.Ok
reply_back x formed (reply.Gave thread) names long = ap reply.Gave (sym (ap (λ r. unwrap_or r 0) (granted_back x formed thread names).1))
reply_back x formed (reply.Got value) names long = ap reply.Got (value_in value long)
reply_back x formed r names long = refl

-- lists of words
solid_both : (vs ws : List (List ℕ)) → AllSolid vs → AllSolid ws → AllSolid (vs ++ ws)
solid_both [] ws a b = b
solid_both (v ∷ vs) ws a b = (a.0, solid_both vs ws a.1 b)

-- an event with what makes it readable
pub record IsReadable (x : ExerciseView) (e : Entry) : Type 0 where
  pub formed : IsWellFormed x
  pub traceable : IsTraceable x e
  pub values : HasLongValues e

solid_behind : (x : ExerciseView) (e : Entry) (behind : List (List ℕ)) → IsReadable x e → AllSolid behind → AllSolid (words_behind x e behind)
solid_behind x e behind h solid =
    let t = h.traceable in
    let thread = (thread_back x h.formed e.thread t.thread).0 in
    let object = (object_found x h.formed e.object t.object).0 in
    let details = solid_both (detail_words x e.reply) behind (detail_solid x h.formed e.reply t.named h.values.reply) solid in (
      pointed_solid (thread_name x e.thread) e.place thread.solid (counted_small e.place t.place),
      (
        pointed_solid (name_of x.objects e.object) e.at object.solid (counted_small e.at t.at),
        (
          operation_solid (opcode_of e.op),
          solid_both (operand_words e.op) (reply_word e.reply ∷ (detail_words x e.reply ++ behind)) (operand_solid e.op e.reply t.said h.values.op) (reply_solid e.reply, details),
        ),
      ),
    )

-- the kinds of fault don't apply
right_count : (x : ExerciseView) (e : Entry) (number : List ℕ) (behind : List (List ℕ)) → IsReadable x e → are_bars behind ≡ true → has_wrong_count (written_parts x e number behind) ≡ false
right_count x e number behind h bars =
    let t = h.traceable in
    let p = written_parts x e number behind in
    let thread = (thread_back x h.formed e.thread t.thread).0 in
    let object = (object_found x h.formed e.object t.object).0 in
    let one = not_missing p.stamp (decimal_solid e.stamp (counted_small e.stamp t.stamp)) in
    let two = not_missing p.thread (pointed_solid (thread_name x e.thread) e.place thread.solid (counted_small e.place t.place)) in
    let three = not_missing p.object (pointed_solid (name_of x.objects e.object) e.at object.solid (counted_small e.at t.at)) in
    let four = not_missing p.operation (operation_solid (opcode_of e.op)) in
    let five = has_operand e.op (operand_solid e.op e.reply t.said h.values.op) in
    let six = not_missing p.reply (reply_solid e.reply) in
    let seven = has_detail x e.reply (detail_solid x h.formed e.reply t.named h.values.reply) in
    let m = is_missing in
    let to_two = or_from (m p.stamp) (m p.thread) one two in
    let to_three = or_from (m p.stamp || m p.thread) (m p.object) to_two three in
    let to_four = or_from (m p.stamp || m p.thread || m p.object) (m p.operation) to_three four in
    let to_five = or_from (m p.stamp || m p.thread || m p.object || m p.operation) (lacks_operand p) to_four five in
    let to_six = or_from (m p.stamp || m p.thread || m p.object || m p.operation || lacks_operand p) (m p.reply) to_five six in
    or_from (lacks_word p) (not (are_bars behind)) (or_from (m p.stamp || m p.thread || m p.object || m p.operation || lacks_operand p || m p.reply) (lacks_detail p) to_six seven) (ap not bars)

thread_read : (x : ExerciseView) (e : Entry) → IsReadable x e → thread_named x.objects (name_in (pointed (thread_name x e.thread) e.place)) ≡ Some e.thread
thread_read x e h =
    let found = thread_back x h.formed e.thread h.traceable.thread in
    ap (thread_named x.objects) (name_back (thread_name x e.thread) e.place found.0.pointless) ∙ found.1

object_read : (x : ExerciseView) (e : Entry) → IsReadable x e → number_in 0 x.objects (name_in (pointed (name_of x.objects e.object) e.at)) ≡ Some e.object
object_read x e h =
    let found = object_found x h.formed e.object h.traceable.object in
    ap (number_in 0 x.objects) (name_back (name_of x.objects e.object) e.at found.0.pointless) ∙ found.1

place_read : (x : ExerciseView) (e : Entry) → IsReadable x e → counted_of (place_in (pointed (thread_name x e.thread) e.place)) ≡ Some e.place
place_read x e h =
    let found = thread_back x h.formed e.thread h.traceable.thread in
    ap counted_of (place_back (thread_name x e.thread) e.place found.0.pointless) ∙ counted_back e.place h.traceable.place

at_read : (x : ExerciseView) (e : Entry) → IsReadable x e → counted_of (place_in (pointed (name_of x.objects e.object) e.at)) ≡ Some e.at
at_read x e h =
    let found = object_found x h.formed e.object h.traceable.object in
    ap counted_of (place_back (name_of x.objects e.object) e.at found.0.pointless) ∙ counted_back e.at h.traceable.at

right_names : (x : ExerciseView) (e : Entry) (number : List ℕ) (behind : List (List ℕ)) → IsReadable x e → has_unknown_name x.objects (written_parts x e number behind) ≡ false
right_names x e number behind h =
    let p = written_parts x e number behind in
    let no_thread = is_none (thread_named x.objects (name_in p.thread)) in
    let no_object = is_none (number_in 0 x.objects (name_in p.object)) in
    or_from (no_thread || no_object) (is_none (granted_part x e.reply))
    (or_from no_thread no_object (ap is_none (thread_read x e h)) (ap is_none (object_read x e h)))
    (right_name x h.formed e.reply h.traceable.named)

right_numbers : (x : ExerciseView) (e : Entry) (number : List ℕ) (behind : List (List ℕ)) → IsReadable x e → list_all is_digit number ≡ true → has_wrong_number (written_parts x e number behind) ≡ false
right_numbers x e number behind h digits =
    let p = written_parts x e number behind in
    let t = h.traceable in
    let no_digits = not (list_all is_digit number) in
    let no_stamp = is_none (counted_of p.stamp) in
    let no_place = is_none (counted_of (place_in p.thread)) in
    let no_at = is_none (counted_of (place_in p.object)) in
    let to_stamp = or_from no_digits no_stamp (ap not digits) (ap is_none (counted_back e.stamp t.stamp)) in
    let to_place = or_from (no_digits || no_stamp) no_place to_stamp (ap is_none (place_read x e h)) in
    let to_at = or_from (no_digits || no_stamp || no_place) no_at to_place (ap is_none (at_read x e h)) in
    or_from (no_digits || no_stamp || no_place || no_at) (has_wrong_value p) to_at
    (or_from (has_wrong_operand p.operation p.operand) (is_got p.reply && is_none (value_of p.detail)) (right_operand e.op e.reply t.said h.values.op) (right_detail x e.reply h.values.reply))

-- the words say the event
abbrev made : ℕ → ℕ → ℕ → ℕ → ℕ → Op → Reply → Entry
made thread place object at stamp o r = record { thread = thread; place = place; object = object; at = at; stamp = stamp; op = o; reply = r }

in_some : (r : Option ℕ) (n : ℕ) → r ≡ Some n → n ≡ unwrap_or r 0
in_some r n h = sym (ap (λ v. unwrap_or v 0) h)

event_read : (x : ExerciseView) (e : Entry) (number : List ℕ) (behind : List (List ℕ)) → IsReadable x e → e ≡ entry_said x.objects (written_parts x e number behind)
event_read x e number behind h =
    let f = entry_said x.objects (written_parts x e number behind) in
    let t = h.traceable in
    let thread : e.thread ≡ f.thread = in_some (thread_named x.objects (name_in (pointed (thread_name x e.thread) e.place))) e.thread (thread_read x e h) in
    let object : e.object ≡ f.object = in_some (number_in 0 x.objects (name_in (pointed (name_of x.objects e.object) e.at))) e.object (object_read x e h) in
    let place : e.place ≡ f.place = in_some (counted_of (place_in (pointed (thread_name x e.thread) e.place))) e.place (place_read x e h) in
    let at : e.at ≡ f.at = in_some (counted_of (place_in (pointed (name_of x.objects e.object) e.at))) e.at (at_read x e h) in
    let stamp : e.stamp ≡ f.stamp = in_some (counted_of (decimal e.stamp)) e.stamp (counted_back e.stamp t.stamp) in
    let replies : e.reply ≡ f.reply = reply_back x h.formed e.reply t.named h.values.reply in
    let c = unwrap_or (operation_of (word_of (opcode_of e.op))) opcode.Stop in
    let operates : e.op ≡ f.op =
    op_back e.op e.reply t.said h.values.op ∙ ap (op_said c (unwrap_or (condition_of (operand_part e.op)) 0) (unwrap_or (value_of (operand_part e.op)) (pos 0))) replies in
    ap (λ v. made v e.place e.object e.at e.stamp e.op e.reply) thread
    ∙ ap (λ v. made f.thread v e.object e.at e.stamp e.op e.reply) place
    ∙ ap (λ v. made f.thread f.place v e.at e.stamp e.op e.reply) object
    ∙ ap (λ v. made f.thread f.place f.object v e.stamp e.op e.reply) at
    ∙ ap (λ v. made f.thread f.place f.object f.at v e.op e.reply) stamp
    ∙ ap (λ v. made f.thread f.place f.object f.at f.stamp v e.reply) operates
    ∙ ap (λ v. made f.thread f.place f.object f.at f.stamp f.op v) replies

-- a line of these parts
line_read : (x : ExerciseView) (e : Entry) (line number : List ℕ) (behind : List (List ℕ)) → IsReadable x e → list_all is_printed line ≡ true → parts_of (words_of line) ≡ written_parts x e number behind
    → list_all is_digit number ≡ true → are_bars behind ≡ true → IsEventLine x line e
line_read x e line number behind h printed parts digits bars =
    let p = parts_of (words_of line) in
    record {
      faultless = none_applies x.objects line p (record {
        printed = printed;
        words = ap has_unknown_word parts ∙ or_from (is_unknown_operation (word_of (opcode_of e.op))) (is_unknown_reply (reply_word e.reply)) (known_operation e.op) (known_reply e.reply);
        count = ap has_wrong_count parts ∙ right_count x e number behind h bars;
        names = ap (has_unknown_name x.objects) parts ∙ right_names x e number behind h;
        numbers = ap has_wrong_number parts ∙ right_numbers x e number behind h digits;
      });
      said = event_read x e number behind h ∙ ap (entry_said x.objects) (sym parts);
    }

pub text_read : (x : ExerciseView) (e : Entry) → IsReadable x e → IsEventLine x (event_text x e) e
text_read x e h =
    let stamp = decimal_solid e.stamp (counted_small e.stamp h.traceable.stamp) in
    let solid = solid_behind x e [] h tt in
    let text = text_spaced x e in
    line_read x e (event_text x e) [] [] h
    (ap (list_all is_printed) text ∙ line_printed (decimal e.stamp) (words_behind x e []) stamp solid)
    (ap (λ l. parts_of (words_of l)) text ∙ ap parts_of (words_cut (decimal e.stamp) (words_behind x e []) stamp solid) ∙ alone x e []) refl refl

-- bars
letters_graph : (bars : List Bar) → list_all is_graph (flat_map bar_letter bars) ≡ true
letters_graph [] = refl
letters_graph (bar.Unborn ∷ bars) = letters_graph bars
letters_graph (bar.Runs ∷ bars) = letters_graph bars
letters_graph (bar.Blocked ∷ bars) = letters_graph bars
letters_graph (bar.Granted ∷ bars) = letters_graph bars
letters_graph (bar.Ended ∷ bars) = letters_graph bars

letters_bars : (bars : List Bar) → list_all is_bar_letter (flat_map bar_letter bars) ≡ true
letters_bars [] = refl
letters_bars (bar.Unborn ∷ bars) = letters_bars bars
letters_bars (bar.Runs ∷ bars) = letters_bars bars
letters_bars (bar.Blocked ∷ bars) = letters_bars bars
letters_bars (bar.Granted ∷ bars) = letters_bars bars
letters_bars (bar.Ended ∷ bars) = letters_bars bars

bars_solid : (bars : List Bar) → Solid (bars_word bars)
bars_solid bars =
    let letters = flat_map bar_letter bars in
    record {
      some = omega arith;
      graph = list_all-append is_graph letters (93 ∷ []) ∙ and_from (list_all is_graph letters) true (letters_graph bars) refl;
    }

bars_are : (bars : List Bar) → are_bars (bars_word bars ∷ []) ≡ true
bars_are bars = closes_bars-last (flat_map bar_letter bars) 93 ∙ letters_bars bars

pub row_read : (x : ExerciseView) (e : Entry) (n : ℕ) (bars : List Bar) → IsReadable x e → n < 2 ^ 64 → IsEventLine x (row_line x n e bars) e
row_read x e n bars h small =
    let stamp = decimal_solid e.stamp (counted_small e.stamp h.traceable.stamp) in
    let number = decimal_solid n small in
    let behind = bars_word bars ∷ [] in
    let solid = solid_behind x e behind h (bars_solid bars, tt) in
    let text = row_spaced x n e bars in
    let words = decimal e.stamp ∷ words_behind x e behind in
    line_read x e (row_line x n e bars) (decimal n) behind h
    (ap (list_all is_printed) text ∙ line_printed (decimal n) words number (stamp, solid))
    (ap (λ l. parts_of (words_of l)) text ∙ ap parts_of (words_cut (decimal n) words number (stamp, solid)) ∙ numbered x e (decimal n) behind (decimal_digits e.stamp (counted_small e.stamp h.traceable.stamp)))
    (decimal_digits n small) (bars_are bars)
