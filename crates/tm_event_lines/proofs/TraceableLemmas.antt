-- The event that a line without a fault says is one that a trace can have.
use Rattle.std.proofs.Common.{◌≡◌, ℕ, suc, ◌+◌, ◌≤◌, ◌<◌, ℤ, pos, negsuc, nat_abs, int_le, Bool, true, false, ◌&&◌, ◌||◌, not, cond, is_none, List, [], ◌∷◌, length, slice_get, find, Option, Some, None, option_map, option_and_then, unwrap_or, refl, sym, ap, ◌∙◌, subst, arith}
use Rattle.std.specs.List.{list_all}
use Rattle.std.specs.Int.Signed.{le_z_yes}
use Rattle.std.specs.Option.{option_or}
use Rattle.std.proofs.lemmas.Float.{T_from_true}
use Rattle.std.specs.Str.{bytes_eq}
use Rattle.std.proofs.lemmas.Bool.{and_parts, cond-true, cond_both, leb-true, or_parts}
use Rattle.tm_base.specs.declared.events.Entry.{Entry}
use Rattle.tm_base.specs.declared.opcodes.Opcode.{Opcode}
use Rattle.tm_base.specs.declared.opcodes.Opcode.TheVariants as opcode
use Rattle.tm_base.specs.declared.replies.Reply.{Reply}
use Rattle.tm_base.specs.declared.replies.Reply.TheVariants as reply
use Rattle.tm_base.specs.Names.{is_digit}
use Rattle.tm_lines.specs.declared.limits.TheConstants.{GREATEST_NUMBER, LEAST_NUMBER}
use Rattle.tm_lines.specs.Lines.{words_of}
use Rattle.tm_lines.specs.Numerals.{integer_of, unless_outside}
use Rattle.tm_text.specs.declared.exercises.Declaration.{Declaration}
use Rattle.tm_text.specs.Exercises.{ExerciseView, IsWellFormed, thread_of}
use Rattle.tm_text.specs.Texts.{number_in}
use Rattle.tm_text.proofs.ThreadNumbers.{thread_known}
use Rattle.tm_timeline.specs.Rows.{IsProgramThread, NamesThread}
use Rattle.tm_timeline.specs.Words.{reply_word}
use Rattle.tm_timeline.specs.TraceableEvents.{IsCounted, IsSaidWith, IsTraceable}
use Rattle.tm_event_lines.specs.EventFaults.{has_wrong_value}
use Rattle.tm_event_lines.specs.EventLines.{IsEventLine}
use Rattle.tm_event_lines.specs.EventTexts.{BringsLongValue, HasLongValue, HasLongValues, IsLong, IsReadEvent}
use Rattle.tm_event_lines.specs.EventWords.{Parts, is_gave, is_got, operation_of, outcomes, parts_of, refusals, reply_among, reply_of}
use Rattle.tm_event_lines.specs.SaidWords.{condition_of, counted_of, entry_said, granted_of, is_cut, name_in, names_said, numbers_said, op_said, place_in, reply_by, thread_at, thread_in, thread_named, value_of}
use Rattle.tm_event_lines.proofs.FaultLemmas.{IsFaultless, faultless_line}

-- a thread that has a name has a program
thread_at-known : (x : ExerciseView) → IsWellFormed x → (o t : ℕ) (r : Option Declaration) → slice_get x.objects o ≡ r → option_and_then thread_of r ≡ Some t → IsProgramThread x t
thread_at-known x formed o t None at h = absurd (cc)
thread_at-known x formed o t (Some d) at h = let known = thread_known x formed o t d at h in record { program = known.0; known = known.1 }

thread_by-known : (x : ExerciseView) → IsWellFormed x → (r : Option ℕ) (t : ℕ) → option_and_then (thread_at x.objects) r ≡ Some t → IsProgramThread x t
thread_by-known x formed None t h = absurd (cc)
thread_by-known x formed (Some o) t h = thread_at-known x formed o t (slice_get x.objects o) refl h

thread_in-known : (x : ExerciseView) → IsWellFormed x → (name : List ℕ) (t : ℕ) → thread_in x.objects name ≡ Some t → IsProgramThread x t
thread_in-known x formed name t h = thread_by-known x formed (number_in 0 x.objects name) t h

-- the thread of the name, or 0, is `main` or has a program
within : (x : ExerciseView) (r : Option ℕ) → ((t : ℕ) → r ≡ Some t → IsProgramThread x t) → unwrap_or r 0 ≤ length x.programs
within x None h = omega arith
within x (Some t) h = (h t refl).known

pub thread_within : (x : ExerciseView) → IsWellFormed x → (name : List ℕ) → unwrap_or (thread_named x.objects name) 0 ≤ length x.programs
thread_within x formed name =
    cond_both (bytes_eq name _) (Some 0) (thread_in x.objects name) (λ r. unwrap_or r 0 ≤ length x.programs) (λ t. omega arith)
    (λ f. within x (thread_in x.objects name) (λ t. thread_in-known x formed name t))

-- the object of a name is one of the objects
number_in-within : (n : ℕ) (ds : List Declaration) (name : List ℕ) → is_none (number_in n ds name) ≡ false → unwrap_or (number_in n ds name) 0 < n + length ds
number_in-within n [] name h = absurd (cc)
number_in-within n (d ∷ ds) name h =
    cond_both (bytes_eq d.name name) (Some n) (number_in (suc n) ds name) (λ r. is_none r ≡ false → unwrap_or r 0 < n + length (d ∷ ds))
    (λ t some. omega arith) (λ f some. let later = number_in-within (suc n) ds name some in omega arith) h

pub object_within : (ds : List Declaration) (name : List ℕ) → is_none (number_in 0 ds name) ≡ false → unwrap_or (number_in 0 ds name) 0 < length ds
object_within ds name h = let at = number_in-within 0 ds name h in omega arith

-- a number that counts from 1
counted_by : (r : Option ℤ) → is_none (option_map nat_abs (option_and_then (unless_outside (pos 1) GREATEST_NUMBER) r)) ≡ false → IsCounted (unwrap_or (option_map nat_abs (option_and_then (unless_outside (pos 1) GREATEST_NUMBER) r)) 0)
counted_by None h = absurd (cc)
counted_by (Some (pos n)) h =
    cond_both (int_le (pos 1) (pos n) && int_le (pos n) GREATEST_NUMBER) (Some (pos n)) None (λ r. is_none (option_map nat_abs r) ≡ false → IsCounted (unwrap_or (option_map nat_abs r) 0))
    (λ t some. let parts = and_parts (int_le (pos 1) (pos n)) (int_le (pos n) GREATEST_NUMBER) t in record { first = leb-true 1 n parts.0; last = leb-true n 9223372036854775807 parts.1 })
    (λ f some. absurd (cc)) h
counted_by (Some (negsuc n)) h = absurd (cc)

pub counted_is : (w : List ℕ) → is_none (counted_of w) ≡ false → IsCounted (unwrap_or (counted_of w) 0)
counted_is w h = counted_by (integer_of w) h

-- a condition that some monitor can have
condition_by : (r : Option ℤ) → unwrap_or (option_map nat_abs (option_and_then (unless_outside (pos 0) (pos 15)) r)) 0 < 16
condition_by None = omega arith
condition_by (Some (pos n)) =
    cond_both (int_le (pos 0) (pos n) && int_le (pos n) (pos 15)) (Some (pos n)) None (λ r. unwrap_or (option_map nat_abs r) 0 < 16)
    (λ t. let most = leb-true n 15 (and_parts (int_le (pos 0) (pos n)) (int_le (pos n) (pos 15)) t).1 in omega arith) (λ f. omega arith)
condition_by (Some (negsuc n)) = omega arith

pub condition_small : (w : List ℕ) → unwrap_or (condition_of w) 0 < 16
condition_small w = condition_by (integer_of w)

cut_means : (r : Reply) → is_cut r ≡ true → r ≡ reply.Cut
cut_means reply.Cut h = refl
cut_means r h = absurd (cc)

pub said_with : (c : Opcode) (condition : ℕ) (value : ℤ) (r : Reply) → condition < 16 → IsSaidWith r (op_said c condition value r)
said_with opcode.Wait condition value r small = small
said_with opcode.Signal condition value r small = small
said_with opcode.Broadcast condition value r small = small
said_with opcode.End condition value r small = (cut_means r, λ e. ap is_cut e)
said_with c condition value r small = tt

-- a reply that doesn't name a thread
abbrev NamesNone : ExerciseView → List Reply → Type 0
NamesNone x [] = Unit {0}
NamesNone x (r ∷ rs) = NamesThread x r × NamesNone x rs

abbrev Named : ExerciseView → Option Reply → Type 0
Named x r = NamesThread x (unwrap_or r reply.Ok)

found_names : (x : ExerciseView) (test : Reply → Bool) (rs : List Reply) → NamesNone x rs → Named x (find test rs)
found_names x test [] h = tt
found_names x test (r ∷ rs) h = cond_both (test r) (Some r) (find test rs) (Named x) (λ t. h.0) (λ f. found_names x test rs h.1)

either_names : (x : ExerciseView) (a b : Option Reply) → Named x a → Named x b → Named x (option_or a b)
either_names x None b h g = g
either_names x (Some a) b h g = h

reply_names : (x : ExerciseView) (t : ℕ) (v : ℤ) (w : List ℕ) → (is_gave w ≡ true → IsProgramThread x t) → Named x (reply_of t v w)
reply_names x t v w h =
    cond_both (is_gave w) (Some (reply.Gave t)) (cond (is_got w) (Some (reply.Got v)) (option_or (reply_among outcomes w) (reply_among refusals w))) (Named x) h
    (λ f. cond_both (is_got w) (Some (reply.Got v)) (option_or (reply_among outcomes w) (reply_among refusals w)) (Named x) (λ g. tt)
    (λ g. either_names x (reply_among outcomes w) (reply_among refusals w) (found_names x (λ r. bytes_eq (reply_word r) w) outcomes (tt, (tt, (tt, (tt, (tt, tt)))))) (found_names x (λ r. bytes_eq (reply_word r) w) refusals (tt, (tt, (tt, (tt, (tt, (tt, (tt, (tt, tt)))))))))))

found_known : (x : ExerciseView) → (r : Option ℕ) → ((t : ℕ) → r ≡ Some t → IsProgramThread x t) → is_none r ≡ false → IsProgramThread x (unwrap_or r 0)
found_known x None h some = absurd (cc)
found_known x (Some t) h some = h t refl

-- the thread that `gave` names has a program
granted_known : (x : ExerciseView) → IsWellFormed x → (p : Parts) → is_none (granted_of x.objects p) ≡ false → is_gave p.reply ≡ true → IsProgramThread x (unwrap_or (granted_of x.objects p) 0)
granted_known x formed p some gave =
    let is : granted_of x.objects p ≡ thread_in x.objects p.detail = cond-true (is_gave p.reply) (thread_in x.objects p.detail) (Some 0) gave in
    subst (λ r. IsProgramThread x (unwrap_or r 0)) (sym is) (found_known x (thread_in x.objects p.detail) (thread_in-known x formed p.detail) (sym (ap is_none is) ∙ some))

traceable_by : (x : ExerciseView) (line : List ℕ) (p : Parts) → IsWellFormed x → IsFaultless x.objects line p → IsTraceable x (entry_said x.objects p)
traceable_by x line p formed fine =
    let ds = x.objects in
    let unnamed = is_none (thread_named ds (name_in p.thread)) in
    let unplaced = is_none (number_in 0 ds (name_in p.object)) in
    let ungranted = is_none (granted_of ds p) in
    let names = or_parts (unnamed || unplaced) ungranted fine.names in
    let known = or_parts unnamed unplaced names.0 in
    let digits = not (list_all is_digit p.number) in
    let stampless = is_none (counted_of p.stamp) in
    let placeless = is_none (counted_of (place_in p.thread)) in
    let atless = is_none (counted_of (place_in p.object)) in
    let numbers = or_parts (((digits || stampless) || placeless) || atless) (has_wrong_value p) fine.numbers in
    let at = or_parts ((digits || stampless) || placeless) atless numbers.0 in
    let place = or_parts (digits || stampless) placeless at.0 in
    let stamp = or_parts digits stampless place.0 in
    record {
      thread = thread_within x formed (name_in p.thread);
      object = object_within ds (name_in p.object) known.1;
      place = counted_is (place_in p.thread) place.1;
      at = counted_is (place_in p.object) at.1;
      stamp = counted_is p.stamp stamp.1;
      said = said_with (unwrap_or (operation_of p.operation) opcode.Stop) (numbers_said p).condition (numbers_said p).operand (reply_by p (names_said ds p) (numbers_said p)) (condition_small p.operand);
      named = reply_names x (names_said ds p).granted (numbers_said p).detail p.reply (granted_known x formed p names.1);
    }

pub traceable : (x : ExerciseView) (line : List ℕ) (e : Entry) → IsWellFormed x → IsEventLine x line e → IsTraceable x e
traceable x line e formed is =
    let p = parts_of (words_of line) in
    subst (IsTraceable x) (sym is.said) (traceable_by x line p formed (faultless_line x.objects line p is.faultless))

-- its values are of 64 bits
found_long : (k : ℤ) → int_le LEAST_NUMBER k ≡ true → int_le k GREATEST_NUMBER ≡ true → IsLong k
found_long k least greatest = record { least = le_z_yes (T_from_true (int_le LEAST_NUMBER k) least); greatest = le_z_yes (T_from_true (int_le k GREATEST_NUMBER) greatest) }

long_by : (r : Option ℤ) → IsLong (unwrap_or (option_and_then (unless_outside LEAST_NUMBER GREATEST_NUMBER) r) (pos 0))
long_by None = found_long (pos 0) refl refl
long_by (Some k) =
    cond_both (int_le LEAST_NUMBER k && int_le k GREATEST_NUMBER) (Some k) None (λ r. IsLong (unwrap_or r (pos 0)))
    (λ t. let parts = and_parts (int_le LEAST_NUMBER k) (int_le k GREATEST_NUMBER) t in found_long k parts.0 parts.1) (λ f. found_long (pos 0) refl refl)

value_long : (w : List ℕ) → IsLong (unwrap_or (value_of w) (pos 0))
value_long w = long_by (integer_of w)

op_long : (c : Opcode) (condition : ℕ) (value : ℤ) (r : Reply) → IsLong value → HasLongValue (op_said c condition value r)
op_long opcode.Send condition value r long = long
op_long opcode.Write condition value r long = long
op_long opcode.Add condition value r long = long
op_long c condition value r long = tt

abbrev Brings : Option Reply → Type 0
Brings r = BringsLongValue (unwrap_or r reply.Ok)

abbrev BringNone : List Reply → Type 0
BringNone [] = Unit {0}
BringNone (r ∷ rs) = BringsLongValue r × BringNone rs

found_brings : (test : Reply → Bool) (rs : List Reply) → BringNone rs → Brings (find test rs)
found_brings test [] h = tt
found_brings test (r ∷ rs) h = cond_both (test r) (Some r) (find test rs) Brings (λ t. h.0) (λ f. found_brings test rs h.1)

either_brings : (a b : Option Reply) → Brings a → Brings b → Brings (option_or a b)
either_brings None b h g = g
either_brings (Some a) b h g = h

reply_long : (t : ℕ) (v : ℤ) (w : List ℕ) → IsLong v → Brings (reply_of t v w)
reply_long t v w h =
    cond_both (is_gave w) (Some (reply.Gave t)) (cond (is_got w) (Some (reply.Got v)) (option_or (reply_among outcomes w) (reply_among refusals w))) Brings (λ f. tt)
    (λ f. cond_both (is_got w) (Some (reply.Got v)) (option_or (reply_among outcomes w) (reply_among refusals w)) Brings (λ g. h)
    (λ g. either_brings (reply_among outcomes w) (reply_among refusals w) (found_brings (λ r. bytes_eq (reply_word r) w) outcomes (tt, (tt, (tt, (tt, (tt, tt)))))) (found_brings (λ r. bytes_eq (reply_word r) w) refusals (tt, (tt, (tt, (tt, (tt, (tt, (tt, (tt, tt)))))))))))

values_long : (x : ExerciseView) (p : Parts) → HasLongValues (entry_said x.objects p)
values_long x p = record {
  op = op_long (unwrap_or (operation_of p.operation) opcode.Stop) (numbers_said p).condition (numbers_said p).operand (reply_by p (names_said x.objects p) (numbers_said p)) (value_long p.operand);
  reply = reply_long (names_said x.objects p).granted (numbers_said p).detail p.reply (value_long p.detail);
}

pub says_event : (x : ExerciseView) (line : List ℕ) (e : Entry) → IsWellFormed x → IsEventLine x line e → IsReadEvent x e
says_event x line e formed is = record {
  traceable = traceable x line e formed is;
  values = subst HasLongValues (sym is.said) (values_long x (parts_of (words_of line)));
}
