-- The exercise of a text without a faulty line is well formed.
use Rattle.std.proofs.Common.{◌≡◌, ℕ, zero, suc, List, [], Option, refl, sym, ap, subst, ◌∙◌, arith, None}
use Rattle.std.specs.List.{range_with_len}
use Rattle.tm_base.specs.declared.kinds.Kind.{Kind}
use Rattle.tm_lines.specs.LineFaults.{first_place}
use Rattle.tm_lines.specs.TextFaults.{first_fault, named_in, said_words, text_lines}
use Rattle.tm_text.specs.Exercises.{IsWellFormed, instructions_of}
use Rattle.tm_text.specs.Texts.{ExercisesAreWellFormed, declarations_said, exercise_of}
use Rattle.tm_text.proofs.Faultless.{faultless}
use Rattle.tm_text.proofs.SaidNames.{found}
use Rattle.tm_text.proofs.SaidObjects.{all_well, fresh_at, fresh_once, objects_are}
use Rattle.tm_text.proofs.SaidCalls.{AreFound}
use Rattle.tm_text.proofs.SaidPrograms.{AllGood, Good, good_at, good_short, programs_are}

-- the instructions of each thread, `main` too
instructions-good : (bytes : List ℕ) → AllGood (exercise_of bytes).objects (exercise_of bytes).programs → (t : ℕ) → Good (exercise_of bytes).objects 0 [] (instructions_of (exercise_of bytes) t)
instructions-good bytes all zero = record { short = omega arith; nested = refl; fine = refl }
instructions-good bytes all (suc t) = good_at (exercise_of bytes).objects (exercise_of bytes).programs all t

pub well_formed-said : (bytes : List ℕ) → first_fault bytes ≡ None → IsWellFormed (exercise_of bytes)
well_formed-said bytes h =
    let wss = said_words (text_lines bytes) in
    let named : List ℕ → Option Kind = named_in (text_lines bytes) in
    let ds = declarations_said 1 wss in
    let none = faultless bytes h in
    let objects = objects_are named first_place wss none 1 (omega arith) (omega arith) in
    let known : AreFound ds named = λ name k. found name k 1 wss (all_well named first_place wss none) in
    let programs = programs_are ds named known first_place wss none refl (omega arith) 1 in
    let few = objects.few in
    let few_threads = objects.few_threads in
    let count = programs.1 in
    record {
      few_objects = omega arith;
      few_threads = omega arith;
      short = λ t. good_short ds (instructions_of (exercise_of bytes) t) (instructions-good bytes programs.0 t);
      names = λ o d at. let one = fresh_at [] ds objects.fresh o d at in (one.is_name, one.not_main);
      once = fresh_once [] ds objects.fresh;
      kinds = λ o d at. (fresh_at [] ds objects.fresh o d at).kind;
      numbered = objects.numbered ∙ ap (range_with_len 1) (sym count);
      nested = λ t. (instructions-good bytes programs.0 t).nested;
      instructions = λ t. (instructions-good bytes programs.0 t).fine;
    }

pub exercises_are_well_formed : ExercisesAreWellFormed
exercises_are_well_formed bytes x is = subst IsWellFormed (sym is.said) (well_formed-said bytes is.faultless)
