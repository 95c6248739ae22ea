-- The layout of a large exercise: eight mutexes, semaphores and variables, and then the threads.
use Rattle.std.proofs.Common.{◌≡◌, ◌+◌, ◌-◌, ◌*◌, ◌%◌, ◌≤◌, ◌<◌, ℕ, List, [], ◌∷◌, ◌++◌, map, flat_map, codes, pos, arith, refl, sym, ap}
use Rattle.std.specs.List.{range_with_len}
use Rattle.std.proofs.lemmas.List.{append-nil}
use Rattle.tm_base.specs.declared.kinds.Kind.{Kind}
use Rattle.tm_base.specs.declared.kinds.Kind.TheVariants as kind
use Rattle.tm_programs.specs.declared.instructions.Instruction.{Instruction}
use Rattle.tm_text.specs.declared.exercises.Declaration.{Declaration}
use Rattle.tm_text.specs.SpelledLines.{SpelledLine}
use Rattle.tm_makers.specs.Drafts.{Part, Thread, objects_of}
use Rattle.tm_makers.specs.LargeExercises.{drawn, large_thread, mutex_name, picked, sem_name, var_name, works}
use Rattle.tm_makers.specs.LargePrograms.{large_program, sem_parts}
use Rattle.tm_makers.specs.LineForms.{mutex, numbered, repeats, sem, var}
use Rattle.tm_makers.proofs.Layouts.{Layout, Many, SoundLayout, declarations, declared, parts_of}
use Rattle.tm_makers.proofs.LayoutLines.{At, Runs, a_call, ends-say, lines-last, lines-many, lines_of_part, object-here, object-later, repeats-say, runs, thread-lines}

-- the program of thread i
abbrev pub drawn_program : ℕ → ℕ → List Instruction
drawn_program y i = large_program (picked (drawn y (3 * i - 2))) (picked (drawn y (3 * i - 1))) (picked (drawn y (3 * i)))

abbrev pub sem_kind : ℕ → Kind
sem_kind i = kind.Sem (1 + i % 3)

-- the layout with so many threads
abbrev pub layout : ℕ → ℕ → Layout
layout y t = record {
  objects = Many (codes "m") 0 8 (λ i. kind.Mutex) ∷ Many (codes "s") 0 8 sem_kind ∷ Many (codes "x") 0 8 (λ i. kind.Var (pos 0)) ∷ [];
  threads = Many (codes "T") 1 t (drawn_program y) ∷ [];
}

abbrev pub mutexes : List Part
mutexes = objects_of (codes "m") 8 kind.Mutex

abbrev pub semaphores : List Part
semaphores = sem_parts 8

abbrev pub variables : List Part
variables = objects_of (codes "x") 8 (kind.Var (pos 0))

abbrev pub drawn_part : ℕ → ℕ → Part
drawn_part y i = Thread (numbered (codes "T") i) (drawn_program y i)

abbrev pub threads : ℕ → ℕ → List Part
threads y t = map (drawn_part y) (range_with_len 1 t)

work-runs : (ds : List Declaration) (a b c : ℕ) → At ds a (mutex_name a) kind.Mutex → At ds (8 + b) (sem_name b) (sem_kind b) → At ds (16 + a) (var_name a) (kind.Var (pos 0)) → At ds (16 + c) (var_name c) (kind.Var (pos 0))
    → Runs ds (large_program a b c) (repeats 50 (works a b c))
work-runs ds a b c m s x z =
    runs ds (large_program a b c) (repeats 50 (works a b c)) refl (omega arith)
    (repeats-say 50 (omega arith), (a_call m refl, (a_call x refl, (a_call m refl, (a_call s refl, (a_call z refl, (a_call s refl, (ends-say, tt))))))))

-- ---- where the objects stand, with others behind them

mutex-at : (rest : List Part) (a : ℕ) → a < 8 → At (declarations 1 (mutexes ++ rest)) a (mutex_name a) kind.Mutex
mutex-at rest a h = object-here (codes "m") (λ i. kind.Mutex) 8 rest 1 a h

sem-at : (rest : List Part) (b : ℕ) → b < 8 → At (declarations 1 (mutexes ++ (semaphores ++ rest))) (8 + b) (sem_name b) (sem_kind b)
sem-at rest b h = object-later (codes "m") (λ i. kind.Mutex) 8 (semaphores ++ rest) 1 b (8 + b) (sem_name b) (sem_kind b) refl (object-here (codes "s") sem_kind 8 rest 1 b h)

var-at : (rest : List Part) (c : ℕ) → c < 8 → At (declarations 1 (mutexes ++ (semaphores ++ (variables ++ rest)))) (16 + c) (var_name c) (kind.Var (pos 0))
var-at rest c h =
    object-later (codes "m") (λ i. kind.Mutex) 8 (semaphores ++ (variables ++ rest)) 1 (8 + c) (16 + c) (var_name c) (kind.Var (pos 0)) (omega arith)
    (object-later (codes "s") sem_kind 8 (variables ++ rest) 1 c (8 + c) (var_name c) (kind.Var (pos 0)) refl
    (object-here (codes "x") (λ i. kind.Var (pos 0)) 8 rest 1 c h))

abbrev ds-with : List Part → List Declaration
ds-with rest = declarations 1 (mutexes ++ (semaphores ++ (variables ++ rest)))

picked-few : (y : ℕ) → picked y < 8
picked-few y = omega arith

program-runs : (rest : List Part) (y i : ℕ) → Runs (ds-with rest) (drawn_program y i) (repeats 50 (works (picked (drawn y (3 * i - 2))) (picked (drawn y (3 * i - 1))) (picked (drawn y (3 * i)))))
program-runs rest y i =
    let a = picked (drawn y (3 * i - 2)) in
    let b = picked (drawn y (3 * i - 1)) in
    let c = picked (drawn y (3 * i)) in
    let few-a = picked-few (drawn y (3 * i - 2)) in
    let few-b = picked-few (drawn y (3 * i - 1)) in
    let few-c = picked-few (drawn y (3 * i)) in
    work-runs (ds-with rest) a b c (mutex-at (semaphores ++ (variables ++ rest)) a few-a) (sem-at (variables ++ rest) b few-b) (var-at rest a few-a) (var-at rest c few-c)

sem-few : (i : ℕ) → 1 + i % 3 ≤ 1000000
sem-few i = omega arith

pub sound : (y t : ℕ) → t ≤ 64 → SoundLayout (layout y t)
sound y t few = record {
  few_objects = omega arith;
  few_threads = omega arith;
  named = refl;
  apart = refl;
  small_objects = (omega arith, (omega arith, (omega arith, tt)));
  small_threads = (omega arith, tt);
  kinds = (λ i low high. (tt, refl), (λ i low high. (sem-few i, refl), (λ i low high. (tt, refl), tt)));
  programs = (λ i low high. (program-runs (threads y t ++ []) y i).sound, tt);
}

-- the lines with so many threads
abbrev pub lines_with : ℕ → ℕ → List SpelledLine
lines_with y t =
    map (λ i. mutex (mutex_name i)) (range_with_len 0 8)
    ++ map (λ i. sem (sem_name i) (1 + i % 3)) (range_with_len 0 8)
    ++ map (λ i. var (var_name i) 0) (range_with_len 0 8) ++ flat_map (large_thread y) (range_with_len 1 t)

lines-threads : (y t : ℕ) → flat_map (lines_of_part (ds-with (threads y t ++ []))) (threads y t ++ []) ≡ flat_map (large_thread y) (range_with_len 1 t)
lines-threads y t =
    let ds = ds-with (threads y t ++ []) in
    lines-last ds (threads y t) (flat_map (large_thread y) (range_with_len 1 t))
    (lines-many ds (drawn_part y) (large_thread y) 1 t
    (λ i low high. thread-lines ds (numbered (codes "T") i) (drawn_program y i) (repeats 50 (works (picked (drawn y (3 * i - 2))) (picked (drawn y (3 * i - 1))) (picked (drawn y (3 * i))))) (program-runs (threads y t ++ []) y i)))

-- objects come first, whatever follows them
lines-objects-first : (ds : List Declaration) (rest : List Part) (more : List SpelledLine) → flat_map (lines_of_part ds) rest ≡ more
    → flat_map (lines_of_part ds) (mutexes ++ (semaphores ++ (variables ++ rest)))
    ≡ map (λ i. mutex (mutex_name i)) (range_with_len 0 8)
    ++ map (λ i. sem (sem_name i) (1 + i % 3)) (range_with_len 0 8)
    ++ map (λ i. var (var_name i) 0) (range_with_len 0 8) ++ more
lines-objects-first ds rest more are =
    ap (λ ls. map (λ i. mutex (mutex_name i)) (range_with_len 0 8) ++ map (λ i. sem (sem_name i) (1 + i % 3)) (range_with_len 0 8) ++ map (λ i. var (var_name i) 0) (range_with_len 0 8) ++ ls) are

pub lines : (y t : ℕ) → flat_map (lines_of_part (declared (layout y t))) (parts_of (layout y t)) ≡ lines_with y t
lines y t = lines-objects-first (ds-with (threads y t ++ [])) (threads y t ++ []) (flat_map (large_thread y) (range_with_len 1 t)) (lines-threads y t)

-- the parts in the order in which they are drafted
pub parts-are : (y t : ℕ) → ((mutexes ++ semaphores) ++ variables) ++ threads y t ≡ parts_of (layout y t)
parts-are y t = ap (λ ps. mutexes ++ (semaphores ++ (variables ++ ps))) (sym (append-nil (threads y t)))
