-- The layout of the dining philosophers: the forks, the chairs where there are chairs, and then the threads.
use Rattle.std.proofs.Common.{◌≡◌, ◌+◌, ◌-◌, ◌%◌, ◌≤◌, ◌<◌, ℕ, Bool, true, false, cond, List, [], ◌∷◌, ◌++◌, map, flat_map, codes, arith, refl, sym, ap, ◌∙◌}
use Rattle.std.specs.List.{range_with_len}
use Rattle.std.proofs.lemmas.List.{append-nil, append_assoc}
use Rattle.tm_base.specs.declared.kinds.Kind.{Kind}
use Rattle.tm_base.specs.declared.kinds.Kind.TheVariants as kind
use Rattle.tm_text.specs.declared.exercises.Declaration.{Declaration}
use Rattle.tm_text.specs.SpelledLines.{SpelledLine}
use Rattle.tm_makers.specs.declared.plans.Way.{Way}
use Rattle.tm_makers.specs.declared.plans.Way.TheVariants as way
use Rattle.tm_makers.specs.Drafts.{Part, Object, Thread, objects_of}
use Rattle.tm_makers.specs.LineForms.{is_within, mutex, numbered, p, repeats, sem, v}
use Rattle.tm_makers.specs.PhilosopherPrograms.{chairs_parts, eats, eats_seated, philosopher_program}
use Rattle.tm_makers.specs.Philosophers.{are_philosophers, chairs, fork, is_turned, lines_of_philosophers, meal, meal_of, philosopher, seated}
use Rattle.tm_makers.proofs.Layouts.{Group, Layout, Many, One, SoundLayout, declared, parts_of}
use Rattle.tm_makers.proofs.LayoutLines.{At, Runs, a_call, ends-say, lines-last, lines-many, lines-objects, lines-then, lines_of_part, object-here, object-later, repeats-say, runs, thread-lines}
use Rattle.tm_makers.proofs.LayoutParts.{both-true}
use Rattle.tm_makers.proofs.Sizes.{Within, within}

abbrev pub chairs_under : ℕ → Way → List (Group Kind)
chairs_under n way.Chairs = One chairs (kind.Sem (n - 1)) ∷ []
chairs_under n w = []

abbrev pub layout : ℕ → ℕ → Way → Layout
layout n rounds w = record {
  objects = Many (codes "f") 0 n (λ i. kind.Mutex) ∷ chairs_under n w;
  threads = Many (codes "P") 0 n (philosopher_program n rounds w) ∷ [];
}

record Sizes (n rounds : ℕ) : Type 0 where
  many : Within 2 60 n
  rounds_are : Within 1 100 rounds

sizes : (n rounds : ℕ) → are_philosophers n rounds ≡ true → Sizes n rounds
sizes n rounds h =
    let parts = both-true (is_within 2 60 n) (is_within 1 100 rounds) h in
    record { many = within 2 60 n parts.0; rounds_are = within 1 100 rounds parts.1 }

-- ---- programs

eats-run : (ds : List Declaration) (rounds a b : ℕ) → rounds ≤ 100 → At ds a (fork a) kind.Mutex → At ds b (fork b) kind.Mutex → Runs ds (eats rounds a b) (repeats rounds (meal (fork a) (fork b)))
eats-run ds rounds a b few first second =
    runs ds (eats rounds a b) (repeats rounds (meal (fork a) (fork b))) refl (omega arith)
    (repeats-say rounds few, (a_call first refl, (a_call second refl, (a_call second refl, (a_call first refl, (ends-say, tt))))))

seated-run : (ds : List Declaration) (n rounds a b : ℕ) → rounds ≤ 100 → At ds a (fork a) kind.Mutex → At ds b (fork b) kind.Mutex → At ds n chairs (kind.Sem (n - 1))
    → Runs ds (eats_seated n rounds a b) (repeats rounds (p chairs ∷ meal (fork a) (fork b) ++ v chairs ∷ []))
seated-run ds n rounds a b few first second seats =
    runs ds (eats_seated n rounds a b) (repeats rounds (p chairs ∷ meal (fork a) (fork b) ++ v chairs ∷ [])) refl (omega arith) (
      repeats-say rounds few,
      (
        a_call seats refl,
        (a_call first refl, (a_call second refl, (a_call second refl, (a_call first refl, (a_call seats refl, (ends-say, tt)))))),
      ),
    )

-- the forks, and the meal with them, by whether the philosopher is turned
abbrev forks_by : Bool → ℕ → ℕ → ℕ × ℕ
forks_by b n i = cond b ((i + 1) % n, i) (i, (i + 1) % n)

abbrev meal_by : Bool → ℕ → ℕ → List SpelledLine
meal_by b n i = cond b (meal (fork ((i + 1) % n)) (fork i)) (meal (fork i) (fork ((i + 1) % n)))

fork-at : (n rounds : ℕ) (w : Way) (i : ℕ) → i < n → At (declared (layout n rounds w)) i (fork i) kind.Mutex
fork-at n rounds w i h = object-here (codes "f") (λ i. kind.Mutex) n _ 1 i h

chairs-at : (n rounds : ℕ) → At (declared (layout n rounds way.Chairs)) n chairs (kind.Sem (n - 1))
chairs-at n rounds = object-later (codes "f") (λ i. kind.Mutex) n _ 1 0 n chairs (kind.Sem (n - 1)) (omega arith) (record { at = refl })

plain-by : (ds : List Declaration) (rounds n i : ℕ) (b : Bool) → rounds ≤ 100 → At ds i (fork i) kind.Mutex → At ds ((i + 1) % n) (fork ((i + 1) % n)) kind.Mutex
    → Runs ds (eats rounds (forks_by b n i).0 (forks_by b n i).1) (repeats rounds (meal_by b n i))
plain-by ds rounds n i true few one other = eats-run ds rounds ((i + 1) % n) i few other one
plain-by ds rounds n i false few one other = eats-run ds rounds i ((i + 1) % n) few one other

seated-by : (ds : List Declaration) (rounds n i : ℕ) (b : Bool) → rounds ≤ 100 → At ds i (fork i) kind.Mutex → At ds ((i + 1) % n) (fork ((i + 1) % n)) kind.Mutex → At ds n chairs (kind.Sem (n - 1))
    → Runs ds (eats_seated n rounds (forks_by b n i).0 (forks_by b n i).1) (repeats rounds (p chairs ∷ meal_by b n i ++ v chairs ∷ []))
seated-by ds rounds n i true few one other seats = seated-run ds n rounds ((i + 1) % n) i few other one seats
seated-by ds rounds n i false few one other seats = seated-run ds n rounds i ((i + 1) % n) few one other seats

program-runs : (n rounds : ℕ) (w : Way) (i : ℕ) → Sizes n rounds → i < n → Runs (declared (layout n rounds w)) (philosopher_program n rounds w i) (repeats rounds (seated w (meal_of n w i)))
program-runs n rounds way.Naive i s h =
    let w = way.Naive in
    let next : (i + 1) % n < n = omega arith in
    plain-by (declared (layout n rounds w)) rounds n i (is_turned n w i) s.rounds_are.high (fork-at n rounds w i h) (fork-at n rounds w ((i + 1) % n) next)
program-runs n rounds way.Asymmetric i s h =
    let w = way.Asymmetric in
    let next : (i + 1) % n < n = omega arith in
    plain-by (declared (layout n rounds w)) rounds n i (is_turned n w i) s.rounds_are.high (fork-at n rounds w i h) (fork-at n rounds w ((i + 1) % n) next)
program-runs n rounds way.Chairs i s h =
    let w = way.Chairs in
    let next : (i + 1) % n < n = omega arith in
    seated-by (declared (layout n rounds w)) rounds n i (is_turned n w i) s.rounds_are.high (fork-at n rounds w i h) (fork-at n rounds w ((i + 1) % n) next) (chairs-at n rounds)

-- ---- the layout

pub sound : (n rounds : ℕ) (w : Way) → are_philosophers n rounds ≡ true → SoundLayout (layout n rounds w)
sound n rounds way.Naive h =
    let s = sizes n rounds h in
    record {
      few_objects = omega (arith, s.many.high);
      few_threads = omega (arith, s.many.high);
      named = refl;
      apart = refl;
      small_objects = (omega (arith, s.many.high), tt);
      small_threads = (omega (arith, s.many.high), tt);
      kinds = (λ i low high. (tt, refl), tt);
      programs = (λ i low high. (program-runs n rounds way.Naive i s (omega arith)).sound, tt);
    }
sound n rounds way.Asymmetric h =
    let s = sizes n rounds h in
    record {
      few_objects = omega (arith, s.many.high);
      few_threads = omega (arith, s.many.high);
      named = refl;
      apart = refl;
      small_objects = (omega (arith, s.many.high), tt);
      small_threads = (omega (arith, s.many.high), tt);
      kinds = (λ i low high. (tt, refl), tt);
      programs = (λ i low high. (program-runs n rounds way.Asymmetric i s (omega arith)).sound, tt);
    }
sound n rounds way.Chairs h =
    let s = sizes n rounds h in
    record {
      few_objects = omega (arith, s.many.high);
      few_threads = omega (arith, s.many.high);
      named = refl;
      apart = refl;
      small_objects = (omega (arith, s.many.high), (tt, tt));
      small_threads = (omega (arith, s.many.high), tt);
      kinds = (λ i low high. (tt, refl), ((omega (arith, s.many.high), refl), tt));
      programs = (λ i low high. (program-runs n rounds way.Chairs i s (omega arith)).sound, tt);
    }

module _ (n rounds : ℕ) (h : are_philosophers n rounds ≡ true) where
  abbrev ds : Way → List Declaration
  ds w = declared (layout n rounds w)

  abbrev forks : List Part
  forks = objects_of (codes "f") n kind.Mutex

  abbrev fork_lines : List SpelledLine
  fork_lines = map (λ i. mutex (fork i)) (range_with_len 0 n)

  abbrev pub threads_under : Way → List Part
  threads_under w = map (λ i. Thread (numbered (codes "P") i) (philosopher_program n rounds w i)) (range_with_len 0 n)

  abbrev thread_lines : Way → List SpelledLine
  thread_lines w = flat_map (philosopher n rounds w) (range_with_len 0 n)

  last-lines : (w : Way) → flat_map (lines_of_part (ds w)) (threads_under w ++ []) ≡ thread_lines w
  last-lines w =
      let s = sizes n rounds h in
      lines-last (ds w) (threads_under w) (thread_lines w)
      (lines-many (ds w) (λ i. Thread (numbered (codes "P") i) (philosopher_program n rounds w i)) (philosopher n rounds w) 0 n
      (λ i low high. thread-lines (ds w) (numbered (codes "P") i) (philosopher_program n rounds w i) (repeats rounds (seated w (meal_of n w i))) (program-runs n rounds w i s (omega arith))))

  -- the forks, and the lines of what follows them
  whole-lines : (w : Way) (rest : List Part) (more : List SpelledLine) → flat_map (lines_of_part (ds w)) rest ≡ more ++ thread_lines w
      → flat_map (lines_of_part (ds w)) (forks ++ rest) ≡ (fork_lines ++ more) ++ thread_lines w
  whole-lines w rest more are =
      lines-then (ds w) forks rest fork_lines (more ++ thread_lines w) (lines-objects (ds w) (codes "f") (λ i. kind.Mutex) 0 n) are
      ∙ sym (append_assoc fork_lines more (thread_lines w))

  pub lines : (w : Way) → flat_map (lines_of_part (ds w)) (parts_of (layout n rounds w)) ≡ lines_of_philosophers n rounds w
  lines way.Naive = whole-lines way.Naive (threads_under way.Naive ++ []) [] (last-lines way.Naive)
  lines way.Asymmetric = whole-lines way.Asymmetric (threads_under way.Asymmetric ++ []) [] (last-lines way.Asymmetric)
  lines way.Chairs =
      whole-lines way.Chairs (Object chairs (kind.Sem (n - 1)) ∷ (threads_under way.Chairs ++ [])) (sem chairs (n - 1) ∷ [])
      (ap (λ ls. sem chairs (n - 1) ∷ ls) (last-lines way.Chairs))

  -- the parts in the order in which they are drafted
  pub parts-are : (w : Way) → (forks ++ chairs_parts n w) ++ threads_under w ≡ parts_of (layout n rounds w)
  parts-are way.Naive = append_assoc forks [] (threads_under way.Naive) ∙ ap (λ ps. forks ++ ps) (sym (append-nil (threads_under way.Naive)))
  parts-are way.Asymmetric = append_assoc forks [] (threads_under way.Asymmetric) ∙ ap (λ ps. forks ++ ps) (sym (append-nil (threads_under way.Asymmetric)))
  parts-are way.Chairs =
      append_assoc forks (Object chairs (kind.Sem (n - 1)) ∷ []) (threads_under way.Chairs)
      ∙ ap (λ ps. forks ++ Object chairs (kind.Sem (n - 1)) ∷ ps) (sym (append-nil (threads_under way.Chairs)))
