-- The layout of a bounded buffer: what guards it and the count, and then the threads.
use Rattle.std.proofs.Common.{◌≡◌, ◌*◌, ◌/◌, ◌%◌, ◌≤◌, ◌==◌, ℕ, true, ◌&&◌, nat_le, List, [], ◌∷◌, ◌++◌, flat_map, codes, pos, negsuc, arith, refl, sym, ap}
use Rattle.std.proofs.lemmas.List.{append-nil}
use Rattle.std.specs.List.{range_with_len}
use Rattle.tm_base.specs.declared.kinds.Kind.{Kind}
use Rattle.tm_base.specs.declared.kinds.Kind.TheVariants as kind
use Rattle.tm_text.specs.declared.exercises.Declaration.{Declaration}
use Rattle.tm_text.specs.SpelledLines.{SpelledLine}
use Rattle.tm_makers.specs.declared.buffers.Work.{Work}
use Rattle.tm_makers.specs.declared.plans.Guard.{Guard}
use Rattle.tm_makers.specs.declared.plans.Guard.TheVariants as guard
use Rattle.tm_makers.specs.BufferPrograms.{buffer_parts, buffer_program}
use Rattle.tm_makers.specs.Buffers.{are_buffer_sizes, b, buffer_objects, consumer, count, empty, full, lines_of_buffer, m, producer, puts, takes}
use Rattle.tm_makers.specs.Drafts.{Part, Thread, threads_of}
use Rattle.tm_makers.specs.LineForms.{is_within, numbered, repeats}
use Rattle.tm_makers.proofs.Layouts.{Group, Layout, Many, One, SoundLayout, declared, parts_of}
use Rattle.tm_makers.proofs.LayoutLines.{At, Runs, a_call, ends-say, lines-last, lines-many, lines-then, lines_of_part, repeats-say, runs, thread-lines}
use Rattle.tm_makers.proofs.LayoutParts.{both-true}
use Rattle.tm_makers.proofs.Sizes.{Within, le-true, within}

abbrev pub put : ℕ → ℕ → Work
put places items = record { turns = items; limit = places; change = pos 1; awaits = 0; signals = 1 }

abbrev pub take : ℕ → Work
take share = record { turns = share; limit = 0; change = negsuc 0; awaits = 1; signals = 0 }

abbrev pub objects_under : ℕ → Guard → List (Group Kind)
objects_under places guard.Semaphores =
    One empty (kind.Sem places) ∷ One full (kind.Sem 0) ∷ One m kind.Mutex ∷ One count (kind.Var (pos 0)) ∷ []
objects_under places guard.Hoare = One b (kind.Hoare 2) ∷ One count (kind.Var (pos 0)) ∷ []
objects_under places guard.Mesa = One b (kind.Mesa 2) ∷ One count (kind.Var (pos 0)) ∷ []

abbrev pub layout : ℕ → ℕ → ℕ → ℕ → Guard → Layout
layout producers consumers places items g = record {
  objects = objects_under places g;
  threads = Many (codes "P") 1 producers (λ i. buffer_program g (put places items))
      ∷ Many (codes "C") 1 consumers (λ i. buffer_program g (take (producers * items / consumers))) ∷ [];
}

record Sizes (producers consumers places items : ℕ) : Type 0 where
  producers_are : Within 1 30 producers
  consumers_are : Within 1 30 consumers
  places_are : Within 1 1000 places
  items_are : Within 1 100 items
  share : producers * items / consumers ≤ 100

sizes : (producers consumers places items : ℕ) → are_buffer_sizes producers consumers places items ≡ true → Sizes producers consumers places items
sizes producers consumers places items h =
    let one = is_within 1 30 producers in
    let two = one && is_within 1 30 consumers in
    let three = two && is_within 1 1000 places in
    let four = three && is_within 1 100 items in
    let even = producers * items % consumers == 0 in
    let all = both-true (four && even) (nat_le (producers * items / consumers) 100) h in
    let to_four = both-true four even all.0 in
    let to_three = both-true three (is_within 1 100 items) to_four.0 in
    let to_two = both-true two (is_within 1 1000 places) to_three.0 in
    let to_one = both-true one (is_within 1 30 consumers) to_two.0 in
    record {
      producers_are = within 1 30 producers to_one.0;
      consumers_are = within 1 30 consumers to_one.1;
      places_are = within 1 1000 places to_two.1;
      items_are = within 1 100 items to_three.1;
      share = le-true (producers * items / consumers) 100 all.1;
    }

module _ (producers consumers places items : ℕ) (h : are_buffer_sizes producers consumers places items ≡ true) where
  abbrev share : ℕ
  share = producers * items / consumers

  abbrev ds : Guard → List Declaration
  ds g = declared (layout producers consumers places items g)

  put-runs : (g : Guard) → Runs (ds g) (buffer_program g (put places items)) (repeats items (puts places g))
  put-runs guard.Semaphores =
      let s = sizes producers consumers places items h in
      let g = guard.Semaphores in
      let first : At (ds g) 0 empty (kind.Sem places) = record { at = refl } in
      let second : At (ds g) 1 full (kind.Sem 0) = record { at = refl } in
      let third : At (ds g) 2 m kind.Mutex = record { at = refl } in
      let fourth : At (ds g) 3 count (kind.Var (pos 0)) = record { at = refl } in
      runs (ds g) (buffer_program g (put places items)) (repeats items (puts places g)) refl (omega arith) (
        repeats-say items s.items_are.high,
        (a_call first refl, (a_call third refl, (a_call fourth refl, (a_call third refl, (a_call second refl, (ends-say, tt)))))),
      )
  put-runs guard.Hoare =
      let s = sizes producers consumers places items h in
      let g = guard.Hoare in
      let first : At (ds g) 0 b (kind.Hoare 2) = record { at = refl } in
      let second : At (ds g) 1 count (kind.Var (pos 0)) = record { at = refl } in
      runs (ds g) (buffer_program g (put places items)) (repeats items (puts places g)) refl (omega arith) (
        repeats-say items s.items_are.high,
        (
          a_call first refl,
          (
            a_call second refl,
            (
              record { line_is = refl; fits = refl },
              (
                a_call first refl,
                (
                  ends-say,
                  (a_call second refl, (a_call first refl, (a_call first refl, (ends-say, tt)))),
                ),
              ),
            ),
          ),
        ),
      )
  put-runs guard.Mesa =
      let s = sizes producers consumers places items h in
      let g = guard.Mesa in
      let first : At (ds g) 0 b (kind.Mesa 2) = record { at = refl } in
      let second : At (ds g) 1 count (kind.Var (pos 0)) = record { at = refl } in
      runs (ds g) (buffer_program g (put places items)) (repeats items (puts places g)) refl (omega arith) (
        repeats-say items s.items_are.high,
        (
          a_call first refl,
          (
            a_call second refl,
            (
              record { line_is = refl; fits = refl },
              (
                a_call first refl,
                (
                  a_call second refl,
                  (
                    ends-say,
                    (a_call second refl, (a_call first refl, (a_call first refl, (ends-say, tt)))),
                  ),
                ),
              ),
            ),
          ),
        ),
      )

  take-runs : (g : Guard) → Runs (ds g) (buffer_program g (take share)) (repeats share (takes g))
  take-runs guard.Semaphores =
      let s = sizes producers consumers places items h in
      let g = guard.Semaphores in
      let first : At (ds g) 0 empty (kind.Sem places) = record { at = refl } in
      let second : At (ds g) 1 full (kind.Sem 0) = record { at = refl } in
      let third : At (ds g) 2 m kind.Mutex = record { at = refl } in
      let fourth : At (ds g) 3 count (kind.Var (pos 0)) = record { at = refl } in
      runs (ds g) (buffer_program g (take share)) (repeats share (takes g)) refl (omega arith) (
        repeats-say share s.share,
        (a_call second refl, (a_call third refl, (a_call fourth refl, (a_call third refl, (a_call first refl, (ends-say, tt)))))),
      )
  take-runs guard.Hoare =
      let s = sizes producers consumers places items h in
      let g = guard.Hoare in
      let first : At (ds g) 0 b (kind.Hoare 2) = record { at = refl } in
      let second : At (ds g) 1 count (kind.Var (pos 0)) = record { at = refl } in
      runs (ds g) (buffer_program g (take share)) (repeats share (takes g)) refl (omega arith) (
        repeats-say share s.share,
        (
          a_call first refl,
          (
            a_call second refl,
            (
              record { line_is = refl; fits = refl },
              (
                a_call first refl,
                (
                  ends-say,
                  (a_call second refl, (a_call first refl, (a_call first refl, (ends-say, tt)))),
                ),
              ),
            ),
          ),
        ),
      )
  take-runs guard.Mesa =
      let s = sizes producers consumers places items h in
      let g = guard.Mesa in
      let first : At (ds g) 0 b (kind.Mesa 2) = record { at = refl } in
      let second : At (ds g) 1 count (kind.Var (pos 0)) = record { at = refl } in
      runs (ds g) (buffer_program g (take share)) (repeats share (takes g)) refl (omega arith) (
        repeats-say share s.share,
        (
          a_call first refl,
          (
            a_call second refl,
            (
              record { line_is = refl; fits = refl },
              (
                a_call first refl,
                (
                  a_call second refl,
                  (
                    ends-say,
                    (a_call second refl, (a_call first refl, (a_call first refl, (ends-say, tt)))),
                  ),
                ),
              ),
            ),
          ),
        ),
      )

  pub sound : (g : Guard) → SoundLayout (layout producers consumers places items g)
  sound guard.Semaphores =
      let s = sizes producers consumers places items h in
      record {
        few_objects = omega (arith, s.producers_are.high, s.consumers_are.high);
        few_threads = omega (arith, s.producers_are.high, s.consumers_are.high);
        named = refl;
        apart = refl;
        small_objects = (tt, (tt, (tt, (tt, tt))));
        small_threads = (omega (arith, s.producers_are.high), (omega (arith, s.consumers_are.high), tt));
        kinds = ((omega (arith, s.places_are.high), refl), ((omega arith, refl), ((tt, refl), ((tt, refl), tt))));
        programs = (λ i low high. (put-runs guard.Semaphores).sound, (λ i low high. (take-runs guard.Semaphores).sound, tt));
      }
  sound guard.Hoare =
      let s = sizes producers consumers places items h in
      record {
        few_objects = omega (arith, s.producers_are.high, s.consumers_are.high);
        few_threads = omega (arith, s.producers_are.high, s.consumers_are.high);
        named = refl;
        apart = refl;
        small_objects = (tt, (tt, tt));
        small_threads = (omega (arith, s.producers_are.high), (omega (arith, s.consumers_are.high), tt));
        kinds = (((omega arith, omega arith), refl), ((tt, refl), tt));
        programs = (λ i low high. (put-runs guard.Hoare).sound, (λ i low high. (take-runs guard.Hoare).sound, tt));
      }
  sound guard.Mesa =
      let s = sizes producers consumers places items h in
      record {
        few_objects = omega (arith, s.producers_are.high, s.consumers_are.high);
        few_threads = omega (arith, s.producers_are.high, s.consumers_are.high);
        named = refl;
        apart = refl;
        small_objects = (tt, (tt, tt));
        small_threads = (omega (arith, s.producers_are.high), (omega (arith, s.consumers_are.high), tt));
        kinds = (((omega arith, omega arith), refl), ((tt, refl), tt));
        programs = (λ i low high. (put-runs guard.Mesa).sound, (λ i low high. (take-runs guard.Mesa).sound, tt));
      }

  abbrev producers_under : Guard → List Part
  producers_under g = threads_of (codes "P") producers (buffer_program g (put places items))

  abbrev consumers_under : Guard → List Part
  consumers_under g = threads_of (codes "C") consumers (buffer_program g (take share))

  abbrev more_lines : Guard → List SpelledLine
  more_lines g = flat_map (producer places items g) (range_with_len 1 producers) ++ flat_map (consumer share g) (range_with_len 1 consumers)

  thread_lines : (g : Guard) → flat_map (lines_of_part (ds g)) (producers_under g ++ (consumers_under g ++ [])) ≡ more_lines g
  thread_lines g =
      lines-then (ds g) (producers_under g) (consumers_under g ++ []) (flat_map (producer places items g) (range_with_len 1 producers)) (flat_map (consumer share g) (range_with_len 1 consumers))
      (lines-many (ds g) (λ i. Thread (numbered (codes "P") i) (buffer_program g (put places items))) (producer places items g) 1 producers
      (λ i low high. thread-lines (ds g) (numbered (codes "P") i) (buffer_program g (put places items)) (repeats items (puts places g)) (put-runs g)))
      (lines-last (ds g) (consumers_under g) (flat_map (consumer share g) (range_with_len 1 consumers))
      (lines-many (ds g) (λ i. Thread (numbered (codes "C") i) (buffer_program g (take share))) (consumer share g) 1 consumers
      (λ i low high. thread-lines (ds g) (numbered (codes "C") i) (buffer_program g (take share)) (repeats share (takes g)) (take-runs g))))

  pub lines : (g : Guard) → flat_map (lines_of_part (ds g)) (parts_of (layout producers consumers places items g)) ≡ lines_of_buffer producers consumers places items g
  lines guard.Semaphores = ap (λ ls. buffer_objects places guard.Semaphores ++ ls) (thread_lines guard.Semaphores)
  lines guard.Hoare = ap (λ ls. buffer_objects places guard.Hoare ++ ls) (thread_lines guard.Hoare)
  lines guard.Mesa = ap (λ ls. buffer_objects places guard.Mesa ++ ls) (thread_lines guard.Mesa)

  -- the parts in the order in which they are drafted
  pub parts-are : (g : Guard) → (buffer_parts places g ++ producers_under g) ++ consumers_under g ≡ parts_of (layout producers consumers places items g)
  parts-are guard.Semaphores = ap (λ ps. buffer_parts places guard.Semaphores ++ (producers_under guard.Semaphores ++ ps)) (sym (append-nil (consumers_under guard.Semaphores)))
  parts-are guard.Hoare = ap (λ ps. buffer_parts places guard.Hoare ++ (producers_under guard.Hoare ++ ps)) (sym (append-nil (consumers_under guard.Hoare)))
  parts-are guard.Mesa = ap (λ ps. buffer_parts places guard.Mesa ++ (producers_under guard.Mesa ++ ps)) (sym (append-nil (consumers_under guard.Mesa)))
