-- The layout of the roller coaster: its semaphores and its variable, and then the car and its passengers.
use Rattle.std.proofs.Common.{◌≡◌, ◌*◌, ◌≤◌, ℕ, true, ◌&&◌, nat_le, List, [], ◌∷◌, ◌++◌, flat_map, codes, pos, arith, refl, ap}
use Rattle.std.specs.List.{range_with_len}
use Rattle.tm_base.specs.declared.kinds.Kind.TheVariants as kind
use Rattle.tm_text.specs.declared.exercises.Declaration.{Declaration}
use Rattle.tm_text.specs.SpelledLines.{SpelledLine}
use Rattle.tm_makers.specs.CoasterPrograms.{car_program, passenger_program}
use Rattle.tm_makers.specs.Coasters.{boarded, car, is_coaster, lines_of_coaster, out, passenger, queue, rides, unload}
use Rattle.tm_makers.specs.Drafts.{Thread, threads_of}
use Rattle.tm_makers.specs.LineForms.{add_one, is_within, numbered, p, repeats, sem, v, var}
use Rattle.tm_makers.proofs.Layouts.{Layout, Many, One, SoundLayout, declared, parts_of}
use Rattle.tm_makers.proofs.LayoutLines.{At, Runs, a_call, ends-say, lines-last, lines-many, lines-then, lines_of_part, repeats-say, runs, thread-lines}
use Rattle.tm_makers.proofs.LayoutParts.{both-true}
use Rattle.tm_makers.proofs.Sizes.{Within, le-true, within}

abbrev pub layout : ℕ → ℕ → Layout
layout seats turns = record {
  objects = One queue (kind.Sem 0) ∷ One boarded (kind.Sem 0) ∷ One unload (kind.Sem 0) ∷ One out (kind.Sem 0) ∷ One rides (kind.Var (pos 0)) ∷ [];
  threads = One (codes "Car") (car_program seats turns) ∷ Many (codes "P") 1 (seats * turns) (λ i. passenger_program) ∷ [];
}

abbrev car_lines : ℕ → ℕ → List SpelledLine
car_lines seats turns =
    repeats turns
    (repeats seats (v queue ∷ []) ++ repeats seats (p boarded ∷ []) ++ add_one rides
    ∷ repeats seats (v unload ∷ []) ++ repeats seats (p out ∷ []))

abbrev passenger_lines : List SpelledLine
passenger_lines = p queue ∷ v boarded ∷ p unload ∷ v out ∷ []

record Objects (ds : List Declaration) : Type 0 where
  one : At ds 0 queue (kind.Sem 0)
  two : At ds 1 boarded (kind.Sem 0)
  three : At ds 2 unload (kind.Sem 0)
  four : At ds 3 out (kind.Sem 0)
  five : At ds 4 rides (kind.Var (pos 0))

car-runs : (ds : List Declaration) (seats turns : ℕ) → seats ≤ 100 → turns ≤ 100 → Objects ds → Runs ds (car_program seats turns) (car_lines seats turns)
car-runs ds seats turns few short at =
    runs ds (car_program seats turns) (car_lines seats turns) refl (omega arith) (
      repeats-say turns short,
      (
        repeats-say seats few,
        (
          a_call at.one refl,
          (
            ends-say,
            (
              repeats-say seats few,
              (
                a_call at.two refl,
                (
                  ends-say,
                  (
                    a_call at.five refl,
                    (
                      repeats-say seats few,
                      (
                        a_call at.three refl,
                        (
                          ends-say,
                          (
                            repeats-say seats few,
                            (
                              a_call at.four refl,
                              (
                                ends-say,
                                (ends-say, tt),
                              ),
                            ),
                          ),
                        ),
                      ),
                    ),
                  ),
                ),
              ),
            ),
          ),
        ),
      ),
    )

passenger-runs : (ds : List Declaration) → Objects ds → Runs ds passenger_program passenger_lines
passenger-runs ds at =
    runs ds passenger_program passenger_lines refl (omega arith)
    (a_call at.one refl, (a_call at.two refl, (a_call at.three refl, (a_call at.four refl, tt))))

pub record Sizes (seats turns : ℕ) : Type 0 where
  pub seats_are : Within 1 60 seats
  pub turns_are : Within 1 60 turns
  pub passengers : seats * turns ≤ 60

pub sizes : (seats turns : ℕ) → is_coaster seats turns ≡ true → Sizes seats turns
sizes seats turns h =
    let all = both-true (is_within 1 60 seats && is_within 1 60 turns) (nat_le (seats * turns) 60) h in
    let parts = both-true (is_within 1 60 seats) (is_within 1 60 turns) all.0 in
    record { seats_are = within 1 60 seats parts.0; turns_are = within 1 60 turns parts.1; passengers = le-true (seats * turns) 60 all.1 }

module _ (seats turns : ℕ) (h : is_coaster seats turns ≡ true) where
  abbrev ds : List Declaration
  ds = declared (layout seats turns)

  at : Objects ds
  at = record {
    one = record { at = refl };
    two = record { at = refl };
    three = record { at = refl };
    four = record { at = refl };
    five = record { at = refl };
  }

  car-run : Runs ds (car_program seats turns) (car_lines seats turns)
  car-run = let s = sizes seats turns h in car-runs ds seats turns (omega (arith, s.seats_are.high)) (omega (arith, s.turns_are.high)) at

  pub sound : SoundLayout (layout seats turns)
  sound =
      let s = sizes seats turns h in
      record {
        few_objects = omega (arith, s.passengers);
        few_threads = omega (arith, s.passengers);
        named = refl;
        apart = refl;
        small_objects = (tt, (tt, (tt, (tt, (tt, tt)))));
        small_threads = (tt, (omega (arith, s.passengers), tt));
        kinds = ((omega arith, refl), ((omega arith, refl), ((omega arith, refl), ((omega arith, refl), ((tt, refl), tt)))));
        programs = (car-run.sound, (λ i low high. (passenger-runs ds at).sound, tt));
      }

  pub lines : flat_map (lines_of_part ds) (parts_of (layout seats turns)) ≡ lines_of_coaster seats turns
  lines =
      let count = seats * turns in
      let last = threads_of (codes "P") count passenger_program in
      let last_lines = flat_map passenger (range_with_len 1 count) in
      ap (λ ls. sem queue 0 ∷ sem boarded 0 ∷ sem unload 0 ∷ sem out 0 ∷ var rides 0 ∷ ls)
      (lines-then ds (Thread (codes "Car") (car_program seats turns) ∷ []) (last ++ []) (car seats turns) last_lines
      (thread-lines ds (codes "Car") (car_program seats turns) (car_lines seats turns) car-run)
      (lines-last ds last last_lines
      (lines-many ds (λ i. Thread (numbered (codes "P") i) passenger_program) passenger 1 count
      (λ i low high. thread-lines ds (numbered (codes "P") i) passenger_program passenger_lines (passenger-runs ds at)))))
