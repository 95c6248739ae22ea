use Rattle.std.proofs.Common.{◌≡◌, ◌*◌, ◌++◌, ◌∷◌, [], List, ℕ, codes, true, ap, sym, ◌∙◌}
use Rattle.std.proofs.lemmas.List.{append-nil}
use Rattle.tm_programs.specs.declared.instructions.Instruction.{Instruction}
use Rattle.tm_text.specs.Exercises.{ExerciseView}
use Rattle.tm_makers.specs.CoasterPrograms.{car_program, coaster_parts, passenger_program}
use Rattle.tm_makers.specs.Coasters.{is_coaster, lines_of_coaster}
use Rattle.tm_makers.specs.Drafts.{Part, Thread, no_parts, threads_of, with_part, with_parts}
use Rattle.tm_makers.proofs.CoasterLayout.{layout, lines, sound}
use Rattle.tm_makers.proofs.Made.{IsMade, finished, made}
use Rattle.tm_makers.proofs.PartsLemmas.{ran, ran_all, then}
use Rattle.tm_makers.proofs.coasters.coaster.Goals as goal

made-here : (seats turns : ℕ) (d0 d1 d2 d3 : ExerciseView) (n : List ℕ) (p q : List Instruction) → is_coaster seats turns ≡ true
    → d0 ≡ no_parts → d1 ≡ with_parts d0 coaster_parts → n ≡ codes "Car" → p ≡ car_program seats turns → d2 ≡ with_part d1 (Thread n p)
    → q ≡ passenger_program → d3 ≡ with_parts d2 (threads_of (codes "P") (seats * turns) q) → IsMade d3 (lines_of_coaster seats turns)
made-here seats turns d0 d1 d2 d3 n p q h none objects is-car is-drive car is-ride passengers =
    let last = threads_of (codes "P") (seats * turns) passenger_program in
    let begun : d1 ≡ with_parts no_parts coaster_parts = then d0 d1 [] coaster_parts none objects in
    let drives : d2 ≡ with_parts no_parts (coaster_parts ++ Thread (codes "Car") (car_program seats turns) ∷ []) = ran d1 d2 coaster_parts n (codes "Car") p (car_program seats turns) begun is-car is-drive car in
    let all = ran_all d2 d3 (coaster_parts ++ Thread (codes "Car") (car_program seats turns) ∷ []) (codes "P") (seats * turns) q passenger_program drives is-ride passengers in
    made d3 (lines_of_coaster seats turns) (layout seats turns) (sound seats turns h) (lines seats turns h)
    (all ∙ ap (λ (ts : List Part). with_parts no_parts (coaster_parts ++ Thread (codes "Car") (car_program seats turns) ∷ ts)) (sym (append-nil last)))

pub finish-requires : goal.finish-requires
finish-requires c =
    (made-here c.args.seats c.args.rides c.new-draft.result c.declare_objects.new.draft c.run.new.self c.run_all.new.self c.plain.result c.car.result c.ride.result
    c.requires c.new-draft.ensures c.in_ok-declare_objects.ensures c.plain.ensures c.car.ensures c.in_ok-run.ensures c.ride.ensures c.in_ok-run_all.ensures.added).well_formed

pub returns : goal.returns
returns c =
    finished c.run_all.new.self (lines_of_coaster c.args.seats c.args.rides) c.finish.result
    (made-here c.args.seats c.args.rides c.new-draft.result c.declare_objects.new.draft c.run.new.self c.run_all.new.self c.plain.result c.car.result c.ride.result
    c.requires c.new-draft.ensures c.in_ok-declare_objects.ensures c.plain.ensures c.car.ensures c.in_ok-run.ensures c.ride.ensures c.in_ok-run_all.ensures.added)
    c.finish.ensures
