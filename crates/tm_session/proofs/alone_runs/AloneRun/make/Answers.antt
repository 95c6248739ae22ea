use Rattle.std.proofs.Common.{◌≡◌, ℕ, List, [], refl, ap, arith}
use Rattle.tm_text.specs.Exercises.{ExerciseView, IsWellFormed}
use Rattle.tm_replay.specs.JointStates.{start}
use Rattle.tm_replay.proofs.JointStartLemmas.{IsCounted-start, work-start}
use Rattle.tm_base.specs.declared.rules.Rules.{Rules}
use Rattle.tm_session.specs.Turns.{RunState}
use Rattle.tm_session.proofs.TicketsLemmas.{first-tickets}
use Rattle.tm_session.proofs.alone_runs.AloneRun.make.Goals as goal

-- where a run stands before its first event, with these objects to stop
abbrev begun : Rules → ExerciseView → List ℕ → RunState
begun rules x stops = record { joint = start x; last = 0; draw = rules.schedule; stops = stops }

pub returns-clause-under_way : goal.returns-clause-under_way
returns-clause-under_way c =
    let x = c.args.exercise.now in
    let formed : IsWellFormed x = c.threads-threads.ensures.well_formed in
    let fresh = c.in_ok-collector.ensures in
    let none : c.new.result.items ≡ [] = c.new.ensures.items in
    rw fresh (record {
      shows = record { collecting = rw fresh at c.joint-joint.ensures.kept; formed = formed; shown = refl; unrefused = refl; ample = refl };
      exercise = refl;
      last = omega arith;
      waited = rw none tt;
      counted = IsCounted-start x formed;
      bounded = omega (arith, work-start x c.args.rules.limit formed, c.requires.limit);
      begins = ap (begun c.args.rules x) none;
      recorded = record { objects = c.in_ok-books.ensures.places; kept = c.in_ok-books.ensures.fresh; tickets = first-tickets x c.in_ok-tickets.tickets.items c.in_ok-tickets.ensures };
    })
