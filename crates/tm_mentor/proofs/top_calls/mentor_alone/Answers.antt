use Rattle.std.proofs.Common.{[], ◌∷◌, sym, subst}
use Rattle.std.specs.List.{Contains}
use Rattle.tm_words.specs.declared.commands.Command.TheVariants.{Check, Large, Make, Run}
use Rattle.tm_mentor.specs.declared.outcomes.Outcome.{Outcome}
use Rattle.tm_mentor.specs.Answers.{statuses}
use Rattle.tm_mentor.proofs.Causes.{answers_of, owes, unspelled_by}
use Rattle.tm_mentor.proofs.CheckOwed.{complete_illegal, complete_legal, no_trace_judged}
use Rattle.tm_mentor.proofs.LargeOwed.{complete_large}
use Rattle.tm_mentor.proofs.MakeOwed.{complete_make}
use Rattle.tm_mentor.proofs.RunOwed.{complete_run, no_exercise}
use Rattle.tm_mentor.proofs.Statuses.{IsEnded, TellsEnd, ended_by, status_by, untold_by, watched_by, written_by}
use Rattle.tm_mentor.proofs.top_calls.mentor_alone.Goals as goal

pub returns-clause-answered : goal.returns-clause-answered
returns-clause-answered g c = (c.carry_out-answer.result, c.carry_out-answer.ensures.answers, c.of.ensures)

pub returns-clause-watched : goal.returns-clause-watched
returns-clause-watched g c = watched_by _ _ c.carry_out-answer.result c.of.result c.of.ensures c.carry_out-answer.ensures.watched

pub returns-clause-untold : goal.returns-clause-untold
returns-clause-untold g c = untold_by _ _ c.carry_out-answer.result c.of.result c.of.ensures c.carry_out-answer.ensures.watched

pub returns-clause-statuses : goal.returns-clause-statuses
returns-clause-statuses g c =
    let P : Outcome → Type 0 = λ o. Contains statuses o.status in
    subst P (sym c.of.ensures) (status_by c.carry_out-answer.result)

pub returns-clause-ended : goal.returns-clause-ended
returns-clause-ended g c = subst IsEnded (sym c.of.ensures) (ended_by c.carry_out-answer.result)

pub returns-clause-written : goal.returns-clause-written
returns-clause-written g c = subst TellsEnd (sym c.of.ensures) (written_by c.carry_out-answer.result)

pub returns-clause-made : goal.returns-clause-made
returns-clause-made g c =
    (owes c.args.words.now _ c.carry_out-answer.result c.of.result c.carry_out-answer.ensures.answers c.of.ensures).made

pub returns-clause-usage : goal.returns-clause-usage
returns-clause-usage g c =
    (owes c.args.words.now _ c.carry_out-answer.result c.of.result c.carry_out-answer.ensures.answers c.of.ensures).usage

pub returns-clause-text : goal.returns-clause-text
returns-clause-text g c =
    (owes c.args.words.now _ c.carry_out-answer.result c.of.result c.carry_out-answer.ensures.answers c.of.ensures).text

pub returns-clause-read_fault : goal.returns-clause-read_fault
returns-clause-read_fault g c =
    (owes c.args.words.now _ c.carry_out-answer.result c.of.result c.carry_out-answer.ensures.answers c.of.ensures).shows.read_fault

pub returns-clause-write_fault : goal.returns-clause-write_fault
returns-clause-write_fault g c =
    (owes c.args.words.now _ c.carry_out-answer.result c.of.result c.carry_out-answer.ensures.answers c.of.ensures).shows.write_fault

pub returns-clause-read_faults_show : goal.returns-clause-read_faults_show
returns-clause-read_faults_show g c =
    (owes c.args.words.now _ c.carry_out-answer.result c.of.result c.carry_out-answer.ensures.answers c.of.ensures).shows.read_shows

pub returns-clause-write_faults_show : goal.returns-clause-write_faults_show
returns-clause-write_faults_show g c =
    (owes c.args.words.now _ c.carry_out-answer.result c.of.result c.carry_out-answer.ensures.answers c.of.ensures).shows.write_shows

pub returns-clause-unspelled : goal.returns-clause-unspelled
returns-clause-unspelled g c =
    λ none.
    let P : Outcome → Type 0 = λ o. Contains (2 ∷ 5 ∷ 9 ∷ []) o.status in
    subst P (sym c.of.ensures) (unspelled_by c.args.words.now _ c.carry_out-answer.result c.carry_out-answer.ensures.answers none)

pub returns-clause-no_exercise : goal.returns-clause-no_exercise
returns-clause-no_exercise g c =
    λ rules spelled none.
    let P : Outcome → Type 0 = λ o. Contains (3 ∷ 4 ∷ 5 ∷ 9 ∷ []) o.status in
    let w = answers_of c.args.words.now _ c.carry_out-answer.result (Run rules) c.carry_out-answer.ensures.answers spelled in
    subst P (sym c.of.ensures) (no_exercise rules _ c.carry_out-answer.result w none)

pub returns-clause-no_trace : goal.returns-clause-no_trace
returns-clause-no_trace g c =
    λ spelled none.
    let P : Outcome → Type 0 = λ o. Contains (3 ∷ 4 ∷ 5 ∷ 9 ∷ []) o.status in
    let w = answers_of c.args.words.now _ c.carry_out-answer.result Check c.carry_out-answer.ensures.answers spelled in
    subst P (sym c.of.ensures) (no_trace_judged _ c.carry_out-answer.result w none)

pub returns-clause-complete : goal.returns-clause-complete
returns-clause-complete g c =
    λ x rules spelled told no_read no_write.
    let P : Outcome → Type 0 = λ o. Contains (0 ∷ 6 ∷ 7 ∷ 9 ∷ []) o.status in
    let w = answers_of c.args.words.now _ c.carry_out-answer.result (Run rules) c.carry_out-answer.ensures.answers spelled in
    subst P (sym c.of.ensures) (complete_run rules _ x c.carry_out-answer.result w told no_read no_write)

pub returns-clause-complete_make : goal.returns-clause-complete_make
returns-clause-complete_make g c =
    λ plan spelled no_write.
    let P : Outcome → Type 0 = λ o. Contains (0 ∷ 9 ∷ []) o.status in
    let w = answers_of c.args.words.now _ c.carry_out-answer.result (Make plan) c.carry_out-answer.ensures.answers spelled in
    subst P (sym c.of.ensures) (complete_make plan _ _ c.carry_out-answer.result w.1 no_write)

pub returns-clause-complete_large : goal.returns-clause-complete_large
returns-clause-complete_large g c =
    λ number spelled no_write.
    let P : Outcome → Type 0 = λ o. Contains (0 ∷ 6 ∷ 7 ∷ 9 ∷ []) o.status in
    let w = answers_of c.args.words.now _ c.carry_out-answer.result (Large number) c.carry_out-answer.ensures.answers spelled in
    subst P (sym c.of.ensures) (complete_large number _ _ c.carry_out-answer.result w.1 no_write)

pub returns-clause-complete_check : goal.returns-clause-complete_check
returns-clause-complete_check g c =
    λ x es spelled told legal no_read no_write.
    let P : Outcome → Type 0 = λ o. Contains (0 ∷ 9 ∷ []) o.status in
    let w = answers_of c.args.words.now _ c.carry_out-answer.result Check c.carry_out-answer.ensures.answers spelled in
    subst P (sym c.of.ensures) (complete_legal _ x es c.carry_out-answer.result w told legal no_read no_write)

pub returns-clause-complete_illegal : goal.returns-clause-complete_illegal
returns-clause-complete_illegal g c =
    λ x es spelled told illegal no_read no_write.
    let P : Outcome → Type 0 = λ o. Contains (8 ∷ 9 ∷ []) o.status in
    let w = answers_of c.args.words.now _ c.carry_out-answer.result Check c.carry_out-answer.ensures.answers spelled in
    subst P (sym c.of.ensures) (complete_illegal _ x es c.carry_out-answer.result w told illegal no_read no_write)
