use Rattle.std.proofs.Common.{◌≡◌, ◌++◌, ◌∷◌, [], List, ℕ, codes, true, pos, ap, sym, ◌∙◌}
use Rattle.std.proofs.lemmas.List.{append-nil}
use Rattle.tm_base.specs.declared.kinds.Kind.TheVariants as kind
use Rattle.tm_programs.specs.declared.instructions.Instruction.{Instruction}
use Rattle.tm_text.specs.Exercises.{ExerciseView}
use Rattle.tm_makers.specs.Drafts.{Part, Object, no_parts, threads_of, with_part, with_parts}
use Rattle.tm_makers.specs.ReaderPrograms.{reader_program, writer_program}
use Rattle.tm_makers.specs.ReadersAndWriters.{are_readers_and_writers, l, lines_of_readers_and_writers, x}
use Rattle.tm_makers.proofs.Made.{IsMade, finished, made}
use Rattle.tm_makers.proofs.PartsLemmas.{declared, ran_all}
use Rattle.tm_makers.proofs.ReadersLayout.{layout, lines, sound}
use Rattle.tm_makers.proofs.readers.readers_and_writers.Goals as goal

made-here : (readers writers rounds : ℕ) (d0 d1 d2 d3 d4 : ExerciseView) (m n : List ℕ) (p q : List Instruction) → are_readers_and_writers readers writers rounds ≡ true
    → d0 ≡ no_parts → m ≡ l → d1 ≡ with_part d0 (Object m kind.Rw) → n ≡ x → d2 ≡ with_part d1 (Object n (kind.Var (pos 0)))
    → p ≡ reader_program rounds → d3 ≡ with_parts d2 (threads_of (codes "R") readers p)
    → q ≡ writer_program rounds → d4 ≡ with_parts d3 (threads_of (codes "W") writers q) → IsMade d4 (lines_of_readers_and_writers readers writers rounds)
made-here readers writers rounds d0 d1 d2 d3 d4 m n p q h none is-l one is-x two is-reads three is-writes four =
    let r = threads_of (codes "R") readers (reader_program rounds) in
    let w = threads_of (codes "W") writers (writer_program rounds) in
    let begun : d1 ≡ with_parts no_parts (Object l kind.Rw ∷ []) = declared d0 d1 [] m l kind.Rw none is-l one in
    let objects : d2 ≡ with_parts no_parts (Object l kind.Rw ∷ Object x (kind.Var (pos 0)) ∷ []) = declared d1 d2 (Object l kind.Rw ∷ []) n x (kind.Var (pos 0)) begun is-x two in
    let some : d3 ≡ with_parts no_parts (Object l kind.Rw ∷ Object x (kind.Var (pos 0)) ∷ r) = ran_all d2 d3 (Object l kind.Rw ∷ Object x (kind.Var (pos 0)) ∷ []) (codes "R") readers p (reader_program rounds) objects is-reads three in
    let all : d4 ≡ with_parts no_parts (Object l kind.Rw ∷ Object x (kind.Var (pos 0)) ∷ (r ++ w)) = ran_all d3 d4 (Object l kind.Rw ∷ Object x (kind.Var (pos 0)) ∷ r) (codes "W") writers q (writer_program rounds) some is-writes four in
    made d4 (lines_of_readers_and_writers readers writers rounds) (layout readers writers rounds) (sound readers writers rounds h) (lines readers writers rounds h)
    (all ∙ ap (λ (ts : List Part). with_parts no_parts (Object l kind.Rw ∷ Object x (kind.Var (pos 0)) ∷ (r ++ ts))) (sym (append-nil w)))

pub finish-requires : goal.finish-requires
finish-requires c =
    (made-here c.args.readers c.args.writers c.args.rounds c.new-draft.result c.declare.new.self c.declare-2.new.self c.run_all.new.self c.run_all-2.new.self c.plain.result c.plain-2.result c.read.result c.write.result
    c.requires c.new-draft.ensures c.plain.ensures c.in_ok-declare.ensures c.plain-2.ensures c.in_ok-declare-2.ensures c.read.ensures c.in_ok-run_all.ensures.added c.write.ensures c.in_ok-run_all-2.ensures.added).well_formed

pub returns : goal.returns
returns c =
    finished c.run_all-2.new.self (lines_of_readers_and_writers c.args.readers c.args.writers c.args.rounds) c.finish.result
    (made-here c.args.readers c.args.writers c.args.rounds c.new-draft.result c.declare.new.self c.declare-2.new.self c.run_all.new.self c.run_all-2.new.self c.plain.result c.plain-2.result c.read.result c.write.result
    c.requires c.new-draft.ensures c.plain.ensures c.in_ok-declare.ensures c.plain-2.ensures c.in_ok-declare-2.ensures c.read.ensures c.in_ok-run_all.ensures.added c.write.ensures c.in_ok-run_all-2.ensures.added)
    c.finish.ensures
