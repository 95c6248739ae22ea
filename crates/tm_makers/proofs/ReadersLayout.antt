-- The layout of readers and writers: the lock and the variable, and then the threads.
use Rattle.std.proofs.Common.{◌≡◌, ◌≤◌, ℕ, true, ◌&&◌, List, [], ◌∷◌, ◌++◌, flat_map, codes, pos, arith, refl, ap}
use Rattle.std.specs.List.{range_with_len}
use Rattle.tm_base.specs.declared.kinds.Kind.TheVariants as kind
use Rattle.tm_text.specs.declared.exercises.Declaration.{Declaration}
use Rattle.tm_makers.specs.Drafts.{Thread, threads_of}
use Rattle.tm_makers.specs.LineForms.{add_one, is_within, numbered, read, repeats, rlock, runlock, rwlock, var, wlock, wunlock}
use Rattle.tm_makers.specs.ReaderPrograms.{reader_program, writer_program}
use Rattle.tm_makers.specs.ReadersAndWriters.{are_readers_and_writers, l, lines_of_readers_and_writers, reader, writer, x}
use Rattle.tm_makers.proofs.Layouts.{Layout, Many, One, SoundLayout, declared, parts_of}
use Rattle.tm_makers.proofs.LayoutLines.{At, Runs, a_call, ends-say, lines-last, lines-many, lines-then, lines_of_part, repeats-say, runs, thread-lines}
use Rattle.tm_makers.proofs.LayoutParts.{both-true}
use Rattle.tm_makers.proofs.Sizes.{Within, within}

abbrev pub layout : ℕ → ℕ → ℕ → Layout
layout readers writers rounds = record {
  objects = One l kind.Rw ∷ One x (kind.Var (pos 0)) ∷ [];
  threads = Many (codes "R") 1 readers (λ i. reader_program rounds) ∷ Many (codes "W") 1 writers (λ i. writer_program rounds) ∷ [];
}

reads-run : (ds : List Declaration) (rounds : ℕ) → rounds ≤ 100 → At ds 0 l kind.Rw → At ds 1 x (kind.Var (pos 0)) → Runs ds (reader_program rounds) (repeats rounds (rlock l ∷ read x ∷ runlock l ∷ []))
reads-run ds rounds few lock variable =
    runs ds (reader_program rounds) (repeats rounds (rlock l ∷ read x ∷ runlock l ∷ [])) refl (omega arith)
    (repeats-say rounds few, (a_call lock refl, (a_call variable refl, (a_call lock refl, (ends-say, tt)))))

writes-run : (ds : List Declaration) (rounds : ℕ) → rounds ≤ 100 → At ds 0 l kind.Rw → At ds 1 x (kind.Var (pos 0)) → Runs ds (writer_program rounds) (repeats rounds (wlock l ∷ add_one x ∷ wunlock l ∷ []))
writes-run ds rounds few lock variable =
    runs ds (writer_program rounds) (repeats rounds (wlock l ∷ add_one x ∷ wunlock l ∷ [])) refl (omega arith)
    (repeats-say rounds few, (a_call lock refl, (a_call variable refl, (a_call lock refl, (ends-say, tt)))))

record Sizes (readers writers rounds : ℕ) : Type 0 where
  readers_are : Within 1 30 readers
  writers_are : Within 1 30 writers
  rounds_are : Within 1 100 rounds

sizes : (readers writers rounds : ℕ) → are_readers_and_writers readers writers rounds ≡ true → Sizes readers writers rounds
sizes readers writers rounds h =
    let threads = both-true (is_within 1 30 readers && is_within 1 30 writers) (is_within 1 100 rounds) h in
    let parts = both-true (is_within 1 30 readers) (is_within 1 30 writers) threads.0 in
    record { readers_are = within 1 30 readers parts.0; writers_are = within 1 30 writers parts.1; rounds_are = within 1 100 rounds threads.1 }

module _ (readers writers rounds : ℕ) (h : are_readers_and_writers readers writers rounds ≡ true) where
  abbrev ds : List Declaration
  ds = declared (layout readers writers rounds)

  all-read : Runs ds (reader_program rounds) (repeats rounds (rlock l ∷ read x ∷ runlock l ∷ []))
  all-read = let s = sizes readers writers rounds h in reads-run ds rounds s.rounds_are.high (record { at = refl }) (record { at = refl })

  all-write : Runs ds (writer_program rounds) (repeats rounds (wlock l ∷ add_one x ∷ wunlock l ∷ []))
  all-write = let s = sizes readers writers rounds h in writes-run ds rounds s.rounds_are.high (record { at = refl }) (record { at = refl })

  pub sound : SoundLayout (layout readers writers rounds)
  sound =
      let s = sizes readers writers rounds h in
      record {
        few_objects = omega (arith, s.readers_are.high, s.writers_are.high);
        few_threads = omega (arith, s.readers_are.high, s.writers_are.high);
        named = refl;
        apart = refl;
        small_objects = (tt, (tt, tt));
        small_threads = (omega (arith, s.readers_are.high), (omega (arith, s.writers_are.high), tt));
        kinds = ((tt, refl), ((tt, refl), tt));
        programs = (λ i low high. all-read.sound, (λ i low high. all-write.sound, tt));
      }

  pub lines : flat_map (lines_of_part ds) (parts_of (layout readers writers rounds)) ≡ lines_of_readers_and_writers readers writers rounds
  lines =
      let more = threads_of (codes "R") readers (reader_program rounds) in
      let last = threads_of (codes "W") writers (writer_program rounds) in
      let first_lines = flat_map (reader rounds) (range_with_len 1 readers) in
      let last_lines = flat_map (writer rounds) (range_with_len 1 writers) in
      ap (λ ls. rwlock l ∷ var x 0 ∷ ls)
      (lines-then ds more (last ++ []) first_lines last_lines
      (lines-many ds (λ i. Thread (numbered (codes "R") i) (reader_program rounds)) (reader rounds) 1 readers
      (λ i low high. thread-lines ds (numbered (codes "R") i) (reader_program rounds) (repeats rounds (rlock l ∷ read x ∷ runlock l ∷ [])) all-read))
      (lines-last ds last last_lines
      (lines-many ds (λ i. Thread (numbered (codes "W") i) (writer_program rounds)) (writer rounds) 1 writers
      (λ i low high. thread-lines ds (numbered (codes "W") i) (writer_program rounds) (repeats rounds (wlock l ∷ add_one x ∷ wunlock l ∷ [])) all-write))))
