-- The layout of a ring: its channels, and then its threads.
use Rattle.std.proofs.Common.{◌≡◌, ◌≢◌, ◌-◌, ◌≤◌, ◌<◌, ◌==◌, ℕ, Bool, true, false, cond, List, [], ◌∷◌, ◌++◌, map, flat_map, codes, arith, refl, sym, subst, ⊎_elim}
use Rattle.std.specs.List.{range_with_len}
use Rattle.std.proofs.lemmas.Bool.Decides.{eqb_tells}
use Rattle.tm_base.specs.declared.kinds.Kind.TheVariants as kind
use Rattle.tm_programs.specs.declared.instructions.Instruction.{Instruction}
use Rattle.tm_text.specs.declared.exercises.Declaration.{Declaration}
use Rattle.tm_text.specs.SpelledLines.{SpelledLine}
use Rattle.tm_makers.specs.Drafts.{Part, Object, Thread}
use Rattle.tm_makers.specs.LineForms.{is_within, number, numbered, r0, recv, repeats, send, sync, thread}
use Rattle.tm_makers.specs.RingPrograms.{receives, ring_program, sends}
use Rattle.tm_makers.specs.Rings.{channel, is_ring, lines_of_ring, passes}
use Rattle.tm_makers.proofs.Layouts.{Layout, Many, SoundLayout, declared, parts_of}
use Rattle.tm_makers.proofs.LayoutLines.{At, Runs, a_call, ends-say, lines-last, lines-many, lines-objects, lines-then, lines_of_part, object-here, repeats-say, runs, thread-lines}
use Rattle.tm_makers.proofs.LayoutParts.{both-true}
use Rattle.tm_makers.proofs.Sizes.{Within, within}

abbrev pub layout : ℕ → ℕ → Layout
layout n rounds = record {
  objects = Many (codes "c") 0 n (λ i. kind.Sync) ∷ [];
  threads = Many (codes "T") 0 n (ring_program n rounds) ∷ [];
}

channel-at : (n rounds o : ℕ) → o < n → At (declared (layout n rounds)) o (channel o) kind.Sync
channel-at n rounds o h = object-here (codes "c") (λ i. kind.Sync) n _ 1 o h

sends-run : (ds : List Declaration) (rounds last : ℕ) → rounds ≤ 100 → At ds 0 (channel 0) kind.Sync → At ds last (channel last) kind.Sync
    → Runs ds (sends rounds last) (repeats rounds (send (channel 0) (number 1) ∷ recv (channel last) ∷ []))
sends-run ds rounds last few first at =
    runs ds (sends rounds last) (repeats rounds (send (channel 0) (number 1) ∷ recv (channel last) ∷ [])) refl (omega arith)
    (repeats-say rounds few, (a_call first refl, (a_call at refl, (ends-say, tt))))

receives-run : (ds : List Declaration) (rounds from to : ℕ) → rounds ≤ 100 → At ds from (channel from) kind.Sync → At ds to (channel to) kind.Sync
    → Runs ds (receives rounds from to) (repeats rounds (recv (channel from) ∷ send (channel to) r0 ∷ []))
receives-run ds rounds from to few one other =
    runs ds (receives rounds from to) (repeats rounds (recv (channel from) ∷ send (channel to) r0 ∷ [])) refl (omega arith)
    (repeats-say rounds few, (a_call one refl, (a_call other refl, (ends-say, tt))))

record Sizes (n rounds : ℕ) : Type 0 where
  threads : Within 2 60 n
  rounds_are : Within 1 100 rounds

sizes : (n rounds : ℕ) → is_ring n rounds ≡ true → Sizes n rounds
sizes n rounds h =
    let parts = both-true (is_within 2 60 n) (is_within 1 100 rounds) h in
    record { threads = within 2 60 n parts.0; rounds_are = within 1 100 rounds parts.1 }

-- what holds of the first thread's program and of the others', holds of each
by-thread : (P : List Instruction → List SpelledLine → Type 0) (n rounds i : ℕ)
    → P (sends rounds (n - 1)) (send (channel 0) (number 1) ∷ recv (channel (n - 1)) ∷ [])
    → (0 < i → P (receives rounds (i - 1) i) (recv (channel (i - 1)) ∷ send (channel i) r0 ∷ []))
    → P (ring_program n rounds i) (passes n i)
by-thread P n rounds i first other =
    let Q : Bool → Type 0 = λ b. P (cond b (sends rounds (n - 1)) (receives rounds (i - 1) i)) (cond b (send (channel 0) (number 1) ∷ recv (channel (n - 1)) ∷ []) (recv (channel (i - 1)) ∷ send (channel i) r0 ∷ [])) in
    ⊎_elim
    (λ (zero : ((i == 0) ≡ true) × (i ≡ 0)). subst Q (sym zero.0) first)
    (λ (above : ((i == 0) ≡ false) × (i ≢ 0)). subst Q (sym above.0) (other (omega (arith, above.1))))
    (eqb_tells i 0)

program-runs : (n rounds i : ℕ) → Sizes n rounds → i < n → Runs (declared (layout n rounds)) (ring_program n rounds i) (repeats rounds (passes n i))
program-runs n rounds i s h =
    let ds = declared (layout n rounds) in
    by-thread (λ program lines. Runs ds program (repeats rounds lines)) n rounds i
    (sends-run ds rounds (n - 1) s.rounds_are.high (channel-at n rounds 0 (omega (arith, s.threads.low))) (channel-at n rounds (n - 1) (omega (arith, s.threads.low))))
    (λ above. receives-run ds rounds (i - 1) i s.rounds_are.high (channel-at n rounds (i - 1) (omega arith)) (channel-at n rounds i h))

pub sound : (n rounds : ℕ) → is_ring n rounds ≡ true → SoundLayout (layout n rounds)
sound n rounds h =
    let s = sizes n rounds h in
    record {
      few_objects = omega (arith, s.threads.high);
      few_threads = omega (arith, s.threads.high);
      named = refl;
      apart = refl;
      small_objects = (omega (arith, s.threads.high), tt);
      small_threads = (omega (arith, s.threads.high), tt);
      kinds = (λ i low high. (tt, refl), tt);
      programs = (λ i low high. (program-runs n rounds i s (omega arith)).sound, tt);
    }

pub lines : (n rounds : ℕ) → is_ring n rounds ≡ true → flat_map (lines_of_part (declared (layout n rounds))) (parts_of (layout n rounds)) ≡ lines_of_ring n rounds
lines n rounds h =
    let s = sizes n rounds h in
    let ds = declared (layout n rounds) in
    let threads : ℕ → Part = λ i. Thread (numbered (codes "T") i) (ring_program n rounds i) in
    let forms : ℕ → List SpelledLine = λ i. thread (numbered (codes "T") i) (repeats rounds (passes n i)) in
    let range = range_with_len 0 n in
    lines-then ds (map (λ i. Object (channel i) kind.Sync) range) (map threads range ++ []) (map (λ i. sync (channel i)) range) (flat_map forms range) (lines-objects ds (codes "c") (λ i. kind.Sync) 0 n)
    (lines-last ds (map threads range) (flat_map forms range)
    (lines-many ds threads forms 0 n
    (λ i low high. thread-lines ds (numbered (codes "T") i) (ring_program n rounds i) (repeats rounds (passes n i)) (program-runs n rounds i s (omega arith)))))
