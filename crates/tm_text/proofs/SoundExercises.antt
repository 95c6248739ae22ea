-- The lines that spell a well-formed exercise stand well, and so its canonical text is a text of it.
use Rattle.std.proofs.Common.{◌≡◌, ℕ, suc, ◌+◌, ◌<◌, ◌≤◌, Bool, true, false, not, ◌&&◌, nat_le, nat_lt, List, [], ◌∷◌, ◌++◌, codes, length, map, filter_map, bytes_eq, slice_get, Option, Some, None, refl, sym, ap, subst, ◌∙◌, arith}
use Rattle.std.specs.List.{cons_option, list_all, list_any}
use Rattle.std.proofs.lemmas.Bool.{and_from, and_parts, cond-false, false_from_ne_true, or_from}
use Rattle.std.proofs.lemmas.Bool.Decides.{nat_tests}
use Rattle.std.proofs.lemmas.Slice.Eq.{bytes_eq-Decides}
use Rattle.tm_base.specs.declared.kinds.Kind.{Kind}
use Rattle.tm_base.specs.declared.kinds.Kind.TheVariants as kind
use Rattle.tm_base.specs.declared.limits.TheConstants.{MOST_THREADS}
use Rattle.tm_base.specs.Names.{IsName}
use Rattle.tm_programs.specs.declared.instructions.Instruction.{Instruction}
use Rattle.tm_lines.specs.declared.faults.Fault.TheVariants as fault
use Rattle.tm_lines.specs.declared.first_words.Declarator.{Declarator}
use Rattle.tm_lines.specs.declared.first_words.Declarator.TheVariants as declares
use Rattle.tm_lines.specs.declared.first_words.FirstWord.TheVariants as first
use Rattle.tm_lines.specs.declared.limits.TheConstants.{MOST_BYTES, MOST_OBJECTS}
use Rattle.tm_lines.specs.FirstWords.{declarator_slots, declarator_word, first_word_of, has_count}
use Rattle.tm_lines.specs.LineFaults.{Place, after_declaration, after_thread, first_place, is_beyond}
use Rattle.tm_lines.specs.NamedLines.{kind_named, word_at}
use Rattle.tm_lines.specs.TextFaults.{first_fault, first_fault_from, named_in, text_lines}
use Rattle.tm_text.specs.declared.exercises.Declaration.{Declaration}
use Rattle.tm_text.specs.declared.values.Value.{Value}
use Rattle.tm_text.specs.CanonicalTexts.{CanonicalTextsReadBack, are_long, canonical_text, is_long}
use Rattle.tm_text.specs.Exercises.{ExerciseView, IsKindRead, IsWellFormed, thread_of, thread_of_kind}
use Rattle.tm_text.specs.SaidLines.{line_said, lines_said}
use Rattle.tm_text.specs.SpelledLines.{SpelledLine, line_of_instruction, line_of_kind, lines_of_program, spelled}
use Rattle.tm_text.proofs.FittingValues.{AllFit}
use Rattle.tm_text.proofs.NamedBack.{LongKinds, named_from}
use Rattle.tm_text.proofs.NamedNumbers.{Once}
use Rattle.tm_text.proofs.SaidNames.{unnumbered}
use Rattle.tm_text.proofs.SaidObjects.{Fresh, IsNew}
use Rattle.tm_text.proofs.SaidPrograms.{AllGood, good_short}
use Rattle.tm_text.proofs.SoundLines.{AllSound, Sound, lines_back, no_fault, words_back, words_in}
use Rattle.tm_text.proofs.SoundPrograms.{program_sound}
use Rattle.tm_text.proofs.SoundValues.{Longs, kind_fits}
use Rattle.tm_text.proofs.SpelledBack.{program-append}
use Rattle.tm_text.proofs.SpelledForwards.{all_good, behind, first_good, first_program, good_behind, later_programs, left_behind, spelled-from, spelled_from, threads_count}
use Rattle.tm_text.proofs.SpelledTexts.{spelled_both_ways}

long_parts : (ls ms : List SpelledLine) → are_long (ls ++ ms) ≡ true → (are_long ls ≡ true) × (are_long ms ≡ true)
long_parts [] ms h = (refl, h)
long_parts (l ∷ ls) ms h =
    let parts = and_parts (list_all is_long l.values) (are_long (ls ++ ms)) h in
    let rest = long_parts ls ms parts.1 in
    (and_from (list_all is_long l.values) (are_long ls) parts.0 rest.0, rest.1)

longs : (all : List Declaration) (qs : List (List Instruction)) (d : Declaration) (ds : List Declaration) (k : Kind) → d.kind ≡ k → are_long (spelled_from all qs (d ∷ ds)) ≡ true
    → Longs (line_of_kind d.name k).values × (are_long (behind all k qs (λ rest. spelled_from all rest ds)) ≡ true)
longs all qs d ds k is long =
    and_parts (list_all is_long (line_of_kind d.name k).values) (are_long (behind all k qs (λ rest. spelled_from all rest ds)))
    (subst (λ kk. (list_all is_long (line_of_kind d.name kk).values && are_long (behind all kk qs (λ rest. spelled_from all rest ds))) ≡ true) is long)

long_behind : (all : List Declaration) (k : Kind) (qs : List (List Instruction)) (ds : List Declaration) → are_long (behind all k qs (λ rest. spelled_from all rest ds)) ≡ true → are_long (spelled_from all (left_behind k qs) ds) ≡ true
long_behind all (kind.Thread own held) qs ds h = (long_parts (lines_of_program all (first_program qs)) (spelled_from all (later_programs qs) ds) h).1
long_behind all k qs ds h = h

long_kinds : (all : List Declaration) (qs : List (List Instruction)) (ds : List Declaration) → are_long (spelled_from all qs ds) ≡ true → LongKinds ds
long_kinds all qs [] h = tt
long_kinds all qs (d ∷ ds) h =
    let parts = longs all qs d ds d.kind refl h in
    (parts.0, long_kinds all (left_behind d.kind qs) ds (long_behind all d.kind qs ds parts.1))

-- the place that objects are declared at, and what is left to be declared
record Ready (all : List Declaration) (p : Place) (qs : List (List Instruction)) (ds : List Declaration) : Type 0 where
  outside : p.inside ≡ false
  fresh : Fresh p.earlier ds
  objects : p.objects + length ds ≤ MOST_OBJECTS
  threads : p.threads + length (filter_map thread_of ds) ≤ MOST_THREADS
  programs : AllGood all qs
  long : are_long (spelled_from all qs ds) ≡ true

module _ (all : List Declaration) (named : List ℕ → Option Kind)
    (known : (o : ℕ) (d : Declaration) → slice_get all o ≡ Some d → IsName d.name × (named d.name ≡ Some (unnumbered d.kind))) where
  declared_sound : (p : Place) (d : Declarator) (vs : List Value) → first_word_of (declarator_word d) ≡ Some (first.Declares d) → AllFit p (first.Declares d) (named (word_at 1 (words_in (record { first = first.Declares d; values = vs })))) (declarator_slots d) vs
      → has_count (first.Declares d) (suc (length vs)) ≡ true → is_beyond p (first.Declares d) ≡ false → p.inside ≡ false → Sound named p (record { first = first.Declares d; values = vs })
  declared_sound p d vs back fits count limit outside =
      record { back = back; fits = fits; allowed = ap not outside; count = count; depth = refl; idle = refl; limit = limit }

  kind_sound : (p : Place) (name : List ℕ) (k : Kind) → IsNew p.earlier name → IsKindRead k → Longs (line_of_kind name k).values → p.inside ≡ false → nat_le MOST_OBJECTS p.objects ≡ false
      → ((own : ℕ) → thread_of_kind k ≡ Some own → nat_le MOST_THREADS p.threads ≡ false) → Sound named p (line_of_kind name k)
  kind_sound p name kind.Mutex new read long outside few threads = declared_sound p declares.Mutex (line_of_kind name kind.Mutex).values refl (kind_fits p (named name) name kind.Mutex new read long) refl few outside
  kind_sound p name kind.Rw new read long outside few threads = declared_sound p declares.Rwlock (line_of_kind name kind.Rw).values refl (kind_fits p (named name) name kind.Rw new read long) refl few outside
  kind_sound p name kind.Sync new read long outside few threads = declared_sound p declares.Sync (line_of_kind name kind.Sync).values refl (kind_fits p (named name) name kind.Sync new read long) refl few outside
  kind_sound p name (kind.Sem n) new read long outside few threads = declared_sound p declares.Sem (line_of_kind name (kind.Sem n)).values refl (kind_fits p (named name) name (kind.Sem n) new read long) refl few outside
  kind_sound p name (kind.Hoare n) new read long outside few threads = declared_sound p declares.Monitor (line_of_kind name (kind.Hoare n)).values refl (kind_fits p (named name) name (kind.Hoare n) new read long) refl few outside
  kind_sound p name (kind.Mesa n) new read long outside few threads = declared_sound p declares.Monitor (line_of_kind name (kind.Mesa n)).values refl (kind_fits p (named name) name (kind.Mesa n) new read long) refl few outside
  kind_sound p name (kind.Barrier n) new read long outside few threads = declared_sound p declares.Barrier (line_of_kind name (kind.Barrier n)).values refl (kind_fits p (named name) name (kind.Barrier n) new read long) refl few outside
  kind_sound p name (kind.Async n) new read long outside few threads = declared_sound p declares.Async (line_of_kind name (kind.Async n)).values refl (kind_fits p (named name) name (kind.Async n) new read long) refl few outside
  kind_sound p name (kind.Var v) new read long outside few threads = declared_sound p declares.Var (line_of_kind name (kind.Var v)).values refl (kind_fits p (named name) name (kind.Var v) new read long) refl few outside
  kind_sound p name (kind.Thread own true) new read long outside few threads =
      declared_sound p declares.Thread (line_of_kind name (kind.Thread own true)).values refl (kind_fits p (named name) name (kind.Thread own true) new read long) refl (or_from (nat_le MOST_OBJECTS p.objects) (nat_le MOST_THREADS p.threads) few (threads own refl)) outside
  kind_sound p name (kind.Thread own false) new read long outside few threads =
      declared_sound p declares.Thread (line_of_kind name (kind.Thread own false)).values refl (kind_fits p (named name) name (kind.Thread own false) new read long) refl (or_from (nat_le MOST_OBJECTS p.objects) (nat_le MOST_THREADS p.threads) few (threads own refl)) outside

  abbrev Later : List Declaration → Type 0
  Later ds = (p : Place) (qs : List (List Instruction)) → Ready all p qs ds → AllSound named p (spelled_from all qs ds)

  -- what is left is within its limits
  room : (n m most : ℕ) → n + suc m ≤ most → nat_le most n ≡ false
  room n m most h = let below : n < most = omega arith in grind (arith, nat_tests)

  line_sound : (p : Place) (qs : List (List Instruction)) (d : Declaration) (ds : List Declaration) (k : Kind) → d.kind ≡ k → Ready all p qs (d ∷ ds) → Sound named p (line_of_kind d.name k)
  line_sound p qs d ds k is ready =
      kind_sound p d.name k ready.fresh.0 (subst IsKindRead is ready.fresh.1) (longs all qs d ds k is ready.long).0 ready.outside (room p.objects (length ds) MOST_OBJECTS ready.objects)
      (λ own e.
      let count : length (filter_map thread_of (d ∷ ds)) ≡ suc (length (filter_map thread_of ds)) = ap (λ r. length (cons_option r (filter_map thread_of ds))) (ap thread_of_kind is ∙ e) in
      let threads = ready.threads in
      room p.threads (length (filter_map thread_of ds)) MOST_THREADS (omega arith))

  declared_ready : (p : Place) (qs : List (List Instruction)) (d : Declaration) (ds : List Declaration) (k : Kind) → d.kind ≡ k → thread_of_kind k ≡ None → Ready all p qs (d ∷ ds) → are_long (spelled_from all qs ds) ≡ true → Ready all (after_declaration p d.name) qs ds
  declared_ready p qs d ds k is other ready long =
      let count : length (filter_map thread_of (d ∷ ds)) ≡ length (filter_map thread_of ds) = ap (λ r. length (cons_option r (filter_map thread_of ds))) (ap thread_of_kind is ∙ other) in
      let objects = ready.objects in
      let threads = ready.threads in
      record { outside = refl; fresh = ready.fresh.2; objects = omega arith; threads = omega arith; programs = ready.programs; long = long }

  -- a thread's program, and the objects behind it
  behind_sound : (p : Place) (qs : List (List Instruction)) (d : Declaration) (ds : List Declaration) (own : ℕ) (held : Bool) → d.kind ≡ kind.Thread own held → Ready all p qs (d ∷ ds) → Later ds
      → AllSound named (after_thread p d.name) (lines_of_program all (first_program qs) ++ spelled_from all (later_programs qs) ds)
  behind_sound p qs d ds own held is ready later =
      let q = first_program qs in
      let rest = spelled_from all (later_programs qs) ds in
      let one = first_good all qs ready.programs in
      let long = long_parts (lines_of_program all q) rest (longs all qs d ds (kind.Thread own held) is ready.long).1 in
      let items = long_parts (map (line_of_instruction all) q) _ long.0 in
      let count : length (filter_map thread_of (d ∷ ds)) ≡ suc (length (filter_map thread_of ds)) = ap (λ r. length (cons_option r (filter_map thread_of ds))) (ap thread_of_kind is) in
      let objects = ready.objects in
      let threads = ready.threads in
      let short = good_short all q one in
      subst (AllSound named (after_thread p d.name)) (sym (program-append all q rest))
      (program_sound all named known (after_thread p d.name) q rest refl one.nested one.fine (omega arith) items.0
      (later (record { inside = false; earlier = d.name ∷ p.earlier; objects = p.objects + 1; threads = p.threads + 1; instructions = 0; blocks = [] }) (later_programs qs) (record {
        outside = refl;
        fresh = ready.fresh.2;
        objects = omega arith;
        threads = omega arith;
        programs = good_behind all (kind.Thread own held) qs ready.programs;
        long = long.1;
      })))

  object_sound : (p : Place) (qs : List (List Instruction)) (d : Declaration) (ds : List Declaration) (k : Kind) → d.kind ≡ k → Ready all p qs (d ∷ ds) → Later ds
      → AllSound named p (line_of_kind d.name k ∷ behind all k qs (λ rest. spelled_from all rest ds))
  object_sound p qs d ds (kind.Thread own held) is ready later = by held is
    where
      by : (b : Bool) → d.kind ≡ kind.Thread own b → AllSound named p (line_of_kind d.name (kind.Thread own b) ∷ behind all (kind.Thread own b) qs (λ rest. spelled_from all rest ds))
      by true e = (line_sound p qs d ds (kind.Thread own true) e ready, behind_sound p qs d ds own true e ready later)
      by false e = (line_sound p qs d ds (kind.Thread own false) e ready, behind_sound p qs d ds own false e ready later)
  object_sound p qs d ds k is ready later =
      (line_sound p qs d ds k is ready, later (after_declaration p d.name) qs (declared_ready p qs d ds k is refl ready (longs all qs d ds k is ready.long).1))

  objects_sound : (p : Place) (qs : List (List Instruction)) (ds : List Declaration) → Ready all p qs ds → AllSound named p (spelled_from all qs ds)
  objects_sound p qs [] ready = ready.outside
  objects_sound p qs (d ∷ ds) ready = object_sound p qs d ds d.kind refl ready (λ q rs h. objects_sound q rs ds h)

-- each object of a well-formed exercise has a new name
fresh_from : (earlier : List (List ℕ)) (ds : List Declaration) → ((o : ℕ) (d : Declaration) → slice_get ds o ≡ Some d → IsNew earlier d.name × IsKindRead d.kind) → Once ds → Fresh earlier ds
fresh_from earlier [] h once = tt
fresh_from earlier (c ∷ ds) h once =
    let first = h 0 c refl in
    let differs : (o : ℕ) (d : Declaration) → slice_get ds o ≡ Some d → bytes_eq c.name d.name ≡ false =
    λ o d at. false_from_ne_true (bytes_eq c.name d.name) (λ e. let no : 0 ≡ suc o = once 0 (suc o) c d refl at ((bytes_eq-Decides c.name d.name).0 e) in absurd (omega arith)) in (
      first.0,
      first.1,
      fresh_from (c.name ∷ earlier) ds
          (λ o d at.
          let one = h (suc o) d at in
          (record { is_name = one.0.is_name; not_main = one.0.not_main; not_earlier = or_from (bytes_eq c.name d.name) (list_any (λ name. bytes_eq name d.name) earlier) (differs o d at) one.0.not_earlier }, one.1))
          (λ i j a b at_i at_j e. let next : suc i ≡ suc j = once (suc i) (suc j) a b at_i at_j e in omega arith),
    )

fresh : (x : ExerciseView) → IsWellFormed x → Fresh [] x.objects
fresh x formed =
    fresh_from [] x.objects
    (λ o d at.
    let names = formed.names o d at in
    (record { is_name = names.0; not_main = false_from_ne_true (bytes_eq d.name (codes "main")) (λ e. names.1 ((bytes_eq-Decides d.name (codes "main")).0 e)); not_earlier = refl }, formed.kinds o d at))
    formed.once

-- the lines that spell a well-formed exercise stand well
sound : (x : ExerciseView) → IsWellFormed x → are_long (spelled x) ≡ true → AllSound (kind_named (map words_in (spelled x))) first_place (spelled x)
sound x formed long =
    let all = x.objects in
    let same = spelled-from x formed in
    let all_long : are_long (spelled_from all x.programs all) ≡ true = ap are_long (sym same) ∙ long in
    let good = all_good x formed in
    let named : List ℕ → Option Kind = kind_named (map words_in (spelled_from all x.programs all)) in
    let few = formed.few_objects in
    let few_threads = formed.few_threads in
    let count = threads_count x formed in
    subst (λ ls. AllSound (kind_named (map words_in ls)) first_place ls) (sym same)
    (objects_sound all named
    (λ o d at. ((formed.names o d at).0, named_from all [] x.programs all (fresh x formed) good (long_kinds all x.programs all all_long) o d at))
    first_place x.programs all (record {
      outside = refl;
      fresh = fresh x formed;
      objects = omega arith;
      threads = omega arith;
      programs = good;
      long = all_long;
    }))

not_longer : (n m : ℕ) → n ≤ m → nat_lt m n ≡ false
not_longer n m h = grind (arith, nat_tests)

canonical_faultless : (x : ExerciseView) → AllSound (kind_named (map words_in (spelled x))) first_place (spelled x) → length (canonical_text x) ≤ MOST_BYTES → first_fault (canonical_text x) ≡ None
canonical_faultless x stands short =
    let lines = text_lines (canonical_text x) in
    cond-false (nat_lt MOST_BYTES (length (canonical_text x))) (Some (record { line = 0; kind = fault.Size })) (first_fault_from (named_in lines) 1 first_place lines) (not_longer (length (canonical_text x)) MOST_BYTES short)
    ∙ ap (λ wss. first_fault_from (kind_named wss) 1 first_place lines) (words_back (kind_named (map words_in (spelled x))) first_place (spelled x) stands)
    ∙ no_fault (kind_named (map words_in (spelled x))) 1 first_place (spelled x) stands

pub canonical_texts_read_back : CanonicalTextsReadBack
canonical_texts_read_back x formed long short =
    let named : List ℕ → Option Kind = kind_named (map words_in (spelled x)) in
    let stands = sound x formed long in
    let says : lines_said (canonical_text x) ≡ spelled x =
    ap (filter_map line_said) (words_back named first_place (spelled x) stands) ∙ lines_back named first_place (spelled x) stands in
    spelled_both_ways.is_spelled (canonical_text x) x formed (canonical_faultless x stands short) says
