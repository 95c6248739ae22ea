-- The objects of a text without a faulty line.
use Rattle.std.proofs.Common.{◌≡◌, ◌≢◌, ℕ, zero, suc, ◌+◌, ◌≤◌, Bool, true, false, not, ◌||◌, nat_le, List, [], ◌∷◌, length, codes, bytes_eq, slice_get, filter_map, Option, Some, None, is_some, refl, sym, ap, subst, ◌∙◌, arith, true≢false}
use Rattle.std.specs.List.{cons_option, list_any, range_with_len}
use Rattle.std.proofs.lemmas.Bool.{and_from, leb-false, not_from_false, or_parts}
use Rattle.std.proofs.lemmas.Slice.Eq.{bytes_eq-Decides}
use Rattle.tm_base.specs.declared.kinds.Kind.{Kind}
use Rattle.tm_base.specs.declared.limits.TheConstants.{MOST_THREADS}
use Rattle.tm_base.specs.Names.{IsName, is_name}
use Rattle.tm_programs.specs.Instructions.{Block}
use Rattle.tm_lines.specs.declared.first_words.Declarator.{Declarator}
use Rattle.tm_lines.specs.declared.first_words.Declarator.TheVariants as declares
use Rattle.tm_lines.specs.declared.first_words.FirstWord.{FirstWord}
use Rattle.tm_lines.specs.declared.first_words.FirstWord.TheVariants as first
use Rattle.tm_lines.specs.declared.limits.TheConstants.{MOST_OBJECTS}
use Rattle.tm_lines.specs.FirstWords.{first_word_of}
use Rattle.tm_lines.specs.LineFaults.{Place, after_end, is_beyond, place_after, place_by}
use Rattle.tm_lines.specs.NamedLines.{declarator_of, declares_well, word_at}
use Rattle.tm_text.specs.declared.exercises.Declaration.{Declaration}
use Rattle.tm_text.specs.Exercises.{IsKindRead, thread_of}
use Rattle.tm_text.specs.Texts.{declarations_said, next_thread}
use Rattle.tm_text.proofs.Faultless.{Faultless, Fine, place-first}
use Rattle.tm_text.proofs.SaidValues.{is_thread, kind_read, not_thread}
use Rattle.tm_text.proofs.SaidNames.{AllDeclareWell, declarations-more, declarations-same, declared}

-- the word is a name, is not `main`, and is none of those that were declared before
pub record IsNew (earlier : List (List ℕ)) (w : List ℕ) : Type 0 where
  pub is_name : is_name w ≡ true
  pub not_main : bytes_eq w (codes "main") ≡ false
  pub not_earlier : list_any (λ name. bytes_eq name w) earlier ≡ false

is_new : (p : Place) (w : List ℕ) → (not (is_name w) || bytes_eq w (codes "main") || list_any (λ name. bytes_eq name w) p.earlier) ≡ false → IsNew p.earlier w
is_new p w h =
    let outer = or_parts (not (is_name w) || bytes_eq w (codes "main")) (list_any (λ name. bytes_eq name w) p.earlier) h in
    let inner = or_parts (not (is_name w)) (bytes_eq w (codes "main")) outer.0 in
    record { is_name = not_false (is_name w) inner.0; not_main = inner.1; not_earlier = outer.1 }
  where
    not_false : (b : Bool) → not b ≡ false → b ≡ true
    not_false true e = refl
    not_false false e = absurd (cc)

-- the second word of a line that declares is a new name
new_name : (p : Place) (d : Declarator) (k : Option Kind) (ws : List (List ℕ)) → Fine p (first.Declares d) k ws → IsNew p.earlier (word_at 1 ws)
new_name p declares.Thread k [] h = absurd (let no : true ≡ false = h.count in cc)
new_name p d k [] h = absurd (let no : true ≡ false = h.count in cc)
new_name p declares.Thread k (w ∷ []) h = absurd (let no : true ≡ false = h.count in cc)
new_name p d k (w ∷ []) h = absurd (let no : true ≡ false = h.count in cc)
new_name p declares.Thread k (w ∷ name ∷ ws) h = is_new p name (or_parts _ _ h.name).0
new_name p d k (w ∷ name ∷ ws) h = is_new p name (or_parts _ _ h.name).0

-- each of these objects has a new name and a kind that a text can declare
abbrev pub Fresh : List (List ℕ) → List Declaration → Type 0
Fresh earlier [] = Unit {0}
Fresh earlier (d ∷ ds) = IsNew earlier d.name × IsKindRead d.kind × Fresh (d.name ∷ earlier) ds

pub record Objects (earlier : List (List ℕ)) (objects threads t : ℕ) (ds : List Declaration) : Type 0 where
  pub fresh : Fresh earlier ds
  pub few : objects + length ds ≤ MOST_OBJECTS
  pub few_threads : threads + length (filter_map thread_of ds) ≤ MOST_THREADS
  pub numbered : filter_map thread_of ds ≡ range_with_len t (length (filter_map thread_of ds))

with_thread : (earlier : List (List ℕ)) (o threads t : ℕ) (d : Declaration) (ds : List Declaration) → IsNew earlier d.name → IsKindRead d.kind → thread_of d ≡ Some t → Objects (d.name ∷ earlier) (o + 1) (threads + 1) (suc t) ds → Objects earlier o threads t (d ∷ ds)
with_thread earlier o threads t d ds new read own h =
    let few = h.few in
    let few_threads = h.few_threads in
    let all : filter_map thread_of (d ∷ ds) ≡ t ∷ filter_map thread_of ds = ap (λ r. cons_option r (filter_map thread_of ds)) own in
    let one : suc t ≡ t + 1 = omega arith in
    record {
      fresh = (new, read, h.fresh);
      few = omega arith;
      few_threads = rw all (omega arith);
      numbered = rw all (ap (λ xs. t ∷ xs) (h.numbered ∙ ap (λ u. range_with_len u (length (filter_map thread_of ds))) one));
    }

with_other : (earlier : List (List ℕ)) (o threads t : ℕ) (d : Declaration) (ds : List Declaration) → IsNew earlier d.name → IsKindRead d.kind → thread_of d ≡ None → Objects (d.name ∷ earlier) (o + 1) threads t ds → Objects earlier o threads t (d ∷ ds)
with_other earlier o threads t d ds new read other h =
    let few = h.few in
    let all : filter_map thread_of (d ∷ ds) ≡ filter_map thread_of ds = ap (λ r. cons_option r (filter_map thread_of ds)) other in
    record {
      fresh = (new, read, h.fresh);
      few = omega arith;
      few_threads = rw all h.few_threads;
      numbered = rw all h.numbered;
    }

-- what lines from a place on declare
abbrev ObjectsAt : Place → ℕ → List Declaration → Type 0
ObjectsAt p t ds = Objects p.earlier p.objects p.threads t ds

-- the lines after a place, if the place has no more objects and threads than there may be
abbrev Later : Place → List (List (List ℕ)) → Type 0
Later p wss = (u : ℕ) → p.objects ≤ MOST_OBJECTS → p.threads ≤ MOST_THREADS → ObjectsAt p u (declarations_said u wss)

by_end : (p : Place) (wss : List (List (List ℕ))) (blocks : List Block) → Later (after_end p blocks) wss → Later p wss
by_end p wss [] later = later
by_end p wss (block ∷ blocks) later = later

by_other : (p : Place) (ws : List (List ℕ)) (wss : List (List (List ℕ))) (t : ℕ) (d : Declarator) (k : Option Kind) → is_thread d ≡ false → is_beyond p (first.Declares d) ≡ nat_le MOST_OBJECTS p.objects → next_thread t d ≡ t → first_word_of (word_at 0 ws) ≡ Some (first.Declares d) → Fine p (first.Declares d) k ws
    → ((u : ℕ) → p.objects + 1 ≤ MOST_OBJECTS → Objects (word_at 1 ws ∷ p.earlier) (p.objects + 1) p.threads u (declarations_said u wss))
    → ObjectsAt p t (declarations_said t (ws ∷ wss))
by_other p ws wss t d k other beyond next e fine later =
    let below = leb-false MOST_OBJECTS p.objects (sym beyond ∙ fine.limit) in
    let same : next_thread t d ≡ t = next in
    subst (λ ds. ObjectsAt p t ds) (sym (declarations-more t ws wss d (ap declarator_of e) ∙ ap (λ u. declared t d ws ∷ declarations_said u wss) same))
    (with_other p.earlier p.objects p.threads t (declared t d ws) (declarations_said t wss) (new_name p d k ws fine)
    (kind_read t d (word_at 2 ws) (word_at 3 ws)) (not_thread t d (word_at 2 ws) (word_at 3 ws) other) (later t (omega arith)))

-- one line more
by_first : (p : Place) (ws : List (List ℕ)) (wss : List (List (List ℕ))) (k : Option Kind) (f : FirstWord) → first_word_of (word_at 0 ws) ≡ Some f → Fine p f k ws → Later (place_after p f (word_at 1 ws)) wss → Later p (ws ∷ wss)
by_first p ws wss k (first.Declares declares.Thread) e fine later t few few_threads =
    let limits = or_parts (nat_le MOST_OBJECTS p.objects) (nat_le MOST_THREADS p.threads) fine.limit in
    let below = leb-false MOST_OBJECTS p.objects limits.0 in
    let below_threads = leb-false MOST_THREADS p.threads limits.1 in
    subst (λ ds. ObjectsAt p t ds) (sym (declarations-more t ws wss declares.Thread (ap declarator_of e)))
    (with_thread p.earlier p.objects p.threads t (declared t declares.Thread ws) (declarations_said (suc t) wss) (new_name p declares.Thread k ws fine) tt refl
    (later (suc t) (omega arith) (omega arith)))
by_first p ws wss k (first.Declares d) e fine later t few few_threads = by_other p ws wss t d k refl refl refl e fine (λ u most. later u most few_threads)
by_first p ws wss k first.End e fine later t few few_threads =
    subst (λ ds. ObjectsAt p t ds) (sym (declarations-same t ws wss (ap declarator_of e))) (by_end p wss p.blocks later t few few_threads)
by_first p ws wss k f e fine later t few few_threads =
    subst (λ ds. ObjectsAt p t ds) (sym (declarations-same t ws wss (ap declarator_of e))) (later t few few_threads)

objects_from : (named : List ℕ → Option Kind) (p : Place) (wss : List (List (List ℕ))) → Faultless named p wss → Later p wss
objects_from named p [] h t few few_threads = record { fresh = tt; few = omega arith; few_threads = omega arith; numbered = refl }
objects_from named p (ws ∷ wss) h t few few_threads =
    by_first p ws wss (named (word_at 1 ws)) h.0.first h.0.is_first h.0.fine
    (subst (λ q. Later q wss) (place-first p ws h.0.first h.0.is_first) (objects_from named (place_by p ws) wss h.1)) t few few_threads

pub objects_are : (named : List ℕ → Option Kind) (p : Place) (wss : List (List (List ℕ))) → Faultless named p wss → (t : ℕ) → p.objects ≤ MOST_OBJECTS → p.threads ≤ MOST_THREADS → Objects p.earlier p.objects p.threads t (declarations_said t wss)
objects_are named p wss h t few few_threads = objects_from named p wss h t few few_threads

-- every line that declares does it well
well : (p : Place) (k : Option Kind) (ws : List (List ℕ)) (f : FirstWord) → first_word_of (word_at 0 ws) ≡ Some f → Fine p f k ws → (d : Declarator) → declarator_of (Some f) ≡ Some d → declares_well ws ≡ true
well p k ws (first.Declares c) e fine d is =
    let new = new_name p c k ws fine in
    let some : is_some (declarator_of (first_word_of (word_at 0 ws))) ≡ true = ap (λ r. is_some (declarator_of r)) e in
    and_from _ _ (and_from _ _ some new.is_name) (not_from_false (bytes_eq (word_at 1 ws) (codes "main")) new.not_main)
well p k ws (first.Calls c) e fine d is = absurd (cc)
well p k ws f e fine d is = absurd (cc)

pub all_well : (named : List ℕ → Option Kind) (p : Place) (wss : List (List (List ℕ))) → Faultless named p wss → AllDeclareWell wss
all_well named p [] h = tt
all_well named p (ws ∷ wss) h =
    (λ d is. well p (named (word_at 1 ws)) ws h.0.first h.0.is_first h.0.fine d (sym (ap declarator_of h.0.is_first) ∙ is), all_well named (place_by p ws) wss h.1)

-- an object among them has a name, a kind, and none of the names before
pub record IsOne (earlier : List (List ℕ)) (d : Declaration) : Type 0 where
  pub is_name : IsName d.name
  pub not_main : d.name ≢ codes "main"
  pub kind : IsKindRead d.kind
  pub not_earlier : list_any (λ name. bytes_eq name d.name) earlier ≡ false

pub fresh_at : (earlier : List (List ℕ)) (ds : List Declaration) → Fresh earlier ds → (o : ℕ) (d : Declaration) → slice_get ds o ≡ Some d → IsOne earlier d
fresh_at earlier [] h o d e = absurd (cc)
fresh_at earlier (c ∷ ds) h zero d e =
    let same : c ≡ d = cc in
    let main : bytes_eq c.name (codes "main") ≡ false = h.0.not_main in
    subst (IsOne earlier) same (record {
      is_name = h.0.is_name;
      not_main = λ x. true≢false (sym ((bytes_eq-Decides c.name (codes "main")).1 x) ∙ main);
      kind = h.1;
      not_earlier = h.0.not_earlier;
    })
fresh_at earlier (c ∷ ds) h (suc o) d e =
    let one = fresh_at (c.name ∷ earlier) ds h.2 o d e in
    record { is_name = one.is_name; not_main = one.not_main; kind = one.kind; not_earlier = (or_parts (bytes_eq c.name d.name) (list_any (λ name. bytes_eq name d.name) earlier) one.not_earlier).1 }

differs : (earlier : List (List ℕ)) (c : Declaration) (ds : List Declaration) → Fresh (c.name ∷ earlier) ds → (o : ℕ) (d : Declaration) → slice_get ds o ≡ Some d → c.name ≢ d.name
differs earlier c ds h o d e same =
    let one = fresh_at (c.name ∷ earlier) ds h o d e in
    true≢false (sym ((bytes_eq-Decides c.name d.name).1 same) ∙ (or_parts (bytes_eq c.name d.name) (list_any (λ name. bytes_eq name d.name) earlier) one.not_earlier).0)

pub fresh_once : (earlier : List (List ℕ)) (ds : List Declaration) → Fresh earlier ds → (o p : ℕ) (c d : Declaration) → slice_get ds o ≡ Some c → slice_get ds p ≡ Some d → c.name ≡ d.name → o ≡ p
fresh_once earlier [] h o p c d at_o at_p same = absurd (cc)
fresh_once earlier (b ∷ ds) h zero zero c d at_o at_p same = refl
fresh_once earlier (b ∷ ds) h zero (suc p) c d at_o at_p same =
    let is : b ≡ c = cc in absurd (differs earlier b ds h.2 p d at_p (ap (λ x. x.name) is ∙ same))
fresh_once earlier (b ∷ ds) h (suc o) zero c d at_o at_p same =
    let is : b ≡ d = cc in absurd (differs earlier b ds h.2 o c at_o (ap (λ x. x.name) is ∙ sym same))
fresh_once earlier (b ∷ ds) h (suc o) (suc p) c d at_o at_p same = ap suc (fresh_once (b.name ∷ earlier) ds h.2 o p c d at_o at_p same)
