-- Lists of events that begin with others, and numbers in lists.
use Rattle.std.proofs.Common.{◌≡◌, ◌≢◌, ℕ, zero, suc, ◌+◌, ◌≤◌, ◌||◌, ◌==◌, ◌⊎◌, inl, inr, ⊎_elim, Bool, true, false, cond, List, [], ◌∷◌, ◌++◌, length, refl, ap, sym, subst, ◌∙◌, arith, eq-eqb, ne_eqb, lt-ltb, le-ltb, length-append}
use mathlib.Core.Logic.{dite}
use mathlib.Core.Option.{some, some-injective, some-ne-none}
use native.Mathlib.Decide.{ℕ_discrete, dec_le}
use lib.ListN.{get_elem?}
use Rattle.std.proofs.lemmas.Bool.{false≢true}
use Rattle.std.proofs.lemmas.List.{append-nil, append_assoc}
use Rattle.std.proofs.lemmas.List.Elements.{filter-append}
use Rattle.tm_base.specs.declared.events.Entry.{Entry}
use Rattle.tm_base.specs.Orders.{of_thread}
use Rattle.tm_turn.specs.Prefixes.{StartsWith, has, longer}

pub clash : (b : Bool) → b ≡ true → b ≡ false → ⊥
clash b is isnt = false≢true (sym isnt ∙ is)

pub StartsWith-self : (es : List Entry) → StartsWith es es
StartsWith-self es = record { rest = []; whole = sym (append-nil es) }

pub StartsWith-snoc : (es : List Entry) (e : Entry) → StartsWith (es ++ e ∷ []) es
StartsWith-snoc es e = record { rest = e ∷ []; whole = refl }

pub StartsWith-nil : (es : List Entry) → StartsWith es []
StartsWith-nil es = record { rest = es; whole = refl }

pub StartsWith-trans : (xs ys zs : List Entry) → StartsWith xs ys → StartsWith ys zs → StartsWith xs zs
StartsWith-trans xs ys zs p q =
    record {
      rest = q.rest ++ p.rest;
      whole = p.whole ∙ ap (λ (l : List Entry). l ++ p.rest) q.whole ∙ append_assoc zs q.rest p.rest;
    }

-- one event more of the thread
pub of_thread-own : (es : List Entry) (e : Entry) (n : ℕ) → e.thread ≡ n → of_thread (es ++ e ∷ []) n ≡ of_thread es n ++ e ∷ []
of_thread-own es e n is =
    filter-append (λ (f : Entry). f.thread == n) es (e ∷ [])
    ∙ ap (λ (b : Bool). of_thread es n ++ cond b (e ∷ []) []) (eq-eqb e.thread n is)

-- one event more of another thread
pub of_thread-other : (es : List Entry) (e : Entry) (n : ℕ) → e.thread ≢ n → of_thread (es ++ e ∷ []) n ≡ of_thread es n
of_thread-other es e n other =
    filter-append (λ (f : Entry). f.thread == n) es (e ∷ [])
    ∙ ap (λ (b : Bool). of_thread es n ++ cond b (e ∷ []) []) (ne_eqb e.thread n other)
    ∙ append-nil (of_thread es n)

pub has-here : (n : ℕ) (ns : List ℕ) → has n (n ∷ ns) ≡ true
has-here n ns = ap (λ (b : Bool). b || has n ns) (eq-eqb n n refl)

pub has-else : (m n : ℕ) (ns : List ℕ) → m ≢ n → has n (m ∷ ns) ≡ has n ns
has-else m n ns other = ap (λ (b : Bool). b || has n ns) (ne_eqb m n other)

-- a number of the longer list is the new one, or was there
pub has-cases : (m n : ℕ) (ns : List ℕ) → has n (m ∷ ns) ≡ true → (m ≡ n) ⊎ ((m ≢ n) × (has n ns ≡ true))
has-cases m n ns h = dite (ℕ_discrete m n) inl (λ other. inr (other, sym (has-else m n ns other) ∙ h))

-- a number that was there is there still
pub has-more : (m n : ℕ) (ns : List ℕ) → has n ns ≡ true → has n (m ∷ ns) ≡ true
has-more m n ns h =
    dite (ℕ_discrete m n)
    (λ same. ap (λ (b : Bool). b || has n ns) (eq-eqb m n same))
    (λ other. has-else m n ns other ∙ h)

-- a number that isn't in the longer list is another, and wasn't there
pub has-none : (m n : ℕ) (ns : List ℕ) → has n (m ∷ ns) ≡ false → (m ≢ n) × (has n ns ≡ false)
has-none m n ns h =
    let other : m ≢ n = λ same. clash (has n (m ∷ ns)) (ap (λ (b : Bool). b || has n ns) (eq-eqb m n same)) h in (
      other,
      sym (has-else m n ns other) ∙ h,
    )

-- what stands in a list with one more at its end
pub at_end : {A : Type 0} (l : List A) (a b : A) (j : ℕ) → get_elem? (l ++ a ∷ []) j ≡ some b → (get_elem? l j ≡ some b) ⊎ ((j ≡ length l) × (a ≡ b))
at_end [] a b zero e = inr (refl, some-injective a b e)
at_end [] a b (suc j) e = absurd (some-ne-none b (sym e))
at_end (x ∷ xs) a b zero e = inl e
at_end (x ∷ xs) a b (suc j) e = ⊎_elim inl (λ t. inr (ap suc t.0, t.1)) (at_end xs a b j e)

empty : (es : List Entry) → length es ≡ 0 → es ≡ []
empty [] h = refl
empty (e ∷ es) h = absurd (omega arith)

-- a list between one that begins it and one that it begins has the same events of a thread as both
pub squeezed : (history l seen : List Entry) (n : ℕ) → StartsWith history l → StartsWith l seen → of_thread history n ≡ of_thread seen n → of_thread history n ≡ of_thread l n
squeezed history l seen n p q same =
    let test = λ (f : Entry). f.thread == n in
    let upper : of_thread history n ≡ of_thread l n ++ of_thread p.rest n = ap (λ (es : List Entry). of_thread es n) p.whole ∙ filter-append test l p.rest in
    let lower : of_thread l n ≡ of_thread seen n ++ of_thread q.rest n = ap (λ (es : List Entry). of_thread es n) q.whole ∙ filter-append test seen q.rest in
    let a : length (of_thread seen n) ≡ length (of_thread l n) + length (of_thread p.rest n) = ap length (sym same ∙ upper) ∙ length-append (of_thread l n) (of_thread p.rest n) in
    let b : length (of_thread l n) ≡ length (of_thread seen n) + length (of_thread q.rest n) = ap length lower ∙ length-append (of_thread seen n) (of_thread q.rest n) in
    let none : of_thread p.rest n ≡ [] = empty (of_thread p.rest n) (omega arith) in
    upper ∙ ap (λ (es : List Entry). of_thread l n ++ es) none ∙ append-nil (of_thread l n)

-- what a list has none of, no beginning of it has
pub none_before : (history seen : List Entry) (n : ℕ) → StartsWith history seen → of_thread history n ≡ [] → of_thread seen n ≡ []
none_before history seen n p none =
    let test = λ (f : Entry). f.thread == n in
    let upper : of_thread history n ≡ of_thread seen n ++ of_thread p.rest n = ap (λ (es : List Entry). of_thread es n) p.whole ∙ filter-append test seen p.rest in
    let a : 0 ≡ length (of_thread seen n) + length (of_thread p.rest n) = ap length (sym none ∙ upper) ∙ length-append (of_thread seen n) (of_thread p.rest n) in
    empty (of_thread seen n) (omega arith)

nothing_more : (rest : List Entry) → ((n : ℕ) → of_thread rest n ≡ []) → rest ≡ []
nothing_more [] h = refl
nothing_more (e ∷ rest) h =
    let one : of_thread (e ∷ rest) e.thread ≡ e ∷ of_thread rest e.thread = ap (λ (b : Bool). cond b (e ∷ of_thread rest e.thread) (of_thread rest e.thread)) (eq-eqb e.thread e.thread refl) in
    let none = h e.thread in
    absurd (cc (one, none))

-- a beginning that has as many events of each thread is the whole list
pub all_of_it : (history seen : List Entry) → StartsWith history seen → ((n : ℕ) → of_thread history n ≡ of_thread seen n) → history ≡ seen
all_of_it history seen p same =
    let more : (n : ℕ) → of_thread p.rest n ≡ [] =
    λ n.
    let upper : of_thread history n ≡ of_thread seen n ++ of_thread p.rest n = ap (λ (es : List Entry). of_thread es n) p.whole ∙ filter-append (λ (f : Entry). f.thread == n) seen p.rest in
    let a : length (of_thread seen n) ≡ length (of_thread seen n) + length (of_thread p.rest n) = ap length (sym (same n) ∙ upper) ∙ length-append (of_thread seen n) (of_thread p.rest n) in
    empty (of_thread p.rest n) (omega arith) in
    p.whole ∙ ap (λ (es : List Entry). seen ++ es) (nothing_more p.rest more) ∙ append-nil seen

prefixes : (a b r s : List Entry) → a ++ r ≡ b ++ s → length a ≤ length b → StartsWith b a
prefixes [] b r s e le = StartsWith-nil b
prefixes (x ∷ a) [] r s e le = absurd (omega arith)
prefixes (x ∷ a) (y ∷ b) r s e le =
    let heads : x ≡ y = cc in
    let tails : a ++ r ≡ b ++ s = cc in
    let p = prefixes a b r s tails (omega arith) in
    record { rest = p.rest; whole = λ k. sym heads k ∷ p.whole k }

-- of two beginnings of one list the longer begins with both
pub longer_begins : (history a b : List Entry) → StartsWith history a → StartsWith history b
    → StartsWith history (longer a b) × StartsWith (longer a b) a × StartsWith (longer a b) b
longer_begins history a b p q =
    let Both : List Entry → Type 0 = λ l. StartsWith history l × StartsWith l a × StartsWith l b in
    dite (dec_le (length b) (length a))
    (λ le. subst Both (sym (ap (λ (c : Bool). cond c b a) (le-ltb (length a) (length b) le))) (p, StartsWith-self a, prefixes b a q.rest p.rest (sym q.whole ∙ p.whole) le))
    (λ more.
    let le : length a ≤ length b = omega arith in
    subst Both (sym (ap (λ (c : Bool). cond c b a) (lt-ltb (length a) (length b) (omega arith)))) (q, prefixes a b p.rest q.rest (sym p.whole ∙ q.whole) le, StartsWith-self b))
