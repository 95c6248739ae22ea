-- The parts of a layout: how many there are, what holds of each, and that no two have one name.
use Rattle.std.proofs.Common.{◌≡◌, ◌≢◌, ◌+◌, ◌≤◌, ◌<◌, ℕ, zero, suc, Bool, true, false, not, ◌&&◌, ◌||◌, ◌==◌, List, [], ◌∷◌, ◌++◌, length, map, codes, arith, refl, sym, ap, ◌∙◌, subst, ⊎_elim}
use Rattle.std.specs.List.{range_with_len, list_all}
use Rattle.std.specs.Str.{bytes_eq}
use Rattle.std.specs.Fmt.{decimal}
use Rattle.std.proofs.lemmas.Bool.Decides.{eqb_tells, nat_tests}
use Rattle.std.proofs.lemmas.Slice.Eq.{bytes_eq-Decides}
use Rattle.std.proofs.lemmas.List.{length-append}
use Rattle.std.proofs.lemmas.List.FromFn.{length-map-range_with_len}
use Rattle.tm_base.specs.Names.{IsName, is_name}
use Rattle.tm_programs.specs.declared.instructions.Instruction.{Instruction}
use Rattle.tm_makers.specs.Drafts.{Part, Object, Thread, is_short_name}
use Rattle.tm_makers.specs.LineForms.{numbered}
use Rattle.tm_makers.proofs.Layouts.{AllOf, EachOf, Group, IsSmall, Many, One, are_apart, first_letter, is_among, is_named, letter_of, letters, parts_before, parts_in, size_of, total}
use Rattle.tm_makers.proofs.NumberedNames.{free, named, once}

-- ---- what holds of each

pub all-append : {X : Type 0} (P : X → Type 0) (xs ys : List X) → AllOf P xs → AllOf P ys → AllOf P (xs ++ ys)
all-append P [] ys h k = k
all-append P (x ∷ xs) ys h k = (h.0, all-append P xs ys h.1 k)

pub all-range : {X : Type 0} (P : X → Type 0) (f : ℕ → X) (a n : ℕ) → ((i : ℕ) → a ≤ i → i < a + n → P (f i)) → AllOf P (map f (range_with_len a n))
all-range P f a zero h = tt
all-range P f a (suc n) h =
    (h a (omega arith) (omega arith), all-range P f (a + 1) n (λ i low high. h i (omega arith) (omega arith)))

pub all-more : {X : Type 0} (P Q : X → Type 0) (xs : List X) → ((x : X) → P x → Q x) → AllOf P xs → AllOf Q xs
all-more P Q [] f h = tt
all-more P Q (x ∷ xs) f h = (f x h.0, all-more P Q xs f h.1)

all-group : {C : Type 0} (P : Part → Type 0) (part : List ℕ → C → Part) (g : Group C) → EachOf (λ name c. P (part name c)) g → AllOf P (parts_in part g)
all-group P part (One name content) h = (h, tt)
all-group P part (Many word from count content) h = all-range P (λ i. part (numbered word i) (content i)) from count h

pub all-before : {C : Type 0} (P : Part → Type 0) (part : List ℕ → C → Part) (gs : List (Group C)) (rest : List Part)
    → AllOf (EachOf (λ name c. P (part name c))) gs → AllOf P rest → AllOf P (parts_before part gs rest)
all-before P part [] rest h k = k
all-before P part (g ∷ gs) rest h k =
    all-append P (parts_in part g) (parts_before part gs rest) (all-group P part g h.0) (all-before P part gs rest h.1 k)

-- ---- how many there are

size-group : {C : Type 0} (part : List ℕ → C → Part) (g : Group C) → length (parts_in part g) ≡ size_of g
size-group part (One name content) = refl
size-group part (Many word from count content) = length-map-range_with_len (λ i. part (numbered word i) (content i)) from count

pub length-before : {C : Type 0} (part : List ℕ → C → Part) (gs : List (Group C)) (rest : List Part) → length (parts_before part gs rest) ≡ total gs + length rest
length-before part [] rest = omega arith
length-before part (g ∷ gs) rest =
    let joined = length-append (parts_in part g) (parts_before part gs rest) in
    let here = size-group part g in
    let later = length-before part gs rest in
    omega arith

abbrev pub programs_in : List Part → List (List Instruction)
programs_in [] = []
programs_in (Object name kind ∷ ps) = programs_in ps
programs_in (Thread name program ∷ ps) = program ∷ programs_in ps

-- ---- names

abbrev pub part_name : Part → List ℕ
part_name (Object name kind) = name
part_name (Thread name program) = name

-- a name that a group may have
pub record GoodName (l : ℕ) (name : List ℕ) : Type 0 where
  pub named : IsName name
  pub free : name ≢ codes "main"
  pub begins : first_letter name ≡ l

first_letter-append : (word ds : List ℕ) → is_short_name word ≡ true → first_letter (word ++ ds) ≡ first_letter word
first_letter-append [] ds h = absurd cc
first_letter-append (b ∷ bs) ds h = refl

false≢true : not true ≡ true → ⊥
false≢true h = (cc)

other_than : (a b : List ℕ) → not (bytes_eq a b) ≡ true → a ≢ b
other_than a b h same = false≢true (sym (ap not ((bytes_eq-Decides a b).1 same)) ∙ h)

pub both-true : (a b : Bool) → (a && b) ≡ true → (a ≡ true) × (b ≡ true)
both-true true true h = (refl, refl)
both-true true false h = absurd cc
both-true false b h = absurd cc

good-group : {C : Type 0} (g : Group C) → is_named g ≡ true → IsSmall g → EachOf (λ name c. GoodName (letter_of g) name) g
good-group (One name content) h small =
    let parts = both-true (is_name name) (not (bytes_eq name (codes "main"))) h in
    record { named = parts.0; free = other_than name (codes "main") parts.1; begins = refl }
good-group (Many word from count content) h small =
    λ i low high. record {
      named = named word i h (omega arith);
      free = free word i (omega arith);
      begins = first_letter-append word (decimal i) h;
    }

-- two parts whose names are good for other letters have other names
other-letters : (l k : ℕ) (p q : Part) → GoodName l (part_name p) → GoodName k (part_name q) → (k == l) ≡ false → part_name p ≢ part_name q
other-letters l k p q one two h same =
    let letters : k ≡ l = sym two.begins ∙ ap first_letter (sym same) ∙ one.begins in
    grind (arith, nat_tests)

-- no two parts have one name
abbrev pub Once : List Part → Type 0
Once [] = Unit {0}
Once (p ∷ ps) = AllOf (λ q. part_name p ≢ part_name q) ps × Once ps

once-append : (ps qs : List Part) → Once ps → Once qs → AllOf (λ p. AllOf (λ q. part_name p ≢ part_name q) qs) ps → Once (ps ++ qs)
once-append [] qs h k apart = k
once-append (p ∷ ps) qs h k apart =
    (all-append (λ q. part_name p ≢ part_name q) ps qs h.0 apart.0, once-append ps qs h.1 k apart.1)

-- the name of a part is the one that it was made with
abbrev pub KeepsNames : {C : Type 0} → (List ℕ → C → Part) → Type 0
KeepsNames {C} part = (name : List ℕ) (c : C) → part_name (part name c) ≡ name

once-range : {C : Type 0} (part : List ℕ → C → Part) (word : List ℕ) (content : ℕ → C) → KeepsNames part → (a n : ℕ) → a + n ≤ 100 → Once (map (λ i. part (numbered word i) (content i)) (range_with_len a n))
once-range part word content keeps a zero small = tt
once-range part word content keeps a (suc n) small = (
  all-range (λ q. part_name (part (numbered word a) (content a)) ≢ part_name q) (λ i. part (numbered word i) (content i)) (a + 1) n
      (λ i low high same.
      let names : numbered word a ≡ numbered word i = sym (keeps (numbered word a) (content a)) ∙ same ∙ keeps (numbered word i) (content i) in
      let numbers : a ≡ i = once word a i (omega arith) (omega arith) names in
      omega arith),
  once-range part word content keeps (a + 1) n (omega arith),
)

once-group : {C : Type 0} (part : List ℕ → C → Part) → KeepsNames part → (g : Group C) → IsSmall g → Once (parts_in part g)
once-group part keeps (One name content) small = (tt, tt)
once-group part keeps (Many word from count content) small = once-range part word content keeps from count small

-- a part has a good name for one of these letters
abbrev pub BeginsAmong : List ℕ → Part → Type 0
BeginsAmong ls p = (l : ℕ) × GoodName l (part_name p) × (is_among l ls ≡ true)

same-number : (l : ℕ) → (l == l) ≡ true
same-number l = grind (arith, nat_tests)

or-true : (a b : Bool) → b ≡ true → (a || b) ≡ true
or-true true b h = refl
or-true false b h = h

or-here : (a b : Bool) → a ≡ true → (a || b) ≡ true
or-here true b h = refl
or-here false b h = absurd cc

apart-number : (l k : ℕ) (ls : List ℕ) → not (is_among l ls) ≡ true → is_among k ls ≡ true → (k == l) ≡ false
apart-number l k ls h m =
    ⊎_elim
    (λ (same : ((k == l) ≡ true) × (k ≡ l)). absurd (false≢true (sym (ap not (sym (ap (λ x. is_among x ls) same.1) ∙ m)) ∙ h)))
    (λ (other : ((k == l) ≡ false) × (k ≢ l)). other.0)
    (eqb_tells k l)

each-kept : {C : Type 0} (l : ℕ) (part : List ℕ → C → Part) → KeepsNames part → (g : Group C) → EachOf (λ name c. GoodName l name) g → EachOf (λ name c. GoodName l (part_name (part name c))) g
each-kept l part keeps (One name content) h = subst (GoodName l) (sym (keeps name content)) h
each-kept l part keeps (Many word from count content) h =
    λ i low high. subst (GoodName l) (sym (keeps (numbered word i) (content i))) (h i low high)

-- the parts of groups with other letters than those behind them
pub once-before : {C : Type 0} (part : List ℕ → C → Part) → KeepsNames part → (gs : List (Group C)) (rest : List Part) (ls : List ℕ) → list_all is_named gs ≡ true → AllOf IsSmall gs
    → are_apart (letters gs ls) ≡ true → Once rest → AllOf (BeginsAmong ls) rest
    → Once (parts_before part gs rest) × AllOf (BeginsAmong (letters gs ls)) (parts_before part gs rest)
once-before part keeps [] rest ls h small apart once begins = (once, begins)
once-before part keeps (g ∷ gs) rest ls h small apart once begins =
    let l = letter_of g in
    let later_letters = letters gs ls in
    let tail = parts_before part gs rest in
    let are_named = both-true (is_named g) (list_all is_named gs) h in
    let are_other = both-true (not (is_among l later_letters)) (are_apart later_letters) apart in
    let later = once-before part keeps gs rest ls are_named.1 small.1 are_other.1 once begins in
    let good = all-group (λ (p : Part). GoodName l (part_name p)) part g (each-kept l part keeps g (good-group g are_named.0 small.0)) in
    let Other : Part → Type 0 = λ p. AllOf (λ q. part_name p ≢ part_name q) tail in
    let others : AllOf Other (parts_in part g) =
    all-more (λ (p : Part). GoodName l (part_name p)) Other (parts_in part g)
    (λ p one. all-more (BeginsAmong later_letters) (λ q. part_name p ≢ part_name q) tail
    (λ q among. other-letters l among.0 p q one among.1 (apart-number l among.0 later_letters are_other.0 among.2)) later.1)
    good in (
      once-append (parts_in part g) tail (once-group part keeps g small.0) later.0 others,
      all-append (BeginsAmong (l ∷ later_letters)) (parts_in part g) tail
          (all-more (λ (p : Part). GoodName l (part_name p)) (BeginsAmong (l ∷ later_letters)) (parts_in part g)
          (λ p one. (l, one, or-here (l == l) (is_among l later_letters) (same-number l))) good)
          (all-more (BeginsAmong later_letters) (BeginsAmong (l ∷ later_letters)) tail
          (λ p among. (among.0, among.1, or-true (l == among.0) (is_among among.0 later_letters) among.2)) later.1),
    )
