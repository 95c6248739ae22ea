-- The ways out of the blocks that are open at a place, the outermost first.
use Rattle.std.proofs.Common.{◌≡◌, ℕ, ℤ, suc, ◌⊎◌, ◌+◌, ◌-◌, ◌<◌, ◌≤◌, List, [], ◌∷◌, ◌++◌, length, drop, Some, get_or, set, refl, ap, sym, ◌∙◌, subst, arith, length-append, ⊎_elim, ◌≢◌, get_or-set_same, get_or-set_other, length-set}
use Rattle.std.specs.Prelude.{slice_get}
use Rattle.std.proofs.lemmas.Option.{slice_get_within}
use Rattle.std.proofs.Math.Nat.{eq-or-lt_of_le}
use Rattle.std.proofs.Math.Seq.{drop-length}
use Rattle.tm_programs.specs.declared.instructions.Comparison.{Comparison}
use Rattle.tm_programs.specs.declared.instructions.Instruction.{Instruction}
use Rattle.tm_programs.specs.declared.instructions.Instruction.TheVariants as instruction
use Rattle.tm_programs.specs.Programs.{Program, Call, Set, Inc, Repeat, While, If}
use Rattle.tm_programs.specs.Instructions.{IsNested, in_front, around, programs_of, rest_of}
use Rattle.tm_programs.specs.Running.{programs_at, Opens, IsExit}
use Rattle.tm_programs.specs.Spelled.{programs_of-whole}
use Rattle.tm_programs.proofs.Stepping.{drop-get, depth_room, opens-deep}

module _ (items : List Instruction) where
  -- each way out leads to the programs round its block
  abbrev pub Chain : List Program → List ℕ → ℕ → Type 0
  Chain outer [] place = rest_of (programs_at items place) ≡ outer
  Chain outer (exit ∷ exits) place =
      (rest_of (programs_at items exit) ≡ outer) × Chain (programs_at items exit) exits place

  pub Chain-snoc : (outer : List Program) (exits : List ℕ) (exit place : ℕ) → Chain outer exits exit
      → rest_of (programs_at items place) ≡ programs_at items exit
      → Chain outer (exits ++ exit ∷ []) place
  Chain-snoc outer [] exit place chain e = (chain, e)
  Chain-snoc outer (x ∷ exits) exit place chain e =
      (chain.0, Chain-snoc (programs_at items x) exits exit place chain.1 e)

  pub Chain-unsnoc : (outer : List Program) (exits : List ℕ) (exit place : ℕ)
      → Chain outer (exits ++ exit ∷ []) place
      → Chain outer exits exit × (rest_of (programs_at items place) ≡ programs_at items exit)
  Chain-unsnoc outer [] exit place chain = (chain.0, chain.1)
  Chain-unsnoc outer (x ∷ exits) exit place chain =
      let it = Chain-unsnoc (programs_at items x) exits exit place chain.1 in ((chain.0, it.0), it.1)

  -- where the programs round the innermost block are the same, the ways out are
  pub Chain-moved : (outer : List Program) (exits : List ℕ) (from to : ℕ)
      → rest_of (programs_at items to) ≡ rest_of (programs_at items from)
      → Chain outer exits from → Chain outer exits to
  Chain-moved outer [] from to e chain = e ∙ chain
  Chain-moved outer (x ∷ exits) from to e chain =
      (chain.0, Chain-moved (programs_at items x) exits from to e chain.1)

  pub Chain-length : (outer : List Program) (exits : List ℕ) (place : ℕ) → Chain outer exits place
      → length (programs_at items place) ≡ suc (length exits + length outer)
  Chain-length outer [] place chain =
      let k : length (programs_at items place) ≡ suc (length (rest_of (programs_at items place))) =
      ap length (programs_of-whole (drop place items)) in omega (arith, ap length chain)
  Chain-length outer (x ∷ exits) place chain =
      let k : length (programs_at items x) ≡ suc (length (rest_of (programs_at items x))) =
      ap length (programs_of-whole (drop x items)) in
      omega (arith, ap length chain.0, Chain-length (programs_at items x) exits place chain.1)

  rest-in_front : (one : Program → Program) (ps : List Program) → rest_of (in_front one ps) ≡ rest_of ps
  rest-in_front one [] = refl
  rest-in_front one (p ∷ ps) = refl

  rest-around : (block : Program → Program → Program) (ps : List Program)
      → rest_of (around block ps) ≡ rest_of (rest_of ps)
  rest-around block [] = refl
  rest-around block (body ∷ []) = refl
  rest-around block (body ∷ next ∷ ps) = refl

  at : (place : ℕ) (i : Instruction) → slice_get items place ≡ Some i
      → rest_of (programs_at items place) ≡ rest_of (programs_of (i ∷ drop (suc place) items))
  at place i here = ap (λ (xs : List Instruction). rest_of (programs_of xs)) (drop-get items place i here)

  -- past an instruction that neither opens nor ends a block
  pub plain-rest : (place : ℕ) (i : Instruction) → slice_get items place ≡ Some i → (Opens i → ⊥)
      → (i ≡ instruction.End → ⊥)
      → rest_of (programs_at items place) ≡ rest_of (programs_at items (suc place))
  plain-rest place (instruction.Call object code with) here opens ends =
      at place _ here ∙ rest-in_front (Call object code with) (programs_at items (suc place))
  plain-rest place (instruction.Set register value) here opens ends =
      at place _ here ∙ rest-in_front (Set register value) (programs_at items (suc place))
  plain-rest place (instruction.Inc register value) here opens ends =
      at place _ here ∙ rest-in_front (Inc register value) (programs_at items (suc place))
  plain-rest place (instruction.Repeat turns) here opens ends = absurd (opens tt)
  plain-rest place (instruction.While register how value) here opens ends = absurd (opens tt)
  plain-rest place (instruction.If register how value) here opens ends = absurd (opens tt)
  plain-rest place instruction.End here opens ends = absurd (ends refl)

  pub end-rest : (place : ℕ) → slice_get items place ≡ Some instruction.End
      → rest_of (programs_at items place) ≡ programs_at items (suc place)
  end-rest place here = at place _ here

  pub opens-rest : (place : ℕ) (i : Instruction) → slice_get items place ≡ Some i → Opens i
      → rest_of (programs_at items place) ≡ rest_of (rest_of (programs_at items (suc place)))
  opens-rest place (instruction.Repeat turns) here opens =
      at place _ here ∙ rest-around (Repeat turns) (programs_at items (suc place))
  opens-rest place (instruction.While register how value) here opens =
      at place _ here ∙ rest-around (While register how value) (programs_at items (suc place))
  opens-rest place (instruction.If register how value) here opens =
      at place _ here ∙ rest-around (If register how value) (programs_at items (suc place))
  opens-rest place (instruction.Call object code with) here opens = absurd opens
  opens-rest place (instruction.Set register value) here opens = absurd opens
  opens-rest place (instruction.Inc register value) here opens = absurd opens
  opens-rest place instruction.End here opens = absurd opens

  -- the way out of each block that opens from a place on
  abbrev pub Later : List ℕ → ℕ → Type 0
  Later exits place =
      (at : ℕ) (i : Instruction) → place ≤ at → slice_get items at ≡ Some i → Opens i
      → IsExit items at (get_or exits at 0)

  -- what is known at a place: the ways out of the blocks that are open there, and of those that open later
  pub record Known (outs exits : List ℕ) (place : ℕ) : Type 0 where
    pub chain : Chain [] outs place
    pub later : Later exits place
    pub places : length exits ≡ length items

  pub known-start : (exits : List ℕ) → length exits ≡ length items → Known [] exits (length items)
  known-start exits places =
      record {
        chain = ap (λ (xs : List Instruction). rest_of (programs_of xs)) (drop-length items);
        later =
            λ at i past here opens. absurd
            (let k : at < length items = slice_get_within items at i here in omega arith);
        places = places;
      }

  -- from one place back: the place itself, and the later ones
  later-back : (exits : List ℕ) (place : ℕ)
      → ((i : Instruction) → slice_get items place ≡ Some i → Opens i
      → IsExit items place (get_or exits place 0))
      → Later exits (suc place) → Later exits place
  later-back exits place here later at i past there opens =
      ⊎_elim
      (λ (e : place ≡ at). subst (λ (n : ℕ). slice_get items n ≡ Some i → IsExit items n (get_or exits n 0)) e
      (λ h. here i h opens) there)
      (λ (past' : place < at). later at i past' there opens) (eq-or-lt_of_le past)

  one-instruction : (place : ℕ) (i j : Instruction) → slice_get items place ≡ Some i
      → slice_get items place ≡ Some j → j ≡ i
  one-instruction place i j here there = let e : Some j ≡ Some i = sym there ∙ here in cc

  later-shut : (exits : List ℕ) (place : ℕ) (i : Instruction) → slice_get items place ≡ Some i → (Opens i → ⊥)
      → Later exits (suc place) → Later exits place
  later-shut exits place i here shut later =
      later-back exits place
      (λ j there opens. absurd (shut (subst Opens (one-instruction place i j here there) opens))) later

  -- a place that is not the first, as one after another
  pub known-suc : (outs exits : List ℕ) (place : ℕ) → 0 < place → Known outs exits place
      → Known outs exits (suc (place - 1))
  known-suc outs exits place some known =
      let e : place ≡ suc (place - 1) = omega arith in subst (λ (n : ℕ). Known outs exits n) e known

  module _ (exits : List ℕ) (place : ℕ) where
    pub known-plain : (outs : List ℕ) (i : Instruction) → slice_get items place ≡ Some i → (Opens i → ⊥)
        → (i ≡ instruction.End → ⊥)
        → Known outs exits (suc place) → Known outs exits place
    known-plain outs i here shut ends known =
        record {
          chain = Chain-moved [] outs (suc place) place (plain-rest place i here shut ends) known.chain;
          later = later-shut exits place i here shut known.later;
          places = known.places;
        }

    pub known-end : (outs : List ℕ) → slice_get items place ≡ Some instruction.End
        → Known outs exits (suc place) → Known (outs ++ suc place ∷ []) exits place
    known-end outs here known =
        record {
          chain = Chain-snoc [] outs (suc place) place known.chain (end-rest place here);
          later = later-shut exits place instruction.End here (λ opens. opens) known.later;
          places = known.places;
        }

    -- there is room for one more way out at an end
    pub known-room : (outs : List ℕ) → IsNested items → slice_get items place ≡ Some instruction.End
        → Known outs exits (suc place) → length outs < 16
    known-room outs nested here known =
        let k = Chain-length [] (outs ++ suc place ∷ []) place (known-end outs here known).chain in
        omega (arith, depth_room items nested place, length-append outs (suc place ∷ []))

    pub known-opens : (outs : List ℕ) (exit : ℕ) (i : Instruction) → slice_get items place ≡ Some i → Opens i
        → Known (outs ++ exit ∷ []) exits (suc place) → Known outs (set exits place exit) place
    known-opens outs exit i here opens known =
        let it = Chain-unsnoc [] outs exit (suc place) known.chain in
        let within : place < length exits =
        (let k : place < length items = slice_get_within items place i here in omega (arith, known.places)) in
        record {
          chain = Chain-moved [] outs exit place (opens-rest place i here opens ∙ ap rest_of it.1) it.0;
          later = later-back (set exits place exit) place
              (λ j there opened. rw get_or-set_same (sym it.1))
              (λ at j past there opened. let other : at ≢ place = (λ e. omega arith) in
              rw get_or-set_other (known.later at j past there opened));
          places = length-set exits place exit ∙ known.places;
        }

    -- a block that opens has a way out
    pub known-none : (i : Instruction) → IsNested items → slice_get items place ≡ Some i → Opens i
        → Known [] exits (suc place) → ⊥
    known-none i nested here opens known =
        let k = Chain-length [] [] (suc place) known.chain in
        omega (arith, opens-deep items nested place i here opens)

-- a `while` or an `if`
abbrev pub IsTest : (ℕ → Comparison → ℤ → Instruction) → Instruction → Type 0
IsTest one i = (register : ℕ) × (how : Comparison) × (value : ℤ) × (i ≡ one register how value)

-- one of the instructions that open a block
pub opens-one : (i : Instruction)
    → ((turns : ℕ) × (i ≡ instruction.Repeat turns)) ⊎ (IsTest instruction.While i ⊎ IsTest instruction.If i)
    → Opens i
opens-one i one =
    ⊎_elim (λ (e : (turns : ℕ) × (i ≡ instruction.Repeat turns)). rw e.1 tt)
    (λ tests. ⊎_elim (λ (e : IsTest instruction.While i). rw e.3 tt) (λ (e : IsTest instruction.If i). rw e.3 tt) tests) one

-- it is no `while` or no `if`
abbrev pub NoTest : (ℕ → Comparison → ℤ → Instruction) → Instruction → Type 0
NoTest one i = (register : ℕ) (how : Comparison) (value : ℤ) → i ≡ one register how value → ⊥

-- none of them
pub opens-none : (i : Instruction) → ((turns : ℕ) → i ≡ instruction.Repeat turns → ⊥)
    → NoTest instruction.While i → NoTest instruction.If i → Opens i → ⊥
opens-none (instruction.Repeat turns) repeats whiles ifs opens = repeats turns refl
opens-none (instruction.While register how value) repeats whiles ifs opens = whiles register how value refl
opens-none (instruction.If register how value) repeats whiles ifs opens = ifs register how value refl
opens-none (instruction.Call object code with) repeats whiles ifs opens = opens
opens-none (instruction.Set register value) repeats whiles ifs opens = opens
opens-none (instruction.Inc register value) repeats whiles ifs opens = opens
opens-none instruction.End repeats whiles ifs opens = opens
