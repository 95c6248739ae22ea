-- One program after another: what is left of both, by what is left of the first.
use Rattle.std.proofs.Common.{◌≡◌, ℕ, zero, suc, ℤ, Bool, true, false, if◌then◌else◌, List, ap, refl, sym, ◌∙◌}
use Rattle.tm_programs.specs.declared.instructions.Comparison.{Comparison}
use Rattle.tm_programs.specs.Programs.{Program, Over, Call, Set, Inc, Repeat, While, If, Remainder, left, followed, joined, and_then, holds, register_of, until_call}
use Rattle.tm_programs.specs.BlockLaws.{HasCall, IsSettled, RepeatsUnfold, WhilesUnfold, IfsUnfold, RestsAreSettled}

pub followed-assoc : (p q r : Program) → followed (followed p q) r ≡ followed p (followed q r)
followed-assoc Over q r = refl
followed-assoc (Call object code with next) q r = ap (Call object code with) (followed-assoc next q r)
followed-assoc (Set register value next) q r = ap (Set register value) (followed-assoc next q r)
followed-assoc (Inc register value next) q r = ap (Inc register value) (followed-assoc next q r)
followed-assoc (Repeat turns body next) q r = ap (Repeat turns body) (followed-assoc next q r)
followed-assoc (While register how value body next) q r =
    ap (While register how value body) (followed-assoc next q r)
followed-assoc (If register how value body next) q r =
    ap (If register how value body) (followed-assoc next q r)

joined-assoc : (body : Program) (rs : List ℤ) (q s : Program) (f g : List ℤ → Remainder)
    → and_then (joined body rs q f) s g ≡ joined body rs (followed q s) (λ now. and_then (f now) s g)
joined-assoc Over rs q s f g = refl
joined-assoc (Call object code with next) rs q s f g =
    ap (λ (p : Program). left (Call object code with p) rs) (followed-assoc next q s)
joined-assoc (Set register value next) rs q s f g =
    ap (λ (p : Program). left (Set register value p) rs) (followed-assoc next q s)
joined-assoc (Inc register value next) rs q s f g =
    ap (λ (p : Program). left (Inc register value p) rs) (followed-assoc next q s)
joined-assoc (Repeat turns body next) rs q s f g =
    ap (λ (p : Program). left (Repeat turns body p) rs) (followed-assoc next q s)
joined-assoc (While register how value body next) rs q s f g =
    ap (λ (p : Program). left (While register how value body p) rs) (followed-assoc next q s)
joined-assoc (If register how value body next) rs q s f g =
    ap (λ (p : Program). left (If register how value body p) rs) (followed-assoc next q s)

-- what is done first in a body goes on with what follows the body
go_on : (r : Remainder) (q s : Program) (f g h : List ℤ → Remainder)
    → ((now : List ℤ) → h now ≡ and_then (f now) s g)
    → and_then r (followed q s) h ≡ and_then (and_then r q f) s g
go_on r q s f g h same =
    (λ i. joined r.program r.registers (followed q s) (λ now. same now i))
    ∙ sym (joined-assoc r.program r.registers q s f g)

chosen : (b : Bool) (u v x y : Remainder) (s : Program) (g : List ℤ → Remainder) → u ≡ and_then x s g
    → v ≡ and_then y s g
    → (if b then u else v) ≡ and_then (if b then x else y) s g
chosen true u v x y s g e f = e
chosen false u v x y s g e f = f

-- what is left of two programs is that of the first and then of the second
pub until_call-followed : (p q : Program) (rs : List ℤ)
    → until_call (followed p q) rs ≡ and_then (until_call p rs) q (λ now. until_call q now)
until_call-followed Over q rs = refl
until_call-followed (Call object code with next) q rs = refl
until_call-followed (Set register value next) q rs = until_call-followed next q _
until_call-followed (Inc register value next) q rs = until_call-followed next q _
until_call-followed (Repeat zero body next) q rs = until_call-followed next q rs
until_call-followed (Repeat (suc turns) body next) q rs =
    go_on (until_call body rs) (Repeat turns body next) q _ _ _ (until_call-followed next q)
until_call-followed (While register how value body next) q rs =
    chosen (holds how (register_of rs register) value) _ _ _ _ q _
    (go_on (until_call body rs) (While register how value body next) q _ _ _ (until_call-followed next q))
    (until_call-followed next q rs)
until_call-followed (If register how value body next) q rs =
    chosen (holds how (register_of rs register) value) _ _ _ _ q _
    (go_on (until_call body rs) next q _ _ _ (until_call-followed next q)) (until_call-followed next q rs)

-- something is left
abbrev pub IsStarted : Program → Type 0
IsStarted Over = ⊥
IsStarted other = Unit {0}

started-joined : (body : Program) (rs : List ℤ) (q : Program) (f : List ℤ → Remainder)
    → ((now : List ℤ) → IsStarted (f now).program) → IsStarted (joined body rs q f).program
started-joined Over rs q f goes = goes rs
started-joined (Call object code with next) rs q f goes = tt
started-joined (Set register value next) rs q f goes = tt
started-joined (Inc register value next) rs q f goes = tt
started-joined (Repeat turns body next) rs q f goes = tt
started-joined (While register how value body next) rs q f goes = tt
started-joined (If register how value body next) rs q f goes = tt

either : (Good : Remainder → Type 0) (b : Bool) (x y : Remainder) → Good x → Good y
    → Good (if b then x else y)
either Good true x y good other = good
either Good false x y good other = other

-- a program with a call in it does not end without one
pub HasCall-started : (p : Program) (rs : List ℤ) → HasCall p → IsStarted (until_call p rs).program
HasCall-started Over rs has = absurd has
HasCall-started (Call object code with next) rs has = tt
HasCall-started (Set register value next) rs has = HasCall-started next _ has
HasCall-started (Inc register value next) rs has = HasCall-started next _ has
HasCall-started (Repeat zero body next) rs has = HasCall-started next rs has
HasCall-started (Repeat (suc turns) body next) rs has =
    started-joined (until_call body rs).program _ _ _ (λ now. HasCall-started next now has)
HasCall-started (While register how value body next) rs has =
    either (λ r. IsStarted r.program) (holds how (register_of rs register) value) _ _
    (started-joined (until_call body rs).program _ _ _ (λ now. HasCall-started next now has))
    (HasCall-started next rs has)
HasCall-started (If register how value body next) rs has =
    either (λ r. IsStarted r.program) (holds how (register_of rs register) value) _ _
    (started-joined (until_call body rs).program _ _ _ (λ now. HasCall-started next now has))
    (HasCall-started next rs has)

-- where something is left of a body, it matters not how what follows goes on
joined-started : (body : Program) (rs : List ℤ) (q : Program) (f g : List ℤ → Remainder) → IsStarted body
    → joined body rs q f ≡ joined body rs q g
joined-started Over rs q f g started = absurd started
joined-started (Call object code with next) rs q f g started = refl
joined-started (Set register value next) rs q f g started = refl
joined-started (Inc register value next) rs q f g started = refl
joined-started (Repeat turns body next) rs q f g started = refl
joined-started (While register how value body next) rs q f g started = refl
joined-started (If register how value body next) rs q f g started = refl

one_turn : (body q : Program) (rs : List ℤ) (f : List ℤ → Remainder) → HasCall body
    → and_then (until_call body rs) q f ≡ until_call (followed body q) rs
one_turn body q rs f has =
    joined-started (until_call body rs).program (until_call body rs).registers q f _
    (HasCall-started body rs has) ∙ sym (until_call-followed body q rs)

pub repeats_unfold : RepeatsUnfold
repeats_unfold turns body next rs has = one_turn body (Repeat turns body next) rs _ has

pub whiles_unfold : WhilesUnfold
whiles_unfold register how value body next rs has =
    let turn = one_turn body (While register how value body next) rs (λ now. until_call next now) has in
    λ i. if holds how (register_of rs register) value then turn i else until_call next rs

pub ifs_unfold : IfsUnfold
ifs_unfold register how value body next rs =
    let turn = sym (until_call-followed body next rs) in
    λ i. if holds how (register_of rs register) value then turn i else until_call next rs

test-true : (r s : Remainder) (b : Bool) → b ≡ true → r ≡ (if b then r else s)
test-true r s b e = rw e

test-false : (r s : Remainder) (b : Bool) → b ≡ false → s ≡ (if b then r else s)
test-false r s b e = rw e

module _ (register : ℕ) (how : Comparison) (value : ℤ) (body next : Program) (rs : List ℤ) where
  abbrev test : Bool
  test = holds how (register_of rs register) value

  abbrev loop : Program
  loop = While register how value body next

  pub while-true : HasCall body → test ≡ true → until_call (followed body loop) rs ≡ until_call loop rs
  while-true has met =
      test-true (until_call (followed body loop) rs) (until_call next rs) test met
      ∙ sym (whiles_unfold register how value body next rs has)

  pub while-false : HasCall body → test ≡ false → until_call next rs ≡ until_call loop rs
  while-false has missed =
      test-false (until_call (followed body loop) rs) (until_call next rs) test missed
      ∙ sym (whiles_unfold register how value body next rs has)

  pub if-true : test ≡ true
      → until_call (followed body next) rs ≡ until_call (If register how value body next) rs
  if-true met =
      test-true (until_call (followed body next) rs) (until_call next rs) test met
      ∙ sym (ifs_unfold register how value body next rs)

  pub if-false : test ≡ false → until_call next rs ≡ until_call (If register how value body next) rs
  if-false missed =
      test-false (until_call (followed body next) rs) (until_call next rs) test missed
      ∙ sym (ifs_unfold register how value body next rs)

settled-joined : (body : Program) (rs : List ℤ) (q : Program) (f : List ℤ → Remainder) → IsSettled body
    → ((now : List ℤ) → IsSettled (f now).program) → IsSettled (joined body rs q f).program
settled-joined Over rs q f settled goes = goes rs
settled-joined (Call object code with next) rs q f settled goes = tt
settled-joined (Set register value next) rs q f settled goes = absurd settled
settled-joined (Inc register value next) rs q f settled goes = absurd settled
settled-joined (Repeat turns body next) rs q f settled goes = absurd settled
settled-joined (While register how value body next) rs q f settled goes = absurd settled
settled-joined (If register how value body next) rs q f settled goes = absurd settled

pub rests_are_settled : RestsAreSettled
rests_are_settled Over rs = tt
rests_are_settled (Call object code with next) rs = tt
rests_are_settled (Set register value next) rs = rests_are_settled next _
rests_are_settled (Inc register value next) rs = rests_are_settled next _
rests_are_settled (Repeat zero body next) rs = rests_are_settled next rs
rests_are_settled (Repeat (suc turns) body next) rs =
    settled-joined (until_call body rs).program _ _ _ (rests_are_settled body rs) (rests_are_settled next)
rests_are_settled (While register how value body next) rs =
    either (λ r. IsSettled r.program) (holds how (register_of rs register) value) _ _
    (settled-joined (until_call body rs).program _ _ _ (rests_are_settled body rs) (rests_are_settled next))
    (rests_are_settled next rs)
rests_are_settled (If register how value body next) rs =
    either (λ r. IsSettled r.program) (holds how (register_of rs register) value) _ _
    (settled-joined (until_call body rs).program _ _ _ (rests_are_settled body rs) (rests_are_settled next))
    (rests_are_settled next rs)
