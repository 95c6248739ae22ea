-- A value that fits a slot has a word that says it there, and that breaks nothing.
use Rattle.std.proofs.Common.{◌≡◌, ℕ, ◌<◌, ℤ, pos, ◌-ℤ◌, false, cond, not, ◌||◌, List, [], ◌∷◌, codes, map, bytes_eq, Option, is_none, unwrap_or, refl, ap, ◌∙◌, arith}
use Rattle.std.specs.List.{list_any}
use Rattle.std.proofs.lemmas.Bool.{and_left, and_right, or_from}
use Rattle.tm_base.specs.declared.kinds.Kind.{Kind}
use Rattle.tm_base.specs.Names.{IsName, is_name}
use Rattle.tm_lines.specs.declared.faults.Fault.{Fault}
use Rattle.tm_lines.specs.declared.faults.Fault.TheVariants as fault
use Rattle.tm_lines.specs.declared.first_words.FirstWord.{FirstWord}
use Rattle.tm_lines.specs.declared.first_words.Slot.{Slot}
use Rattle.tm_lines.specs.declared.first_words.Slot.TheVariants as slot
use Rattle.tm_programs.specs.declared.instructions.Comparison.TheVariants as comparison
use Rattle.tm_lines.specs.LineFaults.{Place, breaks, conditions_of, is_of_another_kind, one_breaks}
use Rattle.tm_lines.specs.Numerals.{begins_with_r, number_of, register_of}
use Rattle.tm_lines.specs.declared.limits.TheConstants.{GREATEST_NUMBER, LEAST_NUMBER}
use Rattle.tm_text.specs.declared.values.Value.{Value}
use Rattle.tm_text.specs.declared.values.Value.TheVariants as value
use Rattle.tm_text.specs.CanonicalTexts.{value_word}
use Rattle.tm_text.specs.SaidLines.{integer_said, value_said, values_said}
use Rattle.tm_text.specs.Texts.{register_said}
use Rattle.tm_text.proofs.JoinedWords.{AllSolid, Solid}
use Rattle.tm_text.proofs.SaidObjects.{IsNew}
use Rattle.tm_text.proofs.SaidValues.{IsIn}
use Rattle.tm_text.proofs.WrittenValues.{IsLong, comparison_back, comparison_solid, in_range, name_solid, number_back, number_solid, register_back, register_solid}

-- the name is one of the text, and the line's first word calls no operation of another kind
pub record IsCalled (f : FirstWord) (found : Option Kind) (name : List ℕ) : Type 0 where
  pub is_name : IsName name
  pub known : is_none found ≡ false
  pub fits : is_of_another_kind f found ≡ false

module _ (p : Place) (f : FirstWord) (found : Option Kind) where
  -- the value is one that may stand in the slot
  abbrev pub Fits : Slot → Value → Type 0
  Fits slot.NewName (value.Name name) = IsNew p.earlier name
  Fits slot.KnownName (value.Name name) = IsCalled f found name
  Fits (slot.Number least most) (value.Number k) = IsLong k × IsIn least most k
  Fits slot.Condition (value.Number k) = IsLong k × IsIn (pos 0) (conditions_of found -ℤ pos 1) k
  Fits slot.Register (value.Register r) = r < 8
  Fits slot.Value (value.Register r) = r < 8
  Fits slot.Value (value.Number k) = IsLong k
  Fits slot.Comparison (value.Comparison how) = Unit {0}
  Fits slot.Discipline value.Hoare = Unit {0}
  Fits slot.Discipline value.Mesa = Unit {0}
  Fits slot.Held value.Held = Unit {0}
  Fits s v = ⊥

  abbrev pub AllFit : List Slot → List Value → Type 0
  AllFit ss [] = Unit {0}
  AllFit [] (v ∷ vs) = ⊥
  AllFit (s ∷ ss) (v ∷ vs) = Fits s v × AllFit ss vs

  solid : (s : Slot) (v : Value) → Fits s v → Solid (value_word v)
  solid slot.NewName (value.Name name) h = name_solid name h.is_name
  solid slot.KnownName (value.Name name) h = name_solid name h.is_name
  solid (slot.Number least most) (value.Number k) h = number_solid k h.0
  solid slot.Condition (value.Number k) h = number_solid k h.0
  solid slot.Register (value.Register r) h = register_solid r h
  solid slot.Value (value.Register r) h = register_solid r h
  solid slot.Value (value.Number k) h = number_solid k h
  solid slot.Comparison (value.Comparison how) h = comparison_solid how
  solid slot.Discipline value.Hoare h = record { some = omega arith; graph = refl }
  solid slot.Discipline value.Mesa h = record { some = omega arith; graph = refl }
  solid slot.Held value.Held h = record { some = omega arith; graph = refl }
  solid s v h = absurd h

  number_said-back : (k : ℤ) → IsLong k → value.Number (integer_said (value_word (value.Number k))) ≡ value.Number k
  number_said-back k h = ap (λ r. value.Number (unwrap_or r (pos 0))) (number_back k h).0

  register_said-back : (r : ℕ) → r < 8 → value.Register (register_said (value_word (value.Register r))) ≡ value.Register r
  register_said-back r h = ap (λ o. value.Register (unwrap_or o 0)) (register_back r h)

  -- the word says the value
  said_back : (s : Slot) (v : Value) → Fits s v → value_said s (value_word v) ≡ v
  said_back slot.NewName (value.Name name) h = refl
  said_back slot.KnownName (value.Name name) h = refl
  said_back (slot.Number least most) (value.Number k) h = number_said-back k h.0
  said_back slot.Condition (value.Number k) h = number_said-back k h.0
  said_back slot.Register (value.Register r) h = register_said-back r h
  said_back slot.Value (value.Register r) h = register_said-back r h
  said_back slot.Value (value.Number k) h =
      ap (λ b. cond b (value.Register (register_said (value_word (value.Number k)))) (value.Number (integer_said (value_word (value.Number k))))) (number_back k h).1 ∙ number_said-back k h
  said_back slot.Comparison (value.Comparison how) h = ap (λ o. value.Comparison (unwrap_or o comparison.Equal)) (comparison_back how)
  said_back slot.Discipline value.Hoare h = refl
  said_back slot.Discipline value.Mesa h = refl
  said_back slot.Held value.Held h = refl
  said_back s v h = absurd h

  -- and breaks nothing
  unbroken : (about : Fault) (s : Slot) (v : Value) → Fits s v → breaks p f found about s (value_word v) ≡ false
  unbroken fault.Name slot.NewName (value.Name name) h =
      or_from (not (is_name name) || bytes_eq name (codes "main")) (list_any (λ earlier. bytes_eq earlier name) p.earlier)
      (or_from (not (is_name name)) (bytes_eq name (codes "main")) (ap not h.is_name) h.not_main) h.not_earlier
  unbroken fault.Name slot.NewName v h = absurd h
  unbroken fault.Unknown slot.KnownName (value.Name name) h = h.known
  unbroken fault.Unknown slot.KnownName v h = absurd h
  unbroken fault.Kind slot.KnownName (value.Name name) h = h.fits
  unbroken fault.Kind slot.KnownName v h = absurd h
  unbroken fault.Number (slot.Number least most) (value.Number k) h = ap is_none (in_range least most k h.0 h.1)
  unbroken fault.Number (slot.Number least most) v h = absurd h
  unbroken fault.Number slot.Condition (value.Number k) h = ap is_none (in_range (pos 0) (conditions_of found -ℤ pos 1) k h.0 h.1)
  unbroken fault.Number slot.Condition v h = absurd h
  unbroken fault.Number slot.Value (value.Number k) h =
      and_right (not (begins_with_r (value_word (value.Number k)))) (is_none (number_of LEAST_NUMBER GREATEST_NUMBER (value_word (value.Number k)))) (ap is_none (in_range LEAST_NUMBER GREATEST_NUMBER k h h))
  unbroken fault.Number slot.Value (value.Register r) h = refl
  unbroken fault.Number slot.Value v h = absurd h
  unbroken fault.Register slot.Value (value.Number k) h =
      and_left (begins_with_r (value_word (value.Number k))) (is_none (register_of (value_word (value.Number k)))) (number_back k h).1
  unbroken fault.Register slot.Value (value.Register r) h = ap is_none (register_back r h)
  unbroken fault.Register slot.Value v h = absurd h
  unbroken fault.Register slot.Register (value.Register r) h = ap is_none (register_back r h)
  unbroken fault.Register slot.Register v h = absurd h
  unbroken fault.Word slot.Comparison (value.Comparison how) h = ap is_none (comparison_back how)
  unbroken fault.Word slot.Comparison v h = absurd h
  unbroken fault.Word slot.Discipline value.Hoare h = refl
  unbroken fault.Word slot.Discipline value.Mesa h = refl
  unbroken fault.Word slot.Discipline v h = absurd h
  unbroken fault.Word slot.Held value.Held h = refl
  unbroken fault.Word slot.Held v h = absurd h
  unbroken about s v h = refl

  pub all_solid : (ss : List Slot) (vs : List Value) → AllFit ss vs → AllSolid (map value_word vs)
  all_solid ss [] h = tt
  all_solid [] (v ∷ vs) h = absurd h
  all_solid (s ∷ ss) (v ∷ vs) h = (solid s v h.0, all_solid ss vs h.1)

  pub all_said : (ss : List Slot) (vs : List Value) → AllFit ss vs → values_said ss (map value_word vs) ≡ vs
  all_said [] [] h = refl
  all_said (s ∷ ss) [] h = refl
  all_said [] (v ∷ vs) h = absurd h
  all_said (s ∷ ss) (v ∷ vs) h =
      ap (λ w. w ∷ values_said ss (map value_word vs)) (said_back s v h.0) ∙ ap (λ ws. v ∷ ws) (all_said ss vs h.1)

  pub all_unbroken : (about : Fault) (ss : List Slot) (vs : List Value) → AllFit ss vs → one_breaks p f found about ss (map value_word vs) ≡ false
  all_unbroken about [] [] h = refl
  all_unbroken about (s ∷ ss) [] h = refl
  all_unbroken about [] (v ∷ vs) h = absurd h
  all_unbroken about (s ∷ ss) (v ∷ vs) h = or_from (breaks p f found about s (value_word v)) (one_breaks p f found about ss (map value_word vs)) (unbroken about s v h.0) (all_unbroken about ss vs h.1)
