-- Words spell one command at most.
use Rattle.std.proofs.Common.{◌≡◌, List, ℕ, ap, sym, subst, ◌∙◌, refl}
use Rattle.tm_words.specs.declared.commands.Command.{Command}
use Rattle.tm_words.specs.declared.commands.Command.TheVariants.{Check, Large, Make, Run}
use Rattle.tm_words.specs.LargeWords.{SpellsNumber}
use Rattle.tm_words.specs.Commands.{SpellsArguments, WordsSpellOneCommand, command_word}
use Rattle.tm_words.specs.Numbers.{IsNumber}
use Rattle.tm_words.proofs.PlanLemmas.{apart, plan-one}
use Rattle.tm_words.proofs.SettingsSpelled.{one_rules}

number-one : (words : List (List ℕ)) (m n : ℕ) → SpellsNumber words m → SpellsNumber words n → m ≡ n
number-one words m n a b =
    let h = sym a.written ∙ b.written in
    let same : a.digits ≡ b.digits = cc in
    let P : List ℕ → Type 0 = λ d. IsNumber d m in
    sym (subst P same a.value).1 ∙ b.value.1

arguments-one : (words : List (List ℕ)) (a b : Command) → command_word a ≡ command_word b → SpellsArguments words a → SpellsArguments words b → a ≡ b
arguments-one words (Run a) (Run b) e p q = ap (λ r. Run r) (one_rules words a b p q)
arguments-one words Check Check e p q = refl
arguments-one words (Make a) (Make b) e p q = ap (λ r. Make r) (plan-one words a b p q)
arguments-one words (Large a) (Large b) e p q = ap (λ r. Large r) (number-one words a b p q)
arguments-one words a b e p q = absurd (apart 0 (command_word a) (command_word b) e refl)

pub one_command : WordsSpellOneCommand
one_command words a b p q =
    let h = sym p.begun ∙ q.begun in
    let word : command_word a ≡ command_word b = cc in
    let rest : p.arguments ≡ q.arguments = cc in
    let P : List (List ℕ) → Type 0 = λ ws. SpellsArguments ws a in
    arguments-one q.arguments a b word (subst P rest p.spelled) q.spelled
