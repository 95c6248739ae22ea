use Rattle.std.proofs.Common.{rules, ℕ, max, ◌≡◌, ◌∙◌, ap, ap₂, codes, IsSomeAnd, Option, Some, None, true}
use Rattle.std.proofs.lemmas.Result.{IfOk-weaker}
use Rattle.clap.specs.Simple.{with_rule}
use Rattle.clap.specs.Walk.{Rule, rule_of}
use Rattle.clap.specs.declared.builder.arg.Arg.{Arg}
use Rattle.clap.specs.declared.builder.range.ValueRange.{ValueRange}
use Rattle.tm_words.specs.CommandLines.{required_rule, several_rule}
use Rattle.tm_words.proofs.make_words.make_command.Goals as goal

some_is : {X : Type 0} (o : Option X) (x : X) → IsSomeAnd o (λ y. y ≡ x) → o ≡ Some x
some_is None x is = absurd is
some_is (Some y) x is = ap (λ z. Some z) is

pub returns : goal.returns
returns c =
    let kind_is : rule_of c.required-kind.result ≡ required_rule (codes "kind") = search rules in
    let low : c.new-3.result.start ≡ 2 = search rules in
    let high : c.new-3.result.end ≡ 5 = search rules in
    let range : ℕ → ℕ → Option ValueRange = λ start end. Some (record { start_inclusive = start; end_inclusive = max end start }) in
    let range_is : c.num_args.result.num_vals ≡ Some (record { start_inclusive = 2; end_inclusive = 5 }) =
    some_is c.num_args.result.num_vals _ c.num_args.ensures.1 ∙ ap₂ range low high in
    let sizes_is : rule_of c.required-sizes.result ≡ several_rule (codes "sizes") =
    ap rule_of c.required-sizes.ensures ∙ ap (λ (a : Arg). rule_of (record a { required = true })) c.num_args.ensures.0
    ∙ ap₂ (λ (r : Rule) (o : Option ValueRange). record r { range = o; required = true }) c.new-2.ensures.rule range_is in
    IfOk-weaker c.arg-2.result _ _ (λ command added. added.shape (search rules) ∙ ap₂ with_rule (c.in_ok-arg.ensures.shape (search rules) ∙ ap₂ with_rule c.bare_command.ensures kind_is) sizes_is) c.arg-2.ensures
