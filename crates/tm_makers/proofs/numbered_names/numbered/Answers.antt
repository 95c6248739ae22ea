use Rattle.std.proofs.Common.{◌≡◌, ◌++◌, ap, ◌∙◌, subst, sym, ℕ, List}
use Rattle.std.specs.Fmt.{decimal}
use Rattle.tm_base.specs.Names.{IsName}
use Rattle.tm_makers.specs.LineForms.{numbered}
use Rattle.tm_makers.proofs.NumberedNames.{named}
use Rattle.tm_makers.proofs.numbered_names.numbered.Goals as goal

joined : (word digits copied before after result : List ℕ) (n : ℕ) → result ≡ after → after ≡ before ++ copied → before ≡ word → copied ≡ digits → digits ≡ decimal n
    → result ≡ numbered word n
joined word digits copied before after result n e1 e2 e3 e4 e5 = e1 ∙ e2 ∙ ap (λ (xs : List ℕ). xs ++ copied) e3 ∙ ap (λ (ds : List ℕ). word ++ ds) (e4 ∙ e5)

pub plain-requires : goal.plain-requires
plain-requires c =
    let is = joined c.args.word.now _ _ _ _ _ c.args.number c.as_slice.ensures.value c.in_ok-extend_from_slice.ensures.items c.in_ok-bytes.ensures.items c.as_bytes.ensures.value c.in_ok-digits.ensures.ok in
    subst IsName (sym is) (named c.args.word.now c.args.number c.requires.word c.requires.number)
