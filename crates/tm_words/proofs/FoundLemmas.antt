-- What `clap` finds in the words of a command line that is known.
use Rattle.std.proofs.Common.{◌≡◌, true, List, [], ◌∷◌, map, Option, Some, None, option_map, Bor, inl, inr, ap, sym, subst, ◌∙◌}
use Rattle.std.specs.Option.{UnwrapsOrElse}
use Rattle.clap.specs.Faults.{is_simple_and_free}
use Rattle.clap.specs.Kinds.{HasKind, Kinds}
use Rattle.clap.specs.Simple.{App}
use Rattle.clap.specs.Values.{kind_of}
use Rattle.clap.specs.Walk.{Text, texts}
use Rattle.clap.specs.declared.error.Error.{Error}
use Rattle.clap.specs.declared.error.kind.ErrorKind.TheVariants.{OutOfMemory}
use Rattle.clap.specs.declared.parser.matches.ArgMatches.{ArgMatches}
use Rattle.tm_words.specs.CommandLines.{IsFoundIn}

-- an error that isn't for want of memory has a fault of the words
pub has_fault : (kinds : Kinds) (e : Error) → HasKind kinds e → ¬ (kind_of e ≡ OutOfMemory) → ¬ (kinds ≡ [])
has_fault [] e (inl memory) other none = other memory
has_fault [] e (inr among) other none = among
has_fault (k ∷ ks) e has other none = cc

pub found_as : (app known : App) (words : List Text) (found : Option ArgMatches) → app ≡ known → is_simple_and_free known ≡ true
    → (is_simple_and_free app ≡ true → IsFoundIn app words found) → IsFoundIn known words found
found_as app known words found same simple is =
    subst (λ (a : App). IsFoundIn a words found) same (is (subst (λ (a : App). is_simple_and_free a ≡ true) (sym same) simple))

-- a value, and several, where they are there
pub text_is : (o : Option (Bor Text)) (w : Text) (t : Bor Text) → option_map (λ s. s.now) o ≡ Some w → UnwrapsOrElse o (λ d. d.now ≡ []) t → t.now ≡ w
text_is None w t some is = absurd (let h : None ≡ Some w = some in cc)
text_is (Some s) w t some is = let same : s.now ≡ w = let h : Some s.now ≡ Some w = some in cc in ap (λ (b : Bor Text). b.now) is ∙ same

pub texts_are : (o : Option (Bor (List (Bor Text)))) (ws : List Text) (t : Bor (List (Bor Text))) → option_map (λ s. map (λ v. v.now) s.now) o ≡ Some ws → UnwrapsOrElse o (λ d. d.now ≡ []) t → texts t.now ≡ ws
texts_are None ws t some is = absurd (let h : None ≡ Some ws = some in cc)
texts_are (Some s) ws t some is =
    let same : texts s.now ≡ ws = let h : Some (texts s.now) ≡ Some ws = some in cc in
    ap (λ (b : Bor (List (Bor Text))). texts b.now) is ∙ same
