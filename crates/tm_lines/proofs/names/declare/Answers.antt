use Rattle.std.proofs.Common.{◌≡◌, ℕ, ◌+◌, true, false, cond, ◌&&◌, ◌∷◌, List, Some, None, is_some, sym, ap, ◌∙◌}
use Rattle.std.specs.HashMap as hash
use Rattle.std.specs.Option.{option_or}
use Rattle.std.specs.Str.{bytes_eq}
use Rattle.std.proofs.lemmas.Map.Text.{hash_map_updates_str}
use Rattle.std.proofs.lemmas.Slice.Eq.{bytes_eq-Decides}
use Rattle.tm_lines.specs.declared.names.Known.{Known}
use Rattle.tm_lines.specs.KnownNames.{is_new, known_by}
use Rattle.tm_lines.specs.NamedLines.{kind_by}
use Rattle.tm_lines.specs.TextFaults.{said_words}
use Rattle.tm_lines.proofs.NamesLemmas.{added, kept, is_none_if, known_by-declared}
use Rattle.tm_lines.proofs.names.declare.Goals as goal

pub returns-then-not-is_new_name : goal.returns-then-not-is_new_name
returns-then-not-is_new_name c = λ lines name.
    let words = c.of_line-words.result in
    let o = c.args.number in
    let later = known_by (o + 1) (said_words lines) name in
    let known : Known = record { kind = kind_by 0 c.args.declarator words.third.now words.fourth.now; number = o } in
    let no : is_new words.second.now ≡ false = sym c.is_new_name.ensures ∙ c.if-not-is_new_name.true in
    let front : known_by o (said_words (c.args.line.now ∷ lines)) name ≡ later =
    known_by-declared c.args.line.now lines name words c.args.declarator o c.requires c.of_line-words.ensures ∙ ap (λ t. cond (t && bytes_eq words.second.now name) (Some known) later) no in
    ap (option_or (hash.get_by (λ k. bytes_eq name k.now) c.args.known.now)) (sym front)

pub returns-then-contains_key : goal.returns-then-contains_key
returns-then-contains_key c = λ lines name.
    let words = c.of_line-words.result in
    let o = c.args.number in
    let old = c.args.known.now in
    let declared : List ℕ = words.second.now in
    let later = known_by (o + 1) (said_words lines) name in
    let known : Known = record { kind = kind_by 0 c.args.declarator words.third.now words.fourth.now; number = o } in
    let yes : is_new declared ≡ true = sym c.is_new_name.ensures ∙ c.if-not-is_new_name.false in
    let front : known_by o (said_words (c.args.line.now ∷ lines)) name ≡ cond (bytes_eq declared name) (Some known) later =
    known_by-declared c.args.line.now lines name words c.args.declarator o c.requires c.of_line-words.ensures ∙ ap (λ t. cond (t && bytes_eq declared name) (Some known) later) yes in
    let there : is_some (hash.get_by (λ k. bytes_eq declared k.now) old) ≡ true = sym c.if-contains_key.ensures in
    let some : bytes_eq declared name ≡ true → is_some (hash.get_by (λ k. bytes_eq name k.now) old) ≡ true =
    λ e. ap (λ n. is_some (hash.get_by (λ k. bytes_eq n k.now) old)) (sym ((bytes_eq-Decides declared name).0 e)) ∙ there in
    kept (bytes_eq declared name) (hash.get_by (λ k. bytes_eq name k.now) old) known later some ∙ ap (option_or (hash.get_by (λ k. bytes_eq name k.now) old)) (sym front)

pub returns : goal.returns
returns c = λ lines name.
    let words = c.of_line-words.result in
    let o = c.args.number in
    let old = c.args.known.now in
    let declared : List ℕ = words.second.now in
    let later = known_by (o + 1) (said_words lines) name in
    let said : Known = record { kind = c.declared_kind-kind.result; number = o } in
    let known : Known = record { kind = kind_by 0 c.args.declarator words.third.now words.fourth.now; number = o } in
    let same : Some said ≡ Some known = ap (λ k. Some (record { kind = k; number = o })) c.declared_kind-kind.ensures in
    let yes : is_new declared ≡ true = sym c.is_new_name.ensures ∙ c.if-not-is_new_name.false in
    let front : known_by o (said_words (c.args.line.now ∷ lines)) name ≡ cond (bytes_eq declared name) (Some known) later =
    known_by-declared c.args.line.now lines name words c.args.declarator o c.requires c.of_line-words.ensures ∙ ap (λ t. cond (t && bytes_eq declared name) (Some known) later) yes in
    let found = hash_map_updates_str declared old c.insert.new.self (Some said) c.in_ok-insert.ensures.updates name in
    let absent : hash.get_by (λ k. bytes_eq declared k.now) old ≡ None = is_none_if _ (sym c.if-contains_key.ensures) in
    let none : bytes_eq declared name ≡ true → hash.get_by (λ k. bytes_eq name k.now) old ≡ None =
    λ e. ap (λ n. hash.get_by (λ k. bytes_eq n k.now) old) (sym ((bytes_eq-Decides declared name).0 e)) ∙ absent in
    ap (λ r. option_or r later) (found ∙ ap (λ s. cond (bytes_eq declared name) s (hash.get_by (λ k. bytes_eq name k.now) old)) same)
    ∙ added (bytes_eq declared name) (hash.get_by (λ k. bytes_eq name k.now) old) known later none
    ∙ ap (option_or (hash.get_by (λ k. bytes_eq name k.now) old)) (sym front)
