-- Lines that are read by their words.
use Rattle.std.proofs.Common.{◌≡◌, ℕ, ◌+◌, true, false, List, ◌∷◌, Option, Some, option_map, sym, ap, ◌∙◌, subst}
use Rattle.std.proofs.lemmas.Bool.{cond-true}
use Rattle.std.specs.List.{list_all}
use Rattle.tm_lines.specs.declared.faults.Fault.{Fault}
use Rattle.tm_lines.specs.declared.first_words.FirstWord.{FirstWord}
use Rattle.tm_lines.specs.declared.names.Known.{Known}
use Rattle.tm_lines.specs.declared.plain_lines.CutLine.{CutLine}
use Rattle.tm_lines.specs.declared.saying.Line.{Line}
use Rattle.tm_lines.specs.declared.words.Words.{Words}
use Rattle.tm_lines.specs.Checks.{Check, Follows, IsLine}
use Rattle.tm_lines.specs.FirstWords.{first_word_of}
use Rattle.tm_lines.specs.KnownNames.{known_in}
use Rattle.tm_lines.specs.LineFaults.{Place, fault_of_line, fault_of_words, place_after, place_by, place_by_first}
use Rattle.tm_lines.specs.Lines.{is_ignored, is_printed, words_of}
use Rattle.tm_lines.specs.NamedLines.{word_at}
use Rattle.tm_lines.specs.PlainLines.{IsCutOff}
use Rattle.tm_lines.specs.Saying.{AreFirst, IsReadBy}
use Rattle.tm_lines.specs.TextFaults.{named_in, said_words, text_lines}
use Rattle.tm_lines.proofs.ChecksLemmas.{follows}
use Rattle.tm_lines.proofs.NamesLemmas.{kind_known}

-- what is wrong with the line is what is wrong with its words
pub fault_of_line-read : (lines : List (List ℕ)) (line : List ℕ) (words : Words) (known : Option Known) (p : Place) (r : Option Fault) → IsReadBy lines line words known → fault_of_words p (option_map (λ (k : Known). k.kind) known) (words_of line) (first_word_of (word_at 0 (words_of line))) ≡ r → fault_of_line (named_in lines) p line ≡ r
fault_of_line-read lines line words known p r by h =
    let ws = words_of line in
    let name = word_at 1 ws in
    cond-true (list_all is_printed line) _ _ by.printed
    ∙ ap (λ k. fault_of_words p k ws (first_word_of (word_at 0 ws)))
    (sym (kind_known 0 (said_words lines) name) ∙ ap (option_map (λ (k : Known). k.kind)) (sym by.name))
    ∙ h

-- the place after it is the one after its words
pub place_by-read : (lines : List (List ℕ)) (line : List ℕ) (words : Words) (known : Option Known) (p after : Place) (first : FirstWord) → IsReadBy lines line words known → first_word_of (word_at 0 (words_of line)) ≡ Some first → after ≡ place_after p first words.second.now → after ≡ place_by p (words_of line)
place_by-read lines line words known p after first by is here =
    here ∙ ap (place_after p first) by.first.second
    ∙ sym (ap (λ f. place_by_first p f (word_at 1 (words_of line))) is)

-- a line was cut off and looked at, by its words
pub follows-read : (old middle new : Check) (cut : CutLine) (known : Option Known) (l : Line) → IsCutOff old.rest cut → cut.is_printed ≡ true → ((ws : List (List ℕ)) → AreFirst cut.words ws → false ≡ is_ignored ws) → known ≡ known_in (text_lines old.text) cut.words.second.now → middle ≡ record { text = old.text; number = old.number + 1; place = old.place; rest = cut.rest.now } → ((lines : List (List ℕ)) (line : List ℕ) → IsReadBy lines line cut.words known → IsLine lines old.number middle.place line l new.place) → new ≡ record { text = middle.text; number = middle.number; place = new.place; rest = middle.rest } → Follows old l new
follows-read old middle new cut known l off printed said is middles read news =
    let lines = text_lines old.text in
    let by : IsReadBy lines off.line cut.words known = record {
      said = sym (said (words_of off.line) off.words);
      printed = sym off.printed ∙ printed;
      first = off.words;
      name = is ∙ ap (known_in lines) off.words.second;
    } in
    let place : middle.place ≡ old.place = ap (λ (k : Check). k.place) middles in
    let is_line = subst (λ (p : Place). IsLine lines old.number p off.line l new.place) place (read lines off.line by) in
    follows old new off.line l
    (off.lines ∙ ap (λ (k : Check). off.line ∷ text_lines k.rest) (sym (news ∙ ap (λ (k : Check). record { text = middle.text; number = middle.number; place = new.place; rest = k.rest }) middles)))
    is_line
    (ap (λ (k : Check). k.text) news ∙ ap (λ (k : Check). k.text) middles)
    (ap (λ (k : Check). k.number) news ∙ ap (λ (k : Check). k.number) middles)
