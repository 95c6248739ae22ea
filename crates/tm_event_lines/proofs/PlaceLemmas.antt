-- Words that are taken one after the other stand at their places.
use Rattle.std.proofs.Common.{◌≡◌, ℕ, zero, suc, Bool, List, [], ◌∷◌, drop, refl, ap, ◌∙◌}
use Rattle.tm_lines.specs.NamedLines.{word_at}
use Rattle.tm_event_lines.specs.EventWords.{Parts, behind_if, is_numbered, parts_behind, parts_of, takes_detail, takes_operand, word_if}

pub word_at-drop : (n : ℕ) (ws : List (List ℕ)) → word_at 0 (drop n ws) ≡ word_at n ws
word_at-drop zero [] = refl
word_at-drop zero (w ∷ ws) = refl
word_at-drop (suc n) [] = refl
word_at-drop (suc n) (w ∷ ws) = word_at-drop n ws

-- the first four words, and those behind them
pub record FirstFour (stamp thread object operation : List ℕ) (ws rest : List (List ℕ)) : Type 0 where
  pub stamp_is : stamp ≡ word_at 0 ws
  pub thread_is : thread ≡ word_at 1 ws
  pub object_is : object ≡ word_at 2 ws
  pub operation_is : operation ≡ word_at 3 ws
  pub rest_is : rest ≡ drop 4 ws

-- the word is the first of the words, and these are behind it
pub record Takes (w : List ℕ) (ws rest : List (List ℕ)) : Type 0 where
  pub word : w ≡ word_at 0 ws
  pub behind : rest ≡ drop 1 ws

drop_one : (n : ℕ) (ws : List (List ℕ)) → drop 1 (drop n ws) ≡ drop (suc n) ws
drop_one zero [] = refl
drop_one zero (w ∷ ws) = refl
drop_one (suc n) [] = refl
drop_one (suc n) (w ∷ ws) = drop_one n ws

-- the word with this number
taken : (n : ℕ) (w : List ℕ) (ws middle rest : List (List ℕ)) → middle ≡ drop n ws → Takes w middle rest → (w ≡ word_at n ws) × (rest ≡ drop (suc n) ws)
taken n w ws middle rest is takes =
    (takes.word ∙ ap (word_at 0) is ∙ word_at-drop n ws, takes.behind ∙ ap (drop 1) is ∙ drop_one n ws)

none_dropped : (ws : List (List ℕ)) → ws ≡ drop 0 ws
none_dropped [] = refl
none_dropped (w ∷ ws) = refl

pub first_four : (stamp thread object operation : List ℕ) (ws one two three four : List (List ℕ)) → Takes stamp ws one → Takes thread one two → Takes object two three → Takes operation three four → FirstFour stamp thread object operation ws four
first_four stamp thread object operation ws one two three four a b c d =
    let first = taken 0 stamp ws ws one (none_dropped ws) a in
    let second = taken 1 thread ws one two first.1 b in
    let third = taken 2 object ws two three second.1 c in
    let fourth = taken 3 operation ws three four third.1 d in
    record { stamp_is = first.0; thread_is = second.0; object_is = third.0; operation_is = fourth.0; rest_is = fourth.1 }

-- the words from the operand on
pub record FromOperand (operation operand reply detail : List ℕ) (ws behind : List (List ℕ)) : Type 0 where
  pub operand_is : operand ≡ word_if (takes_operand operation) ws
  pub reply_is : reply ≡ word_at 0 (behind_if (takes_operand operation) ws)
  pub detail_is : detail ≡ word_if (takes_detail reply) (drop 1 (behind_if (takes_operand operation) ws))
  pub behind_is : behind ≡ behind_if (takes_detail reply) (drop 1 (behind_if (takes_operand operation) ws))

pub from_operand : (operation operand reply detail : List ℕ) (ws from later behind : List (List ℕ)) (has_operand has_detail : Bool)
    → has_operand ≡ takes_operand operation → operand ≡ word_if has_operand ws → from ≡ behind_if has_operand ws → Takes reply from later
    → has_detail ≡ takes_detail reply → detail ≡ word_if has_detail later → behind ≡ behind_if has_detail later → FromOperand operation operand reply detail ws behind
from_operand operation operand reply detail ws from later behind has_operand has_detail is operand_is from_is takes is_detail detail_is behind_is =
    let source : from ≡ behind_if (takes_operand operation) ws = from_is ∙ ap (λ b. behind_if b ws) is in
    let rest : later ≡ drop 1 (behind_if (takes_operand operation) ws) = takes.behind ∙ ap (drop 1) source in
    record {
      operand_is = operand_is ∙ ap (λ b. word_if b ws) is;
      reply_is = takes.word ∙ ap (word_at 0) source;
      detail_is = detail_is ∙ ap (λ b. word_if b later) is_detail ∙ ap (word_if (takes_detail reply)) rest;
      behind_is = behind_is ∙ ap (λ b. behind_if b later) is_detail ∙ ap (behind_if (takes_detail reply)) rest;
    }

-- the words from the stamp on, by these parts of them
abbrev by_four : List ℕ → List ℕ → List ℕ → List ℕ → List ℕ → List (List ℕ) → Parts
by_four number stamp thread object operation rest = record {
  number = number;
  stamp = stamp;
  thread = thread;
  object = object;
  operation = operation;
  operand = word_if (takes_operand operation) rest;
  reply = word_at 0 (behind_if (takes_operand operation) rest);
  detail = word_if (takes_detail (word_at 0 (behind_if (takes_operand operation) rest))) (drop 1 (behind_if (takes_operand operation) rest));
  behind = behind_if (takes_detail (word_at 0 (behind_if (takes_operand operation) rest))) (drop 1 (behind_if (takes_operand operation) rest));
}

abbrev by_all : List ℕ → List ℕ → List ℕ → List ℕ → List ℕ → List ℕ → List ℕ → List ℕ → List (List ℕ) → Parts
by_all number stamp thread object operation operand reply detail behind = record {
  number = number;
  stamp = stamp;
  thread = thread;
  object = object;
  operation = operation;
  operand = operand;
  reply = reply;
  detail = detail;
  behind = behind;
}

pub parts_taken : (number stamp thread object operation operand reply detail : List ℕ) (ws four behind : List (List ℕ)) → FirstFour stamp thread object operation ws four → FromOperand operation operand reply detail four behind
    → by_all number stamp thread object operation operand reply detail behind ≡ parts_behind number ws
parts_taken number stamp thread object operation operand reply detail ws four behind f o =
    let from = behind_if (takes_operand operation) four in
    ap (λ v. by_all number stamp thread object operation v reply detail behind) o.operand_is
    ∙ ap (λ v. by_all number stamp thread object operation (word_if (takes_operand operation) four) reply v behind) o.detail_is
    ∙ ap (λ v. by_all number stamp thread object operation (word_if (takes_operand operation) four) reply (word_if (takes_detail reply) (drop 1 from)) v) o.behind_is
    ∙ ap (λ v. by_all number stamp thread object operation (word_if (takes_operand operation) four) v (word_if (takes_detail v) (drop 1 from)) (behind_if (takes_detail v) (drop 1 from))) o.reply_is
    ∙ ap (λ v. by_four number v thread object operation four) f.stamp_is
    ∙ ap (λ v. by_four number (word_at 0 ws) v object operation four) f.thread_is
    ∙ ap (λ v. by_four number (word_at 0 ws) (word_at 1 ws) v operation four) f.object_is
    ∙ ap (λ v. by_four number (word_at 0 ws) (word_at 1 ws) (word_at 2 ws) v four) f.operation_is
    ∙ ap (λ v. by_four number (word_at 0 ws) (word_at 1 ws) (word_at 2 ws) (word_at 3 ws) v) f.rest_is

-- the number in front, where there is one
pub numbered_taken : (numbered : Bool) (number : List ℕ) (ws rest : List (List ℕ)) → numbered ≡ is_numbered ws → number ≡ word_if numbered ws → rest ≡ behind_if numbered ws → parts_behind number rest ≡ parts_of ws
numbered_taken numbered number ws rest is front behind =
    ap (λ v. parts_behind v rest) front ∙ ap (parts_behind (word_if numbered ws)) behind ∙ ap (λ b. parts_behind (word_if b ws) (behind_if b ws)) is
