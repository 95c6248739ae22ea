-- The words of an event line, each at its place.
use Rattle.std.specs.Prelude.{ℕ, ℤ, Bool, true, false, not, ◌||◌, ◌==◌, if◌then◌else◌, List, [], ◌∷◌, drop, codes, Option, Some, None}
use Rattle.std.specs.List.{find, list_any}
use Rattle.std.specs.Option.{option_or}
use Rattle.std.specs.Str.{bytes_eq}
use Rattle.tm_base.specs.declared.opcodes.Opcode.{Opcode}
use Rattle.tm_base.specs.declared.opcodes.Opcode.TheVariants as opcode
use Rattle.tm_base.specs.declared.replies.Reply.{Reply}
use Rattle.tm_base.specs.declared.replies.Reply.TheVariants as reply
use Rattle.tm_base.specs.Opcodes.{word_of}
use Rattle.tm_lines.specs.Lines.{words_of}
use Rattle.tm_lines.specs.NamedLines.{word_at}
use Rattle.tm_timeline.specs.Words.{reply_word}
use Rattle.tm_event_lines.specs.declared.event_words.EventWords.{EventWords}

-- All operations.
abbrev pub opcodes : List Opcode
opcodes =
    opcode.Lock ∷ opcode.TryLock ∷ opcode.Unlock ∷ opcode.P ∷ opcode.TryP ∷ opcode.V ∷ opcode.Enter ∷ opcode.Leave
    ∷ opcode.Wait ∷ opcode.Signal ∷ opcode.Broadcast ∷ opcode.Arrive ∷ opcode.RLock ∷ opcode.RUnlock ∷ opcode.WLock
    ∷ opcode.WUnlock ∷ opcode.Send ∷ opcode.Recv ∷ opcode.Close ∷ opcode.Read ∷ opcode.Write ∷ opcode.Add
    ∷ opcode.Start ∷ opcode.Join ∷ opcode.Begin ∷ opcode.End ∷ opcode.Resume ∷ opcode.Stop ∷ []

-- The operation that the word spells, where it spells one.
abbrev pub operation_of : List ℕ → Option Opcode
operation_of word = find (λ c. bytes_eq (word_of c) word) opcodes

-- The operation's operand is a condition.
abbrev pub has_condition : Opcode → Bool
has_condition opcode.Wait = true
has_condition opcode.Signal = true
has_condition opcode.Broadcast = true
has_condition c = false

-- The operation's operand is a value.
abbrev pub has_value : Opcode → Bool
has_value opcode.Send = true
has_value opcode.Write = true
has_value opcode.Add = true
has_value c = false

-- A word spells this operation, and the test holds for it.
abbrev pub spells : (Opcode → Bool) → Option Opcode → Bool
spells test None = false
spells test (Some c) = test c

-- The word of the reply that names a thread, and that of the one that brings a value.
abbrev pub is_gave : List ℕ → Bool
is_gave word = bytes_eq word (codes "gave")

abbrev pub is_got : List ℕ → Bool
is_got word = bytes_eq word (codes "got")

-- The replies that refuse a call.
abbrev pub refusals : List Reply
refusals =
    reply.Held ∷ reply.NotOwner ∷ reply.Busy ∷ reply.Zero ∷ reply.Full ∷ reply.Closed ∷ reply.Already ∷ reply.Myself ∷ []

-- The others that neither name a thread nor bring a value.
abbrev pub outcomes : List Reply
outcomes = reply.Ok ∷ reply.Wait ∷ reply.Last ∷ reply.Stopped ∷ reply.Cut ∷ []

-- The one of these replies that the word spells, where it spells one.
abbrev pub reply_among : List Reply → List ℕ → Option Reply
reply_among replies word = find (λ r. bytes_eq (reply_word r) word) replies

-- The reply that the word spells, where it spells one; it names this thread or brings this value, where it does.
abbrev pub reply_of : ℕ → ℤ → List ℕ → Option Reply
reply_of thread value word =
    if is_gave word then Some (reply.Gave thread)
    else (if is_got word then Some (reply.Got value) else option_or (reply_among outcomes word) (reply_among refusals word))

-- The words of an event line by their places. One that isn't there is empty, as no word is.
pub record Parts : Type 0 where
  -- the number in front of the event's text
  pub number : List ℕ
  pub stamp : List ℕ
  pub thread : List ℕ
  pub object : List ℕ
  pub operation : List ℕ
  pub operand : List ℕ
  pub reply : List ℕ
  -- what the reply names or brings
  pub detail : List ℕ
  -- the words behind these
  pub behind : List (List ℕ)

-- The word has a `.`.
abbrev pub has_point : List ℕ → Bool
has_point word = list_any (λ b. b == 46) word

-- The line of these words has a number in front: exactly where its second word has no `.`.
abbrev pub is_numbered : List (List ℕ) → Bool
is_numbered ws = not (has_point (word_at 1 ws))

-- One word more follows the operation's word.
abbrev pub takes_operand : List ℕ → Bool
takes_operand word = spells has_condition (operation_of word) || spells has_value (operation_of word)

-- One word more follows the reply's word.
abbrev pub takes_detail : List ℕ → Bool
takes_detail word = is_gave word || is_got word

-- The first of the words, if it stands there, and the words behind it.
abbrev pub word_if : Bool → List (List ℕ) → List ℕ
word_if there ws = if there then word_at 0 ws else []

abbrev pub behind_if : Bool → List (List ℕ) → List (List ℕ)
behind_if there ws = if there then drop 1 ws else ws

-- The words from the reply on, where these begin with the stamp.
abbrev pub from_reply : List (List ℕ) → List (List ℕ)
from_reply ws = behind_if (takes_operand (word_at 3 ws)) (drop 4 ws)

-- The places of words that begin with the stamp, and have this number in front.
abbrev pub parts_behind : List ℕ → List (List ℕ) → Parts
parts_behind number ws = record {
  number = number;
  stamp = word_at 0 ws;
  thread = word_at 1 ws;
  object = word_at 2 ws;
  operation = word_at 3 ws;
  operand = word_if (takes_operand (word_at 3 ws)) (drop 4 ws);
  reply = word_at 0 (from_reply ws);
  detail = word_if (takes_detail (word_at 0 (from_reply ws))) (drop 1 (from_reply ws));
  behind = behind_if (takes_detail (word_at 0 (from_reply ws))) (drop 1 (from_reply ws));
}

-- The places of a line's words.
abbrev pub parts_of : List (List ℕ) → Parts
parts_of ws = parts_behind (word_if (is_numbered ws) ws) (behind_if (is_numbered ws) ws)

-- The parts of a line as they are stored.
abbrev pub parts_in : EventWords → Parts
parts_in words = record {
  number = words.number.now;
  stamp = words.stamp.now;
  thread = words.thread.now;
  object = words.object.now;
  operation = words.operation.now;
  operand = words.operand.now;
  reply = words.reply.now;
  detail = words.detail.now;
  behind = words_of words.behind.now;
}
