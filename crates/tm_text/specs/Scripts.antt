-- What scripts ask, as bodies of threads.
use Rattle.std.specs.Prelude.{ℤ, Bool, ◌&&◌, is_some, List}
use Rattle.tm_base.specs.declared.asks.Ask.{Ask}
use Rattle.tm_base.specs.declared.kinds.Kind.{Kind}
use Rattle.tm_base.specs.declared.replies.Reply.{Reply}
use Rattle.tm_base.specs.Bodies.{IsAskedAmong, is_over}
use Rattle.tm_programs.specs.Calls.{AllCallsPass}
use Rattle.tm_programs.specs.Programs.{Program, Rest, answered, next_ask}
use Rattle.tm_text.specs.Exercises.{is_call_among}

-- Every call that is left is one of objects of these kinds.
abbrev pub IsScriptFor : List Kind → Rest → Type 0
IsScriptFor kinds rest = AllCallsPass (is_call_among kinds) rest.program

-- What a program asks of which this is left, where its last reply lets it go on.
abbrev pub ask_of : Rest → Ask
ask_of rest = next_ask rest.program rest.registers

-- What it asks after one more final reply.
abbrev pub asked_after : Rest → Reply → Ask
asked_after rest answer = ask_of (answered rest answer)

-- A final reply has come, by which it is over.
abbrev pub is_over_by : Rest → Bool
is_over_by rest = is_some rest.last && is_over (ask_of rest)

-- A program whose calls are those of objects of these kinds asks such a call, or nothing more.
abbrev pub AskedCallsFit : Type 0
AskedCallsFit = (kinds : List Kind) (p : Program) (registers : List ℤ)
    → AllCallsPass (is_call_among kinds) p → IsAskedAmong kinds (next_ask p registers)
