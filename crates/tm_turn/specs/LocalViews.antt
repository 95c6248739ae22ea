-- What a thread knows at a turn's table, and how each of its steps changes that.
use Rattle.std.specs.Prelude.{ℕ, suc, true, false, None, Some, List, [], ◌∷◌, ◌++◌}
use Rattle.tm_base.specs.declared.events.Entry.{Entry}
use Rattle.tm_base.specs.declared.kinds.Kind.TheVariants as kind
use Rattle.tm_base.specs.Histories.{Label}
use Rattle.tm_turn.specs.declared.views.LocalView.{LocalView}
use Rattle.tm_turn.specs.Prefixes.{longer}

-- A pass that has seen these events, has given and absorbed no number, and has tried nothing yet.
abbrev pub newcomer : Label → ℕ → List Entry → LocalView
newcomer l n seen =
    record {
      label = l;
      knows = true;
      lives = true;
      number = n;
      seen = seen;
      given = [];
      absorbed = [];
      holds = false;
      turns = 0;
      misses = 0;
      missed = 0;
      keeps = false;
      first = [];
      second = [];
      joined = None;
    }

-- It won the turn, and has seen the whole history.
abbrev pub taking : LocalView → List Entry → LocalView
taking v history = record v { holds = true; seen = history; turns = suc v.turns }

-- It lost the turn to the holder that this word names.
abbrev pub missing : LocalView → ℕ → LocalView
missing v word = record v { misses = suc v.misses; missed = word }

-- It noted an event.
abbrev pub noting : LocalView → Entry → LocalView
noting v e = record v { seen = v.seen ++ e ∷ [] }

-- It gave the turn back.
abbrev pub giving : LocalView → LocalView
giving v = record v { holds = false }

-- It gave a number to a new pass.
abbrev pub splitting : LocalView → ℕ → LocalView
splitting v n = record v { given = n ∷ v.given }

-- A note, which is no pass: what a pass has seen, for another to take in.
abbrev pub note_of : LocalView → LocalView
note_of v = record v { lives = false; holds = false; keeps = false }

-- It took in what another pass has seen, and absorbed its number. It keeps both lists until it learns.
abbrev pub absorbing : LocalView → LocalView → LocalView
absorbing v w = record v { seen = longer v.seen w.seen; absorbed = w.number ∷ v.absorbed; keeps = true; first = v.seen; second = w.seen; joined = Some w.number }

-- It took in what a note says. It keeps both lists until it learns.
abbrev pub meeting : LocalView → LocalView → LocalView
meeting v w = record v { seen = longer v.seen w.seen; keeps = true; first = v.seen; second = w.seen; joined = None }

-- It learned what the rule says of the lists that it kept, and keeps none.
abbrev pub learning : LocalView → LocalView
learning v = record v { keeps = false; first = []; second = []; joined = None }

-- A seat that was joined to another.
abbrev pub spent : LocalView
spent =
    record {
      label = record { object = 0; kind = kind.Mutex; threads = 0 };
      knows = false;
      lives = false;
      number = 0;
      seen = [];
      given = [];
      absorbed = [];
      holds = false;
      turns = 0;
      misses = 0;
      missed = 0;
      keeps = false;
      first = [];
      second = [];
      joined = None;
    }
