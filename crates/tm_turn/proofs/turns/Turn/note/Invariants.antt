use Rattle.tm_turn.proofs.turns.Turn.note.Given as goal

-- the event that the step counts is the one that was handed in
abbrev pub ghosts-count : goal.ghosts-count
ghosts-count g a = record { entry = a._entry.now }
