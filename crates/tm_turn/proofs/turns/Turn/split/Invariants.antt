use Rattle.tm_turn.proofs.turns.Turn.split.Given as goal

-- the number that the step gives is the one that was asked for
abbrev pub ghosts-split_off : goal.ghosts-split_off
ghosts-split_off g a = record { number = a.number }
