use Rattle.tm_programs.proofs.Following.{repeats_unfold, whiles_unfold, ifs_unfold}
use Rattle.tm_programs.proofs.laws.blocks_unfold.Goals as goal

pub returns : goal.returns
returns c = record { repeats = repeats_unfold; whiles = whiles_unfold; ifs = ifs_unfold }
