-- By what the thread's event is.
use Rattle.tm_replay.proofs.RunnableThreadsLemmas.{runnable-answered}
use Rattle.tm_replay.proofs.runnable_threads_can_move.Goals as goal

pub returns : goal.returns
returns c = λ x j t s object o formed sound program seat runs may. runnable-answered x j t s object o formed sound program seat runs may
