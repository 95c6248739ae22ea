-- Somebody is inside while a signaller waits, so only a leave, a wait and a signal let another thread in.
use Rattle.tm_monitors.proofs.HoareLawsLemmas.{newest-first}
use Rattle.tm_monitors.proofs.signallers_go_first.Goals as goal

pub returns : goal.returns
returns c = λ l count es p e q t urgent its run f stacked. newest-first l count es p e q t urgent its run f stacked
