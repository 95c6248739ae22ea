use Rattle.std.proofs.Common.{suc, ◌^◌, ◌≤◌, sym, ◌∙◌, arith}
use Rattle.tm_merge.proofs.IndexLemmas.{found_beyond}
use Rattle.tm_merge.proofs.ListLemmas.{element_at}
use Rattle.tm_merge.proofs.arrivals.Arrivals.after_place.Goals as goal

pub returns-in_err-checked_add : goal.returns-in_err-checked_add
returns-in_err-checked_add c =
    let a = c.args.self.now in
    let keeps = c.requires.keeps in
    let line = element_at a.threads.items c.args.thread c.requires.known in
    let full = rw c.in_err-checked_add.was at c.checked_add.ensures in
    let beyond : 2 ^ 64 ≤ suc c.args.place = omega (arith, full) in
    c.from_residual.ensures ∙ sym (found_beyond (λ e. e.thread) (λ e. e.place) a.threads.items a.shown.items a.slots.items keeps.threads keeps.thread_tails keeps.numbered.threads c.args.thread (suc c.args.place) line.0 line.1 beyond)
