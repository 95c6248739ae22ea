-- In a legal history every state is sound.
use Rattle.std.proofs.Common.{List}
use Rattle.tm_base.specs.declared.events.Entry.{Entry}
use Rattle.tm_base.specs.Histories.{Label, HistoryState, Follows, IsHistory, first_history_state, object_at}
use Rattle.tm_base.specs.Runs.{Leads}
use Rattle.tm_laws.specs.Tidy.{IsSound, Moves}
use Rattle.tm_laws.proofs.StartStateLemmas.{start-sound}
use Rattle.tm_laws.proofs.LawfulMoves.{Lawful-moves}
use Rattle.tm_laws.proofs.RunsLemmas.{Leads-keeps}

module _ (l : Label) where
  pub Follows-moves : (p : HistoryState) (e : Entry) (q : HistoryState) → IsSound (object_at l p.state) → Follows l p e q → Moves (object_at l p.state) e.thread e.op e.reply q.state
  Follows-moves p e q sound f = Lawful-moves (object_at l p.state) e.thread e.op e.reply q.state sound f.lawful

  pub Leads-sound : (es : List Entry) (p q : HistoryState) → IsSound (object_at l p.state) → Leads (Follows l) p es q → IsSound (object_at l q.state)
  Leads-sound es p q sound run = Leads-keeps (Follows l) (λ (p : HistoryState). IsSound (object_at l p.state)) (λ p e q s f. (Follows-moves p e q s f).sound) es p q sound run

  pub history-sound : (es : List Entry) (p : HistoryState) → IsHistory l es p → IsSound (object_at l p.state)
  history-sound es p run = Leads-sound es (first_history_state l) p (start-sound l.kind l.threads) run
