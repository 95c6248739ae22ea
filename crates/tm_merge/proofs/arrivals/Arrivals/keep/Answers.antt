use Rattle.std.proofs.Common.{false}
use Rattle.tm_merge.proofs.ReadyThreadsLemmas.{lists-joins, only-joins}
use Rattle.tm_merge.proofs.arrivals.Arrivals.keep.Goals as goal

pub list_if_ready-requires-clause-lists : goal.list_if_ready-requires-clause-lists
list_if_ready-requires-clause-lists c =
    lists-joins c.args.self.now c.put.new.self c.args.entry c.requires.all.lists c.requires.all.keeps c.put.ensures.keeps c.put.ensures.joins c.put.ensures.listed

pub returns-clause-all : goal.returns-clause-all
returns-clause-all c = record {
  keeps = c.list_if_ready.ensures.keeps;
  lists = c.list_if_ready.ensures.lists;
  only = c.list_if_ready.ensures.only (λ _. false) (only-joins c.args.self.now c.put.new.self c.args.entry c.requires.all.only c.put.ensures.joins c.put.ensures.listed);
}
