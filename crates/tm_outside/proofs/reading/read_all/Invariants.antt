use Rattle.std.proofs.Common.{◌≡◌, ◌+◌, ◌-◌, ◌<◌, ◌≤◌, vec_len}
use Rattle.tm_outside.specs.Taking.{Takes}
use Rattle.tm_outside.proofs.reading.read_all.Given as goal

abbrev pub invariant-loop-bytes : goal.invariant-loop-bytes
invariant-loop-bytes g l = record {
  most : l.most ≡ l.limit + 1;
  room : 0 < vec_len l.buf;
  bounded : vec_len l.bytes ≤ l.most;
  taken : Takes (g.S.Source.left l.initial.source) (g.S.Source.left l.source) l.bytes.items;
  steady : g.S.Source.fault_count l.source ≡ g.S.Source.fault_count l.initial.source;
}

abbrev pub decreases-loop-bytes : goal.decreases-loop-bytes
decreases-loop-bytes g l = l.most - vec_len l.bytes
