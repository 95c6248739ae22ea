use Rattle.std.proofs.Common.{◌≡◌, ◌+◌, ◌≤◌, ◌++◌, length, arith, inl, inr, length-append}
use Rattle.tm_outside.proofs.TakingLemmas.{Takes-trans, TakesAtMost-after, TakesFirst-from_takes}
use Rattle.tm_outside.proofs.reading.read_all.Goals as goal
use Rattle.tm_outside.proofs.reading.read_all.Goals.{else-loop-bytes-test, then-loop-bytes-test+in_ok-read_some+then-branch-eq0}

pub returns-in_err-read_some-clause-prefix : goal.returns-in_err-read_some-clause-prefix
returns-in_err-read_some-clause-prefix g c =
    TakesAtMost-after _ _ _ _ _ c.loop-bytes.bytes.items (omega (arith, c.loop-bytes.bytes.ok.0)) c.loop-bytes.invariant.taken c.read_some.ensures.prefix

pub returns-clause-first : goal.returns-clause-first
returns-clause-first g c =
    let sofar = c.loop-bytes.invariant in
    rw c.from_vec.ensures (elim c.loop-bytes-test.branch [
      | else-loop-bytes-test w ↦ rw (w.source-is, w.bytes-is) (
          let whole : length c.loop-bytes.bytes.items ≡ c.args.limit + 1 = omega (arith, c.loop-bytes.bytes.ok.0) in
          TakesFirst-from_takes _ _ _ _ sofar.taken (inl whole))
      | then-loop-bytes-test+in_ok-read_some+then-branch-eq0 w ↦
          let more = w.in_ok-read_some.ensures.more in
          rw (w.source-is, w.bytes-is, more.appended) (
          let short : length (c.loop-bytes.bytes.items ++ more.read) ≤ c.args.limit + 1 = rw length-append (omega (arith, more.count, c.loop-bytes.bytes.ok.0)) in
          TakesFirst-from_takes _ _ _ _ (Takes-trans _ _ _ _ _ sofar.taken more.taken) (inr (short, w.in_ok-read_some.ensures.end w.if-branch-eq0.true)))
    ])
