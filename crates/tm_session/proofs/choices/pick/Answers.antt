use Rattle.std.proofs.Common.{◌≡◌, ℕ, List, [], ◌∷◌, length, None, refl, sym, ◌∙◌}
use Rattle.tm_replay.specs.Bars.{bars_of}
use Rattle.tm_replay.specs.Choosing.{runnable_threads}
use Rattle.tm_session.specs.Choices.{picked}
use Rattle.tm_session.proofs.choices.pick.Goals as goal

none : (threads : List ℕ) (draw : ℕ) → length threads ≡ 0 → picked threads draw ≡ None
none [] draw e = refl
none (t ∷ threads) draw e = absurd cc

pub returns-then-runnable-eq0 : goal.returns-then-runnable-eq0
returns-then-runnable-eq0 c =
    sym (none (runnable_threads (bars_of c.args.joint.now.state)) c.args.draw (sym c.runnable_count-runnable.ensures.listed ∙ c.if-runnable-eq0.true))
