-- Numbers that are drawn one after another, and what they pick.
use Rattle.std.specs.Prelude.{ℕ, ◌+◌, ◌*◌, ◌/◌, ◌%◌, ◌^◌}
use Rattle.tm_base.specs.declared.draws.TheConstants.{INCREMENT, MULTIPLIER}

-- The number that is drawn after this one: the linear congruential generator of Knuth's MMIX computer, of
-- 64 bits.
abbrev pub next_draw : ℕ → ℕ
next_draw x = (x * MULTIPLIER + INCREMENT) % 2 ^ 64

-- The place that a drawn number picks among so many, from 0: what its upper 31 bits leave when they are divided by
-- how many there are.
abbrev pub place_of : ℕ → ℕ → ℕ
place_of x count = x / 2 ^ 33 % count
