-- What is sent to a sink that may fail.
use Rattle.std.specs.Prelude.{◌≡◌, ℕ, Bool, List, ◌++◌, Option, MatchBool}
use Rattle.tm_base.specs.Counters.{next_count}
use Rattle.tm_outside.specs.Appending.{Appends, AppendsProperPrefix}

-- Whether a write has failed, the sink's count of faults, and the bytes that it was given, where it tells them.
pub record Outlet : Type 0 where
  pub failed : Bool
  pub faults : ℕ
  pub written : Option (List ℕ)

-- Where no write failed the bytes were appended, and the count of faults is as before. Where one failed it
-- was the last: the count is one later, and a prefix of the bytes was appended, and not all of them.
abbrev pub IsSent : Outlet → Outlet → List ℕ → Type 0
IsSent o p bytes =
    MatchBool p.failed ((p.faults ≡ next_count o.faults) × AppendsProperPrefix o.written p.written bytes)
    ((p.faults ≡ o.faults) × Appends o.written p.written bytes)

-- The bytes are sent, unless a write failed before: then nothing is written.
abbrev pub Sends : Outlet → Outlet → List ℕ → Type 0
Sends o p bytes = MatchBool o.failed (p ≡ o) (IsSent o p bytes)

-- The first bytes of these are sent, and no others.
pub record SendsPrefix (o p : Outlet) (bytes : List ℕ) : Type 0 where
  pub prefix : List ℕ
  pub back : List ℕ
  pub split : bytes ≡ prefix ++ back
  pub sent : Sends o p prefix
