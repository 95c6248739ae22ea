-- All that wait at a channel are granted one reply.
use Rattle.std.proofs.Common.{◌≡◌, ℕ, List, [], ◌∷◌, ◌++◌, Option, Some, slice_set, refl}
use Rattle.tm_base.specs.declared.replies.Reply.{Reply}
use Rattle.tm_base.specs.States.{grant_all}

-- two queues are granted a reply one after the other
pub grant_all_append : (ts us : List ℕ) (r : Reply) (g : List (Option Reply)) → grant_all (ts ++ us) r g ≡ grant_all us r (grant_all ts r g)
grant_all_append [] us r g = refl
grant_all_append (t ∷ ts) us r g = grant_all_append ts us r (slice_set g t (Some r))
