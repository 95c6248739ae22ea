-- No thread has a granted reply at a variable.
use Rattle.std.proofs.Common.{◌≡◌, ℕ, ◌<◌, ◌≤◌, ⊎_elim, Option, None, replicate, slice_index_or, subst, sym}
use Rattle.std.proofs.lemmas.Bool.{cases_lt}
use Rattle.std.proofs.lemmas.List.{get_or-replicate, get_or_past, length-replicate}
use Rattle.tm_base.specs.declared.replies.Reply.{Reply}

-- in a list of no replies each thread has none
pub none_granted : (n t : ℕ) → slice_index_or (replicate {A = Option Reply} n None) t None ≡ None
none_granted n t = ⊎_elim (λ (h : t < n). get_or-replicate n t None None h) (λ (h : n ≤ t). get_or_past (replicate n None) t None (subst (λ (k : ℕ). k ≤ t) (sym (length-replicate n None)) h)) (cases_lt t n)
