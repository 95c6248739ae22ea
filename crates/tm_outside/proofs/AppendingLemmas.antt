-- What writes one after the other append.
use Rattle.std.proofs.Common.{◌≡◌, ℕ, ◌+◌, ◌<◌, List, [], ◌++◌, Option, None, Some, refl, sym, ap, ◌∙◌, append_assoc, append-nil, take, drop, length, length-append, length-drop, take-append-drop, arith}
use Rattle.std.proofs.Math.Seq.{take-add}
use Rattle.tm_outside.specs.Appending.{Appends, AppendsPrefix, AppendsProperPrefix}

-- where nothing changed nothing was appended
pub Appends-none : (old new : Option (List ℕ)) → new ≡ old → Appends old new []
Appends-none None None same = tt
Appends-none None (Some new) same = cc
Appends-none (Some old) None same = cc
Appends-none (Some old) (Some new) same = let e : new ≡ old = cc in e ∙ sym (append-nil old)

-- what is appended in two steps
pub Appends-trans : (first second third : Option (List ℕ)) (bytes more : List ℕ) → Appends first second bytes → Appends second third more → Appends first third (bytes ++ more)
Appends-trans None None None bytes more p q = tt
Appends-trans None None (Some z) bytes more p q = absurd q
Appends-trans None (Some y) third bytes more p q = absurd p
Appends-trans (Some x) None third bytes more p q = absurd p
Appends-trans (Some x) (Some y) None bytes more p q = absurd q
Appends-trans (Some x) (Some y) (Some z) bytes more p q =
    q ∙ ap (λ l. l ++ more) p ∙ append_assoc x bytes more

-- the first bytes of a piece, and then the next n
pub Appends-more : (first second third : Option (List ℕ)) (piece : List ℕ) (sent n : ℕ) → Appends first second (take sent piece) → Appends second third (take n (drop sent piece)) → Appends first third (take (sent + n) piece)
Appends-more first second third piece sent n p q =
    rw take-add (Appends-trans first second third (take sent piece) (take n (drop sent piece)) p q)

-- where nothing changed an empty prefix was appended
pub AppendsPrefix-none : (old new : Option (List ℕ)) (bytes : List ℕ) → new ≡ old → AppendsPrefix old new bytes
AppendsPrefix-none old new bytes same = record {
  prefix = [];
  back = bytes;
  split = refl;
  appended = Appends-none old new same;
}

-- all of the bytes are a prefix of them
pub AppendsPrefix-whole : (old new : Option (List ℕ)) (bytes : List ℕ) → Appends old new bytes → AppendsPrefix old new bytes
AppendsPrefix-whole old new bytes p = record {
  prefix = bytes;
  back = [];
  split = sym (append-nil bytes);
  appended = p;
}

-- a prefix of what follows is, with what came before it, a prefix of both
pub AppendsPrefix-after : (first second third : Option (List ℕ)) (bytes more : List ℕ) → Appends first second bytes → AppendsPrefix second third more → AppendsPrefix first third (bytes ++ more)
AppendsPrefix-after first second third bytes more p q = record {
  prefix = bytes ++ q.prefix;
  back = q.back;
  split = ap (λ l. bytes ++ l) q.split ∙ sym (append_assoc bytes q.prefix q.back);
  appended = Appends-trans first second third bytes q.prefix p q.appended;
}

-- a prefix of the bytes is a prefix of more
pub AppendsPrefix-more : (old new : Option (List ℕ)) (bytes more : List ℕ) → AppendsPrefix old new bytes → AppendsPrefix old new (bytes ++ more)
AppendsPrefix-more old new bytes more p = record {
  prefix = p.prefix;
  back = p.back ++ more;
  split = ap (λ l. l ++ more) p.split ∙ append_assoc p.prefix p.back more;
  appended = p.appended;
}

-- a proper prefix is a prefix
pub AppendsPrefix-proper : (old new : Option (List ℕ)) (bytes : List ℕ) → AppendsProperPrefix old new bytes → AppendsPrefix old new bytes
AppendsPrefix-proper old new bytes p = record {
  prefix = p.prefix;
  back = p.back;
  split = p.split;
  appended = p.appended;
}

-- a proper prefix of what follows is, with what came before it, a proper prefix of both
pub AppendsProperPrefix-after : (first second third : Option (List ℕ)) (bytes more : List ℕ) → Appends first second bytes → AppendsProperPrefix second third more → AppendsProperPrefix first third (bytes ++ more)
AppendsProperPrefix-after first second third bytes more p q = record {
  prefix = bytes ++ q.prefix;
  back = q.back;
  split = ap (λ l. bytes ++ l) q.split ∙ sym (append_assoc bytes q.prefix q.back);
  missing = q.missing;
  appended = Appends-trans first second third bytes q.prefix p q.appended;
}

-- a proper prefix of the bytes is a proper prefix of more
pub AppendsProperPrefix-more : (old new : Option (List ℕ)) (bytes more : List ℕ) → AppendsProperPrefix old new bytes → AppendsProperPrefix old new (bytes ++ more)
AppendsProperPrefix-more old new bytes more p = record {
  prefix = p.prefix;
  back = p.back ++ more;
  split = ap (λ l. l ++ more) p.split ∙ append_assoc p.prefix p.back more;
  missing = rw length-append (omega (arith, p.missing));
  appended = p.appended;
}

-- the first bytes of a piece, and not all, are a proper prefix of it
pub AppendsProperPrefix-take : (old new : Option (List ℕ)) (piece : List ℕ) (sent : ℕ) → sent < length piece → Appends old new (take sent piece) → AppendsProperPrefix old new piece
AppendsProperPrefix-take old new piece sent short p = record {
  prefix = take sent piece;
  back = drop sent piece;
  split = sym (take-append-drop sent piece);
  missing = rw length-drop (omega arith);
  appended = p;
}
