-- How a name is stored: its length, and its bytes followed by zeros.
use Rattle.std.specs.Prelude.{◌≡◌, ℕ, ◌-◌, ◌≤◌, List, ◌++◌, length, take, drop, replicate}
use Rattle.std.proofs.Common.{arith, ap, ◌∙◌}
use Rattle.std.proofs.lemmas.List.{length-take-le, take-append-drop}
use Rattle.tm_base.specs.declared.names.Name.TheInside.{Inside}
use Rattle.tm_base.specs.Names.{IsName}

abbrev pub name_bytes : Inside → List ℕ
name_bytes n = take n.len n.bytes

pub record IsStored (n : Inside) : Type 0 where
  pub name : IsName (take n.len n.bytes)
  pub short : n.len ≤ 16
  pub wide : length n.bytes ≡ 16
  pub zeros : drop n.len n.bytes ≡ replicate (16 - n.len) 0

abbrev pub stored : List ℕ → Inside
stored bs = record { len = length bs; bytes = bs ++ replicate (16 - length bs) 0 }

pub stored-name_bytes : (n : Inside) → IsStored n → stored (name_bytes n) ≡ n
stored-name_bytes n h =
    let short : n.len ≤ length n.bytes = omega (arith, h.short, h.wide) in
    let len : length (take n.len n.bytes) ≡ n.len = length-take-le n.len n.bytes short in
    let bytes : take n.len n.bytes ++ replicate (16 - n.len) 0 ≡ n.bytes = rw (← h.zeros) (take-append-drop n.len n.bytes) in
    let with_len = λ (k : ℕ). let r : Inside = record { len = k; bytes = take n.len n.bytes ++ replicate (16 - k) 0 } in r in
    let with_bytes = λ (bs : List ℕ). let r : Inside = record { len = n.len; bytes = bs } in r in
    ap with_len len ∙ ap with_bytes bytes
