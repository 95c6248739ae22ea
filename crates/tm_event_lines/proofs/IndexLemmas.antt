-- A map whose keys are compared by their bytes.
use Rattle.std.proofs.Common.{◌≡◌, ℕ, Bool, true, false, cond, List, Option, sym, ap, ◌∙◌}
use Rattle.std.specs.HashMap as hash
use Rattle.std.specs.HashMap.{HashMap}
use Rattle.std.specs.Cmp.Lexicographic.{nat_list_eq_equiv}
use Rattle.std.specs.Map.{lookup, IsKeyTest, AreApart, KeepsOthers}
use Rattle.std.specs.Str.{bytes_eq}
use Rattle.std.proofs.lemmas.Bool.{cond_both}
use Rattle.std.proofs.lemmas.Slice.Eq.{bytes_eq-Decides}

other_entries : {K X : Type 0} (eq : K → K → Bool) (test : K → Bool) (old new : List (K × X)) → KeepsOthers eq test old new → (other : K → Bool) → IsKeyTest eq other → AreApart test other → lookup other new ≡ lookup other old
unfolding KeepsOthers
other_entries eq test old new h = h

apart : (bs cs ks : List ℕ) → bytes_eq bs cs ≡ false → bytes_eq bs ks ≡ true → bytes_eq cs ks ≡ false
apart bs cs ks n y = nat_list_eq_equiv.symm cs ks ∙ sym (nat_list_eq_equiv.congr bs ks cs y) ∙ n

-- what it has at each name after a change at one of them
pub updated : {K X S : Type 0} (bytes : K → List ℕ) (bs : List ℕ) (m n : HashMap K X S) (w : Option X)
    → hash.UpdatesBy (λ x y. bytes_eq (bytes x) (bytes y)) (λ k. bytes_eq bs (bytes k)) m n w
    → (name : List ℕ) → hash.get_by (λ k. bytes_eq name (bytes k)) n ≡ cond (bytes_eq bs name) w (hash.get_by (λ k. bytes_eq name (bytes k)) m)
updated bytes bs m n w h name =
    let get = λ (l : HashMap _ _ _) (cs : List ℕ). hash.get_by (λ k. bytes_eq cs (bytes k)) l in
    cond_both (bytes_eq bs name) w (get m name) (λ r. get n name ≡ r)
    (λ y. ap (get n) (sym ((bytes_eq-Decides bs name).0 y)) ∙ h.1)
    (λ e. other_entries _ _ _ _ h.3 _ (λ x y. nat_list_eq_equiv.congr name (bytes x) (bytes y)) (λ k. apart bs name (bytes k) e))
