-- A row of a table, a resume and a stop leave a tidy state, and move the pending calls as they should.
use Rattle.std.proofs.Common.{◌≡◌, ℕ, ◌+◌, ◌≤◌, true, false, ◌==◌, ⊎_elim, nat_lt, List, [], Some, None, slice_index_or, refl, ap, sym, ◌∙◌, subst, arith, eq-eqb, ne_eqb, ltb-true, ltb-false}
use Rattle.std.proofs.lemmas.Bool.{cases_eq}
use Rattle.tm_base.specs.declared.replies.Reply.{Reply}
use Rattle.tm_base.specs.declared.replies.Reply.TheVariants as reply
use Rattle.tm_base.specs.States.{KindState, State, queued, is_pending, granting}
use Rattle.tm_laws.specs.Counts.{bit, count_in, occurrences, has_grant, is_wait, is_grant, joins}
use Rattle.tm_laws.specs.Tidy.{IsTidy}
use Rattle.tm_laws.proofs.Counting.{bit_small, pending-occurrences, empty_from_counts}
use Rattle.tm_laws.proofs.Grants.{length-grant_all, granted_at-grant_all, grant_all-from}
use Rattle.tm_laws.proofs.TableRowLemmas.{joins-none}

pub joins_small : (r : Reply) (t x : ℕ) → joins r t x ≤ 1
joins_small reply.Wait t x = bit_small (t == x)
joins_small r t x = omega arith

pub joins-other : (r : Reply) (t x : ℕ) → (t ≡ x → ⊥) → joins r t x ≡ 0
joins-other reply.Wait t x ne = ap bit (ne_eqb t x ne)
joins-other r t x ne = refl

pub joins-self : (r : Reply) (t : ℕ) → joins r t t ≡ bit (is_wait r)
joins-self reply.Wait t = ap bit (eq-eqb t t refl)
joins-self r t = refl

-- the call is pending exactly if the thread waits or was granted at least once
pub is_pending-occurrences : (s : State) (x : ℕ) → is_pending s x ≡ nat_lt 0 (occurrences s x)
is_pending-occurrences s x = pending-occurrences (queued s.kind_state) (has_grant s x) x

pub times_none : (s : State) (x : ℕ) → is_pending s x ≡ false → occurrences s x ≡ 0
times_none s x e = omega (arith, ltb-false 0 (occurrences s x) (sym (is_pending-occurrences s x) ∙ e))

pub times_some : (s : State) (x : ℕ) → is_pending s x ≡ true → 1 ≤ occurrences s x
times_some s x e = omega (arith, ltb-true 0 (occurrences s x) (sym (is_pending-occurrences s x) ∙ e))

-- what a row leaves, in a state that is given by its parts
module _ (threads : ℕ) (s : State) (t : ℕ) (r : Reply) (own : KindState) (served : List ℕ) (answer : Reply)
    (tidy : IsTidy threads s) (program : 1 ≤ t) (known : t ≤ threads) (free : occurrences s t ≡ 0)
    (counts : (x : ℕ) → count_in (queued s.kind_state) x + joins r t x ≡ count_in served x + count_in (queued own) x) where
  total : (x : ℕ) → occurrences s x + joins r t x ≤ 1
  total x = ⊎_elim
      (λ (e : t ≡ x). omega (arith, joins_small r t x, subst (λ (u : ℕ). occurrences s u ≡ 0) e free))
      (λ (ne : t ≡ x → ⊥). omega (arith, joins-other r t x ne, tidy.once x)) (cases_eq t x)

  inside : (x : ℕ) → 1 ≤ occurrences s x + joins r t x → (1 ≤ x) × (x ≤ threads)
  inside x h = ⊎_elim
      (λ (e : t ≡ x). subst (λ (u : ℕ). (1 ≤ u) × (u ≤ threads)) e (program, known))
      (λ (ne : t ≡ x → ⊥). tidy.known x (omega (arith, joins-other r t x ne))) (cases_eq t x)

  pub granting-occurrences : (x : ℕ) → occurrences (granting s own served answer) x ≡ occurrences s x + joins r t x
  granting-occurrences x =
      omega (
        arith,
        counts x,
        granted_at-grant_all served answer s.granted
            (λ y. omega (arith, total y, counts y))
            (λ y h. let k : (1 ≤ y) × (y ≤ threads) = inside y (omega (arith, counts y)) in omega (arith, k.1, tidy.long)) x,
      )

  pub granting-tidy : is_grant answer ≡ true → (s.stopped ≡ true → queued s.kind_state ≡ [] → is_wait r ≡ false) → IsTidy threads (granting s own served answer)
  granting-tidy final running = record {
    long = length-grant_all served answer s.granted ∙ tidy.long;
    known = λ x h. inside x (omega (arith, granting-occurrences x));
    once = λ x. omega (arith, granting-occurrences x, total x);
    final = λ x q e. ⊎_elim (λ (same : q ≡ answer). ap is_grant same ∙ final) (λ (old : slice_index_or s.granted x None ≡ Some q). tidy.final x q old) (grant_all-from served answer s.granted x q e);
    quiet = λ on.
        let empty : queued s.kind_state ≡ [] = tidy.quiet on in
        empty_from_counts (queued own) (λ x. omega (arith, counts x, ap (λ q. count_in q x) empty, joins-none r t x (running on empty)));
  }
