use Rattle.std.proofs.Common.{◌≡◌, ◌<◌, ◌≢◌, ℕ, List, [], get_or, set, get_or-set_other, get_or-set_same, length-set, below_more, Bor, length, arith, sym, subst, ◌∙◌}
use Rattle.std.proofs.lemmas.List.{length-map}
use Rattle.clap.specs.Walk.{texts}
use Rattle.tm_words.specs.Numbers.{IsNumber}
use Rattle.tm_words.proofs.NumbersLemmas.{are-all, are-length, none-are, word-at}
use Rattle.tm_words.proofs.make_words.sizes.Goals as goal

pub returns-then-words : goal.returns-then-words
returns-then-words g c = λ ns n small are.
    let same = are-length (texts c.args.words.now) ns are in
    let whole = length-map c.args.words.now (λ (t : Bor (List ℕ)). t.now) in
    absurd (omega arith)

pub loop-i-preserved : goal.loop-i-preserved
loop-i-preserved g c =
    let word = word-at c.args.words.now c.loop-i.i (record { ref_ptr = (0, 0); now = [] }) c.loop-i-test.true in
    let within : c.loop-i.i < length c.loop-i.sizes = omega (arith, c.loop-i.invariant.sized) in
    let written : get_or (set c.loop-i.sizes c.loop-i.i c.in_ok-sizes.field-0) c.loop-i.i 0 ≡ c.in_ok-sizes.field-0 = get_or-set_same c.loop-i.sizes c.loop-i.i c.in_ok-sizes.field-0 0 within in
    let P : List ℕ → Type 0 = λ b. IsNumber b c.in_ok-sizes.field-0 in
    let Q : ℕ → Type 0 = λ n. IsNumber (get_or (texts c.args.words.now) c.loop-i.i []) n in
    let here = subst Q (sym written) (subst P (sym word) c.in_ok-sizes.ensures) in
    record {
      sized = length-set c.loop-i.sizes c.loop-i.i c.in_ok-sizes.field-0 ∙ c.loop-i.invariant.sized;
      read = below_more _ _
          (λ k h. let ne : k ≢ c.loop-i.i = omega arith in rw get_or-set_other (c.loop-i.invariant.read k h))
          here;
    }

pub returns-in_err-sizes : goal.returns-in_err-sizes
returns-in_err-sizes g c =
    let word = word-at c.args.words.now c.loop-i.i (record { ref_ptr = (0, 0); now = [] }) c.loop-i-test.true in
    let within : c.loop-i.i < length (texts c.args.words.now) = let whole = length-map c.args.words.now (λ (t : Bor (List ℕ)). t.now) in omega arith in
    rw c.from_residual.ensures (λ ns n small. none-are (texts c.args.words.now) c.loop-i.i (get_or c.args.words.now c.loop-i.i (record { ref_ptr = (0, 0); now = [] })).now word within c.in_err-sizes.ensures ns small)

pub returns : goal.returns
returns g c =
    let whole = length-map c.args.words.now (λ (t : Bor (List ℕ)). t.now) in
    let same : length (texts c.args.words.now) ≡ length c.loop-i.sizes = omega (arith, c.loop-i.invariant.sized) in
    are-all (texts c.args.words.now) c.loop-i.sizes same (λ i h. c.loop-i.invariant.read i (omega arith))
