-- What was sent of a legal run's text.
use Rattle.std.proofs.Common.{◌≡◌, ℕ, ◌≤◌, Bool, false, List, [], ◌∷◌, ◌++◌, length, drop, Option, None, MatchBool, refl, sym, ap, ◌∙◌, subst, append_assoc, append-nil, length-append, arith}
use Rattle.tm_base.specs.declared.events.Entry.{Entry}
use Rattle.tm_laws.proofs.RunsLemmas.{Leads-append}
use Rattle.tm_outside.specs.Appending.{AppendsPrefix, AppendsProperPrefix}
use Rattle.tm_outside.proofs.AppendingLemmas.{AppendsPrefix-none}
use Rattle.tm_text.specs.Exercises.{ExerciseView}
use Rattle.tm_joint.specs.Joints.{JointView}
use Rattle.tm_collect.specs.Advancing.{Advances, BreaksOff, Shows}
use Rattle.tm_collect.specs.Sending.{IsSent, Outlet, Sends}
use Rattle.tm_collect.specs.Transcripts.{Transcript, AddsRow, AreRows, first_joint, transcript_at}
use Rattle.tm_collect.proofs.AdvancingLemmas.{Advances-none}
use Rattle.tm_collect.proofs.SendingLemmas.{Sends-join, Sends-prefix}
use Rattle.tm_collect.proofs.TranscriptsLemmas.{AddsRows, adds-rows, rows-one}
use Rattle.tm_legal_rows.specs.LegalTexts.{IsLegal, IsLegalText, legal_line}
use Rattle.tm_legal_rows.proofs.LegalRuns.{applied-rest, rest-run}

-- a prefix of the bytes is a proper one where more follow
proper : (old new : Option (List ℕ)) (bytes more : List ℕ) → 1 ≤ length more → AppendsPrefix old new bytes → AppendsProperPrefix old new (bytes ++ more)
proper old new bytes more some p = record {
  prefix = p.prefix;
  back = p.back ++ more;
  split = ap (λ (l : List ℕ). l ++ more) p.split ∙ append_assoc p.prefix p.back more;
  missing = rw length-append (omega (arith, some));
  appended = p.appended;
}

-- a line isn't empty
line-some : (more : List ℕ) (n : ℕ) → 1 ≤ length (more ++ legal_line n)
line-some more n = rw length-append (omega arith)

module _ (x : ExerciseView) (es : List Entry) where
  -- a prefix of the text was written, and not all of it
  abbrev pub HasBegun : Option (List ℕ) → Option (List ℕ) → Type 0
  HasBegun old new = (bytes : List ℕ) × IsLegalText x es bytes × AppendsProperPrefix old new bytes

  abbrev line : List ℕ
  line = legal_line (length es)

  pub text-one : (bytes text : List ℕ) → IsLegalText x es bytes → IsLegalText x es text → bytes ≡ text
  text-one bytes text a b =
      a.text ∙ ap (λ (p : Transcript). p.rows ++ line) (rows-one x es (transcript_at (first_joint x) []) a.transcript b.transcript a.rows b.rows) ∙ sym b.text

  module _ (w : JointView) (rows : List ℕ) (a : Advances x es (first_joint x) w rows) where
    -- the text where all events were applied
    pub text-whole : w.applied ≡ length es → IsLegalText x es (rows ++ line)
    text-whole whole =
        let none : drop w.applied es ≡ [] = ap (λ (n : ℕ). drop n es) whole ∙ drop-all es in
        let all : a.news ≡ es = sym (append-nil a.news) ∙ ap (λ (l : List Entry). a.news ++ l) (sym none) ∙ sym (applied-rest x es w rows a) in
        record {
          transcript = transcript_at w rows;
          rows = subst (λ (l : List Entry). AreRows x l (transcript_at w rows)) all a.transcript;
          text = refl;
        }
      where
        drop-all : {A : Type 0} (l : List A) → drop (length l) l ≡ []
        drop-all [] = refl
        drop-all (e ∷ l) = drop-all l

    module _ (legal : IsLegal x es) where
      added : AddsRows x (transcript_at w rows) (drop w.applied es) legal.0
      added = adds-rows x (drop w.applied es) (transcript_at w rows) legal.0 (rest-run x es w rows a legal.0 legal.1)

      -- the text, whichever events were applied
      text-more : IsLegalText x es (added.transcript.rows ++ line)
      text-more = record {
        transcript = added.transcript;
        rows = subst (λ (l : List Entry). AreRows x l added.transcript) (sym (applied-rest x es w rows a))
            (Leads-append (AddsRow x) a.news (drop w.applied es) (transcript_at (first_joint x) []) (transcript_at w rows) added.transcript a.transcript added.rows);
        text = refl;
      }

      pub has-begun : (old new : Option (List ℕ)) (front back : List ℕ) → rows ≡ front ++ back → AppendsPrefix old new front → HasBegun old new
      has-begun old new front back split sent =
          let more : List ℕ = (back ++ added.more) ++ line in
          let whole : added.transcript.rows ++ line ≡ front ++ more =
          ap (λ (l : List ℕ). l ++ line) (added.text ∙ ap (λ (l : List ℕ). l ++ added.more) split ∙ append_assoc front back added.more) ∙ append_assoc front (back ++ added.more) line in (
            front ++ more,
            subst (IsLegalText x es) whole text-more,
            proper old new front more (line-some (back ++ added.more) (length es)) sent,
          )

  module _ (legal : IsLegal x es) where
    pub begun-none : (old new : Option (List ℕ)) → new ≡ old → HasBegun old new
    begun-none old new same = has-begun (first_joint x) [] (Advances-none x es (first_joint x) (omega arith)) legal old new [] [] refl (AppendsPrefix-none old new [] same)

    pub has-text : (bytes : List ℕ) × IsLegalText x es bytes
    has-text = let begun = begun-none None None refl in (begun.0, begun.1)

    -- of a writer whose exercise is this one
    module _ (y : ExerciseView) (same : y ≡ x) (v w : JointView) (fresh : v ≡ first_joint x) (o p : Outlet) where
      pub begun-breaks : BreaksOff y es v w o p → HasBegun o.written p.written
      begun-breaks breaks =
          let b : BreaksOff x es v w o p = subst (λ (z : ExerciseView). BreaksOff z es v w o p) same breaks in
          has-begun w b.rows (subst (λ (u : JointView). Advances x es u w b.rows) fresh b.advances) legal o.written p.written b.sent.prefix b.sent.back b.sent.split
          (Sends-prefix o p b.sent.prefix b.sent.sent)

      pub begun-shows : Shows y es v w o p → HasBegun o.written p.written
      begun-shows shows =
          let s : Shows x es v w o p = subst (λ (z : ExerciseView). Shows z es v w o p) same shows in
          has-begun w s.rows (subst (λ (u : JointView). Advances x es u w s.rows) fresh s.advances) legal o.written p.written s.rows [] (sym (append-nil s.rows))
          (Sends-prefix o p s.rows s.sent)

  -- the rows and then the last line were sent
  pub sent-whole : (y : ExerciseView) (v w : JointView) (o p q : Outlet) (last : List ℕ) → y ≡ x → v ≡ first_joint x → o.failed ≡ false → Shows y es v w o p → w.applied ≡ length es
      → last ≡ line → Sends p q last → (bytes : List ℕ) × IsLegalText x es bytes × IsSent o q bytes
  sent-whole y v w o p q last same fresh unfailed shows whole made sent =
      let s : Shows x es v w o p = subst (λ (z : ExerciseView). Shows z es v w o p) same shows in
      let all : Sends o q (s.rows ++ line) = Sends-join o p q s.rows line s.sent (subst (Sends p q) made sent) in (
        s.rows ++ line,
        text-whole w s.rows (subst (λ (u : JointView). Advances x es u w s.rows) fresh s.advances) whole,
        subst (λ (b : Bool). MatchBool b (q ≡ o) (IsSent o q (s.rows ++ line))) unfailed all,
      )
