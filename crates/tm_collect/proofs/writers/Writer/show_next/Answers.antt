use Rattle.std.proofs.Common.{◌≡◌, Bool, true, MatchBool, ◌+◌, ◌++◌, ℕ, List, length, slice_get, Some, slice_index_or, ◌<◌, ◌≤◌, refl, sym, ap, ◌∙◌, subst, arith}
use Rattle.std.proofs.lemmas.Option.{slice_get-get_or}
use Rattle.tm_base.specs.declared.events.Entry.{Entry}
use Rattle.tm_base.specs.declared.operations.Op.TheVariants as op
use Rattle.tm_base.specs.declared.replies.Reply.TheVariants as reply
use Rattle.tm_base.specs.declared.bars.Bar.{Bar}
use Rattle.tm_text.specs.Exercises.{ExerciseView}
use Rattle.tm_timeline.specs.Rows.{row_of, NamesThread}
use Rattle.tm_replay.specs.JointSteps.{JointStep}
use Rattle.tm_replay.specs.SoundStates.{IsSoundJoint}
use Rattle.tm_replay.specs.Bars.{bars_of}
use Rattle.tm_joint.specs.declared.refusals.Illegal.{Illegal}
use Rattle.tm_joint.specs.Joints.{JointView}
use Rattle.tm_joint.specs.Refusals.{IsIllegal}
use Rattle.tm_collect.specs.Advancing.{Shows, IsNextIllegal, Advances}
use Rattle.tm_collect.specs.Sending.{Outlet, IsSent, Sends}
use Rattle.tm_collect.proofs.AdvancingLemmas.{Advances-one, Shows-none, bars-count, step-names}
use Rattle.tm_collect.proofs.SendingLemmas.{SendsPrefix-none}
use Rattle.tm_collect.proofs.WatchingLemmas.{told-one}
use Rattle.tm_collect.proofs.writers.Writer.show_next.Goals as goal

stopped : (x : ExerciseView) (es : List Entry) (v w : JointView) (o : Outlet) (e : Entry) (i : Illegal) → v.exercise ≡ x → w ≡ v → v.applied ≤ length es → slice_get es v.applied ≡ Some e
    → IsIllegal v.exercise v.state e i → Shows x es v w o o × IsNextIllegal x es w i
stopped x es v w o e i same kept within at illegal =
    subst (λ (u : JointView). Shows x es v u o o × IsNextIllegal x es u i) (sym kept) (
      Shows-none x es v o within,
      record {
        next = at ∙ ap Some (sym illegal.0);
        illegal = subst (λ (a : Entry). IsIllegal x v.state a i) (sym illegal.0) (subst (λ (y : ExerciseView). IsIllegal y v.state e i) same illegal);
      },
    )

along : (x : ExerciseView) (es : List Entry) (v w : JointView) (e : Entry) (n : ℕ) (bars : List Bar) (line : List ℕ) → v.exercise ≡ x → slice_get es v.applied ≡ Some e
    → JointStep v.exercise v.state e w.state → w.applied ≡ v.applied + 1 → w.exercise ≡ v.exercise → n ≡ w.applied → bars ≡ bars_of w.state → line ≡ row_of x n e bars → Advances x es v w line
along x es v w e n bars line same at step counted exercise number shown row =
    Advances-one x es v w e line at (subst (λ (y : ExerciseView). JointStep y v.state e w.state) same step) counted exercise
    (row ∙ ap (λ (m : ℕ). row_of x m e bars) number ∙ ap (λ (b : List Bar). row_of x w.applied e b) shown)

there : (es : List Entry) (n i : ℕ) (d : Entry) → i ≡ n → n < length es → slice_get es n ≡ Some (slice_index_or es i d)
there es n i d same within = subst (λ (k : ℕ). slice_get es n ≡ Some (slice_index_or es k d)) (sym same) (slice_get-get_or es n d within)

pub returns-in-Err-clause-stops : goal.returns-in-Err-clause-stops
returns-in-Err-clause-stops g c =
    let v = c.args.self.now.joint in
    let es = c.args.shown.now in
    stopped c.args.self.now.exercise.now es v c.apply.new.self _ _ c.in-Err.illegal c.requires.exercise c.in-Err.ensures.unchanged (omega (arith, c.requires.left))
    (there es v.applied c.applied-before.result _ c.applied-before.ensures.value c.requires.left) c.in-Err.ensures.cause

pub append_row-requires-clause-granted : goal.append_row-requires-clause-granted
append_row-requires-clause-granted g c =
    let v = c.args.self.now.joint in
    subst (λ (y : ExerciseView). NamesThread y (slice_index_or c.args.shown.now c.applied-before.result (record { thread = 0; place = 0; object = 0; at = 0; stamp = 0; op = op.Lock; reply = reply.Ok })).reply) c.requires.exercise
    (step-names v.exercise v.state c.apply.new.self.state _ c.applied-before.ensures.kept.sound c.in_default.ensures.step)

pub append_row-requires-clause-bars : goal.append_row-requires-clause-bars
append_row-requires-clause-bars g c =
    let w = c.apply.new.self in
    bars-count c.args.self.now.exercise.now w.state c.bars-bars.result.now
    (subst (λ (y : ExerciseView). IsSoundJoint y w.state) (c.in_default.ensures.exercise ∙ c.requires.exercise) c.applied-number.ensures.kept.sound) c.bars-bars.ensures

advanced : (x : ExerciseView) (es : List Entry) (v w : JointView) (i : ℕ) (d : Entry) (n : ℕ) (bars : List Bar) (line : List ℕ) → v.exercise ≡ x → v.applied < length es → i ≡ v.applied
    → JointStep v.exercise v.state (slice_index_or es i d) w.state → w.applied ≡ v.applied + 1 → w.exercise ≡ v.exercise → n ≡ w.applied → bars ≡ bars_of w.state → line ≡ row_of x n (slice_index_or es i d) bars
    → Advances x es v w line
advanced x es v w i d n bars line same left place step counted exercise number shown row =
    along x es v w (slice_index_or es i d) n bars line same (there es v.applied i d place left) step counted exercise number shown row

pub returns-in_default-append_row-clause-stops : goal.returns-in_default-append_row-clause-stops
returns-in_default-append_row-clause-stops g c =
    let x = c.args.self.now.exercise.now in
    let e = slice_index_or c.args.shown.now c.applied-before.result (record { thread = 0; place = 0; object = 0; at = 0; stamp = 0; op = op.Lock; reply = reply.Ok }) in
    let line = row_of x c.applied-number.result e c.bars-bars.result.now in
    record {
      rows = line;
      advances = advanced x c.args.shown.now c.args.self.now.joint c.apply.new.self c.applied-before.result _ c.applied-number.result c.bars-bars.result.now line c.requires.exercise c.requires.left
          c.applied-before.ensures.value c.in_default.ensures.step c.in_default.ensures.counted c.in_default.ensures.exercise c.applied-number.ensures.value c.bars-bars.ensures refl;
      sent = SendsPrefix-none _ line;
    }

pub returns-clause-shows : goal.returns-clause-shows
returns-clause-shows g c =
    let w = c.apply.new.self in
    let line = c.append_row.new.out.items in
    let made = row_of c.args.self.now.exercise.now c.applied-number.result (slice_index_or c.args.shown.now c.applied-before.result (record { thread = 0; place = 0; object = 0; at = 0; stamp = 0; op = op.Lock; reply = reply.Ok })) c.bars-bars.result.now in
    let row : line ≡ made = c.in-Ok.ensures.appended ∙ ap (λ (l : List ℕ). l ++ made) c.clear.ensures.items in
    let one = advanced c.args.self.now.exercise.now c.args.shown.now c.args.self.now.joint w c.applied-before.result _ c.applied-number.result c.bars-bars.result.now line c.requires.exercise c.requires.left
    c.applied-before.ensures.value c.in_default.ensures.step c.in_default.ensures.counted c.in_default.ensures.exercise c.applied-number.ensures.value c.bars-bars.ensures row in
    record {
      rows = line;
      advances = subst (λ (u : JointView). Advances c.args.self.now.exercise.now c.args.shown.now c.args.self.now.joint u line) (sym c.send_row.ensures.joint) one;
      sent = c.send_row.ensures.sent;
    }

-- nothing is sent where a write failed before
nothing_sent : (o : Outlet) (line : List ℕ) → o.failed ≡ true → Sends o o line
nothing_sent o line failed = subst (λ (b : Bool). MatchBool b (o ≡ o) (IsSent o o line)) (sym failed) refl

pub returns-then-self-clause-shows : goal.returns-then-self-clause-shows
returns-then-self-clause-shows g c =
    let x = c.args.self.now.exercise.now in
    let w = c.apply.new.self in
    let e = slice_index_or c.args.shown.now c.applied-before.result (record { thread = 0; place = 0; object = 0; at = 0; stamp = 0; op = op.Lock; reply = reply.Ok }) in
    let line = row_of x w.applied e (bars_of w.state) in
    record {
      rows = line;
      advances = advanced x c.args.shown.now c.args.self.now.joint w c.applied-before.result _ w.applied (bars_of w.state) line c.requires.exercise c.requires.left
          c.applied-before.ensures.value c.in_default.ensures.step c.in_default.ensures.counted c.in_default.ensures.exercise refl refl refl;
      sent = nothing_sent _ line c.if-self.true;
    }

pub returns-in_default-append_row-clause-watched : goal.returns-in_default-append_row-clause-watched
returns-in_default-append_row-clause-watched g c =
    told-one _ _ c.args.shown.now c.args.self.now.joint.applied c.apply.new.self.applied _
    (there c.args.shown.now c.args.self.now.joint.applied c.applied-before.result _ c.applied-before.ensures.value c.requires.left) c.in_default.ensures.counted c.tell.ensures

pub returns-clause-watched : goal.returns-clause-watched
returns-clause-watched g c =
    told-one _ _ c.args.shown.now c.args.self.now.joint.applied c.send_row.new.self.joint.applied _
    (there c.args.shown.now c.args.self.now.joint.applied c.applied-before.result _ c.applied-before.ensures.value c.requires.left)
    (ap (λ (u : JointView). u.applied) c.send_row.ensures.joint ∙ c.in_default.ensures.counted) c.tell.ensures
