-- Each arm is a step of the cursor.
use Rattle.std.proofs.Common.{◌≡◌, Some, ap, ◌∙◌, arith, add-one}
use Rattle.std.proofs.lemmas.Int.{to_z-of_z}
use mir.Val.{to_z, of_z}
use mir.Syntax.{w64}
use Rattle.tm_programs.proofs.CursorsLemmas.{set-steps, inc-steps, repeat-steps, while-chosen, if-chosen, enter-room, end-open, end-steps}
use Rattle.tm_programs.proofs.Stepping.{repeat-opened, while-opened, if-opened, depth_room, last_split}
use Rattle.tm_programs.proofs.cursors.Cursor.step.Goals as goal

pub overflow_add-next : goal.overflow_add-next
overflow_add-next c = omega arith

pub repeat-requires : goal.repeat-requires
repeat-requires c =
    let here = c.requires.local.0 ∙ ap Some c.in-Repeat.is in
    enter-room c.args.code.now c.args.self.now c.requires.nested _ here tt c.requires.stands

pub choose-requires : goal.choose-requires
choose-requires c =
    let here = c.requires.local.0 ∙ ap Some c.in-While.is in
    enter-room c.args.code.now c.args.self.now c.requires.nested _ here tt c.requires.stands

pub choose-requires-in-If : goal.choose-requires-in-If
choose-requires-in-If c =
    let here = c.requires.local.0 ∙ ap Some c.in-If.is in
    enter-room c.args.code.now c.args.self.now c.requires.nested _ here tt c.requires.stands

pub leave-requires : goal.leave-requires
leave-requires c =
    omega (arith, depth_room c.args.code.now c.requires.nested c.args.self.now.place, c.requires.stands.depth)

pub returns-in-Set : goal.returns-in-Set
returns-in-Set c =
    let here = c.requires.local.0 ∙ ap Some c.in-Set.is in
    let e : to_z w64 (of_z w64 c.in-Set.value) ≡ c.in-Set.value = grind (arith, to_z-of_z) in
    rw (add-one, c.set.ensures, e)
    (set-steps c.args.code.now c.args.self.now _ _ here c.requires.stands)

pub returns-in-Inc : goal.returns-in-Inc
returns-in-Inc c =
    let here = c.requires.local.0 ∙ ap Some c.in-Inc.is in
    let e : to_z w64 (of_z w64 c.in-Inc.value) ≡ c.in-Inc.value = grind (arith, to_z-of_z) in
    rw (add-one, c.add.ensures, e)
    (inc-steps c.args.code.now c.args.self.now _ _ here c.requires.stands)

pub returns-in-Repeat : goal.returns-in-Repeat
returns-in-Repeat c =
    let here = c.requires.local.0 ∙ ap Some c.in-Repeat.is in
    let out = c.exit.ensures _ here tt in
    let it = repeat-opened c.args.code.now c.requires.nested c.args.self.now.place c.exit.result _ here out in
    rw (c.repeat.ensures, add-one)
    (repeat-steps c.args.code.now c.args.self.now c.exit.result c.requires.stands c.in-Repeat.turns it.0 it.1)

pub returns-in-While : goal.returns-in-While
returns-in-While c =
    let here = c.requires.local.0 ∙ ap Some c.in-While.is in
    let exit = c.exit-in-While in
    let out = exit.ensures _ here tt in
    let it =
    while-opened c.args.code.now c.requires.nested c.args.self.now.place exit.result _ _ _ here out in
    let e : to_z w64 (of_z w64 c.in-While.value) ≡ c.in-While.value = grind (arith, to_z-of_z) in
    let test = simp e at c.meets-again.ensures in
    rw (c.choose.ensures, add-one)
    (while-chosen c.args.code.now c.args.self.now exit.result c.requires.stands _ _ _ _ test it.0 it.1)

pub returns-in-If : goal.returns-in-If
returns-in-If c =
    let here = c.requires.local.0 ∙ ap Some c.in-If.is in
    let exit = c.exit-exit in
    let out = exit.ensures _ here tt in
    let it = if-opened c.args.code.now c.requires.nested c.args.self.now.place exit.result _ _ _ here out in
    let e : to_z w64 (of_z w64 c.in-If.value) ≡ c.in-If.value = grind (arith, to_z-of_z) in
    let test = simp e at c.meets-taken.ensures in
    rw (c.choose-in-If.ensures, add-one)
    (if-chosen c.args.code.now c.args.self.now exit.result c.requires.stands _ _ _ _ test it)

pub returns-in-End : goal.returns-in-End
returns-in-End c =
    let here = c.requires.local.0 ∙ ap Some c.in-End.is in
    let it =
    last_split c.args.self.now.blocks.items
    (end-open c.args.code.now c.args.self.now here c.requires.stands) in
    rw (c.leave.ensures it.0 it.1 it.2)
    (end-steps c.args.code.now c.args.self.now it.0 it.1 here c.requires.stands it.2)
