-- Thread, object and operation fix the event that happens, and the joint state after it.
use Rattle.std.proofs.Common.{◌≡◌, ℕ, suc, max, List, Some, slice_get, slice_set, ap, sym, ◌∙◌, subst}
use Rattle.tm_base.specs.declared.operations.Op.{Op}
use Rattle.tm_base.specs.declared.replies.Reply.{Reply}
use Rattle.tm_base.specs.declared.events.Entry.{Entry}
use Rattle.tm_base.specs.States.{State}
use Rattle.tm_base.specs.Histories.{Lawful}
use Rattle.tm_laws.proofs.Determined.{Lawful-one, Lawful-reply}
use Rattle.tm_replay.specs.JointStates.{JointState, ThreadState, ObjectState}
use Rattle.tm_replay.specs.JointSteps.{Happens, entered, stepped}

-- records are the same where their fields are
entry-alike : (d e : Entry) → d.thread ≡ e.thread → d.place ≡ e.place → d.object ≡ e.object → d.at ≡ e.at
    → d.stamp ≡ e.stamp → d.op ≡ e.op → d.reply ≡ e.reply → d ≡ e
entry-alike d e thread place object at stamp does reply =
    ap (λ n. made n d.place d.object d.at d.stamp d.op d.reply) thread
    ∙ ap (λ n. made e.thread n d.object d.at d.stamp d.op d.reply) place
    ∙ ap (λ n. made e.thread e.place n d.at d.stamp d.op d.reply) object
    ∙ ap (λ n. made e.thread e.place e.object n d.stamp d.op d.reply) at
    ∙ ap (λ n. made e.thread e.place e.object e.at n d.op d.reply) stamp
    ∙ ap (λ o. made e.thread e.place e.object e.at e.stamp o d.reply) does
    ∙ ap (made e.thread e.place e.object e.at e.stamp e.op) reply
  where
    made : ℕ → ℕ → ℕ → ℕ → ℕ → Op → Reply → Entry
    made thread place object at stamp o r = record { thread = thread; place = place; object = object; at = at; stamp = stamp; op = o; reply = r }

joint-alike : (j k : JointState) → j.objects ≡ k.objects → j.threads ≡ k.threads → j ≡ k
joint-alike j k objects threads =
    ap (λ (l : List ObjectState). made l j.threads) objects ∙ ap (made k.objects) threads
  where
    made : List ObjectState → List ThreadState → JointState
    made objects threads = record { objects = objects; threads = threads }

-- one thread stands at one place
same-thread_state : (j k m : JointState) (e f : Entry) (x : Happens j e k) (y : Happens j f m) → e.thread ≡ f.thread → x.thread_state ≡ y.thread_state
same-thread_state j k m e f x y thread =
    let found : Some x.thread_state ≡ Some y.thread_state = sym x.thread ∙ ap (slice_get j.threads) thread ∙ y.thread in cc

same-object_state : (j k m : JointState) (e f : Entry) (x : Happens j e k) (y : Happens j f m) → e.object ≡ f.object → x.object_state ≡ y.object_state
same-object_state j k m e f x y object =
    let found : Some x.object_state ≡ Some y.object_state = sym x.object ∙ ap (slice_get j.objects) object ∙ y.object in cc

pub Happens-one : (j k m : JointState) (e f : Entry) → Happens j e k → Happens j f m
    → e.thread ≡ f.thread → e.object ≡ f.object → e.op ≡ f.op → (e ≡ f) × (k ≡ m)
Happens-one j k m e f x y thread object does =
    let seat : x.thread_state ≡ y.thread_state = same-thread_state j k m e f x y thread in
    let object_state : x.object_state ≡ y.object_state = same-object_state j k m e f x y object in
    let by : Lawful y.object_state.view f.thread f.op e.reply x.state =
    subst (λ (o : Op). Lawful y.object_state.view f.thread o e.reply x.state) does
    (subst (λ (t : ℕ). Lawful y.object_state.view t e.op e.reply x.state) thread
    (subst (λ (b : ObjectState). Lawful b.view e.thread e.op e.reply x.state) object_state x.lawful)) in
    let reply : e.reply ≡ f.reply = Lawful-reply y.object_state.view f.thread f.op e.reply f.reply x.state y.state by y.lawful in
    let state : x.state ≡ y.state = Lawful-one y.object_state.view f.thread f.op f.reply x.state y.state
    (subst (λ (r : Reply). Lawful y.object_state.view f.thread f.op r x.state) reply by) y.lawful in
    let place : e.place ≡ f.place = x.place ∙ ap (λ (s : ThreadState). s.next) seat ∙ sym y.place in
    let at : e.at ≡ f.at = x.at ∙ ap (λ (b : ObjectState). suc b.at) object_state ∙ sym y.at in
    let stamp : e.stamp ≡ f.stamp = x.stamp ∙ ap (λ (s : ThreadState). suc (max s.stamp x.object_state.stamp)) seat
    ∙ ap (λ (b : ObjectState). suc (max y.thread_state.stamp b.stamp)) object_state ∙ sym y.stamp in
    let event : e ≡ f = entry-alike e f thread place object at stamp does reply in
    let objects : k.objects ≡ m.objects = x.objects
    ∙ ap (λ (d : Entry). slice_set j.objects d.object (entered x.object_state d x.state)) event
    ∙ ap (λ (b : ObjectState). slice_set j.objects f.object (entered b f x.state)) object_state
    ∙ ap (λ (s : State). slice_set j.objects f.object (entered y.object_state f s)) state ∙ sym y.objects in
    let threads : k.threads ≡ m.threads = x.threads
    ∙ ap (λ (d : Entry). slice_set j.threads d.thread (stepped x.thread_state d)) event
    ∙ ap (λ (s : ThreadState). slice_set j.threads f.thread (stepped s f)) seat ∙ sym y.threads in
    (event, joint-alike k m objects threads)
