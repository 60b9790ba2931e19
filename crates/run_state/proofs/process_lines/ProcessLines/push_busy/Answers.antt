use Rattle.std.proofs.Common.{◌≡◌, ◌++◌, ℕ, List, None, Option, Some, length, ap, sym, subst, ◌∙◌}
use Rattle.std.specs.Prelude.{Bool, option_map}
use Rattle.plain_store.specs.{Setup}
use Rattle.model.proofs.Width.{is_good}
use Rattle.model.specs.{Access, Past, past_of, width}
use Rattle.calls.specs.world.laws.{Doing, RegisterWrite, doing, register_write}
use Rattle.calls.specs.world.laws.Writes.{WritesFitTheirRegister, WritesLeaveTheirBits}
use Rattle.calls.specs.world.process.{ProcessState, AccessProgress, bytes_written, number_read, progress, settling_of}
use Rattle.calls.specs.world.process.registers.{register_bytes}
use Rattle.run_state.specs.{AreGiven, AreOf, ComesNext, ProcessLines, busy_lines, process_line, reads_words, settling_lines, settling_progress, shown, writes_words}
use Rattle.run_state.proofs.ObservedWorlds.{events_of, ok_then, place_is}
use Rattle.run_state.proofs.Written.{IsBusyWith, busy_with, settling_is, some_progress, some_same}
use Rattle.run_state.proofs.process_lines.ProcessLines.push_busy.Goals as goal

-- its line, by the past of the lines
busy_of : WritesFitTheirRegister → WritesLeaveTheirBits → (l : ProcessLines) (past : Past) (a : Access) (g : AccessProgress) → AreGiven l → AreOf l past → ComesNext l.setup.now past l.process a → settling_of (doing l.setup.now l.process past) ≡ None →
    progress l.setup.now l.process (doing l.setup.now l.process past) ≡ Some g →
    IsBusyWith l.setup.now past l.process a (number_read (doing l.setup.now l.process past)) g (register_write l.setup.now l.process (doing l.setup.now l.process past))
busy_of fits leaves l past a g given u =
    let s : Setup = l.setup.now in
    let p : ℕ = l.process in
    subst (λ q. ComesNext s q p a → settling_of (doing s p q) ≡ None → progress s p (doing s p q) ≡ Some g → IsBusyWith s q p a (number_read (doing s p q)) g (register_write s p (doing s p q)))
    (events_of l past given u) (busy_with fits leaves s given.good u.events p a (number_read (doing s p (past_of s u.events))) g)

-- some access comes next, so that there is progress
gone : (l : ProcessLines) (past : Past) (a : Access) → AreGiven l → AreOf l past → ComesNext l.setup.now past l.process a → progress l.setup.now l.process (doing l.setup.now l.process past) ≡ None → ⊥
gone l past a given u =
    let s : Setup = l.setup.now in
    let p : ℕ = l.process in
    subst (λ q. ComesNext s q p a → progress s p (doing s p q) ≡ None → ⊥) (events_of l past given u) (some_progress s (is_good s given.good) u.events p a)

abbrev bytes_of : Option RegisterWrite → Option (List ℕ)
bytes_of o = option_map (λ (w : RegisterWrite). register_bytes w.bits) o

none_some : (x : List ℕ) → None ≡ Some x → ⊥
none_some x h = cc

some_bytes : (x y : List ℕ) → Some x ≡ Some y → x ≡ y
some_bytes x y h = cc

writes_by : (s : Setup) (past : Past) (p : ℕ) (a : Access) (n : ℕ) (g : AccessProgress) (bytes start new : List ℕ) (o : Option RegisterWrite) → IsBusyWith s past p a n g o → bytes_of o ≡ Some bytes →
    ((bits : List Bool) → length bits ≡ width s a.field → bytes ≡ register_bytes bits → new ≡ start ++ process_line p (writes_words a g ++ shown s a.field bits)) → new ≡ start ++ busy_lines s past p a n None
writes_by s past p a n g bytes start new None is h wrote = absurd (none_some bytes h)
writes_by s past p a n g bytes start new (Some w) is h wrote = wrote w.bits is.0 (sym (some_bytes _ bytes h)) ∙ ap (λ l. start ++ l) (sym is.1)

reads_by : (s : Setup) (past : Past) (p : ℕ) (a : Access) (n : ℕ) (g : AccessProgress) (o : Option RegisterWrite) → IsBusyWith s past p a n g o → bytes_of o ≡ None → busy_lines s past p a n None ≡ process_line p (reads_words a g n)
reads_by s past p a n g None is h = is
reads_by s past p a n g (Some w) is h = absurd (none_some _ (sym h))

pub returns-in_default : goal.returns-in_default
returns-in_default c = λ past u next.
    let l : ProcessLines = c.args.self.now in
    let place = place_is l past c.process-place.result.now c.requires u c.process-place.ensures in
    absurd (gone l past c.args.next.now c.requires u next (sym (c.progress.ensures ∙ ap (λ (q : ProcessState). progress q.setup q.process q.doing) place) ∙ c.in_default.is))

pub returns-in-Some-settling : goal.returns-in-Some-settling
returns-in-Some-settling c = ok_then c.push_settling.result
    (λ wrote past u next.
    let l : ProcessLines = c.args.self.now in
    let s = l.setup.now in
    let p : ℕ = l.process in
    let d : Doing = doing s p past in
    let start = c.args.text.now.items in
    let t = c.in-Some-settling.torn in
    let place = place_is l past c.process-place.result.now c.requires u c.process-place.ensures in
    let made : progress s p d ≡ Some c.in-Some.progress = sym (c.progress.ensures ∙ ap (λ (q : ProcessState). progress q.setup q.process q.doing) place) ∙ c.in-Some.is in
    let torn : settling_of d ≡ Some t = sym (c.settling.ensures ∙ ap (λ (q : ProcessState). settling_of q.doing) place) ∙ c.in-Some-settling.is in
    wrote ∙ ap (λ g. start ++ settling_lines p t g) (some_same c.in-Some.progress (settling_progress s t) (sym made ∙ settling_is s p d t torn))
    ∙ ap (λ o. start ++ busy_lines s past p c.args.next.now (number_read d) o) (sym torn))
    c.push_settling.ensures

pub returns-in-Some-writing : goal.returns-in-Some-writing
returns-in-Some-writing c = ok_then c.push_writing.result
    (λ wrote past u next.
    let l : ProcessLines = c.args.self.now in
    let s = l.setup.now in
    let p : ℕ = l.process in
    let a = c.args.next.now in
    let d : Doing = doing s p past in
    let start = c.args.text.now.items in
    let g = c.in-Some.progress in
    let place = place_is l past c.process-place.result.now c.requires u c.process-place.ensures in
    let made : progress s p d ≡ Some g = sym (c.progress.ensures ∙ ap (λ (q : ProcessState). progress q.setup q.process q.doing) place) ∙ c.in-Some.is in
    let none : settling_of d ≡ None = sym (c.settling.ensures ∙ ap (λ (q : ProcessState). settling_of q.doing) place) ∙ c.in_default-settling.is in
    let bytes = sym (c.writing.ensures ∙ ap (λ (q : ProcessState). bytes_written q.setup q.process q.doing) place) ∙ c.in-Some-writing.is in
    let busy = busy_of c.writes_leave_their_bits.ensures.fits c.writes_leave_their_bits.ensures.leaves l past a g c.requires u next none made in
    writes_by s past p a (number_read d) g c.in-Some-writing.bytes start c.push_writing.new.text.items (register_write s p d) busy bytes wrote
    ∙ ap (λ o. start ++ busy_lines s past p a (number_read d) o) (sym none))
    c.push_writing.ensures

pub returns : goal.returns
returns c = ok_then c.push_words.result
    (λ wrote past u next.
    let l : ProcessLines = c.args.self.now in
    let s = l.setup.now in
    let p : ℕ = l.process in
    let a = c.args.next.now in
    let d : Doing = doing s p past in
    let start = c.args.text.now.items in
    let g = c.in-Some.progress in
    let place = place_is l past c.process-place.result.now c.requires u c.process-place.ensures in
    let made : progress s p d ≡ Some g = sym (c.progress.ensures ∙ ap (λ (q : ProcessState). progress q.setup q.process q.doing) place) ∙ c.in-Some.is in
    let none : settling_of d ≡ None = sym (c.settling.ensures ∙ ap (λ (q : ProcessState). settling_of q.doing) place) ∙ c.in_default-settling.is in
    let unwritten = sym (c.writing.ensures ∙ ap (λ (q : ProcessState). bytes_written q.setup q.process q.doing) place) ∙ c.in_default-writing.is in
    let busy = busy_of c.writes_leave_their_bits.ensures.fits c.writes_leave_their_bits.ensures.leaves l past a g c.requires u next none made in
    let number : c.number_read.result ≡ number_read d = c.number_read.ensures ∙ ap (λ (q : ProcessState). number_read q.doing) place in
    wrote ∙ ap (λ w. start ++ process_line p w) (c.in_ok-words.ensures ∙ ap (reads_words a g) number)
    ∙ ap (λ w. start ++ w) (sym (reads_by s past p a (number_read d) g (register_write s p d) busy unwritten))
    ∙ ap (λ o. start ++ busy_lines s past p a (number_read d) o) (sym none))
    c.push_words.ensures
