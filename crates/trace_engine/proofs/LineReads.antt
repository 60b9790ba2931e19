-- The effect of a line of a trace file on the progress of reading.
use Rattle.std.proofs.Common.{◌≡◌, ℕ, ◌==◌, ◌<◌, ◌≤◌, ◌||◌, ◌&&◌, not, nat_lt, Bool, true, false, if◌then◌else◌, List, [], ◌∷◌, ◌++◌, length, codes, Option, Some, None, Result, Ok, Err, ◌⊎◌, inl, inr, refl, ap, sym, ◌∙◌, arith, true≢false}
use Rattle.std.proofs.lemmas.Bool.{or_left, or_right}
use Rattle.std.proofs.lemmas.Bool.Decides.{nat_tests}
use Rattle.std.specs.Int.{is_in_range}
use Rattle.std.specs.Option.{option_map_or, option_to_list}
use Rattle.std.specs.Str.{bytes_eq}
use Rattle.files.specs.{FaultKind, begins_with, counted, fault_if, known, statement_read, word, words_of, words_read, ◌>>=◌}
use Rattle.files.specs.declared.faults.FaultKind.TheVariants.{BadSetup, NotFirst, TooLong, Words}
use Rattle.files.proofs.Passing.{no_fault, passed}
use Rattle.trace_file.specs.scenario.{number_at}
use Rattle.trace.specs.{TraceEntry, TraceMemory, TraceRegister}
use Rattle.trace_file.specs.Keywords.{memory_of}
use Rattle.trace_file.specs.Reading.{entry_of, key_at}
use Rattle.trace_file.specs.TraceFiles.{TraceProgress, cell_name_of, cleared, declared_read, entry_in, entry_read, first_read, is_declared, kind_of, later_read, line_read, line_said, may_declare, memory_read, number_in, opening_of, processes_read, register_read, trace_begun, trace_grammar}
use Rattle.trace_file.specs.declared.keywords.TraceLineKind.{TraceLineKind}
use Rattle.trace_file.specs.declared.keywords.TraceLineKind.TheVariants as line

-- the line is not an entry, and what has ended stays ended
pub record LeftQuiet (p now : TraceProgress) : Type 0 where
  pub entry : now.entry ≡ p.entry
  pub stays : p.ended ≡ true → (now.ended ≡ true) × (now.setup ≡ p.setup)

-- the line is an entry, and the setup is unchanged
pub record LeftEntry (p now : TraceProgress) : Type 0 where
  pub entry : TraceEntry
  pub is : now.entry ≡ Some entry
  pub ended : now.ended ≡ true
  pub setup : now.setup ≡ p.setup

abbrev pub Left : TraceProgress → TraceProgress → Type 0
Left p now = LeftQuiet p now ⊎ LeftEntry p now

-- reading has one result
ok_same : {A : Type 0} (x y : A) → (let r : Result A FaultKind = Ok x in r) ≡ Ok y → x ≡ y
ok_same x y is = cc

same_left : (p : TraceProgress) → Left p p
same_left p = inl (record { entry = refl; stays = λ ended. (ended, refl) })

-- a heading or a register, which come before all entries
held : (p now : TraceProgress) (b : Bool) (r : Result TraceProgress FaultKind) → (fault_if b NotFirst >>= λ in_place. r) ≡ Ok now → (p.ended ≡ true → b ≡ true) → (r ≡ Ok now → now.entry ≡ p.entry) → Left p now
held p now b r is late keeps =
    let a = passed (fault_if b NotFirst) (λ in_place. r) now is in
    inl (record { entry = keeps a.next; stays = λ over. absurd (true≢false (sym (late over) ∙ no_fault b NotFirst a.value a.first)) })

-- `processes N` after its check
abbrev processes_rest : List (List ℕ) → TraceProgress → Result TraceProgress FaultKind
processes_rest words p = counted 1 words >>= λ counts. number_at 255 (word 0 words) >>= λ n. fault_if (not (is_in_range 1 16 n)) BadSetup >>= λ fits. Ok (record p { setup = record p.setup { processes = n }; has_processes = true })

processes_same : (words : List (List ℕ)) (p now : TraceProgress) → processes_rest words p ≡ Ok now → now.entry ≡ p.entry
processes_same words p now h =
    let a = passed (counted 1 words) (λ counts. number_at 255 (word 0 words) >>= λ n. fault_if (not (is_in_range 1 16 n)) BadSetup >>= λ fits. Ok (record p { setup = record p.setup { processes = n }; has_processes = true })) now h in
    let b = passed (number_at 255 (word 0 words)) (λ n. fault_if (not (is_in_range 1 16 n)) BadSetup >>= λ fits. Ok (record p { setup = record p.setup { processes = n }; has_processes = true })) now a.next in
    let c = passed (fault_if (not (is_in_range 1 16 b.value)) BadSetup) (λ fits. Ok (record p { setup = record p.setup { processes = b.value }; has_processes = true })) now b.next in
    ap (λ (q : TraceProgress). q.entry) (sym (ok_same (record p { setup = record p.setup { processes = b.value }; has_processes = true }) now c.next))

processes_left : (words : List (List ℕ)) (p now : TraceProgress) → processes_read words p ≡ Ok now → Left p now
unfolding processes_read
processes_left words p now is = held p now (p.has_processes || is_declared p) (processes_rest words p) is
    (λ over. or_right p.has_processes (is_declared p) (or_left p.ended (not (length p.setup.registers == 0)) over)) (processes_same words p now)

-- `memory M` after its check
abbrev memory_rest : TraceMemory → List (List ℕ) → TraceProgress → Result TraceProgress FaultKind
memory_rest memory words p = counted 0 words >>= λ counts. Ok (record p { setup = record p.setup { memory = memory }; has_memory = true })

memory_same : (memory : TraceMemory) (words : List (List ℕ)) (p now : TraceProgress) → memory_rest memory words p ≡ Ok now → now.entry ≡ p.entry
memory_same memory words p now h =
    let a = passed (counted 0 words) (λ counts. Ok (record p { setup = record p.setup { memory = memory }; has_memory = true })) now h in
    ap (λ (q : TraceProgress). q.entry) (sym (ok_same (record p { setup = record p.setup { memory = memory }; has_memory = true }) now a.next))

memory_left : (words : List (List ℕ)) (p now : TraceProgress) → memory_read words p ≡ Ok now → Left p now
unfolding memory_read
memory_left [] p now is =
    let a = passed (fault_if (p.has_memory || is_declared p) NotFirst) (λ in_place. Err Words) now is in
    absurd (let no : (let r : Result TraceProgress FaultKind = Err Words in r) ≡ Ok now = a.next in cc)
memory_left (name ∷ words) p now is =
    let a = passed (known (memory_of name)) (λ memory. fault_if (p.has_memory || is_declared p) NotFirst >>= λ in_place. memory_rest memory words p) now is in
    held p now (p.has_memory || is_declared p) (memory_rest a.value words p) a.next
    (λ over. or_right p.has_memory (is_declared p) (or_left p.ended (not (length p.setup.registers == 0)) over)) (memory_same a.value words p now)

-- a register after its check
declared_same : (r : TraceRegister) (p now : TraceProgress) → declared_read r p ≡ Ok now → now.entry ≡ p.entry
declared_same r p now h = by (may_declare p.setup r) h
  where
    by : (b : Bool) → (if b then Ok (record p { setup = record p.setup { registers = p.setup.registers ++ r ∷ [] } }) else Err BadSetup) ≡ Ok now → now.entry ≡ p.entry
    by true h = ap (λ (q : TraceProgress). q.entry) (sym (ok_same (record p { setup = record p.setup { registers = p.setup.registers ++ r ∷ [] } }) now h))
    by false h = absurd (cc)

abbrev named_rest : Bool → ℕ → ℕ → List (List ℕ) → TraceProgress → Result TraceProgress FaultKind
named_rest is_shared width value words p = cell_name_of (word 0 words) >>= λ name. declared_read (record { name = name; width = width; opens = value; is_shared = is_shared }) p

abbrev register_rest : Bool → List (List ℕ) → TraceProgress → Result TraceProgress FaultKind
register_rest is_shared words p =
    fault_if (not ((length words == 2) || (length words == 4))) Words >>= λ counts. number_at 255 (word 1 words) >>= λ width. opening_of words >>= λ value. named_rest is_shared width value words p

register_same : (is_shared : Bool) (words : List (List ℕ)) (p now : TraceProgress) → register_rest is_shared words p ≡ Ok now → now.entry ≡ p.entry
register_same is_shared words p now h =
    let a = passed (fault_if (not ((length words == 2) || (length words == 4))) Words) (λ counts. number_at 255 (word 1 words) >>= λ width. opening_of words >>= λ value. named_rest is_shared width value words p) now h in
    let b = passed (number_at 255 (word 1 words)) (λ width. opening_of words >>= λ value. named_rest is_shared width value words p) now a.next in
    let c = passed (opening_of words) (λ value. named_rest is_shared b.value value words p) now b.next in
    let d = passed (cell_name_of (word 0 words)) (λ name. declared_read (record { name = name; width = b.value; opens = c.value; is_shared = is_shared }) p) now c.next in
    declared_same (record { name = d.value; width = b.value; opens = c.value; is_shared = is_shared }) p now d.next

register_left : (is_shared : Bool) (words : List (List ℕ)) (p now : TraceProgress) → register_read is_shared words p ≡ Ok now → Left p now
unfolding register_read
register_left is_shared words p now is =
    let a = passed (key_at 2 (codes "opens") words) (λ opens. fault_if p.ended NotFirst >>= λ in_place. register_rest is_shared words p) now is in
    held p now p.ended (register_rest is_shared words p) a.next (λ over. over) (register_same is_shared words p now)

-- an entry
entry_left : (first : List ℕ) (words : List (List ℕ)) (p now : TraceProgress) → entry_read first words p ≡ Ok now → Left p now
entry_left first words p now is =
    let a = passed (entry_of p.setup.registers first words) (λ entry. Ok (record p { ended = true; entry = Some entry })) now is in
    let same = ok_same (record p { ended = true; entry = Some a.value }) now a.next in
    inr (record {
      entry = a.value;
      is = ap (λ (q : TraceProgress). q.entry) (sym same);
      ended = ap (λ (q : TraceProgress). q.ended) (sym same);
      setup = ap (λ (q : TraceProgress). q.setup) (sym same);
    })

-- a line after the first, by the meaning of its first word
said_left : (kind : TraceLineKind) (first : List ℕ) (words : List (List ℕ)) (p now : TraceProgress) → line_said kind first words p ≡ Ok now → Left p now
said_left line.Trace first words p now is = absurd (cc)
said_left line.Processes first words p now is = processes_left words p now is
said_left line.Memory first words p now is = memory_left words p now is
said_left line.Register first words p now is = register_left false words p now is
said_left line.Shared first words p now is = register_left true words p now is
said_left line.Entry first words p now is = entry_left first words p now is

-- a line after the first
pub record LeftLater (p : TraceProgress) (now : Option TraceProgress) : Type 0 where
  pub next : TraceProgress
  pub is : now ≡ Some next
  pub remaining : Left p next

pub later_remaining : (words : List (List ℕ)) (p : TraceProgress) (now : Option TraceProgress) → words_read trace_grammar words (Some p) ≡ Ok now → LeftLater p now
later_remaining [] p now is = record { next = p; is = sym (ok_same (Some p) now is); remaining = same_left p }
later_remaining (first ∷ words) p now is = by (begins_with 35 first) is
  where
    by : (b : Bool) → (if b then Ok (Some p) else statement_read trace_grammar first words (Some p)) ≡ Ok now → LeftLater p now
    by true is = record { next = p; is = sym (ok_same (Some p) now is); remaining = same_left p }
    by false is =
        let a = passed (later_read first words p) (λ s. Ok (Some s)) now is in
        let b = passed (known (kind_of first)) (λ kind. line_said kind first words p) a.value a.first in
        record { next = a.value; is = sym (ok_same (Some a.value) now a.next); remaining = said_left b.value first words p a.value b.next }

-- the first line is not an entry
first_none : (first : List ℕ) (words : List (List ℕ)) (p : TraceProgress) → first_read first words ≡ Ok p → p.entry ≡ None
first_none first words p is = by (bytes_eq first (codes "trace") && ((length words == 1) && bytes_eq (word 0 words) (codes "1"))) is
  where
    by : (b : Bool) → (if b then Ok trace_begun else Err NotFirst) ≡ Ok p → p.entry ≡ None
    by true is = ap (λ (q : TraceProgress). q.entry) (sym (ok_same trace_begun p is))
    by false is = absurd (cc)

pub first_left : (words : List (List ℕ)) (now : Option TraceProgress) → words_read trace_grammar words None ≡ Ok now → entry_in now ≡ []
first_left [] now is = ap entry_in (sym (ok_same None now is))
first_left (first ∷ words) now is = by (begins_with 35 first) is
  where
    by : (b : Bool) → (if b then Ok None else statement_read trace_grammar first words None) ≡ Ok now → entry_in now ≡ []
    by true is = ap entry_in (sym (ok_same None now is))
    by false is =
        let a = passed (first_read first words) (λ s. Ok (Some s)) now is in
        ap entry_in (sym (ok_same (Some a.value) now a.next)) ∙ ap option_to_list (first_none first words a.value a.first)

-- a line that is not too long is read by its words
pub short_read : (line : List ℕ) (before : Option TraceProgress) → length line ≤ 128 → line_read line before ≡ words_read trace_grammar (words_of line) before
short_read line before short =
    let test : nat_lt 128 (length line) ≡ false = grind (arith, nat_tests) in
    ap (λ t. if t then Err TooLong else words_read trace_grammar (words_of line) before) test

-- a line that is too long is refused
pub long_read : (line : List ℕ) (before : Option TraceProgress) → 128 < length line → line_read line before ≡ Err TooLong
long_read line before long =
    let test : nat_lt 128 (length line) ≡ true = grind (arith, nat_tests) in
    ap (λ t. if t then Err TooLong else words_read trace_grammar (words_of line) before) test

-- clearing the entry twice is clearing it once
pub clear_twice : (now : Option TraceProgress) → cleared (cleared now) ≡ cleared now
clear_twice None = refl
clear_twice (Some p) = refl

-- if no entry was read, clearing it changes nothing
pub quiet_is_cleared : (now : TraceProgress) → now.entry ≡ None → Some now ≡ cleared (Some now)
quiet_is_cleared now none = ap (λ (o : Option TraceEntry). Some (record now { entry = o })) none

-- a line is at most one entry
pub few_in : (now : Option TraceProgress) → length (entry_in now) ≤ 1
few_in None = omega arith
few_in (Some p) = by p.entry
  where
    by : (o : Option TraceEntry) → length (option_to_list o) ≤ 1
    by None = omega arith
    by (Some e) = omega arith

-- progress whose entry is cleared has none
pub empty : (p : TraceProgress) → cleared (Some p) ≡ Some p → p.entry ≡ None
empty p clear = ap (λ (o : Option TraceProgress). elim o as (λ _. Option TraceEntry) [ None ↦ None | Some q ↦ q.entry ]) (sym clear)

-- a line that is not an entry adds no number, and an entry adds its own
pub number_of_none : (n : ℕ) (now : Option TraceProgress) → entry_in now ≡ [] → number_in n now ≡ []
number_of_none n None none = refl
number_of_none n (Some p) none = by p.entry none
  where
    by : (o : Option TraceEntry) → option_to_list o ≡ [] → option_map_or (λ entry. n ∷ []) o [] ≡ []
    by None none = refl
    by (Some e) none = absurd (cc)

pub number_of_some : (n : ℕ) (now : TraceProgress) (e : TraceEntry) → now.entry ≡ Some e → number_in n (Some now) ≡ n ∷ []
number_of_some n now e says = ap (λ (o : Option TraceEntry). option_map_or (λ entry. n ∷ []) o []) says
