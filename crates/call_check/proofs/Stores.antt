-- The stores are followed over the places, and the calls are noted.
use Rattle.std.proofs.Common.{◌≡◌, ◌≢◌, ℕ, zero, suc, ◌+◌, ◌-◌, ◌<◌, ◌≤◌, Bool, true, false, cond, nat_le, List, [], ◌∷◌, length, get_or, Option, None, Some, All, IsTrue, refl, sym, ap, subst, ◌∙◌, arith, ⊎_elim, true≢false}
use Rattle.std.proofs.lemmas.Bool.{cases_lt}
use Rattle.std.proofs.lemmas.Bool.Decides.{nat_tests}
use Rattle.std.proofs.lemmas.List.Elements.{All-filter, All-head, All-same}
use Rattle.std.proofs.lemmas.Option.{slice_get-get_or, slice_get_within}
use Rattle.std.specs.List.{slice_get}
use Rattle.plain_store.specs.{Caller, Contents, Setup, after, changes, reply_to}
use Rattle.call_check.specs.{AreBlank, AreFew, AreNotedAt, AreNotedBelow, Call, ChangingCalls, HasWrongReply, IsBlank, IsCaller, IsFew, IsFollowed, IsNote, IsNoteBy, Note, after_one, caller_of, calls_at, changes_at, changes_of, changes_there, is_place, store_after, store_at}
use Rattle.call_check.specs.declared.notes.ChangingCalls.TheVariants.{Nothing, One, Several}
use Rattle.call_check.proofs.CallNotes.{callers_of_store, from_some, none_after, none_at, none_remaining, none_some}
use Rattle.call_check.proofs.Places.{same_or_not}
use Rattle.call_check.proofs.Walking.{is_there}

-- the number of changes, up to two

abbrev pub kind : ChangingCalls → ℕ
kind Nothing = 0
kind (One call) = 1
kind Several = 2

abbrev pub call_or : Call → ChangingCalls → Call
call_or d Nothing = d
call_or d (One call) = call
call_or d Several = d

is_nothing : (l : List Call) → changes_of l ≡ Nothing → l ≡ []
is_nothing [] is = refl
is_nothing (x ∷ []) is = let h : 1 ≡ 0 = ap kind is in absurd (omega (arith, h))
is_nothing (x ∷ y ∷ xs) is = let h : 2 ≡ 0 = ap kind is in absurd (omega (arith, h))

is_one : (l : List Call) (call : Call) → changes_of l ≡ One call → l ≡ call ∷ []
is_one [] call is = let h : 0 ≡ 1 = ap kind is in absurd (omega (arith, h))
is_one (x ∷ []) call is = ap (λ (y : Call). y ∷ []) (ap (call_or x) is)
is_one (x ∷ y ∷ xs) call is = let h : 2 ≡ 1 = ap kind is in absurd (omega (arith, h))

at_least_two : (n : ℕ) → nat_le 2 (suc (suc n)) ≡ true
at_least_two n = grind (arith, nat_tests)

is_several : (s : Setup) (store : Contents) (l : List Call) → changes_of l ≡ Several → (after_one s store l ≡ None) × (nat_le 2 (length l) ≡ true)
is_several s store [] is = let h : 0 ≡ 2 = ap kind is in absurd (omega (arith, h))
is_several s store (x ∷ []) is = let h : 1 ≡ 2 = ap kind is in absurd (omega (arith, h))
is_several s store (x ∷ y ∷ xs) is = (refl, at_least_two (length xs))

-- notes

note_is : (s : Setup) (calls : List Call) (k : ℕ) (store : Contents) (call : Call) (note : Note) → store_at s calls k ≡ Some store → call.placed.place ≡ Some k → IsNoteBy s store call note → IsNote s calls call note
note_is s calls k store call note at placed is = record {
  changes = λ j placed_j.
      let same : k ≡ j = from_some k j (sym placed ∙ placed_j) in
      is.changes ∙ sym (ap (λ (o : Option Contents). changes_there o call.placed) (subst (λ m. store_at s calls m ≡ Some store) same at));
  wrong = (
    λ t. let w = is.wrong.0 t in record { place = k; store = store; reply = w.reply; taken = placed; there = at; answered = w.answered; wrong = w.wrong },
    λ (w : HasWrongReply s calls call).
        let same : w.place ≡ k = from_some w.place k (sym w.taken ∙ placed) in
        let same_store : store ≡ w.store = from_some store w.store (sym at ∙ subst (λ m. store_at s calls m ≡ Some w.store) same w.there) in
        is.wrong.1 (record { reply = w.reply; answered = w.answered; wrong = λ e. w.wrong (e ∙ ap (λ (st : Contents). reply_to st call.placed.command (caller_of s call)) same_store) }),
  );
}

-- a blank note is right if no store is at the place
blank_is : (s : Setup) (calls : List Call) (call : Call) (note : Note) → IsBlank note → ((j : ℕ) → call.placed.place ≡ Some j → store_at s calls j ≡ None) → IsNote s calls call note
blank_is s calls call note blank none = record {
  changes = λ j placed. blank.changes ∙ sym (ap (λ (o : Option Contents). changes_there o call.placed) (none j placed));
  wrong = (
    λ (t : IsTrue note.is_wrong). absurd (true≢false (sym t ∙ blank.is_wrong)),
    λ (w : HasWrongReply s calls call). absurd (none_some w.store (sym (none w.place w.taken) ∙ w.there)),
  );
}

pub none_noted : (s : Setup) (calls : List Call) (notes : List Note) → AreBlank (length calls) notes → AreNotedBelow s calls 0 notes
none_noted s calls notes blank =
    let size : length notes ≡ length calls = blank.size in
    record {
      size = size;
      own = λ i j call there placed l. absurd (omega (arith, l));
      others = λ i call there elsewhere.
          let within : i < length calls = slice_get_within calls i call there in
          let d : Note = record { changes = false; is_wrong = false } in
          let is : slice_get notes i ≡ Some (get_or notes i d) = slice_get-get_or notes i d (omega (arith, within, size)) in
          (get_or notes i d, is, blank.each i (get_or notes i d) is);
    }

pub noted_below : (s : Setup) (calls : List Call) (k : ℕ) (store : Contents) (before notes : List Note) → store_at s calls k ≡ Some store → length notes ≡ length before → AreNotedBelow s calls k before → AreNotedAt s calls k store before notes → AreNotedBelow s calls (k + 1) notes
noted_below s calls k store before notes is_store size below at = record {
  size = size ∙ below.size;
  own = λ i j call there placed l. ⊎_elim
      (λ (here : j ≡ k).
      let placed_k : call.placed.place ≡ Some k = subst (λ m. call.placed.place ≡ Some m) here placed in
      let (note, note_there, is) = at.own i call there placed_k in
      (note, note_there, note_is s calls k store call note is_store placed_k is))
      (λ (other : j ≢ k).
      let (note, note_there, is) = below.own i j call there placed (omega (arith, l, other)) in
      (note, at.others i call there (λ e. other (from_some j k (sym placed ∙ e))) ∙ note_there, is))
      (same_or_not j k);
  others = λ i call there elsewhere.
      let (note, note_there, blank) = below.others i call there (λ j l. elsewhere j (omega (arith, l))) in
      (note, at.others i call there (elsewhere k (omega arith)) ∙ note_there, blank);
}

-- the end

noted_each : (s : Setup) (calls : List Call) (c : ℕ) (notes : List Note) → store_at s calls (suc c) ≡ None → AreNotedBelow s calls (c + 1) notes → (i : ℕ) (call : Call) → slice_get calls i ≡ Some call → (o : Option ℕ) → call.placed.place ≡ o → (note : Note) × (slice_get notes i ≡ Some note) × IsNote s calls call note
noted_each s calls c notes ends below i call there None placed =
    let (note, note_there, blank) = below.others i call there (λ j l e. none_some j (sym placed ∙ e)) in
    (note, note_there, blank_is s calls call note blank (λ j e. absurd (none_some j (sym placed ∙ e))))
noted_each s calls c notes ends below i call there (Some k) placed = ⊎_elim
    (λ (l : k < c + 1). below.own i k call there placed l)
    (λ (past : c + 1 ≤ k).
    let none : store_at s calls k ≡ None = none_after s calls (suc c) (k - suc c) k (omega (arith, past)) ends in
    let (note, note_there, blank) = below.others i call there (λ j l e. (let same : j ≡ k = from_some j k (sym e ∙ placed) in absurd (omega (arith, l, same, past)))) in
    (note, note_there, blank_is s calls call note blank (λ j e. subst (λ m. store_at s calls m ≡ None) (from_some k j (sym placed ∙ e)) none)))
    (cases_lt k (c + 1))

ended : (s : Setup) (calls : List Call) (notes : List Note) (c : ℕ) (store : Contents) (several : Bool) → store_at s calls c ≡ Some store → AreNotedBelow s calls (c + 1) notes → after_one s store (changes_at calls c store) ≡ None → several ≡ nat_le 2 (length (changes_at calls c store)) → IsFollowed s calls notes c store several
ended s calls notes c store several last below none several_is =
    let ends : store_at s calls (suc c) ≡ None = ap (store_after s calls c) last ∙ none in
    record {
      last = last;
      ends = ends;
      several_is = several_is;
      size = below.size;
      each = λ i call there. noted_each s calls c notes ends below i call there call.placed.place refl;
    }

pub ended_at_nothing : (s : Setup) (calls : List Call) (notes : List Note) (c : ℕ) (store : Contents) (several : Bool) → store_at s calls c ≡ Some store → AreNotedBelow s calls (c + 1) notes → several ≡ false → changes_of (changes_at calls c store) ≡ Nothing → IsFollowed s calls notes c store several
ended_at_nothing s calls notes c store several last below several_is is =
    let none : changes_at calls c store ≡ [] = is_nothing (changes_at calls c store) is in
    ended s calls notes c store several last below (ap (after_one s store) none) (several_is ∙ sym (ap (λ (l : List Call). nat_le 2 (length l)) none))

pub ended_at_several : (s : Setup) (calls : List Call) (notes : List Note) (c : ℕ) (store : Contents) (several : Bool) → store_at s calls c ≡ Some store → AreNotedBelow s calls (c + 1) notes → several ≡ true → changes_of (changes_at calls c store) ≡ Several → IsFollowed s calls notes c store several
ended_at_several s calls notes c store several last below several_is is =
    let many = is_several s store (changes_at calls c store) is in
    ended s calls notes c store several last below many.0 (several_is ∙ sym many.1)

nil_of : (l : List Call) → length l ≡ 0 → changes_of l ≡ Nothing
nil_of [] is = refl
nil_of (x ∷ xs) is = absurd (omega (arith, is))

-- a call with a place is among the calls with it
some_at : (k i : ℕ) (calls : List Call) (call : Call) → slice_get calls i ≡ Some call → call.placed.place ≡ Some k → 1 ≤ length (calls_at calls k)
some_at k i [] call there placed = absurd (none_some call there)
some_at k zero (x ∷ xs) call there placed =
    let own : x.placed.place ≡ Some k = subst (λ (y : Call). y.placed.place ≡ Some k) (sym (from_some x call there)) placed in
    let is : length (calls_at (x ∷ xs) k) ≡ suc (length (calls_at xs k)) = ap (λ (b : Bool). length (cond b (x ∷ calls_at xs k) (calls_at xs k))) (is_there x.placed.place k own) in
    omega (arith, is)
some_at k (suc i) (x ∷ xs) call there placed =
    let more : 1 ≤ length (calls_at xs k) = some_at k i xs call there placed in
    elim (is_place k x.placed.place) as (λ b. 1 ≤ length (cond b (x ∷ calls_at xs k) (calls_at xs k))) [ true ↦ omega arith | false ↦ more ]

-- if no call has place k, the notes up to it are those below it
noted_through : (s : Setup) (calls : List Call) (k : ℕ) (notes : List Note) → length (calls_at calls k) ≡ 0 → AreNotedBelow s calls k notes → AreNotedBelow s calls (k + 1) notes
noted_through s calls k notes none below = record {
  size = below.size;
  own = λ i j call there placed l. ⊎_elim
      (λ (here : j ≡ k).
      let some : 1 ≤ length (calls_at calls k) = some_at k i calls call there (subst (λ m. call.placed.place ≡ Some m) here placed) in
      absurd (omega (arith, some, none)))
      (λ (other : j ≢ k). below.own i j call there placed (omega (arith, l, other)))
      (same_or_not j k);
  others = λ i call there elsewhere. below.others i call there (λ j l. elsewhere j (omega (arith, l)));
}

pub ended_after_all : (s : Setup) (calls : List Call) (notes : List Note) (c : ℕ) (store : Contents) (several : Bool) → c ≡ length calls → store_at s calls c ≡ Some store → AreNotedBelow s calls c notes → several ≡ false → IsFollowed s calls notes c store several
ended_after_all s calls notes c store several all last below several_is =
    let last_all : store_at s calls (length calls) ≡ Some store = subst (λ n. store_at s calls n ≡ Some store) all last in
    let none_there : length (calls_at calls c) ≡ 0 = subst (λ n. length (calls_at calls n) ≡ 0) (sym all) (none_at s calls store last_all) in
    let none : length (changes_at calls c store) ≡ 0 = subst (λ n. length (changes_at calls n store) ≡ 0) (sym all) (none_remaining s calls store last_all) in
    ended_at_nothing s calls notes c store several last (noted_through s calls c notes none_there below) several_is (nil_of (changes_at calls c store) none)

-- one store more

pub next_store : (s : Setup) (calls : List Call) (k : ℕ) (store new : Contents) (call : Call) (caller : Caller) → AreFew s calls → store_at s calls k ≡ Some store → changes_of (changes_at calls k store) ≡ One call → (IsFew s call → IsCaller s call caller) → new ≡ after store call.placed.command caller → store_at s calls (k + 1) ≡ Some new
next_store s calls k store new call caller few last is is_caller new_is =
    let sole : changes_at calls k store ≡ call ∷ [] = is_one (changes_at calls k store) call is in
    let few_there : All (IsFew s) (changes_at calls k store) = All-filter (λ (x : Call). changes store x.placed.command) (IsFew s) (calls_at calls k) (All-filter (λ (x : Call). is_place k x.placed.place) (IsFew s) calls few) in
    let few_call : IsFew s call = All-head (IsFew s) call [] (All-same (IsFew s) (call ∷ []) (changes_at calls k store) (sym sole) few_there) in
    let own : new ≡ after store call.placed.command (caller_of s call) = new_is ∙ (is_caller few_call).after store (callers_of_store s calls k store last) call.placed.command in
    let next : store_at s calls (suc k) ≡ Some new = ap (store_after s calls k) last ∙ ap (after_one s store) sole ∙ ap (λ (st : Contents). Some st) (sym own) in
    let same : suc k ≡ k + 1 = omega arith in
    subst (λ m. store_at s calls m ≡ Some new) same next
