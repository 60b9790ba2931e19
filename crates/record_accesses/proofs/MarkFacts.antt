-- The boxes of reads are marked by the safe rule.
use Rattle.std.proofs.Common.{◌≡◌, ◌≢◌, ◌⊎◌, ℕ, zero, suc, ◌+◌, ◌<◌, ◌==◌, Bool, true, false, ◌||◌, ◌&&◌, nat_le, nat_lt, cond, List, [], ◌∷◌, ◌++◌, Option, None, Some, get_or, is_some, length, option_map, replicate, refl, sym, ap, ◌∙◌, subst, inl, inr, true≢false, eq-eqb, arith, length-append}
use Rattle.std.proofs.Math.Seq.{get_or-append_seam}
use Rattle.std.proofs.lemmas.Bool.{cases_eq, lt-ltb, ne_eqb}
use Rattle.std.proofs.lemmas.List.{get_or-replicate, get_or_append_left}
use Rattle.picture_layout.specs.{GivenAccess, ShownAccess, UnendedAccess, given_access, is_any, open_by, open_with, overlapped_if}
use Rattle.picture_layout.specs.declared.accesses.AccessKind.TheVariants as kind
use Rattle.plain_store.specs.{Setup}
use Rattle.plain_store.proofs.GoodSetups.{few-processes}
use Rattle.model.specs.safe_bit.{Move, is_begin, is_begin_of_read, is_overlapped, is_write_open}
use Rattle.model.specs.safe_bit.declared.Move.TheVariants.{BeginWrite, EndWrite, BeginRead, EndRead, Settle}
use Rattle.model.specs.{Access, Mark, Past, moves_of, same_bit}
use Rattle.record_accesses.specs.{AreOwnReads, AreShown, IsOwnRead, IsPossible, MarksOverlappedReads, OpenBitAccess, WaveLimit, begun_by, box_of, dropped, dropped_as, drops, entry_with, first_overlaps, is_writer, kind_of, left_open, opened, overlaps_by, overlaps_with, possible_access, possible_past, shown_by, step_by, Monitored, monitored, monitored_by, write_of, writer_of, writer_with, writes_bit}
use Rattle.record_accesses.specs.declared.monitored.Monitored.TheVariants.{Made}
use Rattle.record_accesses.proofs.BitFacts.{writer-open}
use Rattle.record_accesses.proofs.OpenFacts.{opened-other, opened-own}
use Rattle.record_accesses.proofs.SameBits.{same-bare, same-refl}
use Rattle.record_accesses.proofs.Monitors.{possible-parts}

or-false : (b : Bool) → (b || false) ≡ b
or-false true = refl
or-false false = refl

or-true : (b : Bool) → (b || true) ≡ true
or-true true = refl
or-true false = refl

-- Flags.

any-last : (xs : List Bool) (x : Bool) → is_any (xs ++ x ∷ []) ≡ (is_any xs || x)
any-last [] x = or-false x
any-last (true ∷ xs) x = refl
any-last (false ∷ xs) x = any-last xs x

reading : (past : Past) (a : Access) (q : ℕ) → a.how ≡ BeginRead → overlaps_with past a q ≡ is_writer (writer_of a past) q
reading past a q h = ap (λ how. overlaps_by how a (writer_of a past) q (opened q past)) h

any-none : (past : Past) (a : Access) (n : ℕ) → a.how ≡ BeginRead → writer_of a past ≡ None → is_any (first_overlaps past a n) ≡ false
any-none past a zero h none = refl
any-none past a (suc n) h none =
    any-last (first_overlaps past a n) (overlaps_with past a n)
    ∙ (λ i. any-none past a n h none i || (reading past a n h ∙ ap (λ w. is_writer w n) none) i)

any-some : (past : Past) (a : Access) (n q : ℕ) → a.how ≡ BeginRead → writer_of a past ≡ Some q → q < n → is_any (first_overlaps past a n) ≡ true
any-some past a zero q h some below = absurd (omega (arith, below))
any-some past a (suc n) q h some below = any-last (first_overlaps past a n) (overlaps_with past a n) ∙ elim (cases_eq q n) [
  | inl last ↦
      ap (λ t. is_any (first_overlaps past a n) || t) (reading past a n h ∙ ap (λ w. is_writer w n) some ∙ eq-eqb q n last)
      ∙ or-true (is_any (first_overlaps past a n))
  | inr other ↦ ap (λ t. t || overlaps_with past a n) (any-some past a n q h some (omega (arith, below, other)))
]

long : (past : Past) (a : Access) (n : ℕ) → length (first_overlaps past a n) ≡ n
long past a zero = refl
long past a (suc n) = length-append (first_overlaps past a n) (overlaps_with past a n ∷ []) ∙ ap (λ k. k + 1) (long past a n) ∙ (let e : n + 1 ≡ suc n = omega arith in e)

flag-at : (past : Past) (a : Access) (n p : ℕ) → p < n → get_or (first_overlaps past a n) p false ≡ overlaps_with past a p
flag-at past a zero p below = absurd (omega (arith, below))
flag-at past a (suc n) p below = elim (cases_eq p n) [
  | inl last ↦
      ap (λ k. get_or (first_overlaps past a n ++ overlaps_with past a n ∷ []) k false) (last ∙ sym (long past a n))
      ∙ get_or-append_seam (first_overlaps past a n) (overlaps_with past a n) [] false
      ∙ ap (overlaps_with past a) (sym last)
  | inr other ↦
      let within : p < n = omega (arith, below, other) in
      get_or_append_left (first_overlaps past a n) (overlaps_with past a n ∷ []) false p (subst (λ k. p < k) (sym (long past a n)) within)
      ∙ flag-at past a n p within
]

-- The writers of possible pasts.

writer-moves : (q p : ℕ) (how : Move) (before : Option ℕ) (t : Bool) → writer_with q (cond t (how ∷ []) []) before ≡ Some p → (p ≡ q) ⊎ (before ≡ Some p)
writer-moves q p how before false h = inr h
writer-moves q p (BeginWrite v) before true h = inl (cc)
writer-moves q p EndWrite before true h = absurd (cc)
writer-moves q p BeginRead before true h = inr h
writer-moves q p (EndRead v) before true h = inr h
writer-moves q p (Settle v) before true h = absurd (cc)

writer-exists : (s : Setup) (a : Access) (past : Past) (p : ℕ) → writer_of a (possible_past s past) ≡ Some p → p < s.processes
writer-exists s a [] p h = absurd (cc)
writer-exists s a (e ∷ past) p h = by (possible_access s e.process e.access) refl h (writer-exists s a past p)
  where
    by : (o : Option Access) → possible_access s e.process e.access ≡ o → writer_of a (entry_with e.process o e.marks ∷ possible_past s past) ≡ Some p → (writer_of a (possible_past s past) ≡ Some p → p < s.processes) → p < s.processes
    by None is h rest = rest h
    by (Some b) is h rest = elim (writer-moves e.process p b.how (writer_of a (possible_past s past)) (same_bit a b) h) [
      | inl mine ↦ subst (λ k. k < s.processes) (sym mine) (possible-parts s e.process e.access b is).process
      | inr old ↦ rest old
    ]

-- A read that begins is marked if a write of its bit is open.
begins-marked : (s : Setup) (past : Past) (a : Access) → s.processes < 17 → a.how ≡ BeginRead → is_any (first_overlaps (possible_past s past) a 16) ≡ is_write_open (moves_of a (possible_past s past))
begins-marked s past a few h = by (writer_of a (possible_past s past)) refl ∙ writer-open a (possible_past s past)
  where
    by : (w : Option ℕ) → writer_of a (possible_past s past) ≡ w → is_any (first_overlaps (possible_past s past) a 16) ≡ is_some (writer_of a (possible_past s past))
    by None is = any-none (possible_past s past) a 16 h is ∙ ap (λ w. is_some w) (sym is)
    by (Some q) is =
        let exists = writer-exists s a past q is in
        any-some (possible_past s past) a 16 q h is (omega (arith, few, exists)) ∙ ap (λ w. is_some w) (sym is)

-- What columns keep of a box.

abbrev pub marked : Bool → UnendedAccess
marked over = record { kind = kind.Read; is_overlapped = over }

abbrev box_behind : ℕ → Option UnendedAccess → GivenAccess → Option UnendedAccess
box_behind p before g = cond (g.process == p) (open_by g.step g.kind (is_any g.overlaps)) (option_map (overlapped_if (get_or g.overlaps p false)) before)

box-none : (p : ℕ) (before : Option UnendedAccess) (x : Option ShownAccess) → option_map given_access x ≡ None → open_with p before x ≡ before
box-none p before None h = refl
box-none p before (Some y) h = absurd (cc)

box-some : (p : ℕ) (before : Option UnendedAccess) (x : Option ShownAccess) (g : GivenAccess) → option_map given_access x ≡ Some g → open_with p before x ≡ box_behind p before g
box-some p before None g h = absurd (cc)
box-some p before (Some y) g h = let is : given_access y ≡ g = cc in ap (box_behind p before) is

-- An open read.

not-read : (x : Option OpenBitAccess) (o : OpenBitAccess) → write_of x ≡ Some o → is_begin_of_read o.access.how ≡ true → ⊥
not-read None o h read = absurd (cc)
not-read (Some y) o h read = by (is_begin_of_read y.access.how) refl h
  where
    by : (t : Bool) → is_begin_of_read y.access.how ≡ t → cond t None (Some y) ≡ Some o → ⊥
    by true is h = absurd (cc)
    by false is h = let same : y ≡ o = cc in true≢false (sym read ∙ ap (λ (o : OpenBitAccess). is_begin_of_read o.access.how) (sym same) ∙ is)

-- it was not dropped
kept-read : (d : Bool) (x : Option OpenBitAccess) (o : OpenBitAccess) → left_open d x ≡ Some o → is_begin_of_read o.access.how ≡ true → d ≡ false
kept-read true x o h read = absurd (not-read x o h read)
kept-read false x o h read = refl

is-read : (how : Move) → is_begin_of_read how ≡ true → how ≡ BeginRead
is-read (BeginWrite v) h = absurd (cc)
is-read EndWrite h = absurd (cc)
is-read BeginRead h = refl
is-read (EndRead v) h = absurd (cc)
is-read (Settle v) h = absurd (cc)

-- the access with which it began
own-begun : (b : Bool) (x o : OpenBitAccess) → cond b (Some x) None ≡ Some o → x ≡ o
own-begun true x o h = cc
own-begun false x o h = absurd (cc)

-- The box of an open read is marked rightly, and the read is its process's own.
record Both (p : ℕ) (now : Past) (box : Option UnendedAccess) (o : OpenBitAccess) : Type 0 where
  own : IsOwnRead now p o.access
  box_is : box ≡ Some (marked (is_overlapped (moves_of o.access now)))

module _ (s : Setup) (limit : WaveLimit) (past : Past) (p : ℕ) (exists : p < s.processes) (few : s.processes < 17) (before : Option UnendedAccess) (x : Option ShownAccess) where
  abbrev P : Past
  P = possible_past s past

  abbrev given_by : Monitored → GivenAccess
  given_by = shown_by (nat_le limit.from (length past))

  -- An entry of the process itself.

  own-still : (marks : List Mark) (o : OpenBitAccess) → option_map given_access x ≡ option_map given_by (monitored s limit P (entry_with p None marks)) → is_begin_of_read o.access.how ≡ true →
      left_open (drops marks) (opened p P) ≡ Some o → (opened p P ≡ Some o → before ≡ Some (marked (is_overlapped (moves_of o.access P)))) →
      open_with p before x ≡ Some (marked (is_overlapped (moves_of o.access P)))
  own-still marks o shown read h rest =
      let kept = kept-read (drops marks) (opened p P) o h read in
      let old : opened p P ≡ Some o = ap (λ d. left_open d (opened p P)) (sym kept) ∙ h in
      let nothing : option_map given_by (monitored s limit P (entry_with p None marks)) ≡ None =
      (λ i. option_map given_by (cond (lt-ltb p s.processes exists i) (option_map (dropped_as (length P) p) (dropped (kept i) (opened p P))) None)) in
      box-none p before x (shown ∙ nothing) ∙ rest old

  own-read : (marks : List Mark) (a : Access) (o : OpenBitAccess) → option_map given_access x ≡ option_map given_by (monitored s limit P (entry_with p (Some a) marks)) → is_begin_of_read o.access.how ≡ true →
      left_open (drops marks) (begun_by (length P) (Some a) (opened p P)) ≡ Some o →
      open_with p before x ≡ Some (marked (is_overlapped (moves_of o.access (entry_with p (Some a) marks ∷ P))))
  own-read marks a o shown read h =
      let kept = kept-read (drops marks) (begun_by (length P) (Some a) (opened p P)) o h read in
      let mine : OpenBitAccess = record { entry = length P; access = a } in
      let is : mine ≡ o = own-begun (is_begin a.how) mine o (ap (λ d. left_open d (begun_by (length P) (Some a) (opened p P))) (sym kept) ∙ h) in
      let how : a.how ≡ BeginRead = is-read a.how (ap (λ (o : OpenBitAccess). is_begin_of_read o.access.how) is ∙ read) in
      let w = monitored_by s limit P (entry_with p (Some a) marks) a in
      let some : option_map given_by (monitored s limit P (entry_with p (Some a) marks)) ≡ Some (given_by (Made w)) =
      ap (λ t. option_map given_by (cond t (Some (Made w)) None)) (lt-ltb p s.processes exists) in
      box-some p before x (given_by (Made w)) (shown ∙ some)
      ∙ ap (λ t. cond t (open_by w.step (kind_of a.how) (is_any w.overlaps)) (option_map (overlapped_if (get_or w.overlaps p false)) before)) (eq-eqb p p refl)
      ∙ (λ i. open_by (step_by (how i) (writes_bit (opened p P) a)) (kind_of (how i)) (begins-marked s past a few how i))
      ∙ ap (λ how. Some (marked (is_overlapped (how ∷ moves_of a P)))) (sym how)
      ∙ ap (λ t. Some (marked (is_overlapped (cond t (a.how ∷ []) [] ++ moves_of a P)))) (sym (same-refl a))
      ∙ ap (λ (o : OpenBitAccess). Some (marked (is_overlapped (moves_of o.access (entry_with p (Some a) marks ∷ P))))) is

  -- An entry of another process.

  unflagged : (o : OpenBitAccess) (q : ℕ) (t : Bool) → t ≡ false → before ≡ Some (marked (is_overlapped (moves_of o.access P))) →
      option_map (overlapped_if t) before ≡ Some (marked (is_overlapped (moves_of o.access P)))
  unflagged o q t none is =
      (λ i. option_map (overlapped_if (none i)) (is i))
      ∙ ap (λ b. Some (marked b)) (or-false (is_overlapped (moves_of o.access P)))

  other-still : (q : ℕ) (marks : List Mark) (o : OpenBitAccess) → option_map given_access x ≡ option_map given_by (monitored s limit P (entry_with q None marks)) → p ≢ q →
      before ≡ Some (marked (is_overlapped (moves_of o.access P))) → open_with p before x ≡ Some (marked (is_overlapped (moves_of o.access P)))
  other-still q marks o shown apart is = by (nat_lt q s.processes) (dropped (drops marks) (opened q P)) shown
    where
      by : (t : Bool) (r : Option OpenBitAccess) → option_map given_access x ≡ option_map given_by (cond t (option_map (dropped_as (length P) q) r) None) → open_with p before x ≡ Some (marked (is_overlapped (moves_of o.access P)))
      by true None h = box-none p before x h ∙ is
      by true (Some y) h =
          box-some p before x (given_by (dropped_as (length P) q y)) h
          ∙ ap (λ t. cond t None (option_map (overlapped_if (get_or (replicate 16 false) p false)) before)) (ne_eqb q p (λ e. apart (sym e)))
          ∙ unflagged o q (get_or (replicate 16 false) p false) (get_or-replicate 16 p false false (omega (arith, exists, few))) is
      by false r h = box-none p before x h ∙ is

  flag-move : (o : OpenBitAccess) (a : Access) (how : Move) (w : Option ℕ) (moves : List Move) (t : Bool) → is_writer w p ≡ false → is_begin_of_read o.access.how ≡ true → same_bit o.access a ≡ t → (how ≡ BeginRead → t ≡ true → ⊥) →
      (is_overlapped moves || overlaps_by how a w p (Some o)) ≡ is_overlapped (cond t (how ∷ []) [] ++ moves)
  flag-move o a (BeginWrite v) w moves true quiet read same other =
      (λ i. is_overlapped moves || (quiet i || (read i && same i))) ∙ or-true (is_overlapped moves)
  flag-move o a (BeginWrite v) w moves false quiet read same other =
      (λ i. is_overlapped moves || (quiet i || (read i && same i))) ∙ or-false (is_overlapped moves)
  flag-move o a EndWrite w moves true quiet read same other = or-false (is_overlapped moves)
  flag-move o a EndWrite w moves false quiet read same other = or-false (is_overlapped moves)
  flag-move o a BeginRead w moves true quiet read same other = absurd (other refl refl)
  flag-move o a BeginRead w moves false quiet read same other = ap (λ t. is_overlapped moves || t) quiet ∙ or-false (is_overlapped moves)
  flag-move o a (EndRead v) w moves true quiet read same other = or-false (is_overlapped moves)
  flag-move o a (EndRead v) w moves false quiet read same other = or-false (is_overlapped moves)
  flag-move o a (Settle v) w moves true quiet read same other = or-false (is_overlapped moves)
  flag-move o a (Settle v) w moves false quiet read same other = or-false (is_overlapped moves)

  quiet-writer : (w : Option ℕ) → (w ≡ Some p → ⊥) → is_writer w p ≡ false
  quiet-writer None h = refl
  quiet-writer (Some r) h = ne_eqb r p (λ e. h (ap Some e))

  other-made : (q : ℕ) (marks : List Mark) (a : Access) (o : OpenBitAccess) → option_map given_access x ≡ option_map given_by (monitored s limit P (entry_with q (Some a) marks)) → p ≢ q → q < s.processes →
      (a.how ≡ BeginRead → a.reader ≡ q) → opened p P ≡ Some o → is_begin_of_read o.access.how ≡ true → IsOwnRead P p o.access → before ≡ Some (marked (is_overlapped (moves_of o.access P))) →
      open_with p before x ≡ Some (marked (is_overlapped (moves_of o.access (entry_with q (Some a) marks ∷ P))))
  other-made q marks a o shown apart there reader old read mine is =
      let w = monitored_by s limit P (entry_with q (Some a) marks) a in
      let some : option_map given_by (monitored s limit P (entry_with q (Some a) marks)) ≡ Some (given_by (Made w)) =
      ap (λ t. option_map given_by (cond t (Some (Made w)) None)) (lt-ltb q s.processes there) in
      let flag : get_or (first_overlaps P a 16) p false ≡ overlaps_by a.how a (writer_of a P) p (Some o) =
      flag-at P a 16 p (omega (arith, exists, few)) ∙ ap (overlaps_by a.how a (writer_of a P) p) old in
      let apart_reader : a.how ≡ BeginRead → same_bit o.access a ≡ true → ⊥ = λ how same. apart (sym mine.own ∙ ap (λ (b : Access). b.reader) (same-bare o.access a same) ∙ reader how) in
      box-some p before x (given_by (Made w)) (shown ∙ some)
      ∙ ap (λ t. cond t (open_by w.step (kind_of a.how) (is_any w.overlaps)) (option_map (overlapped_if (get_or w.overlaps p false)) before)) (ne_eqb q p (λ e. apart (sym e)))
      ∙ (λ i. option_map (overlapped_if (flag i)) (is i))
      ∙ ap (λ b. Some (marked b)) (flag-move o a a.how (writer_of a P) (moves_of o.access P) (same_bit o.access a) (quiet-writer (writer_of a P) (mine.calm a)) read refl apart_reader)

  -- An entry of any process.

  module _ (rest : (o : OpenBitAccess) → opened p P ≡ Some o → is_begin_of_read o.access.how ≡ true → Both p P before o) where
    abbrev Step : ℕ → Option Access → List Mark → OpenBitAccess → Type 0
    Step q access marks o = option_map given_access x ≡ option_map given_by (monitored s limit P (entry_with q access marks)) → ((a : Access) → access ≡ Some a → IsPossible s q a) → ((a : Access) → access ≡ Some a → a.how ≡ BeginRead → IsOwnRead P q a) →
        opened p (entry_with q access marks ∷ P) ≡ Some o → is_begin_of_read o.access.how ≡ true → Both p (entry_with q access marks ∷ P) (open_with p before x) o

    still-own : (q : ℕ) (marks : List Mark) (o : OpenBitAccess) → Both p P before o → IsOwnRead (entry_with q None marks ∷ P) p o.access
    still-own q marks o both = record { own = both.own.own; calm = λ b. both.own.calm b }

    own-step : (access : Option Access) (marks : List Mark) (o : OpenBitAccess) → Step p access marks o
    own-step None marks o = λ shown possible owns h read.
        let left : left_open (drops marks) (opened p P) ≡ Some o = sym (opened-own p None marks P) ∙ h in
        let old : opened p P ≡ Some o = ap (λ d. left_open d (opened p P)) (sym (kept-read (drops marks) (opened p P) o left read)) ∙ left in
        let both = rest o old read in
        record { own = still-own p marks o both; box_is = own-still marks o shown read left (λ old. (rest o old read).box_is) }
    own-step (Some a) marks o = λ shown possible owns h read.
        let left : left_open (drops marks) (begun_by (length P) (Some a) (opened p P)) ≡ Some o = sym (opened-own p (Some a) marks P) ∙ h in
        let mine : OpenBitAccess = record { entry = length P; access = a } in
        let kept = kept-read (drops marks) (begun_by (length P) (Some a) (opened p P)) o left read in
        let is : mine ≡ o = own-begun (is_begin a.how) mine o (ap (λ d. left_open d (begun_by (length P) (Some a) (opened p P))) (sym kept) ∙ left) in
        let how : a.how ≡ BeginRead = is-read a.how (ap (λ (o : OpenBitAccess). is_begin_of_read o.access.how) is ∙ read) in
        let owned : IsOwnRead P p a = owns a refl how in
        let now : IsOwnRead (entry_with p (Some a) marks ∷ P) p a = record { own = owned.own; calm = λ b h. owned.calm b (begin-quiet b (same_bit b a) ∙ ap (λ how. writer_with p (cond (same_bit b a) (how ∷ []) []) (writer_of b P)) (sym how) ∙ h) } in
        record {
          own = subst (λ (o : OpenBitAccess). IsOwnRead (entry_with p (Some a) marks ∷ P) p o.access) is now;
          box_is = own-read marks a o shown read left;
        }
      where
        begin-quiet : (b : Access) (t : Bool) → writer_of b P ≡ writer_with p (cond t (BeginRead ∷ []) []) (writer_of b P)
        begin-quiet b true = refl
        begin-quiet b false = refl

    other-step : (q : ℕ) → p ≢ q → (access : Option Access) (marks : List Mark) (o : OpenBitAccess) → Step q access marks o
    other-step q apart None marks o = λ shown possible owns h read.
        let both = rest o (sym (opened-other q p None marks P apart) ∙ h) read in
        record { own = still-own q marks o both; box_is = other-still q marks o shown apart both.box_is }
    other-step q apart (Some a) marks o = λ shown possible owns h read.
        let old : opened p P ≡ Some o = sym (opened-other q p (Some a) marks P apart) ∙ h in
        let both = rest o old read in
        record {
          own = record {
            own = both.own.own;
            calm = λ b h. elim (writer-moves q p a.how (writer_of b P) (same_bit b a) h) [ inl same ↦ apart same | inr before ↦ both.own.calm b before ];
          };
          box_is = other-made q marks a o shown apart (possible a refl).process (λ how. (owns a refl how).own) old read both.own both.box_is;
        }

    any-step : (q : ℕ) (access : Option Access) (marks : List Mark) (o : OpenBitAccess) → Step q access marks o
    any-step q access marks o = elim (cases_eq p q) [
      | inl mine ↦ subst (λ k. Step k access marks o) mine (own-step access marks o)
      | inr apart ↦ other-step q apart access marks o
    ]

-- All entries.

boxes : (s : Setup) (limit : WaveLimit) (past : Past) (shown : List (Option ShownAccess)) (p : ℕ) → p < s.processes → s.processes < 17 → AreShown s limit past shown → AreOwnReads (possible_past s past) →
    (o : OpenBitAccess) → opened p (possible_past s past) ≡ Some o → is_begin_of_read o.access.how ≡ true → Both p (possible_past s past) (box_of p shown) o
boxes s limit [] shown p exists few are owns o h read = absurd (cc)
boxes s limit (e ∷ past) [] p exists few are owns o h read = absurd are
boxes s limit (e ∷ past) (x ∷ shown) p exists few are owns o h read =
    any-step s limit past p exists few (box_of p shown) x (boxes s limit past shown p exists few are.1 owns.1) e.process (possible_access s e.process e.access) e.marks o
    are.0 (λ a is. possible-parts s e.process e.access a is) owns.0 h read

pub marks-overlapped : MarksOverlappedReads
marks-overlapped s good limit past shown are owns p exists o h read =
    let few = few-processes s good in
    (boxes s limit past shown p exists (omega (arith, few)) are owns o h read).box_is
