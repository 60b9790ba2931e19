-- What a line of a record file leaves of what was drawn before it.
use Rattle.std.proofs.Common.{◌≡◌, ℕ, ◌≤◌, Bool, true, false, List, [], ◌∷◌, ◌++◌, length, reverse, Option, Some, None, Ok, refl, ap, sym, subst, ◌∙◌, append-nil, arith}
use Rattle.std.proofs.lemmas.List.{reverse-append}
use Rattle.std.specs.Option.{option_to_list}
use Rattle.model.specs.plain_store.{Setup}
use Rattle.scenario.specs.files.{words_of, words_read}
use Rattle.picture.specs.{Form}
use Rattle.picture.specs.declared.reads.PictureOptions.{PictureOptions}
use Rattle.model.specs.{Access, Entry, Past}
use Rattle.judge.specs.record_file.{Progress, cleared, entry_in, entry_words, is_entry, line_read, record_grammar, step_entry}
use Rattle.judge.specs.record_file.scenario.{Progress as Head, spaced}
use Rattle.judge.proofs.record_file.EntryLines.{entry_of_line}
use Rattle.judge.specs.{say_entry}
use Rattle.judge.proofs.Lines.{Left, clear_twice, empty, first_left, later_remaining, short_read}
use Rattle.draw.specs.{AreDrawn, AreReadBy, AreShownBy, AreStored, DrawsAt, DrawsPast, GoesOn, RecordDrawing, RecordEntries, RecordPicture, Corresponds}

-- behind an entry the head stays
pub head_stays : (b : Bool) (p next : Progress) → p.ended ≡ true → Left b p next → (next.ended ≡ true) × (next.head ≡ p.head)
head_stays false p next ended remaining = remaining.1 ended
head_stays true p next ended remaining = (remaining.1, remaining.2)

module _ (asked : PictureOptions) (form : Form) (old : Option (List ℕ)) where
  -- a picture is of the setup that was read
  drawn_at : (s t : Setup) (d : RecordDrawing) (past : Past) (new : Option (List ℕ)) → s ≡ t → AreDrawn asked form s past d old new → AreDrawn asked form t past d old new
  drawn_at s t d past new same drawn = subst (λ s. AreDrawn asked form s past d old new) same drawn

  -- behind a line that says no entry
  pub drawn_still : (words : List (List ℕ)) (before now : Option Progress) (d : Option RecordDrawing) (stored : List Entry) (past : Past) (new : Option (List ℕ)) → words_read record_grammar words before ≡ Ok now → cleared before ≡ before → entry_in now ≡ [] →
      AreReadBy d stored asked form before past old new → AreReadBy d stored asked form (cleared now) (entry_in now ++ past) old new
  drawn_still words before now None stored past new read clear none drawn = subst (λ (l : List Entry). AreStored asked (l ++ past) stored old new) (sym none) drawn
  drawn_still words None now (Some d) stored past new read clear none drawn = absurd drawn
  drawn_still words (Some p) now (Some d) stored past new read clear none drawn = by (later_remaining words p now read)
    where
      whole : (next : Progress) → (next.ended ≡ true) × (next.head ≡ p.head) → AreReadBy (Some d) stored asked form (cleared (Some next)) past old new
      whole next stays = (stays.0, drawn_at p.head.setup next.head.setup d past new (ap (λ (h : Head). h.setup) (sym stays.1)) drawn.1)

      by : (next : Progress) × (now ≡ Some next) × Left (say_entry words) p next → AreReadBy (Some d) stored asked form (cleared now) (entry_in now ++ past) old new
      by next =
          subst (λ (l : List Entry). AreReadBy (Some d) stored asked form (cleared now) (l ++ past) old new) (sym none)
          (subst (λ (o : Option Progress). AreReadBy (Some d) stored asked form (cleared o) past old new) (sym next.1) (whole next.0 (head_stays (say_entry words) p next.0 drawn.0 next.2)))

  -- behind one that says an entry, which was stored or drawn
  pub drawn_more : (words : List (List ℕ)) (before : Option Progress) (now : Progress) (e : Entry) (d d' : Option RecordDrawing) (stored stored' : List Entry) (past : Past) (new new' : Option (List ℕ)) → words_read record_grammar words before ≡ Ok (Some now) → cleared before ≡ before → now.entry ≡ Some e →
      (AreShownBy d stored asked form now.head.setup past old new → AreShownBy d' stored' asked form now.head.setup (e ∷ past) old new') → AreReadBy d stored asked form before past old new → AreReadBy d' stored' asked form (cleared (Some now)) (entry_in (Some now) ++ past) old new'
  drawn_more words None now e d d' stored stored' past new new' read clear says draws drawn =
      let no : e ∷ [] ≡ [] = sym (ap option_to_list says) ∙ (first_left words (Some now) read).0 in absurd (cc)
  drawn_more words (Some p) now e d d' stored stored' past new new' read clear says draws drawn = by (later_remaining words p (Some now) read)
    where
      before_it : (d : Option RecordDrawing) → AreReadBy d stored asked form (Some p) past old new → now.head ≡ p.head → AreShownBy d stored asked form now.head.setup past old new
      before_it None drawn same = drawn
      before_it (Some i) drawn same = drawn_at p.head.setup now.head.setup i past new (ap (λ (h : Head). h.setup) (sym same)) drawn.1

      ends : (b : Bool) (next : Progress) → now ≡ next → Left b p next → (now.ended ≡ true) × (now.head ≡ p.head)
      ends false next is remaining = let no : Some e ≡ None = sym says ∙ ap (λ (p : Progress). p.entry) is ∙ remaining.0 ∙ empty p clear in absurd (cc)
      ends true next is remaining = (ap (λ (p : Progress). p.ended) is ∙ remaining.1, ap (λ (p : Progress). p.head) is ∙ remaining.2)

      after_it : (d' : Option RecordDrawing) → now.ended ≡ true → AreShownBy d' stored' asked form now.head.setup (e ∷ past) old new' → AreReadBy d' stored' asked form (cleared (Some now)) (e ∷ past) old new'
      after_it None ended shown = shown
      after_it (Some k) ended shown = (ended, shown)

      by : (next : Progress) × (Some now ≡ Some next) × Left (say_entry words) p next → AreReadBy d' stored' asked form (cleared (Some now)) (entry_in (Some now) ++ past) old new'
      by next =
          let is = next.1 in
          let same : now ≡ next.0 = cc in
          let both = ends (say_entry words) next.0 same next.2 in
          subst (λ (o : Option Entry). AreReadBy d' stored' asked form (cleared (Some now)) (option_to_list o ++ past) old new') (sym says)
          (after_it d' both.0 (draws (before_it d drawn both.1)))

-- Behind a line, where it ends well.

module _ (line : List ℕ) (before now : Option Progress) (old t : RecordPicture) (past : Past) (first taken after : Option (List ℕ)) (short : length line ≤ 128) (corresponds : Corresponds old before past first taken) (read : words_read record_grammar (words_of line) old.reader ≡ Ok now) where
  -- what its words say, by what was read before it
  read_at : words_read record_grammar (words_of line) before ≡ Ok now
  read_at = ap (λ (o : Option Progress). words_read record_grammar (words_of line) o) (sym corresponds.reader) ∙ read

  ends_well : t.reader ≡ cleared now → DrawsAt t.options t.form t.entries (cleared now) (entry_in now ++ past) first after → GoesOn (line_read line before) t past first after
  ends_well reader drawn = record {
    now = now;
    says = short_read line before short ∙ read_at;
    corresponds = record { reader = reader; clear = clear_twice now; draws = drawn };
  }

  -- it says no entry
  pub ends_quiet : t.reader ≡ cleared now → t.options ≡ old.options → t.form ≡ old.form → t.entries ≡ old.entries → after ≡ taken → entry_in now ≡ [] → GoesOn (line_read line before) t past first after
  ends_quiet reader options form same kept none =
      ends_well reader (drawn_still t.options t.form first (words_of line) before now t.entries.drawing t.entries.stored.items past after read_at corresponds.clear none
      (subst (λ (m : PictureOptions). DrawsAt m t.form t.entries before past first after) (sym options) (subst (λ (f : Form). DrawsAt old.options f t.entries before past first after) (sym form)
      (subst (λ (e : RecordEntries). DrawsAt old.options old.form e before past first after) (sym same) (subst (λ (w : Option (List ℕ)). DrawsAt old.options old.form old.entries before past first w) (sym kept) corresponds.draws)))))

-- it says one, which was stored or drawn
pub ends_drawn : (line : List ℕ) (before : Option Progress) (now : Progress) (e : Entry) (old t : RecordPicture) (past : Past) (first taken after : Option (List ℕ)) → length line ≤ 128 → Corresponds old before past first taken → words_read record_grammar (words_of line) old.reader ≡ Ok (Some now) → now.entry ≡ Some e →
    t.reader ≡ cleared (Some now) → t.options ≡ old.options → t.form ≡ old.form →
    ((past : Past) (first : Option (List ℕ)) → DrawsPast old.options old.form old.entries now.head.setup past first taken → DrawsPast old.options old.form t.entries now.head.setup (e ∷ past) first after) → GoesOn (line_read line before) t past first after
ends_drawn line before now e old t past first taken after short corresponds read says reader options form draws =
    ends_well line before (Some now) old t past first taken after short corresponds read reader
    (subst (λ (m : PictureOptions). DrawsAt m t.form t.entries (cleared (Some now)) (entry_in (Some now) ++ past) first after) (sym options) (subst (λ (f : Form). DrawsAt old.options f t.entries (cleared (Some now)) (entry_in (Some now) ++ past) first after) (sym form)
    (drawn_more old.options old.form first (words_of line) before now e old.entries.drawing t.entries.drawing old.entries.stored.items t.entries.stored.items past taken after (read_at line before (Some now) old t past first taken after short corresponds read) corresponds.clear says (draws past first) corresponds.draws)))

-- it is as it is printed for a Step, which was drawn behind an entry that was drawn
pub ends_stepped : (line : List ℕ) (old t : RecordPicture) (d d' : RecordDrawing) (process : ℕ) (access : Access) (before : Option Progress) (past : Past) (first now after : Option (List ℕ)) → length line ≤ 128 → line ≡ spaced (entry_words (step_entry process access)) → is_entry (step_entry process access) ≡ true → old.entries.drawing ≡ Some d →
    t.reader ≡ old.reader → t.options ≡ old.options → t.form ≡ old.form → t.entries.drawing ≡ Some d' →
    ((s : Setup) → AreDrawn old.options old.form s past d first now → AreDrawn old.options old.form s (step_entry process access ∷ past) d' first after) → Corresponds old before past first now → GoesOn (line_read line before) t past first after
ends_stepped line old t d d' process access before past first now after short printed sound some reader options form drawing draws corresponds =
    by before corresponds.clear (subst (λ (o : Option RecordDrawing). AreReadBy o old.entries.stored.items old.options old.form before past first now) some corresponds.draws) (reader ∙ corresponds.reader)
  where
    e : Entry
    e = step_entry process access

    by : (b : Option Progress) → cleared b ≡ b → AreReadBy (Some d) old.entries.stored.items old.options old.form b past first now → t.reader ≡ b → GoesOn (line_read line b) t past first after
    by None clear drawn same = absurd drawn
    by (Some p) clear drawn same = record {
      now = Some (record p { ended = true; entry = Some e });
      says = short_read line (Some p) short ∙ ap (λ (l : List ℕ). words_read record_grammar (words_of l) (Some p)) printed ∙ entry_of_line e p (record { sound = sound; few = omega arith });
      corresponds = record {
        reader = same ∙ sym clear ∙ ap (λ (b : Bool). Some (record p { ended = b; entry = None })) drawn.0;
        clear = refl;
        draws = subst (λ (m : PictureOptions). DrawsAt m t.form t.entries (Some (record p { ended = true; entry = None })) (e ∷ past) first after) (sym options) (subst (λ (f : Form). DrawsAt old.options f t.entries (Some (record p { ended = true; entry = None })) (e ∷ past) first after) (sym form)
            (subst (λ (o : Option RecordDrawing). AreReadBy o t.entries.stored.items old.options old.form (Some (record p { ended = true; entry = None })) (e ∷ past) first after) (sym drawing) (refl, draws p.head.setup drawn.1)));
      };
    }

-- The reversed entries of what was read.
pub reverse_in : (now : Option Progress) (past : Past) → reverse (entry_in now ++ past) ≡ reverse past ++ entry_in now
reverse_in None past = sym (append-nil (reverse past))
reverse_in (Some p) past = by p.entry
  where
    by : (o : Option Entry) → reverse (option_to_list o ++ past) ≡ reverse past ++ option_to_list o
    by None = sym (append-nil (reverse past))
    by (Some e) = reverse-append (e ∷ []) past
