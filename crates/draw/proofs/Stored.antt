-- The entries of a record are stored, and then they are drawn.
use Rattle.std.proofs.Common.{◌≡◌, ◌<◌, ◌≤◌, ℕ, suc, ◌+◌, Bool, true, false, cond, nat_le, List, [], ◌∷◌, ◌++◌, length, reverse, slice_index_or, take, Option, refl, ap, sym, subst, ◌∙◌, arith}
use Rattle.std.proofs.lemmas.Bool.{le-leb, lt-leb}
use Rattle.std.proofs.lemmas.List.{length-reverse, reverse-append, reverse-reverse, take_more}
use Rattle.model.specs.plain_store.{Setup}
use Rattle.picture.specs.{Form, Window}
use Rattle.picture.specs.declared.reads.PictureOptions.{PictureOptions}
use Rattle.picture.specs.declared.reads.Reads.{Reads as Mode}
use Rattle.picture.specs.declared.reads.Reads.TheVariants as modes
use Rattle.model.specs.{Entry, Past}
use Rattle.draw.specs.{AreDrawn, AreStored, DrawsEntry, DrawsLast, EndsAsked, EndsAt, HasOpening, IsDecided, IsDrawn, RecordDrawing, SaysEnd, AccessView, full_view, is_short, long_view, most_asked, most_stored, record_view, short_view, source_of, entry_parts, store_before, store_words}
use Rattle.draw.proofs.RecordGiving.{entries_of_record}
use Rattle.draw.proofs.Sheeted.{drawn_end, drawn_entry}

-- What is decided.

-- where all accesses are asked for, they are shown with all waves, be the window short or not
view_of_all : (w : Window) (n : ℕ) → record_view (record { reads = modes.All; window = w }) n ≡ long_view (record { reads = modes.All; window = w })
view_of_all w n = by (nat_le n 400) (is_short w)
  where
    o : PictureOptions
    o = record { reads = modes.All; window = w }

    by : (b c : Bool) → cond b (short_view o) (cond c (short_view o) (full_view o)) ≡ cond c (short_view o) (full_view o)
    by true true = refl
    by true false = refl
    by false c = refl

-- in a short window, too
view_of_short : (asked : PictureOptions) (n : ℕ) → is_short asked.window ≡ true → record_view asked n ≡ long_view asked
view_of_short asked n short = by (nat_le n 400) (is_short asked.window) short
  where
    by : (b c : Bool) → c ≡ true → cond b (short_view asked) (cond c (short_view asked) (full_view asked)) ≡ cond c (short_view asked) (full_view asked)
    by true true is = refl
    by true false is = absurd (cc)
    by false c is = refl

-- it is decided once there are more entries than are stored
many_view : (asked : PictureOptions) (n : ℕ) → 400 < n → record_view asked n ≡ long_view asked
many_view asked n many = ap (λ b. cond b (short_view asked) (long_view asked)) (lt-leb n 400 many)

most_of_long : (asked : PictureOptions) → is_short asked.window ≡ false → most_stored asked ≡ most_asked asked.reads
most_of_long asked long = ap (λ b. cond b 0 (most_asked asked.reads)) long

most_of_short : (asked : PictureOptions) → is_short asked.window ≡ true → most_stored asked ≡ 0
most_of_short asked short = ap (λ b. cond b 0 (most_asked asked.reads)) short

decided_many : (asked : PictureOptions) (n : ℕ) → most_stored asked < n → IsDecided asked n
decided_many asked n many = by (is_short asked.window) refl
  where
    long : (reads : Mode) → asked.reads ≡ reads → most_asked reads < n → IsDecided asked n
    long modes.All is few = λ more. subst (λ (m : Mode). record_view (record { reads = m; window = asked.window }) (n + more) ≡ long_view (record { reads = m; window = asked.window })) (sym is) (view_of_all asked.window (n + more))
    long modes.Hidden is few = λ more. let above : 400 < n = few in many_view asked (n + more) (omega (arith, above))
    long modes.Shown is few = λ more. let above : 400 < n = few in many_view asked (n + more) (omega (arith, above))

    by : (b : Bool) → is_short asked.window ≡ b → IsDecided asked n
    by true is = λ more. view_of_short asked (n + more) is
    by false is = long asked.reads refl (subst (λ m. m < n) (most_of_long asked is) many)

-- and stays so
decided_later : (asked : PictureOptions) (n : ℕ) → IsDecided asked n → IsDecided asked (suc n)
decided_later asked n decided = λ more. let same : suc n + more ≡ n + suc more = omega arith in ap (record_view asked) same ∙ decided (suc more)

-- so it is shown
decided_view : (asked : PictureOptions) (n : ℕ) → IsDecided asked n → record_view asked n ≡ long_view asked
decided_view asked n decided = let same : n ≡ n + 0 = omega arith in ap (record_view asked) same ∙ decided 0

-- a picture of no more entries than are stored shows all accesses
few_view : (asked : PictureOptions) (n : ℕ) → n ≤ most_stored asked → record_view asked n ≡ short_view asked
few_view asked n few = ap (λ b. cond b (short_view asked) (long_view asked)) (le-leb n 400 within)
  where
    of_mode : (reads : Mode) → most_asked reads ≤ 400
    of_mode modes.All = omega arith
    of_mode modes.Hidden = omega arith
    of_mode modes.Shown = omega arith

    by : (b : Bool) → cond b 0 (most_asked asked.reads) ≤ 400
    by true = omega arith
    by false = of_mode asked.reads

    within : n ≤ 400
    within = let most : most_stored asked ≤ 400 = by (is_short asked.window) in omega (arith, few, most)

-- Lists of entries.

-- one entry more is the last one
last_of : (e : Entry) (past : Past) → reverse past ++ e ∷ [] ≡ reverse (e ∷ past)
last_of e past = sym (reverse-append (e ∷ []) past)

-- the first k + 1 entries are the first k and the next one
pub one_more : (entries : List Entry) (k : ℕ) (e : Entry) → k < length entries → e ≡ slice_index_or entries k e → reverse (take (k + 1) entries) ≡ e ∷ reverse (take k entries)
one_more entries k e within is =
    ap reverse (take_more entries k e within) ∙ reverse-append (take k entries) (slice_index_or entries k e ∷ []) ∙ ap (λ x. x ∷ reverse (take k entries)) (sym is)

-- before the first entry none is stored
pub none_stored : (asked : PictureOptions) (stored : List Entry) (first : Option (List ℕ)) → stored ≡ [] → AreStored asked [] stored first first
none_stored asked stored first none = record { few = omega arith; are = none; unwritten = refl }

module _ (asked : PictureOptions) (form : Form) (s : Setup) where
  -- an entry more is stored
  pub stored_on : (past : Past) (stored then : List Entry) (e : Entry) (first now : Option (List ℕ)) → AreStored asked past stored first now → length stored < most_stored asked → then ≡ stored ++ e ∷ [] → AreStored asked (e ∷ past) then first now
  stored_on past stored then e first now are few more =
      let long : length stored ≡ length past = ap length are.are ∙ length-reverse past in
      record {
        few = omega (arith, long, few);
        are = more ∙ ap (λ l. l ++ e ∷ []) are.are ∙ last_of e past;
        unwritten = are.unwritten;
      }

  -- or it is drawn
  pub drawn_on : (past : Past) (e : Entry) (d d' : RecordDrawing) (first mid new : Option (List ℕ)) → AreDrawn asked form s past d first mid → DrawsEntry d d' mid new e → d'.drawing.source ≡ d.drawing.source → AreDrawn asked form s (e ∷ past) d' first new
  drawn_on past e d d' first mid new shown on source = record {
    decided = decided_later asked (length past) shown.decided;
    drawn = drawn_entry (long_view asked) form s past e d d' first mid new shown.drawn on source;
  }

  -- entries that were stored are drawn
  stored_drawn : (view : AccessView) (past : Past) (stored : List Entry) (d : RecordDrawing) (first now then : Option (List ℕ)) → AreStored asked past stored first now → IsDrawn view form s (reverse stored) d now then → IsDrawn view form s past d first then
  stored_drawn view past stored d first now then are drawn =
      subst (λ (l : Past). IsDrawn view form s l d first then) (ap reverse are.are ∙ reverse-reverse past)
      (subst (λ (o : Option (List ℕ)). IsDrawn view form s (reverse stored) d o then) are.unwritten drawn)

  -- and one more, where there are too many to be stored
  pub many_drawn : (past : Past) (stored : List Entry) (e : Entry) (d d' : RecordDrawing) (first now mid new : Option (List ℕ)) → AreStored asked past stored first now → most_stored asked ≤ length stored → IsDrawn (long_view asked) form s (reverse stored) d now mid → DrawsEntry d d' mid new e → d'.drawing.source ≡ d.drawing.source →
      AreDrawn asked form s (e ∷ past) d' first new
  many_drawn past stored e d d' first now mid new are many drawn on source =
      let long : length stored ≡ length past = ap length are.are ∙ length-reverse past in
      record {
        decided = decided_many asked (length (e ∷ past)) (omega (arith, long, many));
        drawn = drawn_entry (long_view asked) form s past e d d' first mid new (stored_drawn (long_view asked) past stored d first now mid are drawn) on source;
      }

  -- the end, by the view of the entries that are shown
  ended : (view : AccessView) (past : Past) (reported : List ℕ) (d : RecordDrawing) (shows : Mode) (opening : List ℕ) (height : ℕ) (first mid new : Option (List ℕ)) → record_view asked (length past) ≡ view → IsDrawn view form s past d first mid → shows ≡ view.reads → HasOpening d.drawing opening →
      DrawsLast d.drawing.canvas mid new (source_of s + 1) d.drawing.entries reported (SaysEnd d.drawing.entries d.drawing.store.taken 0) height → EndsAsked asked form s past reported shows opening height first new
  ended view past reported d shows opening height first mid new is drawn same opens last = record {
    shows_it = same ∙ sym (ap (λ (v : AccessView). v.reads) is);
    opens = opens view s (entry_parts past) drawn.drawn.recalls
        ∙ (λ i. store_words (store_before (sym is i).window s (entries_of_record past i)));
    ends = subst (λ (v : AccessView). EndsAt v form s past reported height first new) (sym is) (drawn_end view form s past d reported first mid new height drawn last);
  }

  -- that of a picture that is short
  pub stored_end : (past : Past) (stored : List Entry) (reported : List ℕ) (d : RecordDrawing) (shows : Mode) (opening : List ℕ) (height : ℕ) (first now mid new : Option (List ℕ)) → AreStored asked past stored first now → IsDrawn (short_view asked) form s (reverse stored) d now mid → shows ≡ modes.All → HasOpening d.drawing opening →
      DrawsLast d.drawing.canvas mid new (source_of s + 1) d.drawing.entries reported (SaysEnd d.drawing.entries d.drawing.store.taken 0) height → EndsAsked asked form s past reported shows opening height first new
  stored_end past stored reported d shows opening height first now mid new are drawn same opens last =
      ended (short_view asked) past reported d shows opening height first mid new (few_view asked (length past) are.few) (stored_drawn (short_view asked) past stored d first now mid are drawn) same opens last

  -- and of another one
  pub shown_end : (past : Past) (reported : List ℕ) (d : RecordDrawing) (shows : Mode) (opening : List ℕ) (height : ℕ) (first mid new : Option (List ℕ)) → AreDrawn asked form s past d first mid → shows ≡ (long_view asked).reads → HasOpening d.drawing opening →
      DrawsLast d.drawing.canvas mid new (source_of s + 1) d.drawing.entries reported (SaysEnd d.drawing.entries d.drawing.store.taken 0) height → EndsAsked asked form s past reported shows opening height first new
  shown_end past reported d shows opening height first mid new shown same opens last =
      ended (long_view asked) past reported d shows opening height first mid new (decided_view asked (length past) shown.decided) shown.drawn same opens last
