-- The entries that a picture mode are held, and then they are drawn.
use Rattle.std.proofs.Common.{◌≡◌, ◌<◌, ◌≤◌, ℕ, ◌+◌, true, false, List, [], ◌∷◌, ◌++◌, length, reverse, slice_index_or, take, Option, Some, None, refl, ap, sym, subst, ◌∙◌, arith}
use Rattle.std.proofs.lemmas.List.{length-reverse, reverse-append, reverse-reverse, take_more}
use Rattle.draw.specs.{DrawsLast, SaysLockEnd}
use Rattle.picture.specs.{Form}
use Rattle.picture.specs.declared.reads.PictureOptions.{PictureOptions}
use Rattle.picture.specs.declared.reads.Reads.{Reads}
use Rattle.picture.specs.declared.reads.Reads.TheVariants as reads
use Rattle.trace.specs.{TraceEntry, TracePast, TraceSetup}
use Rattle.trace_engine.specs.{count_by}
use Rattle.trace_draw.specs.{AreHeld, AreShownBy, DrawnBands, DrawsEntry, EndsBands, IsDrawn, TraceDrawing, drawn_count, limit_of, shows_all, source_of}
use Rattle.trace_draw.proofs.Drawn.{drawn_end, drawn_entry}
use Rattle.trace_draw.proofs.Monitoring.{decided_all, decided_later, decided_long, decided_view, drawn_as_many, short_view}

-- one entry more is the last one
pub last_of : (e : TraceEntry) (past : TracePast) → reverse past ++ e ∷ [] ≡ reverse (e ∷ past)
last_of e past = sym (reverse-append (e ∷ []) past)

-- the first k + 1 entries are the first k and the next one
pub one_more : (entries : List TraceEntry) (k : ℕ) (e : TraceEntry) → k < length entries → e ≡ slice_index_or entries k e → reverse (take (k + 1) entries) ≡ e ∷ reverse (take k entries)
one_more entries k e within is =
    ap reverse (take_more entries k e within) ∙ reverse-append (take k entries) (slice_index_or entries k e ∷ []) ∙ ap (λ x. x ∷ reverse (take k entries)) (sym is)

module _ (form : Form) (options : PictureOptions) (s : TraceSetup) where
  -- no entries are held
  pub none_held : (held : List TraceEntry) (first : Option (List ℕ)) → shows_all options ≡ false → held ≡ [] → AreHeld options [] held first first
  none_held held first undecided none = record { undecided = undecided; few = omega arith; are = none; unwritten = refl }

  -- no entries are drawn
  pub none_drawn : (d : TraceDrawing) (held : List TraceEntry) (first now : Option (List ℕ)) → shows_all options ≡ true → IsDrawn form options reads.All s [] d first now → AreShownBy (Some d) held form options s [] first now
  none_drawn d held first now all drawn = (reads.All, decided_all options 0 all, drawn)

  -- an entry more is held
  pub held_on : (past : TracePast) (held then : List TraceEntry) (e : TraceEntry) (first now : Option (List ℕ)) → AreHeld options past held first now → length held < 400 → then ≡ held ++ e ∷ [] → AreHeld options (e ∷ past) then first now
  held_on past held then e first now are few more =
      let long : length held ≡ length past = ap length are.are ∙ length-reverse past in
      record {
        undecided = are.undecided;
        few = omega (arith, long, few);
        are = more ∙ ap (λ l. l ++ e ∷ []) are.are ∙ last_of e past;
        unwritten = are.unwritten;
      }

  -- or it is drawn
  pub drawn_on : (past : TracePast) (d d' : TraceDrawing) (held then : List TraceEntry) (e : TraceEntry) (first mid new : Option (List ℕ)) → AreShownBy (Some d) held form options s past first mid → DrawsEntry d d' mid new e → AreShownBy (Some d') then form options s (e ∷ past) first new
  drawn_on past d d' held then e first mid new shown on =
      (shown.0, decided_later options shown.0 (length past) shown.1, drawn_entry form options shown.0 s past e d d' first mid new shown.2 on)

  -- entries that were held are drawn
  held_drawn : (mode : Reads) (past : TracePast) (held : List TraceEntry) (d : TraceDrawing) (first now then : Option (List ℕ)) → AreHeld options past held first now → IsDrawn form options mode s (reverse held) d now then → IsDrawn form options mode s past d first then
  held_drawn mode past held d first now then are drawn =
      subst (λ (l : TracePast). IsDrawn form options mode s l d first then) (ap reverse are.are ∙ reverse-reverse past)
      (subst (λ (o : Option (List ℕ)). IsDrawn form options mode s (reverse held) d o then) are.unwritten drawn)

  -- and one more, where there are too many to be held
  pub many_drawn : (past : TracePast) (held then : List TraceEntry) (e : TraceEntry) (d d' : TraceDrawing) (first now mid new : Option (List ℕ)) → AreHeld options past held first now → 400 ≤ length held → IsDrawn form options reads.Hidden s (reverse held) d now mid → DrawsEntry d d' mid new e →
      AreShownBy (Some d') then form options s (e ∷ past) first new
  many_drawn past held then e d d' first now mid new are many drawn on =
      let long : length held ≡ length past = ap length are.are ∙ length-reverse past in (
        reads.Hidden,
        decided_long options (length (e ∷ past)) are.undecided (omega (arith, long, many)),
        drawn_entry form options reads.Hidden s past e d d' first mid new (held_drawn reads.Hidden past held d first now mid are drawn) on,
      )

  -- the end of a picture that is short
  pub held_end : (past : TracePast) (held : List TraceEntry) (reported : List ℕ) (d : TraceDrawing) (bands : DrawnBands) (first now mid new : Option (List ℕ)) → AreHeld options past held first now → IsDrawn form options reads.All s (reverse held) d now mid → bands.shows ≡ d.shows →
      DrawsLast d.canvas mid new (source_of s + 1) d.entries reported (SaysLockEnd d.entries) bands.height → EndsBands form options bands s past reported first new
  held_end past held reported d bands first now mid new are drawn same last =
      drawn_end form options reads.All s past reported d bands first mid new (held_drawn reads.All past held d first now mid are drawn) (short_view options (length past) are.undecided are.few) same last

  -- or of another one
  pub shown_end : (past : TracePast) (held : List TraceEntry) (reported : List ℕ) (d : TraceDrawing) (bands : DrawnBands) (first mid new : Option (List ℕ)) → AreShownBy (Some d) held form options s past first mid → bands.shows ≡ d.shows →
      DrawsLast d.canvas mid new (source_of s + 1) d.entries reported (SaysLockEnd d.entries) bands.height → EndsBands form options bands s past reported first new
  shown_end past held reported d bands first mid new shown same last =
      drawn_end form options shown.0 s past reported d bands first mid new shown.2 (decided_view options shown.0 (length past) shown.1) same last

-- no more entries are drawn than are shown
pub drawn_few : (form : Form) (options : PictureOptions) (s : TraceSetup) (past : TracePast) (o : Option TraceDrawing) (held : List TraceEntry) (first now : Option (List ℕ)) → AreShownBy o held form options s past first now → count_by drawn_count o ≤ length past
drawn_few form options s past None held first now shown = omega arith
drawn_few form options s past (Some d) held first now shown =
    let many = drawn_as_many shown.0 (limit_of options) s past d shown.2.after in
    omega (arith, many)
