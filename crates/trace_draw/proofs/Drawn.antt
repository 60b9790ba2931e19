-- The picture of a trace goes on, entry by entry, and is whole at its end.
use Rattle.std.proofs.Common.{◌≡◌, ℕ, ◌+◌, List, [], ◌∷◌, ◌++◌, length, map, reverse, Option, Some, None, ap, sym, subst, ◌∙◌, arith}
use Rattle.std.proofs.lemmas.List.{length-reverse}
use Rattle.std.specs.Io.KnownBytes.{Appends}
use Rattle.draw.specs.{Canvas, DrawsBands, DrawsLast, DrawsLines, DrawsOn, Gives, GivesLine, IsAround, Kept, SaysLockEnd, Writes, given, kept, kept_at_first, texts_shown, trace_plan}
use Rattle.draw.proofs.Drawn.{IsWhole, draws_bands, draws_on_both, draws_on_none, framed}
use Rattle.draw.proofs.Whole.{held_are}
use Rattle.picture.specs.{Form, Item, bands_reported, page_names, picture_names, trace_page_back, trace_picture_back, trace_picture_front}
use Rattle.picture.specs.declared.page.Form.TheVariants as form
use Rattle.picture.specs.declared.reads.PictureOptions.{PictureOptions}
use Rattle.picture.specs.declared.reads.Reads.{Reads}
use Rattle.picture.specs.markup.{lines_in, opens_in}
use Rattle.trace.specs.{TraceEntry, TracePast, TraceSetup}
use Rattle.trace_accesses.specs.{WaveLimit}
use Rattle.trace_draw.specs.{ComesAfter, DrawnBands, DrawnTrace, DrawsEntry, DrawsTraceSaid, EndsBands, EndsTrace, Heads, IsDrawn, TraceDrawing, Monitors, given_access_of, given_entry, given_last, given_past, limit_of, says_entry, shown_lines, source_of, trace_gives, trace_picture_of, view_of}
use Rattle.trace_draw.proofs.Giving.{all_shown, texts_of_trace}
use Rattle.trace_draw.proofs.Hiding.{last_on, lines_on}

-- a canvas that changed twice, and nothing else
pub rest_on : (old mid now : TraceDrawing) → mid ≡ record old { canvas = mid.canvas } → now ≡ record mid { canvas = now.canvas } → now ≡ record old { canvas = now.canvas }
rest_on old mid now first next = next ∙ ap (λ (d : TraceDrawing). record d { canvas = now.canvas }) first

-- the access of an entry was drawn
pub record DrawsAccess (had has : TraceDrawing) (a b : Option (List ℕ)) (e : TraceEntry) : Type 0 where
  pub drawn : (mode : Reads) (limit : WaveLimit) (s : TraceSetup) (past : TracePast) → Monitors mode limit s past had.monitor → DrawsOn (kept had.canvas) (kept has.canvas) a b (given_access_of mode limit s past e)
  pub monitors : (mode : Reads) (limit : WaveLimit) (s : TraceSetup) (past : TracePast) → Monitors mode limit s past had.monitor → Monitors mode limit s (e ∷ past) has.monitor
  pub overlaps : has.canvas.overlaps ≡ had.canvas.overlaps
  pub rest : has ≡ record had { canvas = has.canvas; monitor = has.monitor }

-- and then its marks
pub entry_drawn : (had mid marked has : TraceDrawing) (a b c : Option (List ℕ)) (e : TraceEntry) → DrawsAccess had mid a b e → DrawsLines mid.canvas marked.canvas b c mid.source mid.entries (says_entry e) → marked ≡ record mid { canvas = marked.canvas } → has ≡ record marked { entries = mid.entries + 1 } → DrawsEntry had has a c e
entry_drawn had mid marked has a b c e access marks rest counts = λ mode limit s past after.
    let source : mid.source ≡ source_of s = ap (λ (d : TraceDrawing). d.source) access.rest ∙ after.source in
    let count : mid.entries ≡ length past = ap (λ (d : TraceDrawing). d.entries) access.rest ∙ after.count in
    let hides : mid.canvas.overlaps ≡ None = access.overlaps ∙ after.hides in
    let numbered = subst (λ n. DrawsLines mid.canvas marked.canvas b c n (length past) (says_entry e)) source (subst (λ n. DrawsLines mid.canvas marked.canvas b c mid.source n (says_entry e)) count marks) in
    let lines = lines_on mid.canvas b c (source_of s) (length past) hides (says_entry e) marked.canvas numbered in
    let canvas : marked.canvas ≡ has.canvas = sym (ap (λ (d : TraceDrawing). d.canvas) counts) in
    let entries : has.entries ≡ mid.entries + 1 = ap (λ (d : TraceDrawing). d.entries) counts in
    let monitor : mid.monitor ≡ has.monitor = sym (ap (λ (d : TraceDrawing). d.monitor) counts ∙ ap (λ (d : TraceDrawing). d.monitor) rest) in (
      subst (λ (k : Canvas). DrawsOn (kept had.canvas) (kept k) a c (given_entry mode limit s past e)) canvas
          (draws_on_both (kept had.canvas) (kept mid.canvas) (kept marked.canvas) a b c (given_access_of mode limit s past e) (map (GivesLine (source_of s) (length past)) (says_entry e)) (access.drawn mode limit s past after.monitors) lines.0),
      record {
        view = ap (λ (d : TraceDrawing). d.shows) counts ∙ ap (λ (d : TraceDrawing). d.shows) rest ∙ ap (λ (d : TraceDrawing). d.shows) access.rest ∙ after.view;
        source = ap (λ (d : TraceDrawing). d.source) counts ∙ ap (λ (d : TraceDrawing). d.source) rest ∙ source;
        count = omega (arith, entries, count);
        hides = subst (λ (k : Canvas). k.overlaps ≡ None) canvas lines.1;
        monitors = subst (Monitors mode limit s (e ∷ past)) monitor (access.monitors mode limit s past after.monitors);
      },
    )

module _ (form : Form) (options : PictureOptions) (mode : Reads) (s : TraceSetup) where
  -- none yet
  pub drawn_first : (d : TraceDrawing) (old new : Option (List ℕ)) → kept d.canvas ≡ kept_at_first (trace_plan form s.processes options.window) → ComesAfter mode (limit_of options) s [] d → Heads form mode s old new → IsDrawn form options mode s [] d old new
  drawn_first d old new page after heads = record {
    after = after;
    mid = new;
    heads = heads;
    drawn = subst (λ (k : Kept). DrawsOn k (kept d.canvas) new new []) page (draws_on_none (kept d.canvas) new);
  }

  -- an entry more
  pub drawn_entry : (past : TracePast) (e : TraceEntry) (d d' : TraceDrawing) (old mid new : Option (List ℕ)) → IsDrawn form options mode s past d old mid → DrawsEntry d d' mid new e → IsDrawn form options mode s (e ∷ past) d' old new
  drawn_entry past e d d' old mid new is on =
      let drew = on mode (limit_of options) s past is.after in
      record {
        after = drew.1;
        mid = is.mid;
        heads = is.heads;
        drawn = draws_on_both (kept_at_first (trace_plan form s.processes options.window)) (kept d.canvas) (kept d'.canvas) is.mid mid new (given_past mode (limit_of options) s past) (given_entry mode (limit_of options) s past e) is.drawn drew.0;
      }

-- all
pub drawn_end : (form : Form) (options : PictureOptions) (mode : Reads) (s : TraceSetup) (past : TracePast) (reported : List ℕ) (d : TraceDrawing) (bands : DrawnBands) (old mid new : Option (List ℕ)) → IsDrawn form options mode s past d old mid → mode ≡ view_of options (length past) → bands.shows ≡ d.shows →
    DrawsLast d.canvas mid new (source_of s + 1) d.entries reported (SaysLockEnd d.entries) bands.height → EndsBands form options bands s past reported old new
drawn_end form options mode s past reported d bands old mid new is decided same last =
    let view : mode ≡ bands.shows = sym (same ∙ is.after.view) in
    let counted = subst (λ n. DrawsLast d.canvas mid new (source_of s + 1) n reported (SaysLockEnd n) bands.height) is.after.count last in
    let all = draws_bands (trace_plan form s.processes options.window) (kept d.canvas) is.mid mid new (given_past mode (limit_of options) s past) (given_last s reported (length past)) bands.height
    is.drawn (last_on d.canvas mid new (source_of s + 1) (length past) is.after.hides reported (SaysLockEnd (length past)) bands.height counted) in
    record {
      view = sym view ∙ decided;
      mid = is.mid;
      heads = subst (λ (r : Reads). Heads form r s old is.mid) view is.heads;
      drawn = subst (λ (r : Reads). DrawsBands (trace_plan form s.processes options.window) is.mid new (given_past r (limit_of options) s past ++ given_last s reported (length past)) bands.height) view all;
    }

-- The end.

module _ (options : PictureOptions) (s : TraceSetup) (entries : List TraceEntry) (reported : List ℕ) (bands : DrawnBands) where
  -- what is shown, by the number of entries
  view_is : bands.shows ≡ view_of options (length (reverse entries)) → bands.shows ≡ view_of options (length entries)
  view_is view = view ∙ ap (view_of options) (length-reverse entries)

  -- the items of all bands
  abbrev band_gives : List Gives
  band_gives = given_past bands.shows (limit_of options) s (reverse entries) ++ given_last s reported (length (reverse entries))

  gives_are : bands.shows ≡ view_of options (length (reverse entries)) → band_gives ≡ trace_gives options s entries reported
  gives_are view = λ i. given_past (view_is view i) (limit_of options) s (reverse entries) ++ given_last s reported (length-reverse entries i)

  -- and their lines in the window
  texts : bands.shows ≡ view_of options (length (reverse entries)) → {lines : List (List ℕ)} → lines ≡ texts_shown options.window band_gives → lines ≡ shown_lines options.window entries reported
  texts view is = is ∙ ap (texts_shown options.window) (gives_are view) ∙ texts_of_trace options.window options s entries reported

  -- what is whole is what was said
  said_whole : (form : Form) (a d : Option (List ℕ)) (markup : List ℕ) (items : List Item) → bands.shows ≡ view_of options (length (reverse entries)) → given items ≡ band_gives → IsWhole options.window a d markup band_gives → markup ≡ trace_picture_of form options.window bands.shows s items → DrawsTraceSaid form options s entries reported a d
  said_whole form a d markup items view are whole is = record {
    markup = markup;
    items = items;
    are = are ∙ gives_are view;
    is = is ∙ ap (λ (r : Reads). trace_picture_of form options.window r s items) (view_is view);
    elements = whole.0;
    read_back = texts view whole.1;
    all_read_back = λ all. texts view whole.1 ∙ all_shown options.window entries reported all;
    writes = whole.2;
  }

-- a page
pub page_whole : (options : PictureOptions) (s : TraceSetup) (entries : List TraceEntry) (reported : List ℕ) (drawn : DrawnTrace) (a b c : Option (List ℕ)) (ending : List ℕ) → EndsTrace form.Page options drawn s entries reported a b → ending ≡ trace_page_back → lines_in ending ≡ [] → opens_in ending (Some page_names) ≡ Some [] → Writes b c ending →
    DrawsTraceSaid form.Page options s entries reported a c
page_whole options s entries reported drawn a b c ending ends back no_ending end last =
    let all = ends.ends in
    let h = all.heads in
    let plan = trace_plan form.Page s.processes options.window in
    let items : List Item = all.drawn.items in
    let is : (h.head ++ bands_reported plan items) ++ ending ≡ trace_picture_of form.Page options.window drawn.bands.shows s items =
    λ i. (h.is i ++ bands_reported plan items) ++ back i in
    said_whole options s entries reported drawn.bands form.Page a c _ items all.view all.drawn.are
    (framed plan a all.mid b c h.head ending page_names (band_gives options s entries reported drawn.bands) drawn.bands.height (record { no_head = h.lines; begins = h.opens; no_end = no_ending; ends = end }) h.writes all.drawn last) is

-- one picture
pub picture_whole : (options : PictureOptions) (s : TraceSetup) (entries : List TraceEntry) (reported : List ℕ) (drawn : DrawnTrace) (bytes : List ℕ) (a b c d : Option (List ℕ)) (head ending : List ℕ) → EndsTrace (form.Picture 34) options drawn s entries reported (Some []) (Some bytes) →
    head ≡ trace_picture_front drawn.title.items drawn.bands.height drawn.bands.shows → ending ≡ trace_picture_back drawn.bands.height drawn.bands.shows → IsAround picture_names head ending → Writes a b head → Appends b c bytes → Writes c d ending → DrawsTraceSaid (form.Picture 34) options s entries reported a d
picture_whole options s entries reported drawn bytes a b c d head ending ends front back around first mid last =
    let all = ends.ends in
    let o = all.drawn in
    let mode = drawn.bands.shows in
    let plan = trace_plan (form.Picture 34) s.processes options.window in
    let same : bytes ≡ bands_reported plan o.items = held_are bytes (bands_reported plan o.items) (subst (λ (m : Option (List ℕ)). Appends m (Some bytes) (bands_reported plan o.items)) all.heads o.draws.writes.taken) in
    let again : DrawsBands plan b c (band_gives options s entries reported drawn.bands) drawn.bands.height = record {
      items = o.items;
      are = o.are;
      draws = record { ended = o.draws.ended; read_back = o.draws.read_back; writes = record { rests = o.draws.writes.rests; taken = subst (λ l. Appends b c l) same mid } };
      heights = o.heights;
    } in
    let is : (head ++ bands_reported plan o.items) ++ ending ≡ trace_picture_of (form.Picture 34) options.window mode s o.items =
    λ i. ((front ∙ (λ j. trace_picture_front (ends.title j) (o.heights j) mode)) i ++ bands_reported plan o.items) ++ (back ∙ ap (λ h. trace_picture_back h mode) o.heights) i in
    said_whole options s entries reported drawn.bands (form.Picture 34) a d _ o.items all.view o.are
    (framed plan a b c d head ending picture_names (band_gives options s entries reported drawn.bands) drawn.bands.height around first again last) is
