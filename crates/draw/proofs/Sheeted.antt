-- The picture of a record goes on, entry by entry.
use Rattle.std.proofs.Common.{◌≡◌, ℕ, ◌+◌, List, [], ◌∷◌, length, Option, None, Some, ap, sym, subst, ◌∙◌, arith}
use Rattle.model.specs.plain_store.{Setup}
use Rattle.model.specs.{Entry, Past}
use Rattle.judge.specs.record_file.{Progress}
use Rattle.picture.specs.{Form, page_front, page_names}
use Rattle.picture.specs.declared.page.Form.TheVariants as form
use Rattle.picture.specs.declared.reads.PictureOptions.{PictureOptions}
use Rattle.picture.specs.declared.reads.Reads.{Reads as Mode}
use Rattle.picture.specs.markup.{lines_in, opens_in}
use Rattle.picture.specs.declared.subjects.Subject.TheVariants as subject
use Rattle.draw.specs.{AreReadBy, AreShownBy, DrawsEntry, DrawsLast, DrawsOn, DrawsRest, EndsAt, HasDrawn, Heads, IsDrawn, Kept, PartEntry, RecordDrawing, RecordRecalls, SaysEnd, AccessView, Writes, end_given, entries_among, entry_parts, given_all, given_last, kept, kept_at_first, listed, marks_back, plan_of, reads_since, record_end, source_of, taken_by}
use Rattle.draw.proofs.Drawings.{drawn_more, drawn_none}
use Rattle.draw.proofs.Drawn.{draws_bands}
use Rattle.draw.proofs.RecordGiving.{entries_of_record}

module _ (view : AccessView) (form : Form) (s : Setup) where
  -- what a drawing of entries recalls
  pub recalled : (past : Past) (d : RecordDrawing) (old new : Option (List ℕ)) → IsDrawn view form s past d old new → RecordRecalls view s (entry_parts past) d
  recalled past d old new drawn = record { drawing = drawn.drawn.recalls; monitors = drawn.monitors }

  -- one entry more
  pub drawn_entry : (past : Past) (e : Entry) (d d' : RecordDrawing) (old mid new : Option (List ℕ)) → IsDrawn view form s past d old mid → DrawsEntry d d' mid new e → d'.drawing.source ≡ d.drawing.source → IsDrawn view form s (e ∷ past) d' old new
  drawn_entry past e d d' old mid new drawn draws source =
      let on = draws view s (entry_parts past) (recalled past d old mid drawn) in
      record {
        source = source ∙ drawn.source;
        monitors = on.1;
        mid = drawn.mid;
        heads = drawn.heads;
        drawn = drawn_more view s [] (kept_at_first (plan_of form view.window s)) drawn.mid (entry_parts past) (PartEntry e) d.drawing d'.drawing mid new on.0 source drawn.drawn;
      }

  -- none yet
  pub drawn_first : (d : RecordDrawing) (old new : Option (List ℕ)) → d.drawing.source ≡ source_of s → RecordRecalls view s [] d → kept d.drawing.canvas ≡ kept_at_first (plan_of form view.window s) → Heads view.reads form s old new → IsDrawn view form s [] d old new
  drawn_first d old new source recalls page heads = record {
    source = source;
    monitors = recalls.monitors;
    mid = new;
    heads = heads;
    drawn = subst (λ (k : Kept). HasDrawn view s [] k new [] d.drawing new) page (drawn_none view s [] d.drawing new recalls.drawing);
  }

  -- as many entries are drawn as there are
  pub drawn_as_many : (past : Past) (d : RecordDrawing) (old new : Option (List ℕ)) → IsDrawn view form s past d old new → d.drawing.entries ≡ length past
  drawn_as_many past d old new drawn = drawn.drawn.recalls.entries ∙ ap length (entries_of_record past)

  -- all
  pub drawn_end : (past : Past) (d : RecordDrawing) (reported : List ℕ) (old mid new : Option (List ℕ)) (height : ℕ) → IsDrawn view form s past d old mid →
      DrawsLast d.drawing.canvas mid new (source_of s + 1) d.drawing.entries reported (SaysEnd d.drawing.entries d.drawing.store.taken 0) height → EndsAt view form s past reported height old new
  drawn_end past d reported old mid new height drawn rest = record {
    mid = drawn.mid;
    heads = drawn.heads;
    bands = draws_bands (plan_of form view.window s) (kept d.drawing.canvas) drawn.mid mid new (given_all view s (source_of s) (entry_parts past)) (record_end view s (source_of s) past reported) height
        (subst (λ l. DrawsOn (kept_at_first (plan_of form view.window s)) (kept d.drawing.canvas) drawn.mid mid l) {x = given_last view s d.drawing.source drawn.drawn.more (entry_parts past)} (λ i. given_last view s (drawn.source i) (sym long i) (entry_parts past)) drawn.drawn.draws)
        (subst (λ gives. DrawsRest (kept d.drawing.canvas) mid new gives height) {x = end_given view.reads (source_of s + 1) d.drawing.entries (reads_since s (entry_parts past)) reported (SaysEnd d.drawing.entries d.drawing.store.taken 0)}
        (λ i. end_given view.reads (source_of s + 1) (entries i) (reads_since s (entry_parts past)) reported (SaysEnd (entries i) (taken i) 0))
        (rest view.reads s (entries_among (entry_parts past)) (reads_since s (entry_parts past)) drawn.drawn.recalls.waits));
  }
    where
      long : length (entry_parts past) ≡ drawn.drawn.more
      long = let long = drawn.drawn.long in omega (arith, long)

      entries : d.drawing.entries ≡ length past
      entries = drawn_as_many past d old mid drawn

      taken : d.drawing.store.taken ≡ taken_by (marks_back past)
      taken = drawn.drawn.recalls.store.taken ∙ ap (λ (l : Past). taken_by (marks_back l)) (entries_of_record past)

-- a page's front
pub heads_page : (reads : Mode) (s : Setup) (old new : Option (List ℕ)) (head : List ℕ) → head ≡ page_front subject.Record s (listed s) reads → lines_in head ≡ [] → opens_in head (Some []) ≡ Some page_names → Writes old new head → Heads reads form.Page s old new
heads_page reads s old new head is lines opens writes = record { head = head; is = is; lines = lines; opens = opens; writes = writes }

-- what is drawn, by the setup that was read
pub draws_of : (asked : PictureOptions) (f : Form) (d : Option RecordDrawing) (stored : List Entry) (p : Progress) (past : Past) (old new : Option (List ℕ)) → AreReadBy d stored asked f (Some p) past old new → AreShownBy d stored asked f p.head.setup past old new
draws_of asked f None stored p past old new drawn = drawn
draws_of asked f (Some d) stored p past old new drawn = drawn.1

-- what was found in it
pub same_some : (o : Option Progress) (p q : Progress) → o ≡ Some p → o ≡ Some q → p ≡ q
same_some o p q is other = let both : Some p ≡ Some q = sym is ∙ other in cc
