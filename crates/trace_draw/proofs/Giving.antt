-- The items of a trace, one entry after the other, and their texts in a window.
use Rattle.std.proofs.Common.{◌≡◌, ℕ, ◌+◌, Bool, true, false, List, [], ◌∷◌, ◌++◌, length, map, reverse, Option, Some, None, refl, ap, sym, ◌∙◌, append-nil, append_assoc, arith}
use Rattle.std.proofs.lemmas.List.{length-reverse, reverse-append, reverse-reverse}
use Rattle.draw.specs.{GivesLine, SaysLockEnd, SaysLockMark, texts_shown}
use Rattle.draw.proofs.Giving.{shown_append}
use Rattle.draw.proofs.Ending.{shown_of_end}
use Rattle.picture.proofs.Windowing.{all_entry}
use Rattle.picture.specs.{Window, all_entries, lines_if, shows_entry}
use Rattle.picture.specs.picture_layout.{GivenAccess, lock_marked_text}
use Rattle.picture.specs.declared.reads.PictureOptions.{PictureOptions}
use Rattle.picture.specs.declared.reads.Reads.{Reads}
use Rattle.picture.specs.declared.reads.Reads.TheVariants as reads
use Rattle.trace.specs.{LockMark, TraceEntry, TracePast, TraceSetup}
use Rattle.trace_accesses.specs.{WaveLimit, shown_access}
use Rattle.trace_draw.specs.{end_lines, given_access_of, given_entry, given_last, given_past, gives_access, limit_of, lines_of_marks, mark_lines, says_entry, shown_lines, shown_mark_lines, source_of, trace_gives, trace_lines, view_of}

-- lines that are shown, or none
if_none : (shows : Bool) → [] ≡ lines_if shows []
if_none true = refl
if_none false = refl

if_append : (shows : Bool) (lines more : List (List ℕ)) → lines_if shows lines ++ lines_if shows more ≡ lines_if shows (lines ++ more)
if_append true lines more = refl
if_append false lines more = refl

module _ (w : Window) where
  -- the texts of the marks of an entry
  texts_marks : (source n p : ℕ) (marks : List LockMark) → texts_shown w (map (GivesLine source n) (map (SaysLockMark p) marks)) ≡ lines_if (shows_entry w n) (map (lock_marked_text n p) marks)
  texts_marks source n p [] = if_none (shows_entry w n)
  texts_marks source n p (m ∷ marks) =
      ap (λ l. lines_if (shows_entry w n) (lock_marked_text n p m ∷ []) ++ l) (texts_marks source n p marks)
      ∙ if_append (shows_entry w n) (lock_marked_text n p m ∷ []) (map (lock_marked_text n p) marks)

  -- an access has none
  no_text : (access : Option GivenAccess) → texts_shown w (gives_access access) ≡ []
  no_text None = refl
  no_text (Some access) = refl

  no_texts : (mode : Reads) (limit : WaveLimit) (s : TraceSetup) (past : TracePast) (e : TraceEntry) → texts_shown w (given_access_of mode limit s past e) ≡ []
  no_texts reads.All limit s past e = no_text (shown_access s limit past e)
  no_texts reads.Hidden limit s past e = refl
  no_texts reads.Shown limit s past e = refl

  -- an entry more, which has this number
  lines_more : (n : ℕ) (entries : List TraceEntry) (e : TraceEntry) (k : ℕ) → k ≡ n + length entries →
      shown_mark_lines w n (entries ++ e ∷ []) ≡ shown_mark_lines w n entries ++ lines_if (shows_entry w k) (lines_of_marks k e)
  lines_more n [] e k is =
      append-nil (lines_if (shows_entry w n) (lines_of_marks n e))
      ∙ ap (λ (k : ℕ). lines_if (shows_entry w k) (lines_of_marks k e)) (let same : n ≡ k = omega (arith, is) in same)
  lines_more n (x ∷ entries) e k is =
      let first : List (List ℕ) = lines_if (shows_entry w n) (lines_of_marks n x) in
      let then : List (List ℕ) = shown_mark_lines w (n + 1) entries in
      ap (λ l. first ++ l) (lines_more (n + 1) entries e k (omega (arith, is)))
      ∙ sym (append_assoc first then (lines_if (shows_entry w k) (lines_of_marks k e)))

  module _ (mode : Reads) (limit : WaveLimit) (s : TraceSetup) where
    -- the texts of an entry
    texts_entry : (past : TracePast) (e : TraceEntry) → texts_shown w (given_entry mode limit s past e) ≡ lines_if (shows_entry w (length past)) (lines_of_marks (length past) e)
    texts_entry past e =
        shown_append w (given_access_of mode limit s past e) (map (GivesLine (source_of s) (length past)) (says_entry e))
        ∙ (λ i. no_texts mode limit s past e i ++ texts_marks (source_of s) (length past) e.process e.marks i)

    -- and of all
    texts_past : (past : TracePast) → texts_shown w (given_past mode limit s past) ≡ shown_mark_lines w 0 (reverse past)
    texts_past [] = refl
    texts_past (e ∷ past) =
        shown_append w (given_past mode limit s past) (given_entry mode limit s past e)
        ∙ (λ i. texts_past past i ++ texts_entry past e i)
        ∙ sym (lines_more 0 (reverse past) e (length past) (let same = length-reverse past in omega (arith, same)))
        ∙ ap (shown_mark_lines w 0) (sym (reverse-append (e ∷ []) past))

  pub texts_of_trace : (options : PictureOptions) (s : TraceSetup) (entries : List TraceEntry) (reported : List ℕ) → texts_shown w (trace_gives options s entries reported) ≡ shown_lines w entries reported
  texts_of_trace options s entries reported =
      shown_append w (given_past (view_of options (length entries)) (limit_of options) s (reverse entries)) (given_last s reported (length entries))
      ∙ (λ i. (texts_past (view_of options (length entries)) (limit_of options) s (reverse entries) ∙ ap (shown_mark_lines w 0) (reverse-reverse entries)) i
      ++ shown_of_end w reads.Hidden (source_of s + 1) (length entries) [] reported (SaysLockEnd (length entries)) refl i)

-- where all entries are shown, these are the lines of all
all_marks : (n : ℕ) (entries : List TraceEntry) → shown_mark_lines all_entries n entries ≡ mark_lines n entries
all_marks n [] = refl
all_marks n (e ∷ entries) = λ i. lines_if (all_entry n i) (lines_of_marks n e) ++ all_marks (n + 1) entries i

all_lines : (entries : List TraceEntry) (reported : List ℕ) → shown_lines all_entries entries reported ≡ trace_lines entries reported
all_lines entries reported = ap (λ l. l ++ end_lines (length entries) reported) (all_marks 0 entries)

pub all_shown : (w : Window) (entries : List TraceEntry) (reported : List ℕ) → w ≡ all_entries → shown_lines w entries reported ≡ trace_lines entries reported
all_shown w entries reported is = ap (λ w. shown_lines w entries reported) is ∙ all_lines entries reported
