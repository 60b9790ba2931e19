-- The end of a picture: its lines, its marks, and how it is drawn.
use Rattle.std.proofs.Common.{◌≡◌, ℕ, false, true≢false, List, [], ◌∷◌, ◌++◌, length, map, ◌==◌, Option, Some, refl, ap, subst, sym, ◌∙◌, append-nil}
use Rattle.bstr.specs.Text.{lines_from}
use Rattle.model.specs.plain_store.{Setup}
use Rattle.draw.specs.{Canvas, DrawsLast, DrawsOn, DrawsRest, DrawsUpToVerdict, GivesLine, GivesRead, GivesVerdict, ObservesAll, Says, SaysEnd, end_given, given, kept, marks_given, marks_says, says_text, shown_of, shows_says, texts_given, texts_shown}
use Rattle.draw.proofs.Drawn.{rest_behind}
use Rattle.draw.proofs.Giving.{marks_append, marks_of_lines, marks_of_reads, shown_append, shown_of_reads, texts_append, texts_of_lines, texts_of_reads}
use Rattle.picture.specs.{FirstBadEntry, SeenVerdict, ShownVerdict, Window, judged_with, lines_if, seen_verdict, shows_end}
use Rattle.picture.specs.picture_layout.{OverlappedRead}
use Rattle.picture.specs.declared.reads.Reads.{Reads as Mode}
use Rattle.picture.specs.shown_verdict.{bad_entry, judged_text, title_of, report_lines, verdict_lines, verdict_of}
use Rattle.model.specs.{Past}

-- the titles of the lines of a verdict
titles_of_lines : (bad : Option FirstBadEntry) (lines : List (List ℕ)) (last : List ℕ) → map title_of (verdict_lines bad lines last) ≡ map judged_text lines ++ last ∷ []
titles_of_lines bad [] last = refl
titles_of_lines bad (line ∷ lines) last = ap (λ l. judged_text line ∷ l) (titles_of_lines bad lines last)

-- an empty report has no line
no_lines : report_lines [] ≡ []
unfolding lines_from
no_lines = refl

-- the lines of the end
pub texts_of_end : (mode : Mode) (source at : ℕ) (reads : List OverlappedRead) (reported : List ℕ) (last : Says) → texts_given (end_given mode source at reads reported last) ≡ map judged_text (report_lines reported) ++ says_text at last ∷ []
texts_of_end mode source at reads [] last =
    texts_of_lines mode source at reads (last ∷ []) ∙ ap (λ (l : List (List ℕ)). map judged_text l ++ says_text at last ∷ []) (sym no_lines)
texts_of_end mode source at reads (byte ∷ reported) last =
    let lines : List (List ℕ) = report_lines (byte ∷ reported) in
    let verdict = verdict_of source lines (says_text at last) in
    texts_append (map GivesRead (shown_of mode reads)) (GivesVerdict at verdict ∷ [])
    ∙ (λ i. texts_of_reads (shown_of mode reads) i ++ (append-nil (map title_of verdict.lines) ∙ titles_of_lines (bad_entry lines) lines (says_text at last)) i)

-- those in a window, of a last line that is an end
pub shown_of_end : (w : Window) (mode : Mode) (source at : ℕ) (reads : List OverlappedRead) (reported : List ℕ) (last : Says) → shows_says w at last ≡ shows_end w at →
    texts_shown w (end_given mode source at reads reported last) ≡ lines_if (shows_end w at) (map judged_text (report_lines reported) ++ says_text at last ∷ [])
shown_of_end w mode source at reads [] last is =
    shown_append w (map GivesRead (shown_of mode reads)) (GivesLine source at last ∷ [])
    ∙ (λ i. shown_of_reads w (shown_of mode reads) i ++ (append-nil (lines_if (shows_says w at last) (says_text at last ∷ [])) ∙ ap (λ b. lines_if b (says_text at last ∷ [])) is) i)
    ∙ ap (λ (l : List (List ℕ)). lines_if (shows_end w at) (map judged_text l ++ says_text at last ∷ [])) (sym no_lines)
shown_of_end w mode source at reads (byte ∷ reported) last is =
    let lines : List (List ℕ) = report_lines (byte ∷ reported) in
    let verdict = verdict_of source lines (says_text at last) in
    shown_append w (map GivesRead (shown_of mode reads)) (GivesVerdict at verdict ∷ [])
    ∙ (λ i. shown_of_reads w (shown_of mode reads) i ++ (append-nil (lines_if (shows_end w at) (map title_of verdict.lines)) ∙ ap (lines_if (shows_end w at)) (titles_of_lines (bad_entry lines) lines (says_text at last))) i)

-- and its marks, of a last line that has none
pub marks_of_end : (mode : Mode) (source at : ℕ) (reads : List OverlappedRead) (reported : List ℕ) (last : Says) → marks_says last ≡ [] → marks_given (end_given mode source at reads reported last) ≡ []
marks_of_end mode source at reads [] last none = marks_of_lines mode source at reads (last ∷ []) ∙ append-nil (marks_says last) ∙ none
marks_of_end mode source at reads (byte ∷ reported) last none =
    marks_append (map GivesRead (shown_of mode reads)) (GivesVerdict at (verdict_of source (report_lines (byte ∷ reported)) (says_text at last)) ∷ [])
    ∙ append-nil (marks_given (map GivesRead (shown_of mode reads))) ∙ marks_of_reads (shown_of mode reads)

-- the reads that wait were drawn, and the report is not empty
pub judged_drawn : (had has : Canvas) (a b : Option (List ℕ)) (source at : ℕ) (reported text : List ℕ) (last : Says) (verdict : ShownVerdict) → (length reported == 0) ≡ false →
    text ≡ says_text at last → seen_verdict verdict ≡ verdict_of source (report_lines reported) text →
    ((mode : Mode) (s : Setup) (past : Past) (reads : List OverlappedRead) → ObservesAll mode s past reads had.overlaps →
    DrawsOn (kept had) (kept has) a b (map GivesRead (shown_of mode reads)) × ObservesAll mode s past [] has.overlaps) →
    DrawsUpToVerdict had has a b source at reported last (Some verdict)
judged_drawn had has a b source at [] text last verdict some same is draws = absurd (true≢false some)
judged_drawn had has a b source at (byte ∷ reported) text last verdict some same is draws = λ mode s past reads waits. (
  map GivesRead (shown_of mode reads),
  (draws mode s past reads waits).0,
  ap (λ (v : SeenVerdict). map GivesRead (shown_of mode reads) ++ GivesVerdict at v ∷ []) (is ∙ ap (verdict_of source (report_lines (byte ∷ reported))) same),
)

-- all up to a verdict was drawn, and then the rest with it
pub last_drawn : (had has : Canvas) (a b c : Option (List ℕ)) (source at : ℕ) (reported : List ℕ) (last : Says) (verdict : Option ShownVerdict) (height : ℕ) →
    DrawsUpToVerdict had has a b source at reported last verdict → DrawsRest (kept has) b c (given (judged_with at verdict [])) height → DrawsLast had a c source at reported last height
last_drawn had has a b c source at reported last verdict height drawn rest = λ mode s past reads waits.
    let on = drawn mode s past reads waits in
    subst (λ gives. DrawsRest (kept had) a c gives height) on.2 (rest_behind (kept had) (kept has) a b c on.0 (given (judged_with at verdict [])) height on.1 rest)

-- the end of a record, by numbers that are these
pub last_at : (canvas : Canvas) (a b : Option (List ℕ)) (reported : List ℕ) (m height n n' t t' : ℕ) → n ≡ n' → t ≡ t' → DrawsLast canvas a b n m reported (SaysEnd m t 0) height → DrawsLast canvas a b n' m reported (SaysEnd m t' 0) height
last_at canvas a b reported m height n n' t t' source taken last =
    subst (λ x. DrawsLast canvas a b n' m reported (SaysEnd m x 0) height) taken (subst (λ x. DrawsLast canvas a b x m reported (SaysEnd m t 0) height) source last)
