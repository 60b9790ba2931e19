-- The parts of a picture before and after its bands, as bytes.
use Rattle.std.specs.Prelude.{ℕ, ◌+◌, ◌-◌, ◌^◌, ◌==◌, cond, min, nat_lt, List, [], ◌∷◌, ◌++◌, codes, flat_map, map}
use Rattle.std.specs.Fmt.{decimal}
use Rattle.bstr.specs.Text.{lines_of, without_terminator}
use Rattle.model.specs.plain_store.{Setup}
use Rattle.markup.specs.{Said, entering_by, lowering, said_text, empty_element_by, text_element_by}
use Rattle.markup.specs.declared.names.Key.TheVariants as key
use Rattle.markup.specs.declared.names.Tag.TheVariants as tag
use Rattle.picture.specs.Subjects.{format_word, legend_of, list_begun, script_of, shown_by, subject_word}
use Rattle.picture.specs.Titles.{title_of}
use Rattle.picture.specs.declared.constants.TheConstants.{PAGE_STYLE, PATTERNS, STYLE}
use Rattle.picture.specs.declared.reads.Reads.{Reads}
use Rattle.picture.specs.declared.reads.Reads.TheVariants.{All, Hidden, Shown}
use Rattle.picture.specs.declared.subjects.Subject.{Subject}
use Rattle.picture.specs.declared.subjects.Subject.TheVariants as subject

-- a number, or the greatest number of 64 bits if it is greater
abbrev pub held_in_64 : ℕ → ℕ
held_in_64 n = min n (2 ^ 64 - 1)

-- attributes, one after the other
abbrev pub says : List Said → List ℕ
says = flat_map said_text

-- the part of a picture's plane that is seen, from its left upper corner on
abbrev pub view_of : ℕ → List ℕ
view_of height = codes "0 0 1200 " ++ decimal height

-- the ending of the plural of `process`
abbrev pub plural_of : ℕ → List ℕ
plural_of processes = cond (processes == 1) [] (codes "es")

-- the subject of a picture, with the number of its processes
abbrev pub counted_of : Subject → ℕ → List ℕ
counted_of subject processes =
    subject_word subject ++ codes " of " ++ decimal processes ++ codes " process" ++ plural_of processes

-- the first word of the file of a subject, and the numbers of its setup
abbrev pub setup_words : Subject → Setup → List ℕ
setup_words subject s =
    codes " (" ++ format_word subject ++ codes " " ++ decimal s.version ++ codes ", tickets " ++ decimal s.ticket_bits
    ++ codes ", stamps " ++ decimal s.stamp_bits ++ codes ", slots " ++ decimal s.slots ++ codes ")"

-- the heading of a page and of one picture
abbrev pub heading_of : Subject → Setup → List ℕ
heading_of subject s = counted_of subject s.processes ++ setup_words subject s

-- the orientation of a page when it is printed: upright for more than ten processes
abbrev pub paper_of : ℕ → List ℕ
paper_of processes = cond (nat_lt 10 processes) (codes "\n@page{size:A4 portrait;margin:10mm}\n") (codes "\n@page{size:A4 landscape;margin:10mm}\n")

-- the height of the legend
abbrev pub height_of_legend : Reads → ℕ
height_of_legend Hidden = 104
height_of_legend Shown = 122
height_of_legend All = 182

-- the start of the legend's picture in a page
abbrev pub legend_tag : Reads → List ℕ
legend_tag reads = entering_by tag.Svg (says ((key.ViewBox, view_of (height_of_legend reads)) ∷ (key.Role, codes "img") ∷ (key.Label, codes "Legend") ∷ []))

-- the start of that picture, and the shapes of the legend
abbrev pub legend_front : Subject → Reads → List ℕ
legend_front subject reads = codes "\n" ++ legend_tag reads ++ codes "\n" ++ (PATTERNS.now ++ codes "\n") ++ legend_of subject reads

-- a line of the scenario in the list of them, and all of them with their end
abbrev pub item_of : List ℕ → List ℕ
item_of line = text_element_by tag.Item [] line ++ codes "\n"

abbrev pub list_of : List ℕ → List ℕ
list_of printed = flat_map item_of (map without_terminator (lines_of printed)) ++ item_of (codes "(end)")

-- the styles of a page, and its orientation when it is printed
abbrev pub styles_of : ℕ → List ℕ
styles_of processes = STYLE.now ++ codes "\n" ++ PAGE_STYLE.now ++ paper_of processes

-- the start of a page, up to its body, which remains open
abbrev pub page_begun : ℕ → List ℕ → List ℕ
page_begun processes title =
    codes "<!doctype html>\n<html lang=\"en\"><head><meta charset=\"utf-8\">\n<meta name=\"viewport\" content=\"width=device-width\">\n"
    ++ text_element_by tag.Title [] title
    ++ codes "\n<style>\n"
    ++ styles_of processes
    ++ codes "</style></head><body>\n"

-- the part of a page's body before its bands
abbrev pub body_front : Subject → List ℕ → List ℕ → Reads → List ℕ
body_front subject heading printed reads =
    text_element_by tag.Heading [] heading
    ++ legend_front subject reads
    ++ list_begun subject
    ++ list_of printed
    ++ codes "</ol></details>\n"

-- the part of a page before its bands, for a run or a record, and for a trace under a heading
abbrev pub page_front_by : Subject → ℕ → List ℕ → List ℕ → Reads → List ℕ
page_front_by subject processes heading printed reads = page_begun processes (title_of heading printed) ++ body_front subject heading printed reads

abbrev pub page_front : Subject → Setup → List ℕ → Reads → List ℕ
page_front subject s = page_front_by subject s.processes (heading_of subject s)

abbrev pub trace_page_front : ℕ → List ℕ → List ℕ → Reads → List ℕ
trace_page_front = page_front_by subject.Trace

-- the slider, which shows the opening store at first
abbrev pub slider_of : List ℕ → List ℕ
slider_of opening =
    codes "<input" ++ says ((key.Id, codes "at") ∷ (key.Type, codes "range") ∷ (key.Least, codes "0") ∷ (key.Value, codes "0") ∷ (key.Label, codes "Line of the run") ∷ (key.Store, opening) ∷ []) ++ codes ">"

-- the part of a page after its bands, which begins with the slider
abbrev pub page_back_by : Subject → List ℕ → List ℕ
page_back_by subject opening =
    codes "<div id=\"now\"><div>"
    ++ slider_of opening
    ++ codes "<output id=\"said\" for=\"at\"></output></div></div>\n<script>"
    ++ script_of subject
    ++ codes "</script>\n</body></html>\n"

abbrev pub page_back : List ℕ → List ℕ
page_back = page_back_by subject.Run

abbrev pub trace_page_back : List ℕ
trace_page_back = page_back_by subject.Trace []

-- the height of one picture, by the sum of the heights of its bands
abbrev pub picture_height : ℕ → Reads → ℕ
picture_height bands reads = held_in_64 (held_in_64 (bands + height_of_legend reads) + 42)

-- the start of one picture of this height
abbrev pub svg_tag : ℕ → List ℕ
svg_tag height = entering_by tag.Svg (says (
    (key.Namespace, codes "http://www.w3.org/2000/svg") ∷ (key.Width, decimal 1200) ∷ (key.Height, decimal height) ∷ (key.ViewBox, view_of height) ∷ (key.Role, codes "group") ∷ (key.LabelledBy, codes "t d") ∷ []))

abbrev pub svg_front : ℕ → List ℕ
svg_front height = codes "<?xml version=\"1.0\" encoding=\"UTF-8\"?>\n" ++ svg_tag height ++ codes "\n"

-- the title of one picture, and its description
abbrev pub title_tag : List ℕ → List ℕ
title_tag heading = text_element_by tag.Title (says ((key.Id, codes "t") ∷ [])) heading

abbrev pub description_tag : Subject → List ℕ
description_tag subject = text_element_by tag.Desc (says ((key.Id, codes "d") ∷ [])) (shown_by subject)

abbrev pub titles_of : Subject → List ℕ → List ℕ
titles_of subject heading = title_tag heading ++ codes "\n" ++ description_tag subject

-- the background of one picture, and its heading
abbrev pub ground_tag : ℕ → List ℕ
ground_tag height = empty_element_by tag.Rect (says ((key.Width, decimal 1200) ∷ (key.Height, decimal height) ∷ (key.Fill, codes "#fff") ∷ []))

abbrev pub heading_tag : List ℕ → List ℕ
heading_tag heading = text_element_by tag.Text (says ((key.X, decimal 8) ∷ (key.Y, decimal 20) ∷ (key.Class, codes "lane") ∷ [])) heading

abbrev pub ground_of : ℕ → List ℕ → List ℕ
ground_of height heading = ground_tag height ++ heading_tag heading ++ codes "\n"

-- the part of one picture before its bands
abbrev pub picture_front_by : Subject → List ℕ → ℕ → Reads → List ℕ
picture_front_by subject heading bands reads =
    svg_front (picture_height bands reads)
    ++ titles_of subject heading
    ++ codes "\n<style>\n"
    ++ STYLE.now
    ++ codes "\n</style>\n"
    ++ (PATTERNS.now ++ codes "\n")
    ++ ground_of (picture_height bands reads) heading

abbrev pub picture_front : Subject → Setup → ℕ → Reads → List ℕ
picture_front subject s = picture_front_by subject (heading_of subject s)

abbrev pub trace_picture_front : List ℕ → ℕ → Reads → List ℕ
trace_picture_front = picture_front_by subject.Trace

-- the part of one picture after its bands: the legend
abbrev pub picture_back_by : Subject → ℕ → Reads → List ℕ
picture_back_by subject bands reads = lowering (held_in_64 (bands + 34)) ++ legend_of subject reads ++ codes "\n</g></svg>\n"

abbrev pub picture_back : ℕ → Reads → List ℕ
picture_back = picture_back_by subject.Run

abbrev pub trace_picture_back : ℕ → Reads → List ℕ
trace_picture_back = picture_back_by subject.Trace
