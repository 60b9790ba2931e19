pub use Rattle.shown_verdict.specs as shown_verdict
pub use Rattle.picture_layout.specs as picture_layout
pub use Rattle.markup.specs as markup
pub mod AccessShapes
pub mod Adding
pub mod Bandings
pub mod Bars
pub mod Drawings
pub mod Pages
pub mod Sheets
pub mod Signs
pub mod BarsAndStages
pub mod Subjects
pub mod Titles
pub mod Verdicts
pub mod WaveShapes
pub mod Windows
pub mod Words
pub use AccessShapes.{access_box, access_shapes, accesses_from, begins_overlapped, begun, begun_if, begun_shapes, begun_words, box_style, dot, ended_box, ended_shapes, from_next, guide, made_by, move_words, open_box, open_style, shapes_if, styled_words, tie, tie_between, tie_to, ties, ties_of, ties_to, titled, unended_box, value_by, value_style, value_words, whole_box, whole_shapes, whole_style}
pub use Bandings.{Accesses, Bands, Item, Judges, Plan, Reads, Reports, accesses_behind, accesses_in, bands_drawn, bands_of, begun_by, behind_columns, columns_of, filled, framed, full_bytes, full_drawn, heights, heights_drawn, heights_of, judged_with, layout_in, layout_of_band, line_by, newest, newest_at, older, placing_before, placing_in, room_by, state_after, verdict_in, whole_bytes, with_line, with_placed, with_put, with_room}
pub use Bars.{bar, bars, ends_at, free_left, is_stage, is_word, next_stretch, says_word, stretch_at, stretch_word, words_from}
pub use Drawings.{SeenBand, axis, axis_up_to, band_shapes, chain_shapes, column_shapes, first_inside, for_each, inside_since, lane_accesses, lane_shapes, lane_words, line_shapes, lines_shapes, links, mark_said, note_shapes, notes_shapes, queue_said, rows_shapes, seen_band, shade_up_to, shades, store_said, words_of_lane}
pub use Pages.{BeginsColumn, DrawsBand, GivesLast, MakesRoom, Passes, Places, Puts, SeenPage, SetsOpening, TakesItem, accesses_left, band_text, held_back, lines_of, lines_of_band, opening_by, opening_reported, page_by, page_filled, page_holding, page_names, page_of, passed, picture_names, seen_page}
pub use Sheets.{body_front, ground_of, held_in_64, item_of, page_back, page_begun, page_front, picture_back, picture_front, picture_height, counted_of, plural_of, says, setup_words, svg_front, titles_of, page_back_by, page_front_by, picture_front_by, picture_back_by, trace_page_back, trace_page_front, trace_picture_back, trace_picture_front, view_of}
pub use BarsAndStages.{BarsAreStages, ShowsStages, items_taken, line_contents}
pub use Subjects.{format_word, has_history, list_begun, script_of, shown_by, subject_word, time_unit}
pub use Verdicts.{bad_column, bad_place, box_at, edge_of, height_with, judged_shapes, key_of, line_said, lines_from, lines_height, outline_of, room_of_verdict, ruling_style, titles_if, verdict_by, verdict_line, verdict_shapes}
pub use WaveShapes.{change_if, change_shapes, level_of, next_change, place_if, value_label, wave_from, wave_part, wave_shapes, waves_from}
pub use Windows.{GivesRest, GoesOn, SeenWindowed, TakesIn, WindowPlan, all_entries, bands_reported, begun_in, full_reported, heights_reported, held, is_up_to, item_if, lines_if, passed_if, plan_at, plan_at_first, precedes, said_before, seen_windowed, shows_after, shows_end, shows_entry, shows_item, shows_line, shows_said, verdict_if, windowed, within}
pub use Words.{lines_reach, listed_with, queue_text}
pub use declared.page.Form.{Form}
pub use declared.page.Page.{Page}
pub use declared.reads.PictureOptions.{PictureOptions}
pub use declared.subjects.Subject.{Subject}
pub use declared.windowed_page.WindowedPage.{WindowedPage}
pub use declared.windows.Window.{Window}
pub use declared.words.Stretch.{Stretch}
pub use Rattle.shown_verdict.specs.{FirstBadEntry, Pointer, PointerKind, SeenLine, SeenVerdict, ShownVerdict, VerdictLine, naming, seen_line, seen_verdict, title_of, verdict_titles}
