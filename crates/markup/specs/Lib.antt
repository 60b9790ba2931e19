pub mod Elements
pub mod Escaping
pub mod Figures
pub mod Markup
pub mod Readings
pub mod Titles
pub use Elements.{Begins, Broken, Ends, EndsAll, Kind, Stack, NoContent, after_kind, after_tags, begun, ended, is_among, is_closed, is_even, is_no_text, kind_by, kind_of, last_byte, opens_in, text_names}
pub use Escaping.{behind, escaped, escaped_by, is_plain, names, unescaped}
unfoldable pub use Figures.{drawn, line_from, path_from}
pub use Figures.{Block, End, Label, Mark, Note, Pill, Ring, Shape, drawings}
pub use Markup.{Said, attribute_text, attributes_text, entering, entering_by, input_field, key_name, lowering, mark_front, marking, marking_by, meant, noting, part_text, said_text, empty_element, empty_element_by, tag_end, tag_name, text_element, text_element_by}
pub use Readings.{Reading, group, joined, reading, with_begun, with_ended, with_lines, with_mark, with_tags}
pub use Titles.{cut, cut_at, first_title, inner, is_at_rest, is_mark, is_no_mark, is_settled, lines_in, read_title, tags_of, titles}
pub use declared.attributes.Attribute.{Attribute}
pub use declared.names.Key.{Key}
pub use declared.figures.Point.{Point}
pub use declared.names.Tag.{Tag}
