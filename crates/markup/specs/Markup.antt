-- Tags and their attributes, as text.
use Rattle.std.specs.Prelude.{ℕ, List, [], ◌++◌, codes, flat_map}
use Rattle.std.specs.Fmt.{decimal}
use Rattle.markup.specs.Escaping.{escaped}
use Rattle.markup.specs.declared.names.Key.{Key}
use Rattle.markup.specs.declared.names.Key.TheVariants as key
use Rattle.markup.specs.declared.names.Tag.{Tag}
use Rattle.markup.specs.declared.names.Tag.TheVariants as tag
use Rattle.markup.specs.declared.attributes.Attribute.{Attribute}
use Rattle.markup.specs.declared.attributes.Meaning.{Meaning}
use Rattle.markup.specs.declared.attributes.Meaning.TheVariants as meaning
use Rattle.markup.specs.declared.parts.TagPart.{TagPart}
use Rattle.markup.specs.declared.parts.TagPart.TheVariants as part

-- the name of a tag
abbrev pub tag_name : Tag → List ℕ
tag_name tag.Svg = codes "svg"
tag_name tag.Path = codes "path"
tag_name tag.Rect = codes "rect"
tag_name tag.Circle = codes "circle"
tag_name tag.Text = codes "text"
tag_name tag.Title = codes "title"
tag_name tag.Desc = codes "desc"
tag_name tag.Heading = codes "h1"
tag_name tag.Item = codes "li"

-- the name of an attribute
abbrev pub key_name : Key → List ℕ
key_name key.Class = codes "class"
key_name key.X = codes "x"
key_name key.Y = codes "y"
key_name key.Width = codes "width"
key_name key.Height = codes "height"
key_name key.Rx = codes "rx"
key_name key.Cx = codes "cx"
key_name key.Cy = codes "cy"
key_name key.R = codes "r"
key_name key.Path = codes "d"
key_name key.Fill = codes "fill"
key_name key.ViewBox = codes "viewBox"
key_name key.Role = codes "role"
key_name key.Label = codes "aria-label"
key_name key.LabelledBy = codes "aria-labelledby"
key_name key.Namespace = codes "xmlns"
key_name key.Id = codes "id"
key_name key.Type = codes "type"
key_name key.Least = codes "min"
key_name key.Value = codes "value"
key_name key.Place = codes "data-x"
key_name key.Source = codes "data-l"
key_name key.Store = codes "data-s"
key_name key.Queue = codes "data-q"

-- the meaning of an attribute
abbrev pub meant : Meaning → List ℕ
meant (meaning.Words words) = words.now
meant (meaning.Number n) = decimal n

-- an attribute, and its meaning
abbrev pub Said : Type 0
Said = Key × List ℕ

-- an attribute within a tag
abbrev pub said_text : Said → List ℕ
said_text said = codes " " ++ key_name said.0 ++ codes "=\"" ++ escaped said.1 ++ codes "\""

abbrev pub attribute_text : Attribute → List ℕ
attribute_text attribute = said_text (attribute.key, meant attribute.meaning)

abbrev pub attributes_text : List Attribute → List ℕ
attributes_text = flat_map attribute_text

-- a part of a tag, and parts one after the other
abbrev pub part_text : TagPart → List ℕ
part_text (part.Plain markup) = markup.now
part_text (part.Name tag) = tag_name tag
part_text (part.Attributes attributes) = attributes_text attributes.now
part_text (part.Text text) = escaped text.now

abbrev pub parts_text : List TagPart → List ℕ
parts_text = flat_map part_text

-- a tag with these attributes, without its end
abbrev pub front_by : Tag → List ℕ → List ℕ
front_by tag attributes = codes "<" ++ tag_name tag ++ attributes

-- the tag that ends another
abbrev pub tag_end : Tag → List ℕ
tag_end tag = codes "</" ++ tag_name tag ++ codes ">"

-- a tag with nothing in it, and the end of its line
abbrev pub empty_element_by : Tag → List ℕ → List ℕ
empty_element_by tag attributes = front_by tag attributes ++ codes "/>\n"

abbrev pub empty_element : Tag → List Attribute → List ℕ
empty_element tag attributes = empty_element_by tag (attributes_text attributes)

-- a tag whose content follows
abbrev pub entering_by : Tag → List ℕ → List ℕ
entering_by tag attributes = front_by tag attributes ++ codes ">"

abbrev pub entering : Tag → List Attribute → List ℕ
entering tag attributes = entering_by tag (attributes_text attributes)

-- a tag around a text
abbrev pub text_element_by : Tag → List ℕ → List ℕ → List ℕ
text_element_by tag attributes text = entering_by tag attributes ++ escaped text ++ tag_end tag

abbrev pub text_element : Tag → List Attribute → List ℕ → List ℕ
text_element tag attributes = text_element_by tag (attributes_text attributes)

-- the tag of a mark
abbrev pub mark_front_by : List ℕ → List ℕ
mark_front_by attributes = codes "<g class=\"m\" role=\"img\"" ++ attributes ++ codes ">"

abbrev pub mark_front : List Attribute → List ℕ
mark_front attributes = mark_front_by (attributes_text attributes)

-- a mark and its title, and the end of their line: the mark is not yet ended
abbrev pub marking_by : List ℕ → List ℕ → List ℕ
marking_by attributes title = mark_front_by attributes ++ text_element tag.Title [] title ++ codes "\n"

abbrev pub marking : List Attribute → List ℕ → List ℕ
marking attributes = marking_by (attributes_text attributes)

-- a group other than a mark and its title, and the end of their line: the group is not yet ended
abbrev pub noting : List ℕ → List ℕ
noting title = codes "<g class=\"r\">" ++ text_element tag.Title [] title ++ codes "\n"

-- a field for input, which has no content
abbrev pub input_field : List Attribute → List ℕ
input_field attributes = codes "<input" ++ attributes_text attributes ++ codes ">"

-- a group whose shapes are moved down by this distance: it is not yet ended
abbrev pub lowering : ℕ → List ℕ
lowering by = codes "<g transform=\"translate(0," ++ escaped (decimal by) ++ codes ")\">\n"
