pub use Rattle.files.specs as files
pub use Rattle.choices.specs as choices
pub mod BitFiles
pub mod Forms
pub mod Keywords
pub mod LineNumbers
pub mod Numbers
pub mod Operands
pub mod Printing
pub mod Reading
pub mod Reads
pub mod Scripts
pub mod Setting
pub mod Spelling
pub mod Statements
pub use BitFiles.{bit_at, bit_line_of, bit_word_of, bit_words, bits, bits_grammar, bits_of, first_bits_read, later_bits_read, lone_word_of, one_bit_of}
pub use Forms.{Patterns, Phrases, a_count, a_process, a_seed, are_operands, begun, bit_lines, commands, fault_at, fault_of, fits_form, flick_ways, has_form, has_row, heading_fault, heads, is_ending, is_operand, is_phrase, is_word_of, patterns_in, phrases_in, stages, statements}
pub use Keywords.{opener_of, openers, target_of, targets, verb_of, verbs}
pub use LineNumbers.{LinesHaveTheirNumbers, PrintedLinesAreNumbered, last_of, line_numbers, numbers_from, printed_numbers, words_at}
pub use Numbers.{are_digits, in_i64, integer_of, is_numeral, is_signed_numeral, number_up_to}
pub use Operands.{counter, integer_at, name_at, number_at, value_at}
pub use Printing.{command_words, flick_words, heading_word, heading_words, headings_of, kind_words, line_words, open_words, printed_line, scenario_text, script_words, setup_words, spaced, target_word, version_words}
unfoldable pub use Reading.{first_read, heading_read, open_read, other_read}
pub use Reading.{Progress, Script, at_version, heading_set, kept_read, later_read, opened_read, pair_read, scenario_grammar, scenario_of, script_of, version_of}
pub use Reads.{IsSameScenario, IsTextOfEqual, script}
pub use Scripts.{IsScenario, is_flick, is_line}
pub use Setting.{and_given, default_setup, is_given, may_open, most_of, none_given, with_heading, with_pair}
pub use Spelling.{Says, SaysBits, bit_line_words, bit_word, headings_differ, line_word, same_heading, with_headings}
unfoldable pub use Statements.{call_of, command_of, flick_of, go_of, process_of, show_of, step_of, wander_of}
pub use Statements.{is_line_of, is_verb_of, line_of, operand_count, verb_at, verb_in}
pub use declared.bit_files.BitLine.{BitLine}
pub use declared.bit_files.BitWord.{BitWord}
pub use declared.headings.Given.{Given}
pub use declared.forms.Letter.{Letter}
pub use declared.forms.Operand.{Operand}
pub use declared.keywords.Heading.{Heading}
pub use declared.lines.Line.{Line}
pub use declared.keywords.LineWord.{LineWord}
pub use declared.keywords.Opener.{Opener}
pub use declared.lines.Target.{Target}
pub use declared.keywords.Verb.{Verb}
