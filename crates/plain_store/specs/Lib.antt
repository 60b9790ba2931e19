pub mod Commands
pub mod Names
pub mod Openings
pub mod Outcomes
pub mod Padding
pub mod Pairs
pub mod Setups
pub mod Shown
pub mod Store
pub mod StoreLine
pub mod Values
pub use Commands.{is_command, name_of}
pub use Names.{is_name, is_name_byte, is_text, is_text_byte}
pub use Outcomes.{added, at_absent, at_present, is_new, outcome, replies, writes}
pub use Padding.{padded, take-padded}
pub use Pairs.{Pair, is_pair, pairs_in, placed}
pub use Setups.{callers_of, checked, checks, first_fault, is_good_opening, most_bits, most_processes, opening_store}
pub use Shown.{answer_text, command_text, reply_text, value_text}
pub use Store.{Contents, after, are_pairs, changes, empty_store, names_differ, number_of, outcome_in, pairs_after, put, reply_to, value_at, value_for, with_number, with_written}
pub use StoreLine.{next_pair, pair_text, show_text, store_words}
pub use Values.{fits_i64, is_value, same_value}
pub use declared.commands.Answer.{Answer}
pub use declared.setups.BadSetup.{BadSetup}
pub use declared.commands.Caller.{Caller}
pub use declared.commands.Command.{Command}
pub use declared.outcomes.Outcome.{Outcome}
pub use declared.commands.Reply.{Reply}
pub use declared.setups.Setup.{Setup}
pub use declared.commands.Value.{Value}
