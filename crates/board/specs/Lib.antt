pub use Rattle.process.specs.choices as choices
pub use Rattle.laws.specs as laws
pub use Rattle.process.specs as process
pub mod Agreement
pub mod BoardLaws
pub mod Boards
pub mod Calls
pub mod Closings
pub mod Driving
pub mod Listing
pub mod Lists
pub mod Pending
pub mod Ports
pub mod Seats
pub mod Views
pub mod Words
pub mod WordSteps
pub use Agreement.{Agree, IsIn, IsQuiet, Knows, KnowsSeats, Shows, are_neighbours, is_pair, is_whole_read, reads}
pub use Boards.{AreOthersIdle, ArePortsOf, BoardState, IsOf}
pub use Calls.{IsPrefix, and_then, called, calls_after, calls_of, changes_of, changing, no_calls}
pub use Closings.{AreFirstPortsOf, AreInOrder, AreListsOf, AreMadeWith, AreOfAll, AreOthers, AreQuiet, EachIsInRecord, FirstLeaves, IsPlaceOf, IsStill, Leaves, AreInRecord, bits_shown, bytes_shown, done_calls, lists_in, version_shown, versions_shown}
pub use Driving.{Drives, EndsWith, Walks, WalksTo, flicks_after}
pub use Listing.{IsPlace, KnowsPlace, may_take}
pub use Lists.{AreFirstChanges, PlacedAsAnswered, FitsAt, FitsChanges, AreInSeen, caller_of, change_at, place_after, store_at}
pub use Pending.{events_of, nothing}
pub use Ports.{IsBegun, IsNext, IsTied, IsUnended, PortState, SamePort, answer_to, port_after, with_pending}
pub use Views.{MayAllHappen, MayHappen, OwnView, ViewState, at_events, counted_at, entries_of, entry_marked, entry_stepped, first_view, new_own, new_view, own_view, process_at, refusal_in, spent_view, stage_in, with_event, with_events, with_joined, with_made, with_step}
pub use WordSteps.{GoesOn, IsBetween, IsWhere, LeadsTo, Loads, Makes, Stores, WordStep, goes, value_after}
pub use Words.{access_to, bit_in_row, bits_of, closed_word, copy_of, first_bit, loaded, opening_word, row_bits, shown, stored, word_of, word_of_copy, words_in}
pub use declared.closing.Closing.{Closing}
pub use declared.driving.Driven.{Driven}
