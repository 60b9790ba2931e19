pub mod Image
pub mod Placing
pub mod Reading
pub mod Slots
unfoldable pub use Image.{image_of, number_bytes, number_in, store_read}
pub use Image.{IsKept, IsStore, callers_read, is_number, length-rows, places, rows, slots_read, used_read}
pub use Placing.{place_for, place_of}
unfoldable pub use Reading.{follows_rules, store_in}
pub use Reading.{IsFault, IsFirstBad, IsImageOf, has_image, have_name, is_good_slot, is_length, slot_count, slot_in, used_in}
unfoldable pub use Slots.{count_bytes, count_in, name_in, unused_slot, value_in}
pub use Slots.{is_unused, is_used, kind_of, pair_in, slot_bytes, slot_of, value_bytes}
