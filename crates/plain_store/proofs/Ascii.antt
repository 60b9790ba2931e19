-- Names and texts are ASCII.
use Rattle.std.proofs.Common.{◌≡◌, IsTrue, ℕ, ◌<◌, true, List, [], ◌∷◌, arith}
use Rattle.std.specs.List.{list_all}
use Rattle.std.specs.Str.{IsAscii, IsUtf8}
use Rattle.std.proofs.lemmas.Bool.Decides.{nat_tests}
use Rattle.std.proofs.lemmas.Str.{IsUtf8-from_ascii}
use Rattle.std.proofs.lemmas.Str.Ascii.{IsAscii-nil, IsAscii-cons}
use Rattle.plain_store.specs.{is_name, is_name_byte, is_text, is_text_byte}

name_bytes : (bytes : List ℕ) → list_all is_name_byte bytes ≡ true → IsAscii bytes
name_bytes [] all = IsAscii-nil
name_bytes (b ∷ bytes) all = let low : b < 128 = grind (arith, nat_tests) in let rest : list_all is_name_byte bytes ≡ true = grind (arith, nat_tests) in IsAscii-cons b bytes low (name_bytes bytes rest)

text_bytes : (bytes : List ℕ) → list_all is_text_byte bytes ≡ true → IsAscii bytes
text_bytes [] all = IsAscii-nil
text_bytes (b ∷ bytes) all = let low : b < 128 = grind (arith, nat_tests) in let rest : list_all is_text_byte bytes ≡ true = grind (arith, nat_tests) in IsAscii-cons b bytes low (text_bytes bytes rest)

pub name_is_utf8 : (bytes : List ℕ) → IsTrue (is_name bytes) → IsUtf8 bytes
name_is_utf8 bytes valid = let all : list_all is_name_byte bytes ≡ true = grind (arith, nat_tests) in IsUtf8-from_ascii bytes (name_bytes bytes all)

pub text_is_utf8 : (bytes : List ℕ) → IsTrue (is_text bytes) → IsUtf8 bytes
text_is_utf8 bytes valid = let all : list_all is_text_byte bytes ≡ true = grind (arith, nat_tests) in IsUtf8-from_ascii bytes (text_bytes bytes all)
