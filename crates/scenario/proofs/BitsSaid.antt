-- A text is read as a bits file exactly if it specifies its lines.
use Rattle.std.proofs.Common.{◌≡◌, ℕ, ◌+◌, ◌<◌, ◌≤◌, ◌==◌, ◌&&◌, nat_lt, Bool, true, false, if◌then◌else◌, List, [], ◌∷◌, ◌++◌, length, map, codes, Option, Some, None, Ok, Err, refl, ap, sym, subst, ◌∙◌, arith, append_assoc, append-nil}
use Rattle.std.proofs.lemmas.Bool.Decides.{nat_tests}
use Rattle.std.proofs.lemmas.List.{length-append}
use Rattle.std.proofs.lemmas.Slice.Eq.{bytes_eq-Decides}
use Rattle.std.specs.Map.{lookup}
use Rattle.std.specs.Option.{ok_or}
use Rattle.std.specs.Str.{bytes_eq}
use Rattle.scenario.specs.{BitLine, BitWord, SaysBits, bit_at, bit_line_of, bit_line_words, bit_word, bit_word_of, bit_words, bits, bits_grammar, bits_of, first_bits_read, later_bits_read, lone_word_of, one_bit_of}
use Rattle.files.specs.{counted, known, one_more, said_words, word, ◌>>=◌}
use Rattle.scenario.specs.declared.bit_files.BitLine.TheVariants as line
use Rattle.scenario.specs.declared.bit_files.BitWord.TheVariants.{Bits, Write, End, Settle, Read, Value, Drop}
use Rattle.files.specs.declared.faults.FaultKind.TheVariants.{NotFirst, Number, TooLong}
use Rattle.scenario.proofs.LineSpelled.{none_of, one_of}
use Rattle.scenario.proofs.OneSpelling.{found_spelled}
use Rattle.files.proofs.Passing.{passed, length_of}
use Rattle.files.proofs.Said.{said_line, said_read, later_then, first_then, text_said, text_is_read}

-- the first word of a line
abbrev pub bit_key : BitWord → List ℕ
bit_key Bits = codes "bits"
bit_key Write = codes "write"
bit_key End = codes "end"
bit_key Settle = codes "settle"
bit_key Read = codes "read"
bit_key Value = codes "value"
bit_key Drop = codes "drop"

pub key_spelled : (w : List ℕ) (k : BitWord) → bit_word_of w ≡ Some k → w ≡ bit_key k
key_spelled w k found = found_spelled bit_key w bit_words k found refl

bit_spelled : (w : List ℕ) (v : Bool) → bit_at w ≡ Ok v → w ≡ bit_word v
bit_spelled w v read = by (lookup (bytes_eq w) bits) refl read
  where
    by : (o : Option Bool) → lookup (bytes_eq w) bits ≡ o → ok_or o Number ≡ Ok v → w ≡ bit_word v
    by None is read = absurd (cc)
    by (Some u) is read = let same : u ≡ v = cc in found_spelled bit_word w bits v (is ∙ ap Some same) refl

pub one_bit_spelled : (ws : List (List ℕ)) (v : Bool) → one_bit_of ws ≡ Ok v → ws ≡ bit_word v ∷ []
one_bit_spelled ws v read =
    let a = passed (counted 1 ws) (λ counts. bit_at (word 0 ws)) v read in
    one_of ws (length_of 1 ws a.value a.first) ∙ ap (λ w. w ∷ []) (bit_spelled (word 0 ws) v a.next)

lone_spelled : (key : List ℕ) (l m : BitLine) (ws : List (List ℕ)) → bit_line_words l ≡ key ∷ [] → lone_word_of l ws ≡ Ok m → key ∷ ws ≡ bit_line_words m
lone_spelled key l m ws key_is read =
    let a = passed (counted 0 ws) (λ counts. Ok l) m read in
    let last : Ok l ≡ Ok m = a.next in
    let same : l ≡ m = cc in
    ap (λ ws. key ∷ ws) (none_of ws (length_of 0 ws a.value a.first)) ∙ sym key_is ∙ ap bit_line_words same

bit_line_spelled : (k : BitWord) (ws : List (List ℕ)) (l : BitLine) → bit_line_of k ws ≡ Ok l → bit_key k ∷ ws ≡ bit_line_words l
bit_line_spelled Bits ws l read = absurd (cc)
bit_line_spelled Write ws l read =
    let a = passed (one_bit_of ws) (λ v. Ok (line.Write v)) l read in
    let last : Ok (line.Write a.value) ≡ Ok l = a.next in
    let same : line.Write a.value ≡ l = cc in
    ap (λ ws. codes "write" ∷ ws) (one_bit_spelled ws a.value a.first) ∙ ap bit_line_words same
bit_line_spelled Settle ws l read =
    let a = passed (one_bit_of ws) (λ v. Ok (line.Settle v)) l read in
    let last : Ok (line.Settle a.value) ≡ Ok l = a.next in
    let same : line.Settle a.value ≡ l = cc in
    ap (λ ws. codes "settle" ∷ ws) (one_bit_spelled ws a.value a.first) ∙ ap bit_line_words same
bit_line_spelled Value ws l read =
    let a = passed (one_bit_of ws) (λ v. Ok (line.Value v)) l read in
    let last : Ok (line.Value a.value) ≡ Ok l = a.next in
    let same : line.Value a.value ≡ l = cc in
    ap (λ ws. codes "value" ∷ ws) (one_bit_spelled ws a.value a.first) ∙ ap bit_line_words same
bit_line_spelled End ws l read = lone_spelled (codes "end") line.End l ws refl read
bit_line_spelled Read ws l read = lone_spelled (codes "read") line.Read l ws refl read
bit_line_spelled Drop ws l read = lone_spelled (codes "drop") line.Drop l ws refl read

-- one more line was kept
kept_said : (before after : List BitLine) (l : BitLine) → one_more before l ≡ Ok after → (before ++ l ∷ [] ≡ after) × (length before < 4000)
kept_said before after l read = by (nat_lt (length before) 4000) refl read
  where
    by : (b : Bool) → nat_lt (length before) 4000 ≡ b → (if b then Ok (before ++ l ∷ []) else Err TooLong) ≡ Ok after → (before ++ l ∷ [] ≡ after) × (length before < 4000)
    by true is read = (cc, grind (arith, nat_tests))
    by false is read = absurd (cc)

-- a later line that was read
record LaterSaid (first : List ℕ) (ws : List (List ℕ)) (before after : List BitLine) : Type 0 where
  line : BitLine
  words : first ∷ ws ≡ bit_line_words line
  kept : before ++ line ∷ [] ≡ after
  room : length before < 4000

later_said : (first : List ℕ) (ws : List (List ℕ)) (before after : List BitLine) → later_bits_read first ws before ≡ Ok after → LaterSaid first ws before after
later_said first ws before after read = by (bit_word_of first) refl read
  where
    by : (o : Option BitWord) → bit_word_of first ≡ o → (known o >>= λ name. bit_line_of name ws >>= λ line. one_more before line) ≡ Ok after → LaterSaid first ws before after
    by None is read = absurd (cc)
    by (Some k) is read =
        let a = passed (bit_line_of k ws) (λ line. one_more before line) after read in
        let kept = kept_said before after a.value a.next in
        record { line = a.value; words = ap (λ w. w ∷ ws) (key_spelled first k is) ∙ bit_line_spelled k ws a.value a.first; kept = kept.0; room = kept.1 }

-- the lines after the first
record More (said : List (List (List ℕ))) (before after : List BitLine) : Type 0 where
  lines : List BitLine
  words : said ≡ map bit_line_words lines
  kept : before ++ lines ≡ after
  few : length after ≤ 4000

all_said : (said : List (List (List ℕ))) (before after : List BitLine) → length before ≤ 4000 → said_read bits_grammar said (Some before) ≡ Ok (Some after) → More said before after
all_said [] before after few read = let same : before ≡ after = cc in record { lines = []; words = refl; kept = append-nil before ∙ same; few = subst (λ (ls : List BitLine). length ls ≤ 4000) same few }
all_said ([] ∷ more) before after few read = absurd (cc)
all_said ((first ∷ ws) ∷ more) before after few read =
    let a = later_then bits_grammar first ws more before (Some after) read in
    let one = later_said first ws before a.value a.first in
    let size : length a.value ≡ length before + 1 = ap length (sym one.kept) ∙ length-append before (one.line ∷ []) in
    let room : length before < 4000 = one.room in
    let rest = all_said more a.value after (omega (arith, size, room)) a.next in
    record {
      lines = one.line ∷ rest.lines;
      words = ap (λ w. w ∷ more) one.words ∙ ap (λ ms. bit_line_words one.line ∷ ms) rest.words;
      kept = sym (append_assoc before (one.line ∷ []) rest.lines) ∙ ap (λ ls. ls ++ rest.lines) one.kept ∙ rest.kept;
      few = rest.few;
    }

-- the first line
first_said : (first : List ℕ) (ws : List (List ℕ)) (s : List BitLine) → first_bits_read first ws ≡ Ok s → (first ∷ ws ≡ codes "bits" ∷ codes "1" ∷ []) × (s ≡ [])
first_said first ws s read = by (bytes_eq first (codes "bits") && (length ws == 1) && bytes_eq (word 0 ws) (codes "1")) refl read
  where
    by : (b : Bool) → (bytes_eq first (codes "bits") && (length ws == 1) && bytes_eq (word 0 ws) (codes "1")) ≡ b → (if b then Ok [] else Err NotFirst) ≡ Ok s → (first ∷ ws ≡ codes "bits" ∷ codes "1" ∷ []) × (s ≡ [])
    by true tests read =
        let named : bytes_eq first (codes "bits") ≡ true = grind (arith, nat_tests) in
        let one : length ws ≡ 1 = grind (arith, nat_tests) in
        let version : bytes_eq (word 0 ws) (codes "1") ≡ true = grind (arith, nat_tests) in
        let none : [] ≡ s = cc in
        (ap (λ w. w ∷ ws) ((bytes_eq-Decides first (codes "bits")).0 named) ∙ ap (λ ws. codes "bits" ∷ ws) (one_of ws one) ∙ ap (λ w. codes "bits" ∷ w ∷ []) ((bytes_eq-Decides (word 0 ws) (codes "1")).0 version), sym none)
    by false tests read = absurd (cc)

all_from_first : (said : List (List (List ℕ))) (s : List BitLine) → said_read bits_grammar said None ≡ Ok (Some s) → (said ≡ (codes "bits" ∷ codes "1" ∷ []) ∷ map bit_line_words s) × (length s ≤ 4000)
all_from_first [] s read = absurd (cc)
all_from_first ([] ∷ more) s read = absurd (cc)
all_from_first ((first ∷ ws) ∷ more) s read =
    let a = first_then bits_grammar first ws more (Some s) read in
    let one = first_said first ws a.value a.first in
    let rest = all_said more a.value s (subst (λ (ls : List BitLine). length ls ≤ 4000) (sym one.1) (omega arith)) a.next in
    (ap (λ w. w ∷ more) one.0 ∙ ap (λ ms. (codes "bits" ∷ codes "1" ∷ []) ∷ ms) (rest.words ∙ ap (map bit_line_words) (ap (λ ls. ls ++ rest.lines) (sym one.1) ∙ rest.kept)), rest.few)

-- A bits file that was read specifies the lines that were read.
pub bits_said : (text : List ℕ) (s : List BitLine) → bits_of text ≡ Ok s → SaysBits text s
bits_said text s read =
    let said = text_said bits_grammar text s read in
    let all = all_from_first (said_words text) s said.1 in
    record { limits = said.0; words = all.0; few = all.1 }

-- a line is read again
line_again : (l : BitLine) (before : List BitLine) → length before < 4000 → said_line bits_grammar (bit_line_words l) (Some before) ≡ Ok (Some (before ++ l ∷ []))
line_again l before room = by l
  where
    kept : (l : BitLine) → (one_more before l >>= λ s. Ok (Some s)) ≡ Ok (Some (before ++ l ∷ []))
    kept l = let test : nat_lt (length before) 4000 ≡ true = grind (arith, nat_tests) in ap (λ t. (if t then Ok (before ++ l ∷ []) else Err TooLong) >>= λ s. Ok (Some s)) test

    by : (l : BitLine) → said_line bits_grammar (bit_line_words l) (Some before) ≡ Ok (Some (before ++ l ∷ []))
    by (line.Write true) = kept (line.Write true)
    by (line.Write false) = kept (line.Write false)
    by line.End = kept line.End
    by (line.Settle true) = kept (line.Settle true)
    by (line.Settle false) = kept (line.Settle false)
    by line.Read = kept line.Read
    by (line.Value true) = kept (line.Value true)
    by (line.Value false) = kept (line.Value false)
    by line.Drop = kept line.Drop

lines_again : (ls before : List BitLine) → length before + length ls ≤ 4000 → said_read bits_grammar (map bit_line_words ls) (Some before) ≡ Ok (Some (before ++ ls))
lines_again [] before few = ap (λ (ls : List BitLine). Ok (Some ls)) (sym (append-nil before))
lines_again (l ∷ ls) before few =
    let more : length (before ++ l ∷ []) ≡ length before + 1 = length-append before (l ∷ []) in
    ap (λ r. r >>= said_read bits_grammar (map bit_line_words ls)) (line_again l before (omega arith))
    ∙ lines_again ls (before ++ l ∷ []) (omega (arith, more))
    ∙ ap (λ (ls : List BitLine). Ok (Some ls)) (append_assoc before (l ∷ []) ls)

-- A text that specifies some lines is read as these lines.
pub says_bits_read : (text : List ℕ) (s : List BitLine) → SaysBits text s → bits_of text ≡ Ok s
says_bits_read text s is =
    let few : length s ≤ 4000 = is.few in
    text_is_read bits_grammar text s is.limits (ap (λ ms. said_read bits_grammar ms None) is.words ∙ lines_again s [] (omega (arith, few)))
