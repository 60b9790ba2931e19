-- The bytes of the line of a Step, from its front to its end.
use Rattle.std.proofs.Common.{◌≡◌, ℕ, ◌+◌, ◌-◌, ◌*◌, ◌/◌, ◌%◌, ◌<◌, ◌≤◌, List, [], ◌∷◌, ◌++◌, length, take, drop, slice_index_or, suc, Bool, true, false, codes, refl, subst, ap, sym, ◌∙◌, append_assoc, arith}
use Rattle.std.proofs.lemmas.Fmt.{decimal_digit, decimal_step}
use Rattle.std.proofs.Math.Seq.{drop-append_seam, split_at}
use Rattle.std.proofs.lemmas.List.{drop-drop, length-append, take-append-drop, take-append-le, take_rest}
use Rattle.std.specs.Fmt.{decimal}
use Rattle.safe_bit.specs.{Move}
use Rattle.safe_bit.specs.declared.Move.TheVariants as move
use Rattle.model.specs.{Access, field_word}
use Rattle.scenario.specs.{spaced}
use Rattle.record_file.specs.{copy_word, entry_words, move_words, step_entry}

-- the number of a digit, before other bytes
pub one_digit : (bytes : List ℕ) (n : ℕ) → 1 ≤ length bytes → slice_index_or bytes 0 0 ≡ 48 + n → n < 10 → bytes ≡ decimal n ++ take (length bytes - 1) (drop 1 bytes)
one_digit [] n some is small = absurd (omega (arith, some))
one_digit (b ∷ bs) n some is small = ap (λ c. c ∷ bs) is ∙ ap (λ ds. ds ++ bs) (sym (decimal_digit n small)) ∙ ap (λ rest. decimal n ++ rest) (sym (take_rest (b ∷ bs) 1))

-- the number of a digit, before the byte that ends it
pub only_digit : (bytes : List ℕ) (n end : ℕ) → 2 ≤ length bytes → slice_index_or bytes 0 0 ≡ 48 + n → n < 10 → slice_index_or bytes 1 0 ≡ end → bytes ≡ decimal n ++ (end ∷ take (length bytes - 2) (drop 2 bytes))
only_digit [] n end some is small ended = absurd (omega (arith, some))
only_digit (b ∷ []) n end some is small ended = absurd (omega (arith, some))
only_digit (b ∷ c ∷ bs) n end some is small ended =
    ap (λ d. d ∷ c ∷ bs) is
    ∙ ap (λ d. (48 + n) ∷ d ∷ bs) ended
    ∙ ap (λ ds. ds ++ (end ∷ bs)) (sym (decimal_digit n small))
    ∙ ap (λ rest. decimal n ++ (end ∷ rest)) (sym (take_rest (b ∷ c ∷ bs) 2))

-- one digit more after a number other than 0
digit_behind : (n m : ℕ) → m < 10 → 0 < n → n ≤ 6553 → decimal (n * 10 + m) ≡ decimal n ++ ((48 + m) ∷ [])
digit_behind n m small some few =
    let tens : (n * 10 + m) / 10 ≡ n = omega (arith, small) in
    let ones : (n * 10 + m) % 10 ≡ m = omega (arith, small) in
    decimal_step (n * 10 + m) (omega (arith, some)) (omega (arith, small, few))
    ∙ ap (λ t. decimal t ++ ((48 + (n * 10 + m) % 10) ∷ [])) tens
    ∙ ap (λ o. decimal n ++ ((48 + o) ∷ [])) ones

-- one digit more after the digits of a number other than 0
pub one_more_is : (digits : List ℕ) (n m d : ℕ) → decimal n ≡ digits → 0 < n → n < 1000 → d ≡ 48 + m → m < 10 → decimal (n * 10 + m) ≡ digits ++ (d ∷ [])
one_more_is digits n m d so_far some few is small =
    digit_behind n m small some (omega (arith, few))
    ∙ ap (λ ds. ds ++ ((48 + m) ∷ [])) so_far
    ∙ ap (λ e. digits ++ (e ∷ [])) (sym is)

-- one to three digits, of which the first of some is not 0
pub one_is : (a x : ℕ) → a ≡ 48 + x → x < 10 → decimal x ≡ a ∷ []
one_is a x is small = decimal_digit x small ∙ ap (λ e. e ∷ []) (sym is)

pub two_are : (a b x y : ℕ) → a ≡ 48 + x → x < 10 → 0 < x → b ≡ 48 + y → y < 10 → decimal (x * 10 + y) ≡ a ∷ b ∷ []
two_are a b x y is_a small_x some is_b small_y = one_more_is (a ∷ []) x y b (one_is a x is_a small_x) some (omega (arith, small_x)) is_b small_y

pub three_are : (a b c x y z : ℕ) → a ≡ 48 + x → x < 10 → 0 < x → b ≡ 48 + y → y < 10 → c ≡ 48 + z → z < 10 → decimal ((x * 10 + y) * 10 + z) ≡ a ∷ b ∷ c ∷ []
three_are a b c x y z is_a small_x some is_b small_y is_c small_z =
    one_more_is (a ∷ b ∷ []) (x * 10 + y) z c (two_are a b x y is_a small_x some is_b small_y) (omega (arith, some)) (omega (arith, small_x, small_y)) is_c small_z

-- a byte is a digit
abbrev IsDigit : ℕ → Type 0
IsDigit byte = (48 ≤ byte) × (byte ≤ 57)

abbrev Valued : ℕ → ℕ → Type 0
Valued byte n = 48 ≤ byte → byte ≡ 48 + n

small_digit : (byte n : ℕ) → IsDigit byte → Valued byte n → n < 10
small_digit byte n is valued = let e : byte ≡ 48 + n = valued is.0 in omega (arith, e, is.1)

-- a number and the count of its digits, at the start of these bytes
abbrev pub Written : (ℕ × ℕ) → List ℕ → Type 0
Written read bytes = (decimal read.0 ≡ take read.1 bytes) × (read.1 ≡ 3 → 100 ≤ read.0)

pub few_are : (a b c x y z : ℕ) (two three : Bool) (second last : ℕ × ℕ) → IsDigit a → (two ≡ true → 48 < a) → (two ≡ true → IsDigit b) → (three ≡ true → (two ≡ true) × IsDigit c) → Valued a x → Valued b y → Valued c z →
    (two ≡ true → second ≡ (x * 10 + y, 2)) → (two ≡ false → second ≡ (x, 1)) → (three ≡ true → last ≡ ((x * 10 + y) * 10 + z, second.1 + 1)) → (three ≡ false → last ≡ second) → Written last (a ∷ b ∷ c ∷ [])
few_are a b c x y z two true second last is some is_b is_c va vb vc yes2 no2 yes3 no3 =
    let of2 : two ≡ true = (is_c refl).0 in
    let dc : IsDigit c = (is_c refl).1 in
    let small : x < 10 = small_digit a x is va in
    let small_b : y < 10 = small_digit b y (is_b of2) vb in
    let small_c : z < 10 = small_digit c z dc vc in
    let ea : a ≡ 48 + x = va is.0 in
    let more : 48 < a = some of2 in
    let places : last ≡ ((x * 10 + y) * 10 + z, 3) = yes3 refl ∙ ap (λ k. ((x * 10 + y) * 10 + z, k + 1)) (ap (λ (r : ℕ × ℕ). r.1) (yes2 of2)) in
    subst (λ read. Written read (a ∷ b ∷ c ∷ [])) (sym places)
    (three_are a b c x y z ea small (omega (arith, ea, more)) (vb (is_b of2).0) small_b (vc dc.0) small_c, (λ _. omega (arith, ea, more)))
few_are a b c x y z true false second last is some is_b is_c va vb vc yes2 no2 yes3 no3 =
    let small : x < 10 = small_digit a x is va in
    let small_b : y < 10 = small_digit b y (is_b refl) vb in
    let ea : a ≡ 48 + x = va is.0 in
    let more : 48 < a = some refl in
    subst (λ read. Written read (a ∷ b ∷ c ∷ [])) (sym (no3 refl ∙ yes2 refl))
    (two_are a b x y ea small (omega (arith, ea, more)) (vb (is_b refl).0) small_b, (λ three. absurd (omega (arith, three))))
few_are a b c x y z false false second last is some is_b is_c va vb vc yes2 no2 yes3 no3 =
    let small : x < 10 = small_digit a x is va in
    subst (λ read. Written read (a ∷ b ∷ c ∷ [])) (sym (no3 refl ∙ no2 refl))
    (one_is a x (va is.0) small, (λ three. absurd (omega (arith, three))))

-- the first three bytes
abbrev pub three_heads : List ℕ → List ℕ
three_heads bytes = slice_index_or bytes 0 0 ∷ slice_index_or bytes 1 0 ∷ slice_index_or bytes 2 0 ∷ []

heads_are : (bytes : List ℕ) (count : ℕ) → 3 ≤ length bytes → count ≤ 3 → take count (three_heads bytes) ≡ take count bytes
heads_are [] count some few = absurd (omega (arith, some))
heads_are (a ∷ []) count some few = absurd (omega (arith, some))
heads_are (a ∷ b ∷ []) count some few = absurd (omega (arith, some))
heads_are (a ∷ b ∷ c ∷ rest) count some few = sym (take-append-le count (a ∷ b ∷ c ∷ []) rest few)

-- a few digits, and the dot after them
pub digits_and_dot : (bytes : List ℕ) (n count : ℕ) → 5 ≤ length bytes → count ≤ 3 → decimal n ≡ take count (three_heads bytes) → slice_index_or bytes count 0 ≡ 46 →
    bytes ≡ decimal n ++ (46 ∷ take (length bytes - (count + 1)) (drop (count + 1) bytes))
digits_and_dot bytes n count some few digits dot =
    let next : suc count ≡ count + 1 = omega arith in
    split_at bytes count 0 (omega (arith, some, few))
    ∙ ap (λ e. take count bytes ++ (e ∷ drop (suc count) bytes)) dot
    ∙ ap (λ ds. ds ++ (46 ∷ drop (suc count) bytes)) (sym (digits ∙ heads_are bytes count (omega (arith, some)) few))
    ∙ ap (λ rest. decimal n ++ (46 ∷ rest)) (sym (take_rest bytes (suc count)))
    ∙ ap (λ k. decimal n ++ (46 ∷ take (length bytes - k) (drop k bytes))) next

-- three digits, one more, and the dot after them
pub fourth_digit : (bytes : List ℕ) (n count last : ℕ) → 5 ≤ length bytes → decimal n ≡ take count (three_heads bytes) → (count ≡ 3 → 100 ≤ n) → count ≡ 3 → n < 1000 → slice_index_or bytes 3 0 ≡ 48 + last → last < 10 → slice_index_or bytes 4 0 ≡ 46 →
    bytes ≡ decimal (n * 10 + last) ++ (46 ∷ take (length bytes - 5) (drop 5 bytes))
fourth_digit [] n count last some digits many is_three few is small dot = absurd (omega (arith, some))
fourth_digit (a ∷ []) n count last some digits many is_three few is small dot = absurd (omega (arith, some))
fourth_digit (a ∷ b ∷ []) n count last some digits many is_three few is small dot = absurd (omega (arith, some))
fourth_digit (a ∷ b ∷ c ∷ []) n count last some digits many is_three few is small dot = absurd (omega (arith, some))
fourth_digit (a ∷ b ∷ c ∷ d ∷ []) n count last some digits many is_three few is small dot = absurd (omega (arith, some))
fourth_digit (a ∷ b ∷ c ∷ d ∷ e ∷ rest) n count last some digits many is_three few is small dot =
    let three : decimal n ≡ a ∷ b ∷ c ∷ [] = digits ∙ ap (λ k. take k (a ∷ b ∷ c ∷ [])) is_three in
    let hundred : 100 ≤ n = many is_three in
    let four : decimal (n * 10 + last) ≡ a ∷ b ∷ c ∷ d ∷ [] = one_more_is (a ∷ b ∷ c ∷ []) n last d three (omega (arith, hundred)) few is small in
    ap (λ x. a ∷ b ∷ c ∷ d ∷ x ∷ rest) dot ∙ ap (λ ds. ds ++ (46 ∷ rest)) (sym four) ∙ ap (λ r. decimal (n * 10 + last) ++ (46 ∷ r)) (sym (take_rest (a ∷ b ∷ c ∷ d ∷ e ∷ rest) 5))

-- four to eight bytes are determined by the first four and the last four
pub ends_are : (bytes : List ℕ) → 4 ≤ length bytes → length bytes ≤ 8 → bytes ≡ take 4 bytes ++ drop (8 - length bytes) (drop (length bytes - 4) bytes)
ends_are bytes some few =
    let at : length bytes - 4 + (8 - length bytes) ≡ 4 = omega (arith, some, few) in
    sym (take-append-drop 4 bytes) ∙ ap (λ bs. take 4 bytes ++ bs) (sym (drop-drop (8 - length bytes) (length bytes - 4) bytes ∙ ap (λ k. drop k bytes) at))

-- the bytes after a word, from the byte that ends the word on
pub from_end : (bytes word behind : List ℕ) (end : ℕ) → bytes ≡ word ++ (end ∷ behind) →
    bytes ≡ word ++ take (length bytes - (length bytes - length behind - 1)) (drop (length bytes - length behind - 1) bytes)
from_end bytes word behind end is =
    let long : length bytes ≡ length word + length (end ∷ behind) = ap length is ∙ length-append word (end ∷ behind) in
    let at : length bytes - length behind - 1 ≡ length word = omega (arith, long) in
    is
    ∙ ap (λ rest. word ++ rest) (sym (drop-append_seam word (end ∷ behind)) ∙ ap (λ bs. drop (length word) bs) (sym is) ∙ ap (λ k. drop k bytes) (sym at) ∙ sym (take_rest bytes (length bytes - length behind - 1)))

pub more_digits : (bytes rest : List ℕ) (n m : ℕ) → bytes ≡ decimal n ++ rest → 1 ≤ length rest → slice_index_or rest 0 0 ≡ 48 + m → m < 10 → 0 < n → n ≤ 6553 → bytes ≡ decimal (n * 10 + m) ++ take (length rest - 1) (drop 1 rest)
more_digits bytes [] n m so_far more is small some few = absurd (omega (arith, more))
more_digits bytes (b ∷ bs) n m so_far more is small some few =
    so_far
    ∙ ap (λ c. decimal n ++ (c ∷ bs)) is
    ∙ sym (append_assoc (decimal n) ((48 + m) ∷ []) bs)
    ∙ ap (λ ds. ds ++ bs) (sym (digit_behind n m small some few))
    ∙ ap (λ rest. decimal (n * 10 + m) ++ rest) (sym (take_rest (b ∷ bs) 1))

-- eight bytes that are a word between two dots
pub between_dots : (bytes name behind word : List ℕ) → name ≡ take 8 bytes → behind ≡ drop 8 bytes → name ≡ 46 ∷ (word ++ (46 ∷ [])) → bytes ≡ 46 ∷ (word ++ (46 ∷ behind))
between_dots bytes name behind word front rest is =
    sym (take-append-drop 8 bytes)
    ∙ ap (λ bs. bs ++ drop 8 bytes) (sym front ∙ is)
    ∙ ap (λ bs. 46 ∷ bs) (append_assoc word (46 ∷ []) (drop 8 bytes))
    ∙ ap (λ bs. 46 ∷ (word ++ (46 ∷ bs))) (sym rest)

-- the word of a copy of a bit, and the words of a move
pub access_is : (bytes third fourth last : List ℕ) (a : Access) → bytes ≡ 46 ∷ (field_word a.field ++ (46 ∷ third)) → third ≡ decimal a.bit ++ (46 ∷ fourth) → fourth ≡ decimal a.reader ++ last → last ≡ codes " " ++ spaced (move_words a.how) →
    decimal a.owner ++ bytes ≡ copy_word a ++ (codes " " ++ spaced (move_words a.how))
access_is bytes third fourth last a two three four five =
    ap (λ bs. decimal a.owner ++ bs) two
    ∙ ap (λ bs. decimal a.owner ++ (46 ∷ (field_word a.field ++ (46 ∷ bs)))) three
    ∙ ap (λ bs. decimal a.owner ++ (46 ∷ (field_word a.field ++ (46 ∷ (decimal a.bit ++ (46 ∷ bs)))))) four
    ∙ ap (λ bs. decimal a.owner ++ (46 ∷ (field_word a.field ++ (46 ∷ (decimal a.bit ++ (46 ∷ (decimal a.reader ++ bs))))))) five
    ∙ together
  where
    together : decimal a.owner ++ (46 ∷ (field_word a.field ++ (46 ∷ (decimal a.bit ++ (46 ∷ (decimal a.reader ++ (32 ∷ spaced (move_words a.how)))))))) ≡ copy_word a ++ (codes " " ++ spaced (move_words a.how))
    together = simp append_assoc

-- a process and an owner of one digit, and of any number
pub near_is : (line : List ℕ) (process owner : ℕ) (text : List ℕ) → 3 ≤ length line → slice_index_or line 0 0 ≡ 48 + process → process < 10 → slice_index_or line 1 0 ≡ 32 → slice_index_or line 2 0 ≡ 48 + owner → owner < 10 →
    decimal owner ++ take (length line - 3) (drop 3 line) ≡ text → line ≡ decimal process ++ (32 ∷ text)
near_is [] process owner text some is small space is_owner small_owner behind = absurd (omega (arith, some))
near_is (a ∷ []) process owner text some is small space is_owner small_owner behind = absurd (omega (arith, some))
near_is (a ∷ b ∷ []) process owner text some is small space is_owner small_owner behind = absurd (omega (arith, some))
near_is (a ∷ b ∷ c ∷ bs) process owner text some is small space is_owner small_owner behind =
    ap (λ d. d ∷ b ∷ c ∷ bs) is
    ∙ ap (λ d. (48 + process) ∷ d ∷ c ∷ bs) space
    ∙ ap (λ ds. ds ++ (32 ∷ c ∷ bs)) (sym (decimal_digit process small))
    ∙ ap (λ d. decimal process ++ (32 ∷ d ∷ bs)) is_owner
    ∙ ap (λ ds. decimal process ++ (32 ∷ (ds ++ bs))) (sym (decimal_digit owner small_owner))
    ∙ ap (λ rest. decimal process ++ (32 ∷ (decimal owner ++ rest))) (sym (take_rest (a ∷ b ∷ c ∷ bs) 3))
    ∙ ap (λ t. decimal process ++ (32 ∷ t)) behind

pub far_is : (line behind bytes text : List ℕ) (process owner : ℕ) → line ≡ decimal process ++ (32 ∷ behind) → behind ≡ decimal owner ++ bytes → decimal owner ++ bytes ≡ text → line ≡ decimal process ++ (32 ∷ text)
far_is line behind bytes text process owner is owned rest = is ∙ ap (λ bs. decimal process ++ (32 ∷ bs)) (owned ∙ rest)

-- the words of a move after another word
move_behind : (w : List ℕ) (how : Move) → spaced (w ∷ (move_words how ++ [])) ≡ w ++ (codes " " ++ spaced (move_words how))
move_behind w (move.BeginWrite v) = refl
move_behind w move.EndWrite = refl
move_behind w move.BeginRead = refl
move_behind w (move.EndRead v) = refl
move_behind w (move.Settle v) = refl

-- The whole line.
pub line_is : (line : List ℕ) (process : ℕ) (a : Access) → line ≡ decimal process ++ (32 ∷ (copy_word a ++ (codes " " ++ spaced (move_words a.how)))) → line ≡ spaced (entry_words (step_entry process a))
line_is line process a is = is ∙ ap (λ bs. decimal process ++ (32 ∷ bs)) (sym (move_behind (copy_word a) a.how))
