-- The first bytes of a long text have its fault, by any grammar.
use Rattle.std.specs.Prelude.{◌≡◌, ℕ, zero, suc, ◌+◌, ◌-◌, ◌*◌, ◌≤◌, ◌<◌, ◌==◌, ◌&&◌, ◌||◌, Bool, true, false, nat_lt, if◌then◌else◌, List, [], ◌∷◌, take, drop, length, ◌++◌, Option, Some, None, Result, Ok, Err, refl}
use Rattle.std.proofs.Common.{◌⊎◌, inl, inr, ap, sym, subst, ◌∙◌, append-nil, arith}
use Rattle.std.proofs.lemmas.Bool.Decides.{nat_tests}
use Rattle.std.proofs.lemmas.List.{length-drop, length-append, take_at}
use Rattle.std.specs.Io.KnownBytes.{IsAtEnd}
use Rattle.files.specs.{FaultKind, Grammar, HaveSameFault, LineFault, ReadsInput, ReportsAtLimit, at_line, begins_with, begun, file_of, input_limit, line_read, lines, lines_read, onto, words_of, words_read, ◌>>=◌}
use Rattle.files.specs.declared.faults.FaultKind.TheVariants.{TooLong}

-- the first line of some bytes ends within k bytes, before byte m, and is the first line of the first m bytes too
record Ends (k m : ℕ) (bs : List ℕ) : Type 0 where
  line : List ℕ
  size : ℕ
  some : 1 ≤ size
  within : size ≤ k
  whole : lines bs ≡ line ∷ lines (drop size bs)
  cut : lines (take m bs) ≡ line ∷ lines (take (m - size) (drop size bs))

-- there is a line, and the first has k - 1 bytes or more
record Goes (k : ℕ) (known : List (List ℕ)) : Type 0 where
  line : List ℕ
  rest : List (List ℕ)
  is : known ≡ line ∷ rest
  long : k ≤ length line + 1

-- the lines of a byte and those after it, by the byte
at_feed : (b : ℕ) (bs : List ℕ) → (b == 10) ≡ true → lines (b ∷ bs) ≡ [] ∷ lines bs
at_feed b bs feeds = ap (λ s. if s then [] ∷ lines bs else if (b == 13) && begins_with 10 bs then lines bs else onto b (lines bs)) feeds

at_return : (b : ℕ) (bs : List ℕ) → (b == 10) ≡ false → ((b == 13) && begins_with 10 bs) ≡ true → lines (b ∷ bs) ≡ lines bs
at_return b bs feeds returns = ap (λ s. if s then [] ∷ lines bs else if (b == 13) && begins_with 10 bs then lines bs else onto b (lines bs)) feeds ∙ ap (λ s. if s then lines bs else onto b (lines bs)) returns

at_other : (b : ℕ) (bs : List ℕ) → (b == 10) ≡ false → ((b == 13) && begins_with 10 bs) ≡ false → lines (b ∷ bs) ≡ onto b (lines bs)
at_other b bs feeds returns = ap (λ s. if s then [] ∷ lines bs else if (b == 13) && begins_with 10 bs then lines bs else onto b (lines bs)) feeds ∙ ap (λ s. if s then lines bs else onto b (lines bs)) returns

-- either of two lists has a first line
pick : (t : Bool) (xs ys : List (List ℕ)) → Goes 0 xs → Goes 0 ys → Goes 0 (if t then xs else ys)
pick true xs ys g h = g
pick false xs ys g h = h

some_onto : (b : ℕ) (known : List (List ℕ)) → Goes 0 (onto b known)
some_onto b [] = record { line = b ∷ []; rest = []; is = refl; long = omega arith }
some_onto b (line ∷ rest) = record { line = b ∷ line; rest = rest; is = refl; long = omega arith }

-- some bytes have a line
some_line : (b : ℕ) (bs : List ℕ) → Goes 0 (lines (b ∷ bs))
some_line b [] = pick (b == 10) ([] ∷ []) (if (b == 13) && false then [] else (b ∷ []) ∷ []) (record { line = []; rest = []; is = refl; long = omega arith }) (by (b == 13))
  where
    by : (t : Bool) → Goes 0 (if t && false then [] else (b ∷ []) ∷ [])
    by true = some_onto b []
    by false = some_onto b []
some_line b (c ∷ cs) = pick (b == 10) ([] ∷ lines (c ∷ cs)) (if (b == 13) && (c == 10) then lines (c ∷ cs) else onto b (lines (c ∷ cs))) (record { line = []; rest = lines (c ∷ cs); is = refl; long = omega arith })
    (pick ((b == 13) && (c == 10)) (lines (c ∷ cs)) (onto b (lines (c ∷ cs))) (some_line c cs) (some_onto b (lines (c ∷ cs))))

-- one more byte at the start of a first line
longer : (k b : ℕ) (known : List (List ℕ)) → Goes k known → Goes (suc k) (onto b known)
longer k b known g = record { line = b ∷ g.line; rest = g.rest; is = ap (onto b) g.is; long = let h : k ≤ length g.line + 1 = g.long in omega arith }

-- the first line ends within k bytes, or has at least k - 1 bytes, both in all bytes and in the first m bytes
Split : ℕ → ℕ → List ℕ → Type 0
Split k m bs = Ends k m bs ⊎ (Goes k (lines bs) × Goes k (lines (take m bs)))

-- by the first byte, if it does not belong to the end of a line
split_on : (k m b : ℕ) (bs : List ℕ) → (b == 10) ≡ false → ((b == 13) && begins_with 10 bs) ≡ false → ((b == 13) && begins_with 10 (take m bs)) ≡ false → Split k m bs → Split (suc k) (suc m) (b ∷ bs)
unfolding Split
split_on k m b bs feeds returns cut_returns (inl e) = inl (record {
  line = b ∷ e.line;
  size = suc e.size;
  some = omega arith;
  within = let h : e.size ≤ k = e.within in omega arith;
  whole = at_other b bs feeds returns ∙ ap (onto b) e.whole;
  cut = at_other b (take m bs) feeds cut_returns ∙ ap (onto b) e.cut ∙ ap (λ n. (b ∷ e.line) ∷ lines (take n (drop e.size bs))) (less m e.size);
})
  where
    less : (m n : ℕ) → m - n ≡ suc m - suc n
    less m n = omega arith
split_on k m b bs feeds returns cut_returns (inr (g, h)) = inr (goes (at_other b bs feeds returns) g, goes (at_other b (take m bs) feeds cut_returns) h)
  where
    goes : {xs ys : List (List ℕ)} → xs ≡ onto b ys → Goes k ys → Goes (suc k) xs
    goes is g = subst (Goes (suc k)) (sym is) (longer k b _ g)

-- by the first byte, if it is a 0x0A
split_feed : (k m b : ℕ) (bs : List ℕ) → (b == 10) ≡ true → Split (suc k) (suc m) (b ∷ bs)
unfolding Split
split_feed k m b bs feeds = inl (record {
  line = [];
  size = 1;
  some = omega arith;
  within = omega arith;
  whole = at_feed b bs feeds;
  cut = at_feed b (take m bs) feeds ∙ ap (λ n. [] ∷ lines (take n bs)) (less m);
})
  where
    less : (m : ℕ) → m ≡ suc m - 1
    less m = omega arith

-- by the first bytes, if they are 0x0D and 0x0A
split_return : (k m b c : ℕ) (cs : List ℕ) → (b == 10) ≡ false → ((b == 13) && (c == 10)) ≡ true → Split (suc k) (suc (suc m)) (b ∷ c ∷ cs)
unfolding Split
split_return zero m b c cs feeds returns = inr (empty cs, empty (take m cs))
  where
    is_feed : (c == 10) ≡ true
    is_feed = grind (arith, nat_tests)

    empty : (ds : List ℕ) → Goes 1 (lines (b ∷ c ∷ ds))
    empty ds = record { line = []; rest = lines ds; is = at_return b (c ∷ ds) feeds returns ∙ at_feed c ds is_feed; long = omega arith }
split_return (suc k) m b c cs feeds returns = inl (record {
  line = [];
  size = 2;
  some = omega arith;
  within = omega arith;
  whole = at_return b (c ∷ cs) feeds returns ∙ at_feed c cs is_feed;
  cut = at_return b (c ∷ take m cs) feeds returns ∙ at_feed c (take m cs) is_feed ∙ ap (λ n. [] ∷ lines (take n cs)) (less m);
})
  where
    is_feed : (c == 10) ≡ true
    is_feed = grind (arith, nat_tests)

    less : (m : ℕ) → m ≡ suc (suc m) - 2
    less m = omega arith

split_at : (k m : ℕ) (bs : List ℕ) → k < m → m ≤ length bs → Split k m bs
unfolding Split
split_at zero zero bs early there = absurd (omega arith)
split_at zero (suc m) [] early there = absurd (omega arith)
split_at zero (suc m) (b ∷ bs) early there = inr (some_line b bs, some_line b (take m bs))
split_at (suc k) zero bs early there = absurd (omega arith)
split_at (suc k) (suc m) [] early there = absurd (omega arith)
split_at (suc k) (suc zero) (b ∷ bs) early there = absurd (omega arith)
split_at (suc k) (suc (suc m)) (b ∷ []) early there = absurd (omega arith)
split_at (suc k) (suc (suc m)) (b ∷ c ∷ cs) early there = by (b == 10) refl ((b == 13) && (c == 10)) refl (split_at k (suc m) (c ∷ cs) (omega arith) (omega arith))
  where
    by : (s : Bool) → (b == 10) ≡ s → (t : Bool) → ((b == 13) && (c == 10)) ≡ t → Split k (suc m) (c ∷ cs) → Split (suc k) (suc (suc m)) (b ∷ c ∷ cs)
    by true feeds t returns behind = split_feed k (suc m) b (c ∷ cs) feeds
    by false feeds true returns behind = split_return k m b c cs feeds returns
    by false feeds false returns behind = split_on k (suc m) b (c ∷ cs) feeds returns returns behind

-- a line with a fault ends the reading
line_fault : {S : Type 0} (g : Grammar S) (n : ℕ) (line : List ℕ) (rest : List (List ℕ)) (before : Option S) (kind : FaultKind) (ls : List (List ℕ)) → ls ≡ line ∷ rest → line_read g n line before ≡ Err kind → lines_read g n ls before ≡ Err (record { line = n; kind = kind })
line_fault g n line rest before kind ls is fault = ap (λ l. lines_read g n l before) is ∙ ap (λ r. at_line n r >>= lines_read g (n + 1) rest) fault

-- after a line without a fault, the next line is read
line_goes : {S : Type 0} (g : Grammar S) (n : ℕ) (line : List ℕ) (rest : List (List ℕ)) (before after : Option S) (ls : List (List ℕ)) → ls ≡ line ∷ rest → line_read g n line before ≡ Ok after → lines_read g n ls before ≡ lines_read g (n + 1) rest after
line_goes g n line rest before after ls is ok = ap (λ l. lines_read g n l before) is ∙ ap (λ r. at_line n r >>= lines_read g (n + 1) rest) ok

-- a line that is too long, and one that comes too late
too_long : {S : Type 0} (g : Grammar S) (n : ℕ) (line : List ℕ) (before : Option S) → 128 < length line → line_read g n line before ≡ Err TooLong
too_long g n line before long = ap (λ t. if t then Err TooLong else words_read g (words_of line) before) both
  where
    both : (nat_lt 4096 n || nat_lt 128 (length line)) ≡ true
    both = grind (arith, nat_tests)

too_late : {S : Type 0} (g : Grammar S) (n : ℕ) (line : List ℕ) (before : Option S) → 4096 < n → line_read g n line before ≡ Err TooLong
too_late g n line before late = ap (λ t. if t then Err TooLong else words_read g (words_of line) before) both
  where
    both : (nat_lt 4096 n || nat_lt 128 (length line)) ≡ true
    both = grind (arith, nat_tests)

-- two texts have a fault in common, if reading on in them has it in common
read_on : {S : Type 0} {a b c d : Result S LineFault} → a ≡ c → b ≡ d → HaveSameFault c d → HaveSameFault a b
read_on p q h = record { fault = h.fault; remaining = p ∙ h.remaining; right = q ∙ h.right }

-- The lines of the first m bytes have the fault that all lines have, if the lines before line 4,097 cannot hold m bytes.
reports_from : {S : Type 0} (g : Grammar S) (remaining n m : ℕ) (bs : List ℕ) (before : Option S) → n + remaining ≡ 4097 → remaining * 130 + 1 ≤ m → m ≤ length bs → HaveSameFault (lines_read g n (lines (take m bs)) before) (lines_read g n (lines bs) before)
unfolding Split
reports_from g zero n zero bs before number many there = absurd (omega arith)
reports_from g zero n (suc m) [] before number many there = absurd (omega arith)
reports_from g zero n (suc m) (b ∷ bs) before number many there =
    let cut = some_line b (take m bs) in
    let whole = some_line b bs in
    record {
      fault = record { line = n; kind = TooLong };
      remaining = line_fault g n cut.line cut.rest before TooLong (lines (b ∷ take m bs)) cut.is (too_late g n cut.line before (omega arith));
      right = line_fault g n whole.line whole.rest before TooLong (lines (b ∷ bs)) whole.is (too_late g n whole.line before (omega arith));
    }
reports_from {S} g (suc remaining) n m bs before number many there = by (split_at 130 m bs (omega arith) there) (λ size within after. reports_from g remaining (n + 1) (m - size) (drop size bs) after (omega arith) (omega (arith, within)) (omega (arith, length-drop size bs)))
  where
    goes : (e : Ends 130 m bs) → (r : Result (Option S) FaultKind) → line_read g n e.line before ≡ r → ((after : Option S) → HaveSameFault (lines_read g (n + 1) (lines (take (m - e.size) (drop e.size bs))) after) (lines_read g (n + 1) (lines (drop e.size bs)) after)) → HaveSameFault (lines_read g n (lines (take m bs)) before) (lines_read g n (lines bs) before)
    goes e (Err kind) is behind = record {
      fault = record { line = n; kind = kind };
      remaining = line_fault g n e.line (lines (take (m - e.size) (drop e.size bs))) before kind (lines (take m bs)) e.cut is;
      right = line_fault g n e.line (lines (drop e.size bs)) before kind (lines bs) e.whole is;
    }
    goes e (Ok after) is behind = read_on (line_goes g n e.line (lines (take (m - e.size) (drop e.size bs))) before after (lines (take m bs)) e.cut is) (line_goes g n e.line (lines (drop e.size bs)) before after (lines bs) e.whole is) (behind after)

    by : Ends 130 m bs ⊎ (Goes 130 (lines bs) × Goes 130 (lines (take m bs))) → ((size : ℕ) → size ≤ 130 → (after : Option S) → HaveSameFault (lines_read g (n + 1) (lines (take (m - size) (drop size bs))) after) (lines_read g (n + 1) (lines (drop size bs)) after)) → HaveSameFault (lines_read g n (lines (take m bs)) before) (lines_read g n (lines bs) before)
    by (inl e) behind = goes e (line_read g n e.line before) refl (behind e.size e.within)
    by (inr (whole, cut)) behind =
        let whole_long : 130 ≤ length whole.line + 1 = whole.long in
        let cut_long : 130 ≤ length cut.line + 1 = cut.long in
        record {
          fault = record { line = n; kind = TooLong };
          remaining = line_fault g n cut.line cut.rest before TooLong (lines (take m bs)) cut.is (too_long g n cut.line before (omega (arith, cut_long)));
          right = line_fault g n whole.line whole.rest before TooLong (lines bs) whole.is (too_long g n whole.line before (omega (arith, whole_long)));
        }

-- a fault in common is kept by further steps on the values
fault_passes : {A B : Type 0} {a b : Result A LineFault} (f h : A → Result B LineFault) → HaveSameFault a b → HaveSameFault (a >>= f) (b >>= h)
fault_passes f h same = record { fault = same.fault; remaining = ap (λ r. r >>= f) same.remaining; right = ap (λ r. r >>= h) same.right }

-- By any grammar, the first bytes of a text, as many as the limit, have a fault, and the whole text has the same.
pub reports_at_limit : {S : Type 0} (g : Grammar S) (text : List ℕ) → input_limit ≤ length text → ReportsAtLimit (file_of g) text
reports_at_limit g text long = fault_passes (begun (length (lines (take input_limit text)) + 1)) (begun (length (lines text) + 1)) (reports_from g 4096 1 input_limit text None (omega arith) (omega arith) long)

-- A reading that continues that of the grammar has the same fault too.
pub reports_at_limit_then : {S T : Type 0} (g : Grammar S) (f : S → Result T LineFault) (text : List ℕ) → input_limit ≤ length text → ReportsAtLimit (λ bytes. file_of g bytes >>= f) text
reports_at_limit_then g f text long = fault_passes f f (reports_at_limit g text long)

-- the bytes that are read of an input: all of it, or as many bytes as the limit
whole_or_cut : (text bytes : List ℕ) (rest : Option (List ℕ)) → ReadsInput (Some text) rest bytes → ((bytes ≡ text) × IsAtEnd rest) ⊎ ((input_limit ≤ length text) × (bytes ≡ take input_limit text))
whole_or_cut text bytes None read = absurd read.front
whole_or_cut text bytes (Some remaining) read = by (nat_lt (length bytes) input_limit) refl
  where
    by : (t : Bool) → nat_lt (length bytes) input_limit ≡ t → ((bytes ≡ text) × (remaining ≡ [])) ⊎ ((input_limit ≤ length text) × (bytes ≡ take input_limit text))
    by true early =
        let none : remaining ≡ [] = read.whole (grind (arith, nat_tests)) in
        inl (sym (read.front ∙ ap (λ ys. bytes ++ ys) none ∙ append-nil bytes), none)
    by false late =
        let within : length bytes ≤ input_limit = read.within in
        let full : length bytes ≡ input_limit = grind (arith, nat_tests) in
        let size : length text ≡ length bytes + length remaining = ap length read.front ∙ length-append bytes remaining in
        inr (omega (arith, full, size), sym (ap (take input_limit) read.front ∙ take_at bytes remaining input_limit full))

-- The bytes that are read of an input have the result of the whole input, by any reading that finds a fault at the limit.
pub input_reports : {S : Type 0} (reading : List ℕ → Result S LineFault) (text bytes : List ℕ) (rest : Option (List ℕ)) → ((text : List ℕ) → input_limit ≤ length text → ReportsAtLimit reading text) → ReadsInput (Some text) rest bytes → reading bytes ≡ reading text
input_reports reading text bytes rest reports read = by (whole_or_cut text bytes rest read)
  where
    by : ((bytes ≡ text) × IsAtEnd rest) ⊎ ((input_limit ≤ length text) × (bytes ≡ take input_limit text)) → reading bytes ≡ reading text
    by (inl (all, ended)) = ap reading all
    by (inr (long, cut)) = let same = reports text long in ap reading cut ∙ same.remaining ∙ sym same.right

-- If the bytes that are read have no fault, the input was read to its end.
pub input_ended : {S : Type 0} (reading : List ℕ → Result S LineFault) (text bytes : List ℕ) (rest : Option (List ℕ)) (said : S) → ((text : List ℕ) → input_limit ≤ length text → ReportsAtLimit reading text) → ReadsInput (Some text) rest bytes → reading bytes ≡ Ok said → IsAtEnd rest
input_ended reading text bytes rest said reports read good = by (whole_or_cut text bytes rest read)
  where
    by : ((bytes ≡ text) × IsAtEnd rest) ⊎ ((input_limit ≤ length text) × (bytes ≡ take input_limit text)) → IsAtEnd rest
    by (inl (all, ended)) = ended
    by (inr (long, cut)) = let same = reports text long in let two : Err same.fault ≡ Ok said = sym same.remaining ∙ sym (ap reading cut) ∙ good in absurd (cc)
