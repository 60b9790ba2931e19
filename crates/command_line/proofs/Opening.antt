-- The bytes to come of a source that was looked at.
use Rattle.std.proofs.Common.{◌≡◌, ℕ, suc, ◌+◌, ◌-◌, ◌<◌, ◌≤◌, ◌==◌, ◌&&◌, Bool, true, false, cond, if◌then◌else◌, List, [], ◌∷◌, ◌++◌, filter, get_or, length, map, take, drop, Option, None, Some, IfSome, Result, Ok, Err, refl, ap, sym, subst, ◌∙◌, append-nil, append_assoc, arith}
use Rattle.std.proofs.lemmas.Bool.Decides.{nat_tests}
use Rattle.std.proofs.lemmas.List.{drop_all, drop_more, drop-drop, length-take-le, map-append, take-append-drop, take-append-le, take_all}
use Rattle.std.proofs.lemmas.List.Elements.{filter-append}
use Rattle.std.proofs.Math.Seq.{take-append-add, take-suc}
use Rattle.std.specs.Io.KnownBytes.{Consumes, IsAtEnd, Keeps, ReadConsumes, prepend_known}
use Rattle.std.specs.Option.{is_some, unwrap_or}
use Rattle.files.specs.{Failed, GivesByte, begins_with, input_limit, is_said, lines, onto, said_words, words_of}
use Rattle.command_line.specs.{FirstWord, first_word, word_opened}
use Rattle.command_line.specs.declared.first_word.FirstWord.TheVariants.{Other}

pub keeps_none : (o : Option (List ℕ)) → Keeps o (prepend_known [] o)
keeps_none None = tt
keeps_none (Some xs) = refl

pub keeps_both : (a b c : Option (List ℕ)) → Keeps a b → Keeps b c → Keeps a c
keeps_both None b c first next = tt
keeps_both (Some x) None c first next = absurd first
keeps_both (Some x) (Some y) None first next = absurd next
keeps_both (Some x) (Some y) (Some z) first next = next ∙ first

-- a block was looked at
pub looked : (front block more : List ℕ) (old new : Option (List ℕ)) (r : Result ℕ Failed) (count : ℕ) → r ≡ Ok count → ReadConsumes old new r block → more ≡ front ++ take count block → Keeps (prepend_known front old) (prepend_known more new)
looked front block more old new r count is came moved = by old new (subst (λ (r : Result ℕ Failed). ReadConsumes old new r block) is came).0
  where
    by : (old new : Option (List ℕ)) → Consumes old new (take count block) → Keeps (prepend_known front old) (prepend_known more new)
    by None new came = tt
    by (Some text) None came = absurd came
    by (Some text) (Some rest) came = ap (λ l. l ++ rest) moved ∙ append_assoc front (take count block) rest ∙ ap (λ l. front ++ l) (sym came)

-- there was none
pub none_looked : (front block : List ℕ) (old new : Option (List ℕ)) (r : Result ℕ Failed) → r ≡ Ok 0 → ReadConsumes old new r block → Keeps (prepend_known front old) (prepend_known front new)
none_looked front block old new r is came = by old new (subst (λ (r : Result ℕ Failed). ReadConsumes old new r block) is came).0
  where
    by : (old new : Option (List ℕ)) → Consumes old new [] → Keeps (prepend_known front old) (prepend_known front new)
    by None new came = tt
    by (Some text) None came = absurd came
    by (Some text) (Some rest) came = ap (λ l. front ++ l) (sym came)

-- The first word, by the front of a text.

-- the lines of a text, by two tests of its first byte
abbrev by_tests : Bool → Bool → ℕ → List (List ℕ) → List (List ℕ)
by_tests feeds returns b known = if feeds then [] ∷ known else if returns then known else onto b known

-- there is a line
abbrev HasLine : List (List ℕ) → Type 0
HasLine [] = ⊥
HasLine (line ∷ known) = Unit {0}

ended_some : (bs : List ℕ) → HasLine (lines (bs ++ 10 ∷ []))
ended_some [] = tt
ended_some (b ∷ bs) = by (b == 10) ((b == 13) && begins_with 10 (bs ++ 10 ∷ [])) (lines (bs ++ 10 ∷ [])) (ended_some bs)
  where
    by : (feeds returns : Bool) (known : List (List ℕ)) → HasLine known → HasLine (by_tests feeds returns b known)
    by true returns known some = tt
    by false true known some = some
    by false false [] some = tt
    by false false (line ∷ known) some = tt

-- after the end of a line come the lines of the bytes after it
lines_behind_end : (bs more : List ℕ) → lines (bs ++ 10 ∷ more) ≡ lines (bs ++ 10 ∷ []) ++ lines more
lines_behind_end [] more = refl
lines_behind_end (b ∷ bs) more =
    ap (λ t. by_tests (b == 10) ((b == 13) && t) b (lines (bs ++ 10 ∷ more))) (next bs)
    ∙ ap (by_tests (b == 10) ((b == 13) && begins_with 10 (bs ++ 10 ∷ [])) b) (lines_behind_end bs more)
    ∙ by (b == 10) ((b == 13) && begins_with 10 (bs ++ 10 ∷ [])) (lines (bs ++ 10 ∷ [])) (ended_some bs)
  where
    next : (bs : List ℕ) → begins_with 10 (bs ++ 10 ∷ more) ≡ begins_with 10 (bs ++ 10 ∷ [])
    next [] = refl
    next (c ∷ cs) = refl

    by : (feeds returns : Bool) (known : List (List ℕ)) → HasLine known → by_tests feeds returns b (known ++ lines more) ≡ by_tests feeds returns b known ++ lines more
    by true returns known some = refl
    by false true known some = refl
    by false false [] some = absurd some
    by false false (line ∷ known) some = refl

-- the lines of a text are split after each 0x0A
pub lines_behind : (front more : List ℕ) (at : ℕ) → at < length front → (get_or front at 0 == 10) ≡ true → lines (front ++ more) ≡ lines (take (at + 1) front) ++ lines (drop (length (take (at + 1) front)) front ++ more)
lines_behind front more at within ends =
    let here : get_or front at 0 ≡ 10 = grind (arith, nat_tests) in
    let cut : front ≡ take at front ++ 10 ∷ drop (at + 1) front = sym (take-append-drop at front) ∙ ap (λ l. take at front ++ l) (drop_more front at 0 within ∙ ap (λ b. b ∷ drop (at + 1) front) here) in
    let long : length (take (at + 1) front) ≡ at + 1 = length-take-le (at + 1) front (omega (arith, within)) in
    let one : at + 1 ≡ suc at = omega arith in
    let part : take (at + 1) front ≡ take at front ++ 10 ∷ [] = ap (λ n. take n front) one ∙ take-suc front at 0 within ∙ ap (λ b. take at front ++ b ∷ []) here in
    ap (λ l. lines (l ++ more)) cut ∙ ap lines (append_assoc (take at front) (10 ∷ drop (at + 1) front) more)
    ∙ lines_behind_end (take at front) (drop (at + 1) front ++ more)
    ∙ (λ i. lines (sym part i) ++ lines (drop (sym long i) front ++ more))

-- if the first of some lines determine the first word, the other lines do not change it
opened_more : (some more : List (List ℕ)) → is_some (word_opened (filter is_said (map words_of some))) ≡ true → word_opened (filter is_said (map words_of (some ++ more))) ≡ word_opened (filter is_said (map words_of some))
opened_more some more is = ap word_opened (ap (filter is_said) (map-append words_of some more) ∙ filter-append is_said (map words_of some) (map words_of more)) ∙ by (filter is_said (map words_of some)) is
  where
    by : (us : List (List (List ℕ))) → is_some (word_opened us) ≡ true → word_opened (us ++ filter is_said (map words_of more)) ≡ word_opened us
    by [] is = absurd (cc)
    by (u ∷ us) is = refl

-- if the lines up to the end of a line determine the first word, the bytes after it do not change it
pub opened_behind : (front rest : List ℕ) → is_some (word_opened (said_words (front ++ 10 ∷ []))) ≡ true → word_opened (said_words (front ++ 10 ∷ rest)) ≡ word_opened (said_words (front ++ 10 ∷ []))
opened_behind front rest is = ap (λ l. word_opened (filter is_said (map words_of l))) (lines_behind_end front rest) ∙ opened_more (lines (front ++ 10 ∷ [])) (lines rest) is

-- a front of `input_limit` bytes determines the first word, whatever comes after it
pub reported_by_length : (front rest : List ℕ) → input_limit ≤ length front → first_word (front ++ rest) ≡ first_word front
reported_by_length front rest long = ap (λ t. unwrap_or (word_opened (said_words t)) Other) (take-append-le input_limit front rest long)

-- a front in which a line that is not skipped has its end determines the first word too
pub reported_by_line : (front ended rest : List ℕ) → length front < input_limit → ((more : List ℕ) → lines (front ++ more) ≡ lines ended ++ lines (drop (length ended) front ++ more)) → is_some (word_opened (said_words ended)) ≡ true → first_word (front ++ rest) ≡ first_word front
reported_by_line front ended rest few splits is = ap (λ o. unwrap_or o Other) (all (front ++ rest) (take-of rest) ∙ sym (all front (take-of-none)))
  where
    all : (text : List ℕ) → (more : List ℕ) × (take input_limit text ≡ front ++ more) → word_opened (said_words (take input_limit text)) ≡ word_opened (said_words ended)
    all text more = ap (λ t. word_opened (said_words t)) more.1 ∙ ap (λ l. word_opened (filter is_said (map words_of l))) (splits more.0) ∙ opened_more (lines ended) (lines (drop (length ended) front ++ more.0)) is

    take-of : (rest : List ℕ) → (more : List ℕ) × (take input_limit (front ++ rest) ≡ front ++ more)
    take-of rest = let all : input_limit ≡ length front + (input_limit - length front) = omega (arith, few) in (take (input_limit - length front) rest, ap (λ n. take n (front ++ rest)) all ∙ take-append-add front rest (input_limit - length front))

    take-of-none : (more : List ℕ) × (take input_limit front ≡ front ++ more)
    take-of-none = ([], take_all input_limit front (omega (arith, few)) ∙ sym (append-nil front))

-- the first word of a front is that of all bytes: there are no others, or they do not matter
pub reported_whole : (unseen rest : Option (List ℕ)) (front : List ℕ) (is : FirstWord) → is ≡ first_word front → Keeps unseen (prepend_known front rest) → IsAtEnd rest → IfSome unseen (λ text. is ≡ first_word text)
reported_whole None rest front is same keeps end = tt
reported_whole (Some text) None front is same keeps end = absurd keeps
reported_whole (Some text) (Some more) front is same keeps end = same ∙ ap first_word (sym (append-nil front) ∙ ap (λ l. front ++ l) (sym end) ∙ keeps)

pub reported_front : (unseen rest : Option (List ℕ)) (front : List ℕ) (is : FirstWord) → is ≡ first_word front → Keeps unseen (prepend_known front rest) → ((rest : List ℕ) → first_word (front ++ rest) ≡ first_word front) → IfSome unseen (λ text. is ≡ first_word text)
reported_front None rest front is same keeps reports = tt
reported_front (Some text) None front is same keeps reports = absurd keeps
reported_front (Some text) (Some more) front is same keeps reports = same ∙ sym (reports more) ∙ ap first_word keeps

-- with each block the bytes that are left to look at are fewer, or their end was found
pub fewer_remaining : (looked longer : ℕ) (some next : Bool) → some ≡ true → looked < input_limit → looked + cond next 1 0 ≤ longer → (input_limit - longer) + cond next 1 0 < (input_limit - looked) + cond some 1 0
fewer_remaining looked longer true true is remaining more = omega (arith, remaining, more)
fewer_remaining looked longer true false is remaining more = omega (arith, remaining, more)
fewer_remaining looked longer false next is remaining more = absurd (cc)

-- The next bytes of such a source.

-- some that were looked at
pub block_given : (front buffer : List ℕ) (given count : ℕ) (rest : Option (List ℕ)) → take count buffer ≡ take count (drop given front) → (count ≡ 0 → 0 < length buffer → ⊥) →
    ReadConsumes {E = Failed} (prepend_known (drop given front) rest) (prepend_known (drop (given + count) front) rest) (Ok count) buffer
block_given front buffer given count rest is some = (by rest, λ none room. absurd (some none room))
  where
    next : drop given front ≡ take count buffer ++ drop (given + count) front
    next = sym (take-append-drop count (drop given front)) ∙ (λ i. sym is i ++ drop-drop count given front i)

    by : (rest : Option (List ℕ)) → Consumes (prepend_known (drop given front) rest) (prepend_known (drop (given + count) front) rest) (take count buffer)
    by None = tt
    by (Some text) = ap (λ l. l ++ text) next ∙ append_assoc (take count buffer) (drop (given + count) front) text

-- the bytes after the front
behind_all : (front : List ℕ) (given : ℕ) → length front ≤ given → drop given front ≡ []
behind_all front given past = drop_all given front past

pub byte_behind : (front : List ℕ) (given : ℕ) (old new : Option (List ℕ)) (r : Result (Option ℕ) Failed) → length front ≤ given → GivesByte old new r → GivesByte (prepend_known (drop given front) old) (prepend_known (drop given front) new) r
byte_behind front given old new r past gives = subst (λ l. GivesByte (prepend_known l old) (prepend_known l new) r) (sym (behind_all front given past)) (by r old new gives)
  where
    by : (r : Result (Option ℕ) Failed) (old new : Option (List ℕ)) → GivesByte old new r → GivesByte (prepend_known [] old) (prepend_known [] new) r
    by (Ok byte) None None gives = gives
    by (Ok byte) None (Some ys) gives = gives
    by (Ok byte) (Some xs) None gives = absurd gives.0
    by (Ok byte) (Some xs) (Some ys) gives = gives
    by (Err e) None new gives = tt
    by (Err e) (Some xs) None gives = absurd gives
    by (Err e) (Some xs) (Some ys) gives = gives

pub bytes_behind : (front : List ℕ) (given : ℕ) (old new : Option (List ℕ)) (r : Result ℕ Failed) (buffer : List ℕ) → length front ≤ given → ReadConsumes old new r buffer → ReadConsumes (prepend_known (drop given front) old) (prepend_known (drop given front) new) r buffer
bytes_behind front given old new r buffer past gives = subst (λ l. ReadConsumes (prepend_known l old) (prepend_known l new) r buffer) (sym (behind_all front given past)) (by r old new gives)
  where
    by : (r : Result ℕ Failed) (old new : Option (List ℕ)) → ReadConsumes old new r buffer → ReadConsumes (prepend_known [] old) (prepend_known [] new) r buffer
    by (Ok n) None None gives = gives
    by (Ok n) None (Some ys) gives = gives
    by (Ok n) (Some xs) None gives = absurd gives.0
    by (Ok n) (Some xs) (Some ys) gives = gives
    by (Err e) None new gives = tt
    by (Err e) (Some xs) None gives = absurd gives
    by (Err e) (Some xs) (Some ys) gives = gives
