use Rattle.std.proofs.Common.{◌≡◌, ℕ, ◌<◌, List, [], ◌∷◌, length, get_or, Ok, refl, ap, sym, ◌∙◌, arith}
use Rattle.std.specs.Borrow.{Bor}
use Rattle.plain_store.specs.declared.commands.Reply.TheVariants as reply
use Rattle.files.specs.{texts, word, ◌>>=◌}
use Rattle.scenario.specs.{number_at}
use Rattle.record_file.specs.Reading.{reply_count, reply_of}
use Rattle.record_file.specs.declared.keywords.ReplyWord.{ReplyWord}
use Rattle.record_file.specs.declared.keywords.ReplyWord.TheVariants as reply_word
use Rattle.record_file.proofs.marks.reply.Goals as goal

-- a reply by the name that it has
by_name : {n m : ReplyWord} (words : List (List ℕ)) → n ≡ m → reply_of m words ≡ reply_of n words
by_name words is = ap (λ n. reply_of n words) (sym is)

-- a reply that takes one word has this word
one_word : (n m : ReplyWord) (words : List (Bor (List ℕ))) → n ≡ m → length words ≡ reply_count n → reply_count m ≡ 1 → 0 < length words
one_word n m words is counts one = let few : reply_count n ≡ 1 = ap reply_count is ∙ one in omega (arith, counts, few)

first_word : (words : List (Bor (List ℕ))) (d : Bor (List ℕ)) → 0 < length words → (get_or words 0 d).now ≡ word 0 (texts words)
first_word [] d some = absurd (omega (arith, some))
first_word (w ∷ ws) d some = refl

pub bounds-words-0 : goal.bounds-words-0
bounds-words-0 c = one_word c.args.name reply_word.Value c.args.words.now c.in-Value.is c.requires refl

pub bounds-words-0-in-Sum : goal.bounds-words-0-in-Sum
bounds-words-0-in-Sum c = one_word c.args.name reply_word.Sum c.args.words.now c.in-Sum.is c.requires refl

pub bounds-words-0-in-Kept : goal.bounds-words-0-in-Kept
bounds-words-0-in-Kept c = one_word c.args.name reply_word.Kept c.args.words.now c.in-Kept.is c.requires refl

pub bounds-words-0-in-Last : goal.bounds-words-0-in-Last
bounds-words-0-in-Last c = one_word c.args.name reply_word.Last c.args.words.now c.in-Last.is c.requires refl

pub returns-in_ok-number-in-Last : goal.returns-in_ok-number-in-Last
returns-in_ok-number-in-Last c =
    let some = one_word c.args.name reply_word.Last c.args.words.now c.in-Last.is c.requires refl in
    ap (λ r. r >>= λ n. Ok (reply.Last n)) (c.in_ok-number-in-Last.ensures ∙ ap (number_at 65535) (first_word c.args.words.now _ some)) ∙ by_name (texts c.args.words.now) c.in-Last.is

pub returns-in-Done : goal.returns-in-Done
returns-in-Done c = by_name (texts c.args.words.now) c.in-Done.is

pub returns-in-Swapped : goal.returns-in-Swapped
returns-in-Swapped c = by_name (texts c.args.words.now) c.in-Swapped.is

pub returns-in-NoName : goal.returns-in-NoName
returns-in-NoName c = by_name (texts c.args.words.now) c.in-NoName.is

pub returns-in-NotCounter : goal.returns-in-NotCounter
returns-in-NotCounter c = by_name (texts c.args.words.now) c.in-NotCounter.is

pub returns-in-Overflow : goal.returns-in-Overflow
returns-in-Overflow c = by_name (texts c.args.words.now) c.in-Overflow.is

pub returns-in-StoreFull : goal.returns-in-StoreFull
returns-in-StoreFull c = by_name (texts c.args.words.now) c.in-StoreFull.is
