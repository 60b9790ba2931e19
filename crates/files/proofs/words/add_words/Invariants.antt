use Rattle.std.proofs.Common.{◌≡◌, ◌++◌, length}
use Rattle.files.specs.{texts, words_of}
use Rattle.files.proofs.words.add_words.Given as goal

-- the words so far, and those of the remaining bytes
abbrev pub invariant-words : goal.invariant-words
invariant-words l = texts l.words.items ++ words_of l.rest ≡ texts l.fn.words.items ++ words_of l.line

abbrev pub decreases-words : goal.decreases-words
decreases-words l = length l.rest
