-- A store as text, and the lines of the history.
use Rattle.std.specs.Prelude.{ℕ, ◌==◌, Bool, not, List, [], ◌++◌, codes, cond, flat_map, length, map}
use Rattle.std.specs.Fmt.{decimal}
use Rattle.std.specs.List.{list_any, range_with_len}
use Rattle.plain_store.specs.{Contents, Setup, callers_of, number_of, store_words}
use Rattle.model.specs.{Taken, store_after}

-- the numbers of the first `callers` callers
abbrev pub numbers_of : ℕ → List ℕ → List ℕ
numbers_of callers numbers = map (number_of numbers) (range_with_len 0 callers)

-- a number is not 0
abbrev pub is_some_call : ℕ → Bool
is_some_call n = not (n == 0)

-- a number after a space
abbrev pub number_word : ℕ → List ℕ
number_word n = codes " " ++ decimal n

-- numbers, unless all are 0
abbrev pub numbers_text : List ℕ → List ℕ
numbers_text numbers = cond (list_any is_some_call numbers) (codes " numbers" ++ flat_map number_word numbers) []

-- a store with this number of callers
abbrev pub store_text : ℕ → Contents → List ℕ
store_text callers store = store_words store.pairs ++ numbers_text (numbers_of callers store.numbers)

-- how many commands were taken, and the one-thread store after them
abbrev pub history_lines : Setup → List Taken → List ℕ
history_lines s taken = (codes "history " ++ (decimal (length taken) ++ codes "\nstore ")) ++ (store_text (callers_of s) (store_after s taken) ++ codes "\n")
