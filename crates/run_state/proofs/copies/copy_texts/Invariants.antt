use Rattle.std.proofs.Common.{◌≡◌, map, take}
use Rattle.model.specs.{width}
use Rattle.run_state.specs.{bits_read, bits_text, texts_in}
use Rattle.run_state.proofs.copies.copy_texts.Given as goal

-- the texts of the first copies
abbrev pub invariant-loop-copy : goal.invariant-loop-copy
invariant-loop-copy l = texts_in l.texts.items ≡ map (λ copy. bits_text l.setup l.field (bits_read (width l.setup l.field) copy)) (take l.copy-index l.copies)
