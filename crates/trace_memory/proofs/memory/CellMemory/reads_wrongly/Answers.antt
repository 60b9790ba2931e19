use Rattle.std.proofs.Common.{◌≡◌, true, not, sym, ap, ◌∙◌, subst}
use Rattle.trace.specs.{is_trace_setup}
use Rattle.trace_memory.specs.{MemoryState}
use Rattle.trace_memory.proofs.ReadValues.{wrong-kept}
use Rattle.trace_memory.proofs.memory.CellMemory.reads_wrongly.Goals as goal

pub returns-in-Some : goal.returns-in-Some
returns-in-Some c = λ idle past made h.
    ap not c.allows.ensures
    ∙ wrong-kept c.args.self.now.setup past c.args.process c.in-Some.value idle c.args.access.now c.allowed.result
    (subst (λ (k : MemoryState). is_trace_setup k.setup ≡ true) c.self.view_is c.self.invariant.good) c.requires.cell h (sym c.value_read.ensures ∙ c.in-Some.is) (c.allowed.ensures idle past made h)
