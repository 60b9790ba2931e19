mod KeptAccesses
mod RowFacts
mod Monitors
mod WaveFacts
