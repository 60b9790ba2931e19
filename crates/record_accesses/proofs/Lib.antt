mod SameBits
mod BitFacts
mod RowFacts
mod OpenFacts
mod Monitors
mod OpeningBits
mod MarkFacts
mod OwnReads
