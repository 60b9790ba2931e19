pub mod Registers
pub use Registers.{refused_part}
