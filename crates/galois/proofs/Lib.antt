-- Laws and lemmas of galois; a folder has the proof of the function it is named after.
pub mod Computed
pub mod Xor
pub mod Linear
pub mod Gmul
pub mod Bytes
pub mod Sums
pub mod Built
pub mod Spread
pub mod Filled
pub mod AlphaLaws
