-- What the proofs of the cipher program share.
pub mod Pieces
