-- Laws and lemmas of matrix; a folder has the proof of the function it is named after.
pub mod XorSum
pub mod Circulant
pub mod Rotation
pub mod MatrixLaws
