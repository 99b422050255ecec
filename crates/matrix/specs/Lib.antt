-- The definitions that the contracts of matrix cite, and its laws.
pub mod Matrix
pub mod MatrixLaws
