-- The definitions that the contracts of galois cite, and its laws.
pub mod Words
pub mod Field
pub mod Alpha
pub mod AlphaLaws
