-- The proof of what is shown of the reader.
pub mod Reader
