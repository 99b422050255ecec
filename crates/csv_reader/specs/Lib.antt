-- What is shown of the reader of order files.
pub mod Reader
