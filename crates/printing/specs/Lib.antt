-- The bytes that the values of printing print.
pub mod Printing
