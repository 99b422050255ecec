-- What the contracts of the cipher program say.
pub mod Passing
pub mod Stops
