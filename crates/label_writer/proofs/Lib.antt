pub mod Escaping
pub mod Lengths
pub mod Fields
pub mod Plain
pub mod Elements
pub mod RoundTrip
pub mod Characters
pub mod Creators
