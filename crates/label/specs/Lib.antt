pub mod Label
pub mod TextPlaces
pub mod Steps
pub mod Agreement
