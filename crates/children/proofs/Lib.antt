pub mod Tables
pub mod Below
pub mod Counted
pub mod Noted
pub mod Seats
pub mod Passed
mod Next
pub mod Named
pub mod Found
