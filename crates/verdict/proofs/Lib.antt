pub mod Chains
pub mod Cuts
pub mod Demand
pub mod Continued
pub mod Orders
pub mod Partners
pub mod Judged
