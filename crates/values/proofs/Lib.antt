pub mod Patterns
pub mod Parts
pub mod Uuids
pub mod SchemaForm
pub mod Common
