-- Facts on tests, groups, optional values and lists of serials.
pub mod Tests
pub mod Groups
pub mod Options
pub mod Serials
