mod DigitsRead
pub mod LineFeeds
mod FirstWord
mod NearNames
mod PartsRead
mod SetsCut
mod TermsRead
mod WordsCut
pub mod Utf8
